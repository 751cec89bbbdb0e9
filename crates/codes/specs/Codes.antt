-- Answers as numbers: 256 for each kind before it, and what it carries. Assumes nothing.
use Rattle.std.specs.Prelude.{ℕ, ◌+◌, cond, ltb}
use Rattle.rules.specs.declared.Answer.{Answer}
use Rattle.rules.specs.declared.Answer.TheVariants.{Accepted, Booked, Chained, Refused}
use Rattle.rules.specs.Booking.{SecurityTotal, SumUnits, NoUnits, CashTotal, SumCents, NoCents}

-- where counts, rows or the place of a sum do not fit
abbrev pub misfit : ℕ
misfit = 1280

-- at most 255
abbrev pub capped : ℕ → ℕ
capped k = cond (ltb k 256) k 255

-- an accepted call, a settlement's K, a derivation's K, a refusal
abbrev pub code_of : Answer → ℕ
code_of Accepted = 0
code_of (Booked k) = 256 + capped k
code_of (Chained k) = 512 + capped k
code_of (Refused n) = 768 + n

-- the total of a security, or a refusal
abbrev pub units_code : SecurityTotal → ℕ
units_code (SumUnits x) = 1024
units_code (NoUnits n) = 768 + n

-- the total of cash, or a refusal
abbrev pub cents_code : CashTotal → ℕ
cents_code (SumCents x) = 1024
cents_code (NoCents n) = 768 + n
