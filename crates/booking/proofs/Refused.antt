-- Where the first number that applies is 0, no test found anything.
use Prim.Native.Nat.{ℕ, ◌≤◌}
use mathlib.Core.Path.{◌≡◌, refl}
use mathlib.Core.Bool.{Bool, true, false}
use mathlib.Core.List.{List}
use native.Mathlib.Omega.{arith}
use lib.Dec.{ltb, eqb}
use lib.IntN.{ℤ}
use borrow.Author.Tests.{ltb-false}
use Rattle.rules.specs.Tests.{first_of}
use Rattle.rules.specs.Lookups.{Lookups}
use Rattle.rules.specs.Booking.{Way, limit, out_of_range, payment, cash_beyond, pay_conditions}
use Rattle.rules.proofs.Basics.{or_none, quiet}
use Rattle.booking.specs.Refusals.{book_refusal}

-- ---- by the tests
pub book_open : (units cash beyond : Bool) → book_refusal units cash beyond ≡ 0 → (units ≡ false) × (cash ≡ false) × (beyond ≡ false)
book_open true cash beyond e = absurd (omega arith)
book_open false true beyond e = absurd (omega arith)
book_open false false true e = absurd (omega arith)
book_open false false false e = (refl, refl, refl)

in_range : (q : ℕ) → out_of_range q ≡ false → q ≤ limit
in_range q e = ltb-false limit q (or_none (eqb q 0) (ltb limit q) e).1

-- ---- of a pay-in or pay-out
pub pay_open : (k : Lookups) (c : List ℤ) (w : Way) (a m : ℕ) → first_of (pay_conditions k c w a m) ≡ 0 → (m ≤ limit) × (cash_beyond c a (payment w m) ≡ false)
pay_open k c w a m e =
    let none = quiet (pay_conditions k c w a m) refl e in
    (in_range m none.1.0, none.1.1.1.1.0)
