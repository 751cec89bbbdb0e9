-- The documents' numbers of the refusals, and the answers that outcomes come to. Assumes nothing.
use Rattle.std.specs.Prelude.{ℕ, Result, Ok, Err}
use Rattle.rules.specs.declared.refusal.Refusal.{Refusal}
use Rattle.rules.specs.declared.refusal.Refusal.TheVariants.{UnknownByte, CutShort, LentList, Unsound, TableFull, NoRow, OutOfRange, CheckDigit, AlreadyEntered, WrongAccount, FirstAfterLast, RuleBroken, SameSide, HalvesDiffer, SameAccount, NoLink, SideTooLong, ReceiverOutside, DelivererOutside, NoPair, NoContra, SecuritiesShort, CashShort, Beyond}
use Rattle.rules.specs.declared.answer.Answer.{Answer}
use Rattle.rules.specs.declared.answer.Answer.TheVariants.{Accepted, Booked, Chained, Refused}

-- "Refusals by place", with document 02's 23 and 24
abbrev pub number : Refusal → ℕ
number UnknownByte = 1
number CutShort = 2
number LentList = 3
number Unsound = 4
number TableFull = 5
number NoRow = 6
number OutOfRange = 7
number CheckDigit = 8
number AlreadyEntered = 9
number WrongAccount = 10
number FirstAfterLast = 24
number RuleBroken = 11
number SameSide = 23
number HalvesDiffer = 12
number SameAccount = 13
number NoLink = 14
number SideTooLong = 15
number ReceiverOutside = 16
number DelivererOutside = 17
number NoPair = 18
number NoContra = 19
number SecuritiesShort = 20
number CashShort = 21
number Beyond = 22

-- the number that refuses, 0 where nothing does
abbrev pub refused_by : {A : Type 0} → Result A Refusal → ℕ
refused_by (Ok x) = 0
refused_by (Err e) = number e

-- accepted, unless it is refused
abbrev pub accepted_by : {A : Type 0} → Result A Refusal → Answer
accepted_by (Ok x) = Accepted
accepted_by (Err e) = Refused (number e)

-- booked by so many steps, unless it is refused
abbrev pub booked_by : Result ℕ Refusal → Answer
booked_by (Ok k) = Booked k
booked_by (Err e) = Refused (number e)

-- a chain of so many steps, unless it is refused
abbrev pub chained_by : Result ℕ Refusal → Answer
chained_by (Ok k) = Chained k
chained_by (Err e) = Refused (number e)
