-- No refusal has the number 0.
use Rattle.std.proofs.Common.{ℕ, suc, ◌≡◌, ◌≢◌, false, refl, ap, ◌∙◌, eqb, arith}
use Rattle.rules.specs.declared.refusal.Refusal.{Refusal}
use Rattle.rules.specs.declared.refusal.Refusal.TheVariants.{UnknownByte, CutShort, LentList, Unsound, TableFull, NoRow, OutOfRange, CheckDigit, AlreadyEntered, WrongAccount, FirstAfterLast, RuleBroken, SameSide, HalvesDiffer, SameAccount, NoLink, SideTooLong, ReceiverOutside, DelivererOutside, NoPair, NoContra, SecuritiesShort, CashShort, Beyond}
use borrow.Author.Tests.{ne_eqb}
use Rattle.rules.specs.Numbers.{number}

-- it is one more than another
pub number_suc : (e : Refusal) → (n : ℕ) × (number e ≡ suc n)
number_suc UnknownByte = (0, refl)
number_suc CutShort = (1, refl)
number_suc LentList = (2, refl)
number_suc Unsound = (3, refl)
number_suc TableFull = (4, refl)
number_suc NoRow = (5, refl)
number_suc OutOfRange = (6, refl)
number_suc CheckDigit = (7, refl)
number_suc AlreadyEntered = (8, refl)
number_suc WrongAccount = (9, refl)
number_suc FirstAfterLast = (23, refl)
number_suc RuleBroken = (10, refl)
number_suc SameSide = (22, refl)
number_suc HalvesDiffer = (11, refl)
number_suc SameAccount = (12, refl)
number_suc NoLink = (13, refl)
number_suc SideTooLong = (14, refl)
number_suc ReceiverOutside = (15, refl)
number_suc DelivererOutside = (16, refl)
number_suc NoPair = (17, refl)
number_suc NoContra = (18, refl)
number_suc SecuritiesShort = (19, refl)
number_suc CashShort = (20, refl)
number_suc Beyond = (21, refl)

pub number_ne0 : (e : Refusal) → number e ≢ 0
number_ne0 e h = let (n, is) = number_suc e in absurd (omega arith)

-- so that what goes by a refusal's number is refused by it
pub refuses : {A : Type 0} (e : Refusal) (f : ℕ → A) (x : A) → ((n : ℕ) → f (suc n) ≡ x) → f (number e) ≡ x
refuses e f x h = ap f (number_suc e).1 ∙ h (number_suc e).0

pub number_test : (e : Refusal) → eqb (number e) 0 ≡ false
number_test e = ne_eqb (number e) 0 (number_ne0 e)
