-- Tests over rows and numbers, and the first refusal that applies. Assumes nothing.
use Rattle.std.specs.Prelude.{ℕ, zero, suc, Bool, true, false, ◌&&◌, ◌||◌, cond, List, [], ◌∷◌, ◌++◌, length, ltb, leb}
use Rattle.std.proofs.Math.Option.{Option, none, some}

-- some row passes the test
abbrev pub any : {A : Type 0} → (A → Bool) → List A → Bool
any p [] = false
any p (x ∷ l) = p x || any p l

-- the first row that passes the test
abbrev pub find : {A : Type 0} → (A → Bool) → List A → Option A
find p [] = none
find p (x ∷ l) = cond (p x) (some x) (find p l)

-- the rows that pass the test
abbrev pub only : {A : Type 0} → (A → Bool) → List A → List A
only p [] = []
only p (x ∷ l) = cond (p x) (x ∷ only p l) (only p l)

-- every number below n passes the test
abbrev pub all_below : ℕ → (ℕ → Bool) → Bool
all_below zero p = true
all_below (suc n) p = all_below n p && p n

-- each row passes the test after the rows before it
abbrev pub each_after : {A : Type 0} → (List A → A → Bool) → List A → List A → Bool
each_after p before [] = true
each_after p before (x ∷ l) = p before x && each_after p (before ++ (x ∷ [])) l

-- the number names a row: rows are "numbered from 0 by entry"
unfoldable pub is_row : {A : Type 0} → List A → ℕ → Bool
is_row rows n = ltb n (length rows)

-- "table full": the table holds as many rows as it may
unfoldable pub is_full : {A : Type 0} → ℕ → List A → Bool
is_full most rows = leb most (length rows)

-- A refusal's number with its condition.
pub record Condition : Type 0 where
  pub number : ℕ
  pub holds : Bool

infix 70 ◌when◌
-- the number n is given where the test b holds
abbrev pub ◌when◌ : ℕ → Bool → Condition
n when b = record { number = n; holds = b }

-- the number of the first condition that holds, 0 where none does. Conditions are listed in the order of places; document 01's "The lowest number that
-- applies" is the first of them
abbrev pub first_of : List Condition → ℕ
first_of [] = 0
first_of (c ∷ cs) = cond c.holds c.number (first_of cs)
