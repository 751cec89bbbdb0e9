-- Steps as numbers in a lent list: three for each step, its CSD, the account debited and the account credited. Assumes nothing.
use Rattle.std.specs.Prelude.{ℕ, zero, suc, ◌+◌, ◌*◌, ◌%◌, ◌≡◌, ◌&&◌, cond, List, [], ◌∷◌, ◌++◌, eqb, ltb, length, get_or, set, drop}
use Rattle.rules.specs.declared.Step.{Step}
use Rattle.rules.specs.Chain.{step, step_limit}

-- as many numbers as a lent list has: those of the longest chain
abbrev pub step_numbers : ℕ
step_numbers = 3 * step_limit

-- step i of the list; a list of another length has none, and neither has any list behind the longest chain
unfoldable pub step_at : List ℕ → ℕ → Step
step_at l i =
    cond (eqb (length l) step_numbers && ltb i step_limit)
    (step (get_or l (3 * i) 0 % 256) (get_or l (3 * i + 1) 0) (get_or l (3 * i + 2) 0))
    (step 0 0 0)

-- the first n steps of the list
unfoldable pub steps_in : List ℕ → ℕ → List Step
steps_in l zero = []
steps_in l (suc n) = steps_in l n ++ (step_at l n ∷ [])

-- the list with the step's three numbers behind those of the first n; where it can hold no such step, the list
unfoldable pub with_step : List ℕ → ℕ → Step → List ℕ
with_step l n x =
    cond (eqb (length l) step_numbers && ltb n step_limit)
    (set (set (set l (3 * n) x.csd) (3 * n + 1) x.debited) (3 * n + 2) x.credited)
    l

-- the numbers of steps
unfoldable pub numbers_of : List Step → List ℕ
numbers_of [] = []
numbers_of (x ∷ xs) = x.csd ∷ x.debited ∷ x.credited ∷ numbers_of xs

-- "steps go into a lent list .., the rest untouched"
unfoldable pub noted : List Step → List ℕ → List ℕ
noted xs l = numbers_of xs ++ drop (3 * length xs) l

-- The list l with the steps xs noted is k, whose first n steps are read as xs.
pub record Holds (l : List ℕ) (xs : List Step) (k : List ℕ) (n : ℕ) : Type 0 where
  pub list : k ≡ noted xs l
  pub read : steps_in k n ≡ xs
