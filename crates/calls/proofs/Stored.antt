-- Steps stored one after the other at the start of a list are the steps, and then the rest of the list.
use Prim.Native.Nat.{ℕ, zero, suc, ◌≤◌}
use mathlib.Core.Path.{◌≡◌, refl, sym, ap, ◌∙◌}
use mathlib.Core.List.{List, [], ◌∷◌, ◌++◌, append_assoc}
use lib.ListN.{length, get_or, set, drop, length-set, length-append}
use lib.Seq.{drop-cons, set-append_seam}
use native.Mathlib.Omega.{arith}
use Rattle.rules.specs.declared.Step.{Step}
use Rattle.rules.specs.Chain.{step, step_limit}
use Rattle.rules.specs.Calls.{written}
use Rattle.chain.specs.StepList.{step_at, steps_in}
use Rattle.rules.specs.Outcomes.{blanks, by_value}

-- the list with the first k steps at its start
abbrev pub stored : (ℕ → Step) → ℕ → List Step → List Step
stored f zero ys = ys
stored f (suc k) ys = set (stored f k ys) k (f k)

-- the first k steps
abbrev listed : (ℕ → Step) → ℕ → List Step
listed f zero = []
listed f (suc k) = listed f k ++ (f k ∷ [])

module _ (f : ℕ → Step) where
  pub length_stored : (k : ℕ) (ys : List Step) → length (stored f k ys) ≡ length ys
  length_stored zero ys = refl
  length_stored (suc k) ys = length-set (stored f k ys) k (f k) ∙ length_stored k ys

  length_listed : (k : ℕ) → length (listed f k) ≡ k
  length_listed zero = refl
  length_listed (suc k) = rw length-append (omega (arith, length_listed k))

  -- the place behind xs is written
  behind : (xs : List Step) (y a : Step) (ys : List Step) (k : ℕ) → length xs ≡ k → set (xs ++ (y ∷ ys)) k a ≡ (xs ++ (a ∷ [])) ++ ys
  behind xs y a ys k e = ap (λ n. set (xs ++ (y ∷ ys)) n a) (sym e) ∙ set-append_seam xs y ys a ∙ sym (append_assoc xs (a ∷ []) ys)

  stored_first : (k : ℕ) (ys : List Step) → k ≤ length ys → stored f k ys ≡ listed f k ++ drop k ys
  stored_first zero ys l = refl
  stored_first (suc k) ys l =
      rw (stored_first k ys (omega arith), drop-cons ys k (step 0 0 0) (omega arith))
      (behind (listed f k) (get_or ys k (step 0 0 0)) (f k) (drop (suc k) ys) k (length_listed k))

  pub stored_listed : (k : ℕ) (ys : List Step) → k ≤ length ys → stored f k ys ≡ written (listed f k) ys
  stored_listed k ys l = rw length_listed (stored_first k ys l)

-- ---- steps of a list of numbers onto blank rows
numbers_listed : (l : List ℕ) (k : ℕ) → listed (step_at l) k ≡ steps_in l k
unfolding steps_in
numbers_listed l zero = refl
numbers_listed l (suc k) = rw (numbers_listed l k)

pub laid : (l : List ℕ) (rows : List Step) (i n : ℕ) → rows ≡ stored (step_at l) i (blanks step_limit) → i ≤ n → n ≤ i → n ≤ step_limit
    → record { count = n; rows = rows } ≡ by_value (steps_in l n)
laid l rows i n r a b few =
    let same : i ≡ n = omega arith in
    let laid-rows : rows ≡ written (steps_in l n) (blanks step_limit) = rw (r, same, ← numbers_listed l n) (stored_listed (step_at l) n (blanks step_limit) (omega arith)) in
    let count : n ≡ length (steps_in l n) = rw (← numbers_listed l n) (sym (length_listed (step_at l) n)) in
    rw (laid-rows, ← count)
