-- Steps that stand as numbers in a list: one more of them.
use mathlib.Core.Path.{◌≡◌, sym}
use mathlib.Core.Bool.{Bool, ◌||◌, or-false, or_assoc}
use mathlib.Core.List.{List, [], ◌∷◌, ◌++◌}
use Prim.Native.Nat.{ℕ, ◌+◌}
use native.Mathlib.Numerals.{add-one}
use Rattle.rules.specs.Tests.{any}
use Rattle.chain.specs.StepList.{step_at, steps_in}

-- ---- the steps of a list
pub steps_more : (b : List ℕ) (i : ℕ) → steps_in b (i + 1) ≡ steps_in b i ++ (step_at b i ∷ [])
unfolding steps_in
steps_more b i = rw (add-one i)

-- ---- judged
pub any_more : {A : Type 0} (f : A → Bool) (xs : List A) (x : A) → any f (xs ++ (x ∷ [])) ≡ (any f xs || f x)
any_more f [] x = or-false (f x)
any_more f (y ∷ xs) x = rw (any_more f xs x) (sym (or_assoc (f y) (any f xs) (f x)))
