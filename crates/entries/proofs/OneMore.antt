-- The searches of a table with one row more behind.
use mathlib.Core.Path.{◌≡◌, refl}
use mathlib.Core.Bool.{Bool, true, false, cond}
use mathlib.Core.List.{List, [], ◌∷◌, ◌++◌}
use mathlib.Core.Option.{some}
use Rattle.rules.specs.Tests.{any, find}
use Rattle.rules.proofs.Basics.{impossible, or_right, or_none}

module _ {A : Type 0} (t : A → Bool) (x : A) where
  pub any_kept : (xs : List A) → t x ≡ false → any t (xs ++ (x ∷ [])) ≡ any t xs
  any_kept [] e = rw e
  any_kept (y ∷ xs) e = rw (any_kept xs e)

  pub any_new : (xs : List A) → t x ≡ true → any t (xs ++ (x ∷ [])) ≡ true
  any_new [] e = rw e
  any_new (y ∷ xs) e = or_right (t y) (any t (xs ++ (x ∷ []))) (any_new xs e)

  pub find_kept : (xs : List A) → t x ≡ false → find t (xs ++ (x ∷ [])) ≡ find t xs
  find_kept [] e = rw e
  find_kept (y ∷ xs) e = rw (find_kept xs e)

  pub find_old : (xs : List A) (y : A) → find t xs ≡ some y → find t (xs ++ (x ∷ [])) ≡ some y
  find_old [] y e = impossible (cc)
  find_old (z ∷ xs) y e = go (t z) e (λ f. find_old xs y f)
    where
      go : (b : Bool) → cond b (some z) (find t xs) ≡ some y → (find t xs ≡ some y → find t (xs ++ (x ∷ [])) ≡ some y) → cond b (some z) (find t (xs ++ (x ∷ []))) ≡ some y
      go true f below = f
      go false f below = below f

  pub find_new : (xs : List A) → any t xs ≡ false → t x ≡ true → find t (xs ++ (x ∷ [])) ≡ some x
  find_new [] n e = rw e
  find_new (y ∷ xs) n e = let h = or_none (t y) (any t xs) n in rw h.0 (find_new xs h.1 e)

-- a test that passes less finds nothing where the other finds nothing
pub any_narrower : {A : Type 0} (t u : A → Bool) → ((y : A) → u y ≡ false → t y ≡ false) → (xs : List A) → any u xs ≡ false → any t xs ≡ false
any_narrower t u narrow [] e = refl
any_narrower t u narrow (y ∷ xs) e = let h = or_none (u y) (any u xs) e in rw (narrow y h.0, any_narrower t u narrow xs h.1)
