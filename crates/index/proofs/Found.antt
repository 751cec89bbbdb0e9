-- What a search's answer tells: the definitions find the row that it holds, or none; and some row passes the test exactly if one is found.
use Prim.Native.Nat.{ℕ}
use mathlib.Core.Path.{◌≡◌, refl}
use mathlib.Core.Bool.{Bool, true, false, ◌||◌, cond}
use mathlib.Core.List.{List, [], ◌∷◌}
use mathlib.Core.Option.{Option, none, some}
use native.Mathlib.Omega.{arith}
use Rattle.std.specs.Prelude.{Some, None}
use Rattle.rules.proofs.Basics.{impossible}
use Rattle.rules.specs.declared.Pair.{Pair}
use Rattle.rules.specs.Tests.{any, find}
use Rattle.index.specs.Found.{pair_found}

pub pair_row_lem : (o : Option Pair) (x : Pair) → pair_found o ≡ Some x → o ≡ some x
unfolding pair_found
pair_row_lem none x e = impossible (cc)
pair_row_lem (some y) x e = cc

pub pair_missing : (o : Option Pair) → pair_found o ≡ None → o ≡ none
unfolding pair_found
pair_missing none e = refl
pair_missing (some y) e = impossible (cc)

module _ {A : Type 0} (p : A → Bool) where
  pub any_found : (l : List A) (x : A) → find p l ≡ some x → true ≡ any p l
  any_found [] x e = let z : ◌≡◌ {A = ℕ} 0 1 = cc in absurd (omega arith)
  any_found (y ∷ l) x e = go (p y) e (λ f. any_found l x f)
    where
      go : (b : Bool) → cond b (some y) (find p l) ≡ some x → (find p l ≡ some x → true ≡ any p l) → true ≡ (b || any p l)
      go true f below = refl
      go false f below = below f

  pub any_missing : (l : List A) → find p l ≡ none → false ≡ any p l
  any_missing [] e = refl
  any_missing (y ∷ l) e = go (p y) e (λ f. any_missing l f)
    where
      go : (b : Bool) → cond b (some y) (find p l) ≡ none → (find p l ≡ none → false ≡ any p l) → false ≡ (b || any p l)
      go true f below = let z : ◌≡◌ {A = ℕ} 0 1 = cc in absurd (omega arith)
      go false f below = below f
