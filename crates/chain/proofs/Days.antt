-- What is asked of no link is answered alike on every day.
use Prim.Native.Nat.{ℕ}
use mathlib.Core.Path.{◌≡◌, refl}
use mathlib.Core.List.{List, [], ◌∷◌}
use Rattle.rules.specs.Chain.{climb, over}
use Rattle.index.specs.Asked.{asked_by, asked, asked_on}

module _ (l : List ℕ) (day : ℕ) where
  pub home_on : (a : ℕ) → (asked l).home a ≡ (asked_on l day).home a
  unfolding asked_by
  home_on a = refl

  pub climb_on : (path : List ℕ) (a : ℕ) → climb (asked l) path a ≡ climb (asked_on l day) path a
  unfolding asked_by climb
  climb_on [] a = refl
  climb_on (c ∷ []) a = refl
  climb_on (c ∷ n ∷ path) a = λ i. over c a ((asked_on l day).pair c n a) (λ b. climb_on (n ∷ path) b i)
