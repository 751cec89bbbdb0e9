-- The route's cases, one by one: what was found of the walks decides it.
use Prim.Native.Nat.{ℕ, zero, suc, ◌-◌, ◌≤◌, ◌<◌}
use mathlib.Core.Path.{◌≡◌}
use mathlib.Core.Bool.{true, false}
use mathlib.Core.List.{[], ◌∷◌}
use mathlib.Core.Option.{none}
use native.Mathlib.Numerals.{sub-one}
use native.Mathlib.Omega.{arith}
use lib.ListN.{length, take}
use borrow.Author.Tests.{eq-eqb, ne_eqb}
use Rattle.rules.specs.declared.Join.TheVariants.{Meeting}
use Rattle.rules.specs.Lookups.{Lookups}
use Rattle.rules.specs.Walks.{Walk, default_walk, directed_walk, reached}
use Rattle.rules.specs.Chain.{sides, route, shared, judged, joined_by}
use Rattle.walks.specs.Routes.{MeetAt}

-- ---- walks that do not meet
pub unmet : (n : ℕ) (K : Lookups) (w v : Walk) → n ≤ 0 → MeetAt n K w v → shared K w v ≡ none
unmet zero K w v h m = m
unmet (suc n) K w v h m = absurd (omega arith)

-- ---- the four cases
module _ (K : Lookups) (s D R : ℕ) where
  pub same_csd_lem : D ≡ R → sides Meeting (D ∷ []) (R ∷ []) ≡ route K s D R
  unfolding route
  same_csd_lem e = rw (eq-eqb D R e)

  module _ (other : D ≡ R → ⊥) (w v : Walk) (ew : w ≡ default_walk K s D) (ev : v ≡ default_walk K s R) where
    pub walks_meet : (n : ℕ) → 0 < n → MeetAt n K w v → sides Meeting (take (length w.path - (n - 1)) w.path) (take (length v.path - (n - 1)) v.path) ≡ route K s D R
    unfolding route
    walks_meet zero h m = absurd (omega arith)
    walks_meet (suc n) h m = rw (sub-one, ne_eqb D R other, ← ew, ← ev, m.1, m.2, m.3)

    module _ (unshared : shared K w v ≡ none) (x : Walk) (ex : x ≡ directed_walk K s R D) where
      pub reaches : reached R x.end ≡ true → sides Meeting x.path (R ∷ []) ≡ route K s D R
      unfolding route
      reaches e = rw (ne_eqb D R other, ← ew, ← ev, unshared, ← ex, e)

      module _ (fails : reached R x.end ≡ false) (y : Walk) (ey : y ≡ directed_walk K s D R) where
        pub reaches_back : reached D y.end ≡ true → sides Meeting (D ∷ []) y.path ≡ route K s D R
        unfolding route
        reaches_back e = rw (ne_eqb D R other, ← ew, ← ev, unshared, ← ex, fails, ← ey, e)

        pub ends_judged : reached D y.end ≡ false → joined_by (judged w.end v.end) w.path v.path ≡ route K s D R
        unfolding route
        ends_judged e = rw (ne_eqb D R other, ← ew, ← ev, unshared, ← ex, fails, ← ey, e)
