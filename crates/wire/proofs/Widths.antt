-- The width of a command byte, which is neither 00 nor 04: its entry in the table, and none past its end.
use mathlib.Core.Path.{◌≡◌, refl, ◌∙◌}
use mathlib.Core.Logic.{◌≢◌}
use Prim.Native.Nat.{ℕ, zero, suc, ◌-◌, ◌≤◌, ◌<◌}
use native.Mathlib.Omega.{arith}
use mathlib.Core.List.{List, [], ◌∷◌}
use mathlib.Core.Option.{none, some}
use lib.ListN.{length, get_or, get_elem?}
use borrow.Author.Tests.{ne_eqb}
use Rattle.rules.specs.Stream.{widths, former_tag, width_of}

entry_at : (xs : List ℕ) (n : ℕ) → n < length xs → get_elem? xs n ≡ some (get_or xs n 0)
entry_at [] n h = absurd (omega arith)
entry_at (x ∷ xs) zero h = refl
entry_at (x ∷ xs) (suc n) h = entry_at xs n (omega arith)

no_entry : (xs : List ℕ) (n : ℕ) → length xs ≤ n → get_elem? xs n ≡ none
no_entry [] n h = refl
no_entry (x ∷ xs) zero h = absurd (omega arith)
no_entry (x ∷ xs) (suc n) h = no_entry xs n (omega arith)

module _ (tag : ℕ) (h : tag ≢ 0) (f : tag ≢ former_tag) where
  one_less : width_of tag ≡ get_elem? widths (tag - 1)
  one_less = go tag h f
    where
      go : (t : ℕ) → t ≢ 0 → t ≢ former_tag → width_of t ≡ get_elem? widths (t - 1)
      go zero h f = absurd (h refl)
      go (suc t) h f = let e : suc t - 1 ≡ t = omega arith in rw (ne_eqb (suc t) former_tag f, e)

  pub width_is : tag - 1 < length widths → width_of tag ≡ some (get_or widths (tag - 1) 0)
  width_is k = one_less ∙ entry_at widths (tag - 1) k

  pub no_width : length widths ≤ tag - 1 → width_of tag ≡ none
  no_width k = one_less ∙ no_entry widths (tag - 1) k
