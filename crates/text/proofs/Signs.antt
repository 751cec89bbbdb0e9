-- The text of a signed number of 64 bits, by its sign and its magnitude. Assumes nothing.
use mathlib.Core.Path.{◌≡◌, refl, sym, ◌∙◌, ap}
use mathlib.Core.Bool.{true, false, true≢false}
use mathlib.Core.List.{[], ◌∷◌, ◌++◌}
use Prim.Native.Nat.{ℕ}
use native.Mathlib.Omega.{arith}
use lib.IntN.{ℤ, pos, negsuc, nat_abs}
use lib.Signed.{lt_z}
use mir.Syntax.{w64}
use mir.Val.{SFits, to_z, of_z}
use mir.Facts.{to_z-of_z}
use borrow.Author.Tests.{ltb-true}
use Rattle.rules.specs.Stream.{decimal, signed}

-- a number stored and read back
abbrev stored : ℤ → ℤ
stored z = to_z w64 (of_z w64 z)

-- the text of a signed number, by its sign and its magnitude
pub text_below : (v : ℤ) → SFits w64 v → lt_z (stored v) (pos 0) ≡ true → (45 ∷ []) ++ decimal (nat_abs v) ≡ signed v
unfolding signed
text_below (pos n) f e = absurd (omega (arith, ltb-true n 0 (ap (λ (z : ℤ). lt_z z (pos 0)) (sym (to_z-of_z {w = w64} f)) ∙ e)))
text_below (negsuc m) f e = refl

pub text_above : (v : ℤ) → SFits w64 v → lt_z (stored v) (pos 0) ≡ false → decimal (nat_abs v) ≡ signed v
unfolding signed
text_above (pos n) f e = refl
text_above (negsuc m) f e = absurd (true≢false (sym (ap (λ (z : ℤ). lt_z z (pos 0)) (to_z-of_z {w = w64} f)) ∙ e))

-- the same of a magnitude as it is computed
pub written_below : (v : ℤ) (m : ℕ) → SFits w64 v → lt_z (stored v) (pos 0) ≡ true → m ≡ nat_abs (stored v) → (45 ∷ []) ++ decimal m ≡ signed v
written_below v m f e q = ap (λ (n : ℕ). (45 ∷ []) ++ decimal n) (q ∙ ap nat_abs (to_z-of_z {w = w64} f)) ∙ text_below v f e

pub written_above : (v : ℤ) (m : ℕ) → SFits w64 v → lt_z (stored v) (pos 0) ≡ false → m ≡ nat_abs (stored v) → decimal m ≡ signed v
written_above v m f e q = ap decimal (q ∙ ap nat_abs (to_z-of_z {w = w64} f)) ∙ text_above v f e

-- the text of a number stored and read back
pub same_signed : (v : ℤ) → SFits w64 v → signed (stored v) ≡ signed v
same_signed v f = ap signed (to_z-of_z {w = w64} f)
