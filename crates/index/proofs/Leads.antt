-- Where a CSD's links lead by default: the answer tells of the issuer and the default link.
use Prim.Native.Nat.{ℕ}
use mathlib.Core.Path.{◌≡◌, refl}
use mathlib.Core.Bool.{Bool, true, false}
use mathlib.Core.Option.{Option, none, some}
use Rattle.rules.proofs.Basics.{impossible}
use Rattle.index.specs.declared.links.Leading.TheVariants.{Issuer, To, Nowhere}
use Rattle.index.specs.Found.{leading_of}

-- ---- from the answer to the links
pub issuer_told : (b : Bool) (o : Option ℕ) → leading_of b o ≡ Issuer → b ≡ true
unfolding leading_of
issuer_told true o e = refl
issuer_told false none e = impossible (cc)
issuer_told false (some t) e = impossible (cc)

pub default_told : (b : Bool) (o : Option ℕ) (t : ℕ) → leading_of b o ≡ To t → (b ≡ false) × (o ≡ some t)
unfolding leading_of
default_told true o t e = impossible (cc)
default_told false none t e = impossible (cc)
default_told false (some u) t e = (refl, cc)

pub nothing_told : (b : Bool) (o : Option ℕ) → leading_of b o ≡ Nowhere → (b ≡ false) × (o ≡ none)
unfolding leading_of
nothing_told true o e = impossible (cc)
nothing_told false none e = (refl, refl)
nothing_told false (some t) e = impossible (cc)
