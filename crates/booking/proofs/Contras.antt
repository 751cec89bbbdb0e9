-- The account on the other side: what the search for it tells, and what it is by where the CSD's links lead.
use Prim.Native.Nat.{ℕ}
use mathlib.Core.Path.{◌≡◌, refl}
use mathlib.Core.Option.{Option, none, some}
use Rattle.rules.specs.Lookups.{Lookups}
use Rattle.rules.specs.Booking.{mirror_of, inter_csd, contra}
use Rattle.rules.proofs.Basics.{impossible}
use Rattle.index.specs.declared.links.Leading.TheVariants.{Issuer, To, Nowhere}
use Rattle.index.specs.Found.{pair_found, leading_of}
use Rattle.index.proofs.Leads.{issuer_told, default_told, nothing_told}
use Rattle.std.specs.Prelude.{Some, None, Option as Answered}
use Rattle.std.specs.Option.{option_map}
use Rattle.rules.specs.declared.Pair.{Pair}
use Rattle.booking.specs.Moves.{contra_found}

pub contra_at : (o : Option ℕ) (a : ℕ) → contra_found o ≡ Some a → o ≡ some a
unfolding contra_found
contra_at none a e = impossible (cc)
contra_at (some b) a e = cc

pub contra_missing : (o : Option ℕ) → contra_found o ≡ None → o ≡ none
unfolding contra_found
contra_missing none e = refl
contra_missing (some b) e = impossible (cc)

-- a pair's account in the investor's books, by the row found
pub mirror_found : (o : Option Pair) (r : Answered ℕ) → r ≡ option_map (λ x. x.mirror) (pair_found o) → r ≡ contra_found (mirror_of o)
unfolding contra_found pair_found
mirror_found none r e = e
mirror_found (some x) r e = e

module _ (k : Lookups) (s c a : ℕ) where
  pub contra_issued : leading_of (k.issuer s c) (k.onward s c) ≡ Issuer → contra k s c a ≡ some (k.issuing s c)
  unfolding contra
  contra_issued e = rw (issuer_told (k.issuer s c) (k.onward s c) e)

  pub contra_led : (t : ℕ) → leading_of (k.issuer s c) (k.onward s c) ≡ To t → contra k s c a ≡ inter_csd k c a (some t)
  unfolding contra
  contra_led t e = let r = default_told (k.issuer s c) (k.onward s c) t e in rw (r.0, r.1)

  pub contra_lacking : leading_of (k.issuer s c) (k.onward s c) ≡ Nowhere → contra k s c a ≡ none
  unfolding contra
  contra_lacking e = let r = nothing_told (k.issuer s c) (k.onward s c) e in rw (r.0, r.1)
