-- A place within the list, and beyond.
use Prim.Native.Nat.{ℕ, ◌<◌}
use mathlib.Core.Path.{◌≡◌}
use mathlib.Core.Bool.{true, false, ◌&&◌}
use mathlib.Core.List.{List}
use lib.Dec.{ltb}
use borrow.Author.Tests.{ltb-true, lt-ltb}
use Rattle.rules.specs.Directory.{csd_limit, security_limit, account_limit, link_limit}
use Rattle.rules.proofs.Basics.{clash, and_both, and-true}
use Rattle.index.specs.Index.{Place, csd_count, security_count, account_count, pair_count, link_count, type_at, home_at, kind_at, mirror_at, omnibus_at, investor_at, technical_at, served_at, newest_at, target_at, link_at, link_numbers, Inside, place_of, number_at}
use Rattle.index.specs.Asked.{has, read}

pub read_in : (l : List ℕ) (p : Place) → has p ≡ true → number_at l (place_of p) ≡ read l p
unfolding read
read_in l p e = rw e

pub read_off : (l : List ℕ) (p : Place) → has p ≡ false → 0 ≡ read l p
unfolding read
read_off l p e = rw e

both : (a b m n : ℕ) → (ltb a m && ltb b n) ≡ true → (a < m) × (b < n)
both a b m n e = let t = and_both (ltb a m) (ltb b n) e in (ltb-true a m t.0, ltb-true b n t.1)

pub not_both : (a b m n : ℕ) → (ltb a m && ltb b n) ≡ false → a < m → b < n → ⊥
not_both a b m n e f g = clash (ltb a m && ltb b n) (and-true (ltb a m) (ltb b n) (lt-ltb a m f) (lt-ltb b n g)) e

-- the places that a list has
pub inside : (p : Place) → has p ≡ true → Inside p
inside csd_count e = tt
inside security_count e = tt
inside account_count e = tt
inside pair_count e = tt
inside link_count e = tt
inside (type_at c) e = ltb-true c csd_limit e
inside (home_at a) e = ltb-true a account_limit e
inside (kind_at a) e = ltb-true a account_limit e
inside (mirror_at a) e = ltb-true a account_limit e
inside (omnibus_at a) e = ltb-true a account_limit e
inside (investor_at a) e = ltb-true a account_limit e
inside (technical_at a) e = ltb-true a account_limit e
inside (served_at t a) e = both t a csd_limit account_limit e
inside (newest_at s c) e = both s c security_limit csd_limit e
inside (target_at s t) e = both s t security_limit csd_limit e
inside (link_at n f) e = both n f link_limit link_numbers e
