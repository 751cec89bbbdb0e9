-- Numbers within a count of 10^15, and their sums: up to 9000 times 10^15 none leaves 64 bits.
use mathlib.Core.Path.{◌≡◌}
use mathlib.Core.Bool.{false}
use Prim.Native.Nat.{ℕ, ◌+◌, ◌*◌, ◌≤◌}
use native.Mathlib.Omega.{arith}
use borrow.Author.Tests.{ltb-false}
use lib.IntN.{ℤ, pos, nat_abs, ◌+ℤ◌}
use mir.Syntax.{w64}
use mir.Val.{SFits}
use Rattle.rules.specs.Booking.{limit, beyond}
use Rattle.amounts.proofs.Integers.{up, dn, add_law, size, to_fits}

-- z is within ±n · 10^15
pub record Within (n : ℕ) (z : ℤ) : Type 0 where
  pub most : up z ≤ dn z + n * limit
  pub least : dn z ≤ up z + n * limit

pub within_none : Within 0 (pos 0)
within_none = record { most = omega arith; least = omega arith }

pub within_one : (z : ℤ) → beyond z ≡ false → Within 1 z
unfolding beyond
within_one z e =
    let h : nat_abs z ≤ limit = ltb-false limit (nat_abs z) e in
    record { most = omega (arith, size z); least = omega (arith, size z) }

pub within_plus : (m n : ℕ) (y z : ℤ) → Within m y → Within n z → Within (m + n) (y +ℤ z)
within_plus m n y z h k = record { most = omega (arith, add_law y z); least = omega (arith, add_law y z) }

pub within_fits : (n : ℕ) (z : ℤ) → n ≤ 9000 → Within n z → SFits w64 z
within_fits n z h w = to_fits z (omega arith) (omega arith)
