-- A number that stops at the ends of 64 bits is beyond ±10^15 where it would be without stopping.
use mathlib.Core.Path.{◌≡◌}
use Prim.Native.Nat.{suc, ◌-◌, ◌^◌, min}
use native.Mathlib.Omega.{arith}
use borrow.Author.Tests.{ltb-true, lt-ltb}
use lib.Dec.{ltb}
use lib.IntN.{ℤ, pos, negsuc}
use mir.Syntax.{w64}
use Rattle.std.specs.Int.{saturate_signed}
use Rattle.rules.specs.Booking.{limit, beyond}
use Rattle.rules.proofs.Basics.{equal_tests}

pub saturated_beyond : (z : ℤ) → beyond (saturate_signed w64 z) ≡ beyond z
unfolding beyond
saturated_beyond (pos n) =
    let m = min n (2 ^ 63 - 1) in
    equal_tests (ltb limit m) (ltb limit n)
    (λ t. lt-ltb limit n (omega (arith, ltb-true limit m t)))
    (λ t. lt-ltb limit m (omega (arith, ltb-true limit n t)))
saturated_beyond (negsuc n) =
    let m = min n (2 ^ 63 - 1) in
    equal_tests (ltb limit (suc m)) (ltb limit (suc n))
    (λ t. lt-ltb limit (suc n) (omega (arith, ltb-true limit (suc m) t)))
    (λ t. lt-ltb limit (suc m) (omega (arith, ltb-true limit (suc n) t)))
