-- Halves that nothing refuses have a quantity and an amount within the limit.
use Prim.Native.Nat.{◌≤◌}
use mathlib.Core.Path.{◌≡◌, refl}
use mathlib.Core.Bool.{Bool, false, ◌||◌}
use lib.Dec.{eqb, ltb}
use Rattle.rules.specs.declared.Half.{Half}
use Rattle.rules.specs.Tests.{first_of}
use Rattle.rules.specs.Lookups.{Lookups}
use Rattle.rules.specs.Booking.{limit, out_of_range, amount_out_of_range}
use Rattle.rules.specs.Calls.{half_out_of_range, both_conditions}
use Rattle.rules.proofs.Basics.{ltb_not, or_none, quiet}

half_ranged : (h : Half) → half_out_of_range h ≡ false → (h.quantity ≤ limit) × (h.amount ≤ limit)
half_ranged h e =
    let t = or_none (out_of_range h.quantity) (amount_out_of_range h.amount) e in
    (ltb_not limit h.quantity (or_none (eqb h.quantity 0) (ltb limit h.quantity) t.0).1, ltb_not limit h.amount t.1)

pub halves_ranged : (k : Lookups) (h g : Half) (unknown same : Bool) → first_of (both_conditions k h g unknown same) ≡ 0 → (h.quantity ≤ limit) × (h.amount ≤ limit)
halves_ranged k h g unknown same e =
    let ranges = (or_none (half_out_of_range h || half_out_of_range g) unknown (quiet (both_conditions k h g unknown same) refl e).1.0).0 in
    half_ranged h (or_none (half_out_of_range h) (half_out_of_range g) ranges).0
