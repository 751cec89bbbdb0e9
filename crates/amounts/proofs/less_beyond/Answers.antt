-- The difference stops at the ends of i64, which are beyond.
use mathlib.Core.Path.{ap, ◌∙◌}
use mir.Facts.{to_z-of_z}
use mir.Syntax.{w64}
use mir.Val.{SFits}
use lib.IntN.{pos, neg_ℤ, ◌+ℤ◌}
use Rattle.rules.specs.Booking.{beyond}
use Rattle.amounts.proofs.Saturated.{saturated_beyond}
use Rattle.amounts.proofs.less_beyond.Goals as goal

pub returns : goal.returns
returns c =
    let f = c.ranges.x in
    let t : SFits w64 c.saturating_sub_unsigned.result = record { sfits = c.saturating_sub_unsigned.type_inv } in
    simp to_z-of_z at c.is_beyond.ensures
    ∙ (ap beyond (simp to_z-of_z at c.saturating_sub_unsigned.ensures) ∙ saturated_beyond (c.args.x +ℤ neg_ℤ (pos c.args.n)))
