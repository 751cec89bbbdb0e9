-- The last of the slice is the last that is named.
use Rattle.std.proofs.Common.{◌-◌, length, arith, ◌∙◌}
use Rattle.walks.proofs.Paths.{last_none, last_some}
use Rattle.walks.proofs.sides.Side.last.Goals as goal

pub returns-in-Some : goal.returns-in-Some
returns-in-Some c =
    let named = c.named.result.now in
    let last = c.in-Some.ensures.item.3 in
    rw (← c.named.ensures.named) (last.1 0 ∙ last_some named (length named - 1) (omega (arith, last.0)))

pub returns-in-None : goal.returns-in-None
returns-in-None c = rw (← c.named.ensures.named) (last_none c.named.result.now (omega (arith, c.in-None.ensures.item.3)))
