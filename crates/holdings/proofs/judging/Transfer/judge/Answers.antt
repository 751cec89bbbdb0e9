-- What was found so far is what the tests find in the steps so far.
use Rattle.std.proofs.Common.{rules}
use Rattle.rules.specs.Booking.{units_short, units_beyond}
use Rattle.chain.specs.StepList.{steps_in}
use Rattle.holdings.proofs.Listed.{steps_more, any_more}
use Rattle.holdings.proofs.judging.Transfer.judge.Goals as goal

pub loop-i-init : goal.loop-i-init
unfolding units_short units_beyond steps_in
loop-i-init c = search rules

pub loop-i-preserved : goal.loop-i-preserved
unfolding units_short units_beyond
loop-i-preserved c =
    let f = c.judge-judged.ensures in
    (rw (steps_more, any_more, ← c.step_at.ensures, ← f.short, c.loop-i.invariant.0), rw (steps_more, any_more, ← c.step_at.ensures, ← f.beyond, c.loop-i.invariant.1))
