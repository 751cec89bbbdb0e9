-- What was found so far is what the tests find in the steps so far.
use mathlib.Core.Path.{◌≡◌}
use Rattle.rules.specs.Booking.{units_short, units_beyond}
use Rattle.index.specs.Asked.{asked}
use Rattle.chain.specs.StepList.{steps_in}
use Rattle.holdings.proofs.judging.Transfer.judge.Given as goal

abbrev pub invariant-loop-i : goal.invariant-loop-i
invariant-loop-i l =
    (l.short ≡ units_short (asked l.index).kind l.positions l.self.lot.security l.self.lot.quantity (steps_in l.self.steps.now l.i))
    × (l.beyond ≡ units_beyond l.positions l.self.lot.security l.self.lot.quantity (steps_in l.self.steps.now l.i))
