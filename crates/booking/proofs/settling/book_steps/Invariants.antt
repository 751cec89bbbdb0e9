-- The positions are what the steps so far make of the positions at the start.
use Rattle.std.proofs.Common.{◌≡◌}
use Rattle.rules.specs.Booking.{booked}
use Rattle.chain.specs.StepList.{steps_in}
use Rattle.booking.proofs.settling.book_steps.Given as goal

abbrev pub invariant-loop-done : goal.invariant-loop-done
invariant-loop-done g l =
    l.positions ≡ booked (steps_in l.steps l.done) l.lot.security l.lot.quantity l.initial.positions
