-- The steps so far fit.
use Rattle.std.proofs.Common.{◌≡◌, true}
use Rattle.index.specs.Asked.{asked}
use Rattle.chain.specs.StepList.{steps_in}
use Rattle.holdings.specs.Fitting.{none_unfit}
use Rattle.holdings.proofs.judging.Transfer.fits.Given as goal

abbrev pub invariant-loop-i : goal.invariant-loop-i
invariant-loop-i l = none_unfit (asked l.index).kind l.positions l.lot.security l.lot.quantity (steps_in l.steps l.i) ≡ true
