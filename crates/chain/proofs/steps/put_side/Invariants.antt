-- The loop's invariant: the first i steps of the side are put.
use lib.ListN.{take}
use Rattle.chain.specs.Steps.{Adds}
use Rattle.chain.proofs.steps.put_side.Given as goal

abbrev pub invariant-loop-i : goal.invariant-loop-i
invariant-loop-i l = Adds l.initial.steps 0 (take l.i l.side) l.steps l.i
