-- `stream::run` meets its contract: the text so far, followed by the lines of the rest, is the whole text. Assumes nothing.
use Prim.Native.Nat.{◌-◌}
use lib.ListN.{length}
use Rattle.stream.proofs.Going.{Running}
use Rattle.stream.proofs.run.Given as goal

abbrev pub invariant-loop-at : goal.invariant-loop-at
invariant-loop-at l =
    Running l.input l.initial.output l.output l.held l.at l.number l.end

abbrev pub decreases-loop-at : goal.decreases-loop-at
decreases-loop-at l =
    length l.input - l.at
