-- The loop's invariant: the last k CSDs of both sides are the same.
use Rattle.walks.proofs.Paths.{Agree}
use Rattle.walks.proofs.routes.common_end.Given as goal

abbrev pub invariant-loop-k : goal.invariant-loop-k
invariant-loop-k l = Agree l.up l.down l.k
