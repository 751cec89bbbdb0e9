-- The loop's invariant: what adds the steps ahead, turned, adds the whole side turned.
use Prim.Native.Nat.{◌+◌}
use mathlib.Core.Path.{◌≡◌}
use lib.ListN.{length}
use Rattle.std.specs.Slice.Iter.{iter_rest}
use Rattle.chain.proofs.Putting.{Turning}
use Rattle.chain.proofs.steps.add_turned.Given as goal

abbrev pub invariant-loop-step : goal.invariant-loop-step
invariant-loop-step l = record {
  iterates : (goal.iterator-loop-step).can_next l.step-iterator × (goal.iterator-loop-step).is_finite l.step-iterator;
  room : l.n + length (iter_rest l.step-iterator.iter) ≡ l.count + length l.side;
  turns : Turning l.side l.initial.steps l.count (iter_rest l.step-iterator.iter) l.steps l.n;
}
