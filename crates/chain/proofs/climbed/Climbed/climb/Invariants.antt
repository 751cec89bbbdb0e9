-- The loop's invariant: the steps put, before the climb of the CSDs ahead, are the whole climb.
use Prim.Native.Nat.{◌+◌, ◌≤◌, ◌<◌}
use mathlib.Core.Path.{◌≡◌}
use lib.ListN.{length, take}
use Rattle.std.specs.Slice.Iter.{windows_rest, windows_size}
use Rattle.rules.specs.Walks.{side_limit}
use Rattle.index.specs.Asked.{asked}
use Rattle.walks.specs.Sides.{named}
use Rattle.chain.proofs.Climbing.{Climbs}
use Rattle.chain.proofs.climbed.Climbed.climb.Given as goal

abbrev pub invariant-loop-two : goal.invariant-loop-two
invariant-loop-two l = record {
  iterates : (goal.iterator-loop-two).can_next l.two-iterator × (goal.iterator-loop-two).is_finite l.two-iterator;
  two : windows_size l.two-iterator ≡ 2;
  few : l.count < side_limit;
  room : l.count + length (windows_rest l.two-iterator) ≤ side_limit;
  size : length l.steps ≡ side_limit;
  climbs : Climbs (asked l.index) (named l.side) l.account (take l.count l.steps) (windows_rest l.two-iterator) l.at;
}
