-- The loop's invariant: the bytes ahead put into the list as it is make the list that is due.
use Prim.Native.Nat.{◌+◌}
use mathlib.Core.Path.{◌≡◌}
use lib.ListN.{drop}
use Rattle.identifiers.specs.Names.{with_bytes}
use Rattle.identifiers.proofs.names.put_bytes.Given as goal

abbrev pub invariant-loop-i : goal.invariant-loop-i
invariant-loop-i l = with_bytes l.names (l.place + l.i) (drop l.i l.bytes) ≡ with_bytes l.initial.names l.place l.bytes
