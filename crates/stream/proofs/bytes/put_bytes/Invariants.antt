-- `stream::bytes::put_bytes` meets its contract: so far the first bytes are appended. Assumes nothing.
use Prim.Native.Nat.{◌+◌}
use lib.ListN.{take}
use Rattle.text.specs.Appended.{Appended}
use Rattle.stream.proofs.bytes.put_bytes.Given as goal

abbrev pub invariant-loop-i : goal.invariant-loop-i
invariant-loop-i g l = Appended l.initial.out l.at l.out (l.at + l.i) (take l.i l.bytes)
