-- So far the first rows stand in their place; the rest is as before.
use Prim.Native.Nat.{◌+◌, ◌*◌, ◌≤◌}
use lib.ListN.{length}
use Rattle.layout.specs.Layout.{bytes_in, Put}
use Rattle.layout.proofs.put_rows.Given as goal

abbrev pub invariant-loop-i : goal.invariant-loop-i
invariant-loop-i g l =
    (l.start + length l.rows * g.row.W ≤ length l.initial.bytes)
    × Put l.start (l.start + l.i * g.row.W) (bytes_in g.T.ToBytes.bytes g.T.ToBytes.blank g.row.W l.rows (l.i * g.row.W)) l.initial.bytes l.bytes
