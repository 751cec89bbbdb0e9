-- The rows ahead, read into what is kept now, end as all rows read into what was kept at entry.
use Prim.Native.Nat.{◌≤◌}
use mathlib.Core.List.{map}
use lib.ListN.{length, take, drop}
use Rattle.reading.specs.Read.{read_rows}
use Rattle.reading.proofs.Loops.{Ahead}
use Rattle.reading.proofs.read_rows.Given as goal

abbrev pub invariant-loop-row : goal.invariant-loop-row
invariant-loop-row g l =
    (l.row-index ≤ length l.row-items)
    × Ahead (map g.R.Entry.as_row (drop l.row-index l.row-items)) (read_rows (map g.R.Entry.as_row (take l.fn.count l.fn.rows)) l.fn.kept) l.kept
