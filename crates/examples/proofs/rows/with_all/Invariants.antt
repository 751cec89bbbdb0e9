-- The rows that are left, entered now, come to all rows, entered at the start.
use Rattle.std.proofs.Common.{◌≡◌, map, drop}
use Rattle.examples.specs.Directories.{row_of, entering_all}
use Rattle.examples.proofs.rows.with_all.Given as goal

abbrev pub invariant-loop-row : goal.invariant-loop-row
invariant-loop-row l = entering_all (map row_of (drop l.row-index l.rows)) l.entered ≡ entering_all (map row_of l.rows) l.fn.directory
