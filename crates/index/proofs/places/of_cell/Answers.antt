-- The list has it, if row and column are within the tables.
use Rattle.std.proofs.Common.{◌+◌, ◌*◌, ◌<◌, rules}
use borrow.Author.Tests.{lt-ltb}
use Rattle.index.specs.Index.{index_size, number_at}
use Rattle.index.proofs.places.of_cell.Goals as goal

pub returns-then-column-columns : goal.returns-then-column-columns
unfolding number_at
returns-then-column-columns c =
    let a = c.args in
    let within : a.from + (a.row * a.columns + a.column) < index_size = search rules in
    rw (lt-ltb a.row a.rows c.if-row-rows.true, lt-ltb a.column a.columns c.if-column-columns.true, lt-ltb (a.from + (a.row * a.columns + a.column)) index_size within)
