-- The list has it, if the row is within the table.
use Rattle.std.proofs.Common.{◌+◌, arith}
use borrow.Author.Tests.{lt-ltb}
use Rattle.index.specs.Index.{index_size, number_at}
use Rattle.index.proofs.places.of_row.Goals as goal

pub returns-then-row-rows : goal.returns-then-row-rows
unfolding number_at
returns-then-row-rows c =
    let a = c.args in
    rw (lt-ltb a.row a.rows c.if-row-rows.true, lt-ltb (a.from + a.row) index_size (omega arith))
