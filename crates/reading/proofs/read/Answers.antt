-- Counts within limits, and the tables read.
use Rattle.reading.proofs.Loops.{tables_read, too_many}
use Rattle.reading.proofs.read.Goals as goal

pub returns-then-not-within_limits : goal.returns-then-not-within_limits
returns-then-not-within_limits c = too_many c.args.directory.now c.args.kept.now c.within_limits.ensures c.if-not-within_limits.true

pub returns : goal.returns
returns c =
    rw c.is_ok.ensures.value (tables_read c.args.directory.now c.args.kept.now c.within_limits.ensures c.if-not-within_limits.false c.read_tables.ensures)
