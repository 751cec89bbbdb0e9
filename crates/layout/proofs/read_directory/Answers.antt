-- Each table is read with its count.
use Rattle.layout.proofs.Rows.{all_read}
use Rattle.layout.proofs.read_directory.Goals as goal

pub returns : goal.returns
returns c =
    all_read c.args.counts.now c.args.bytes.now _ _ _ _ _ _ _ _ _ _
    c.count_at.ensures c.read_table.ensures c.count_at-2.ensures c.read_table-2.ensures c.count_at-3.ensures c.read_table-3.ensures c.count_at-4.ensures c.read_table-4.ensures c.count_at-5.ensures c.read_table-5.ensures
