-- The numbers one after another.
use Rattle.entries.specs.Entered.{counted, with_link}
use Rattle.entries.proofs.entries.LinkKeep.keep_in.Goals as goal

pub returns : goal.returns
unfolding counted with_link
returns c = rw (
  c.count_on.ensures,
  c.add_target.ensures,
  c.store.ensures,
  c.row_for.ensures,
  c.put_number-7.ensures,
  c.put_number-6.ensures,
  c.put_number-5.ensures,
  c.put_number-4.ensures,
  c.put_number-3.ensures,
  c.put_number-2.ensures,
  c.put_number.ensures,
  c.entry-next.ensures,
  c.entry-link.ensures,
)
