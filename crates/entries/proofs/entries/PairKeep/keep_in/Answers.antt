-- The stores one after another.
use Rattle.entries.specs.Entered.{counted, with_pair}
use Rattle.entries.proofs.entries.PairKeep.keep_in.Goals as goal

pub returns : goal.returns
unfolding counted with_pair
returns c = rw (c.count_on.ensures, c.add_duo-2.ensures, c.add_duo.ensures, c.store.ensures, c.one_more.ensures)
