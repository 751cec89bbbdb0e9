-- The stores one after another, at the number that the count gave.
use Rattle.entries.specs.Entered.{counted, with_account}
use Rattle.entries.proofs.entries.AccountKeep.keep_in.Goals as goal

pub returns : goal.returns
unfolding counted with_account
returns c = rw (c.count_on.ensures, c.store-2.ensures, c.store.ensures, c.entry-n.ensures)
