-- The stores one after another, at the number that the count gave.
use mathlib.Core.Path.{◌≡◌}
use lib.ListN.{length}
use lib.Seq.{take_all}
use native.Mathlib.Omega.{arith}
use Rattle.identifiers.specs.Names.{isin_size}
use Rattle.entries.specs.Entered.{counted, with_security, with_isin}
use borrow.Author.Rules.{rules}
use Rattle.entries.proofs.entries.SecurityKeep.keep_in.Goals as goal

pub returns : goal.returns
unfolding counted with_security with_isin
returns c =
    let whole : length c.args.self.isin ≡ isin_size = search rules in
    rw (c.count_on.ensures, c.put_isin.ensures, c.entry-n.ensures, take_all isin_size c.args.self.isin (omega (arith, whole)))
