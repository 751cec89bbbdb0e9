-- The stores one after another, at the number that the count gave.
use mathlib.Core.Path.{◌≡◌}
use lib.ListN.{length}
use lib.Seq.{take_all}
use native.Mathlib.Omega.{arith}
use Rattle.identifiers.specs.Names.{bic_size}
use Rattle.entries.specs.Entered.{counted, with_csd, with_bic}
use borrow.Author.Rules.{rules}
use Rattle.entries.proofs.entries.CsdKeep.keep_in.Goals as goal

pub returns : goal.returns
unfolding counted with_csd with_bic
returns c =
    let whole : length c.args.self.bic ≡ bic_size = search rules in
    rw (c.count_on.ensures, c.store.ensures, c.put_bic.ensures, c.entry-n.ensures, take_all bic_size c.args.self.bic (omega (arith, whole)))
