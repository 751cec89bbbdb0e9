-- Only an investor link has one.
use borrow.Author.Tests.{eq-eqb, ne_eqb}
use Rattle.entries.specs.Entered.{with_target}
use Rattle.entries.proofs.entries.add_target.Goals as goal

pub returns-then-row-ne1 : goal.returns-then-row-ne1
unfolding with_target
returns-then-row-ne1 c = rw (ne_eqb c.args.row.kind 1 c.if-row-ne1.true)

pub returns : goal.returns
unfolding with_target
returns c =
    rw (eq-eqb c.args.row.kind 1 c.if-row-ne1.false) c.store.ensures
