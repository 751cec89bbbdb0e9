-- Hex FFFF is left alone; for another account the four numbers are stored one after another.
use mathlib.Core.Path.{◌∙◌}
use borrow.Author.Tests.{eq-eqb, ne_eqb}
use Rattle.rules.specs.Directory.{no_account}
use Rattle.entries.specs.Entered.{with_duo}
use Rattle.entries.proofs.entries.add_duo.Goals as goal

pub returns-then-account-eq-NO_ACCOUNT : goal.returns-then-account-eq-NO_ACCOUNT
unfolding with_duo
returns-then-account-eq-NO_ACCOUNT c = rw (eq-eqb c.args.account no_account c.if-account-eq-NO_ACCOUNT.true)

pub returns : goal.returns
unfolding with_duo
returns c =
    rw (ne_eqb c.args.account no_account c.if-account-eq-NO_ACCOUNT.false)
    (c.store-4.ensures ∙ rw (c.store-3.ensures, c.store-2.ensures, c.store.ensures, c.one_more.ensures))
