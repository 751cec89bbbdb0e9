-- Past the tests that do not apply, the number of the first that does.
use borrow.Author.Tests.{le-leb, lt-leb}
use Rattle.rules.specs.Directory.{csd_limit}
use Rattle.index.specs.Asked.{read}
use Rattle.refusals.specs.Kept.{csd_refusal_in}
use Rattle.refusals.proofs.entry.CsdEntry.refusal.Goals as goal

pub returns-then-entry-ge-CSDS : goal.returns-then-entry-ge-CSDS
unfolding read csd_refusal_in
returns-then-entry-ge-CSDS c = rw (← c.entry.ensures, le-leb csd_limit _ c.if-entry-ge-CSDS.true)

pub returns-then-self-is_bic : goal.returns-then-self-is_bic
unfolding read csd_refusal_in
returns-then-self-is_bic c = rw (← c.entry.ensures, lt-leb csd_limit _ c.if-entry-ge-CSDS.false, ← c.is_bic.ensures, c.if-self-is_bic.true)

pub returns-then-bic_entered : goal.returns-then-bic_entered
unfolding read csd_refusal_in
returns-then-bic_entered c = rw (← c.entry.ensures, lt-leb csd_limit _ c.if-entry-ge-CSDS.false, ← c.is_bic.ensures, c.if-self-is_bic.false, ← c.bic_entered.ensures, c.if-bic_entered.true)

pub returns : goal.returns
unfolding read csd_refusal_in
returns c = rw (← c.entry.ensures, lt-leb csd_limit _ c.if-entry-ge-CSDS.false, ← c.is_bic.ensures, c.if-self-is_bic.false, ← c.bic_entered.ensures, c.if-bic_entered.false)
