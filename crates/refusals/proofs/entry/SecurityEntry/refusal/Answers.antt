-- Past the tests that do not apply, the number of the first that does.
use mathlib.Core.Bool.{not}
use mathlib.Core.Path.{ap}
use borrow.Author.Tests.{le-leb, lt-leb}
use Rattle.rules.specs.Directory.{security_limit}
use Rattle.index.specs.Asked.{read}
use Rattle.refusals.specs.Kept.{security_refusal_in}
use Rattle.refusals.proofs.entry.SecurityEntry.refusal.Goals as goal

pub returns-then-entry-ge-SECURITIES : goal.returns-then-entry-ge-SECURITIES
unfolding read security_refusal_in
returns-then-entry-ge-SECURITIES c = rw (← c.entry.ensures, le-leb security_limit _ c.if-entry-ge-SECURITIES.true)

pub returns-then-not-is_isin : goal.returns-then-not-is_isin
unfolding read security_refusal_in
returns-then-not-is_isin c = rw (← c.entry.ensures, lt-leb security_limit _ c.if-entry-ge-SECURITIES.false, ← c.is_isin.ensures, (ap not c.if-not-is_isin.true))

pub returns-then-not-isin_checks : goal.returns-then-not-isin_checks
unfolding read security_refusal_in
returns-then-not-isin_checks c = rw (← c.entry.ensures, lt-leb security_limit _ c.if-entry-ge-SECURITIES.false, ← c.is_isin.ensures, (ap not c.if-not-is_isin.false), ← c.isin_checks.ensures, (ap not c.if-not-isin_checks.true))

pub returns-then-isin_entered : goal.returns-then-isin_entered
unfolding read security_refusal_in
returns-then-isin_entered c = rw (← c.entry.ensures, lt-leb security_limit _ c.if-entry-ge-SECURITIES.false, ← c.is_isin.ensures, (ap not c.if-not-is_isin.false), ← c.isin_checks.ensures, (ap not c.if-not-isin_checks.false), ← c.isin_entered.ensures, c.if-isin_entered.true)

pub returns : goal.returns
unfolding read security_refusal_in
returns c = rw (← c.entry.ensures, lt-leb security_limit _ c.if-entry-ge-SECURITIES.false, ← c.is_isin.ensures, (ap not c.if-not-is_isin.false), ← c.isin_checks.ensures, (ap not c.if-not-isin_checks.false), ← c.isin_entered.ensures, c.if-isin_entered.false)
