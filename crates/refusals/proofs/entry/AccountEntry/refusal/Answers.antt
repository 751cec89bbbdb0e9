-- Past the tests that do not apply, the number of the first that does.
use mathlib.Core.Bool.{not}
use mathlib.Core.Path.{ap}
use borrow.Author.Tests.{lt-ltb, le-ltb}
use Rattle.refusals.specs.Kept.{account_refusal_in}
use Rattle.refusals.proofs.entry.AccountEntry.refusal.Goals as goal

pub returns-then-accounts_full : goal.returns-then-accounts_full
unfolding account_refusal_in
returns-then-accounts_full c = rw (← c.accounts_full.ensures, c.if-accounts_full.true)

pub returns-then-not-is_csd : goal.returns-then-not-is_csd
unfolding account_refusal_in
returns-then-not-is_csd c = rw (← c.accounts_full.ensures, c.if-accounts_full.false, ← c.is_csd.ensures, (ap not c.if-not-is_csd.true))

pub returns-then-self-gt-ISSUANCE : goal.returns-then-self-gt-ISSUANCE
unfolding account_refusal_in
returns-then-self-gt-ISSUANCE c = rw (← c.accounts_full.ensures, c.if-accounts_full.false, ← c.is_csd.ensures, (ap not c.if-not-is_csd.false), lt-ltb 4 _ c.if-self-gt-ISSUANCE.true)

pub returns-then-is_external : goal.returns-then-is_external
unfolding account_refusal_in
returns-then-is_external c = rw (← c.accounts_full.ensures, c.if-accounts_full.false, ← c.is_csd.ensures, (ap not c.if-not-is_csd.false), le-ltb 4 _ c.if-self-gt-ISSUANCE.false, ← c.is_external.ensures, c.if-is_external.true)

pub returns : goal.returns
unfolding account_refusal_in
returns c = rw (← c.accounts_full.ensures, c.if-accounts_full.false, ← c.is_csd.ensures, (ap not c.if-not-is_csd.false), le-ltb 4 _ c.if-self-gt-ISSUANCE.false, ← c.is_external.ensures, c.if-is_external.false)
