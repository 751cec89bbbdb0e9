-- Past the tests that do not apply, the number of the first that does.
use Rattle.refusals.specs.Kept.{pair_refusal_in}
use Rattle.refusals.proofs.pairs.PairEntry.refusal.Goals as goal

pub returns-then-pairs_full : goal.returns-then-pairs_full
unfolding pair_refusal_in
returns-then-pairs_full c = rw (← c.pairs_full.ensures, c.if-pairs_full.true)

pub returns-then-pair_unknown : goal.returns-then-pair_unknown
unfolding pair_refusal_in
returns-then-pair_unknown c = rw (← c.pairs_full.ensures, c.if-pairs_full.false, ← c.pair_unknown.ensures, c.if-pair_unknown.true)

pub returns-then-pair_entered : goal.returns-then-pair_entered
unfolding pair_refusal_in
returns-then-pair_entered c = rw (← c.pairs_full.ensures, c.if-pairs_full.false, ← c.pair_unknown.ensures, c.if-pair_unknown.false, ← c.pair_entered.ensures, c.if-pair_entered.true)

pub returns-then-wrong_accounts-wrong_served : goal.returns-then-wrong_accounts-wrong_served
unfolding pair_refusal_in
returns-then-wrong_accounts-wrong_served c = rw (← c.pairs_full.ensures, c.if-pairs_full.false, ← c.pair_unknown.ensures, c.if-pair_unknown.false, ← c.pair_entered.ensures, c.if-pair_entered.false, ← c.wrong_accounts.ensures, ← c.wrong_served.ensures, c.if-wrong_accounts-wrong_served.true)

pub returns-then-self-alone : goal.returns-then-self-alone
unfolding pair_refusal_in
returns-then-self-alone c = rw (← c.pairs_full.ensures, c.if-pairs_full.false, ← c.pair_unknown.ensures, c.if-pair_unknown.false, ← c.pair_entered.ensures, c.if-pair_entered.false, ← c.wrong_accounts.ensures, ← c.wrong_served.ensures, c.if-wrong_accounts-wrong_served.false, ← c.is_external.ensures, c.if-self-alone.true)

pub returns : goal.returns
unfolding pair_refusal_in
returns c = rw (← c.pairs_full.ensures, c.if-pairs_full.false, ← c.pair_unknown.ensures, c.if-pair_unknown.false, ← c.pair_entered.ensures, c.if-pair_entered.false, ← c.wrong_accounts.ensures, ← c.wrong_served.ensures, c.if-wrong_accounts-wrong_served.false, ← c.is_external.ensures, c.if-self-alone.false)
