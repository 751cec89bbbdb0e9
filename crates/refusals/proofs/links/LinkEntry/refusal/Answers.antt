-- Past the tests that do not apply, the number of the first that does.
use native.Mathlib.Omega.{arith}
use borrow.Author.Tests.{lt-ltb, le-ltb}
use Rattle.refusals.specs.Kept.{link_refusal_in}
use Rattle.refusals.proofs.links.LinkEntry.refusal.Goals as goal

pub returns-then-links_full : goal.returns-then-links_full
unfolding link_refusal_in
returns-then-links_full c = rw (← c.links_full.ensures, c.if-links_full.true)

pub returns-then-link_unknown : goal.returns-then-link_unknown
unfolding link_refusal_in
returns-then-link_unknown c = rw (← c.links_full.ensures, c.if-links_full.false, ← c.link_unknown.ensures, c.if-link_unknown.true)

pub returns-then-self : goal.returns-then-self
unfolding link_refusal_in
returns-then-self c = rw (← c.links_full.ensures, c.if-links_full.false, ← c.link_unknown.ensures, c.if-link_unknown.false, c.if-self.true)

pub returns-then-technical_entered : goal.returns-then-technical_entered
unfolding link_refusal_in
returns-then-technical_entered c = rw (← c.links_full.ensures, c.if-links_full.false, ← c.link_unknown.ensures, c.if-link_unknown.false, c.if-self.false, ← c.technical_entered.ensures, c.if-technical_entered.true)

pub returns-then-wrong_issuance : goal.returns-then-wrong_issuance
unfolding link_refusal_in
returns-then-wrong_issuance c = rw (← c.links_full.ensures, c.if-links_full.false, ← c.link_unknown.ensures, c.if-link_unknown.false, c.if-self.false, ← c.technical_entered.ensures, c.if-technical_entered.false, ← c.wrong_issuance.ensures, c.if-wrong_issuance.true)

pub returns-then-self-2 : goal.returns-then-self-2
unfolding link_refusal_in
returns-then-self-2 c = rw (← c.links_full.ensures, c.if-links_full.false, ← c.link_unknown.ensures, c.if-link_unknown.false, c.if-self.false, ← c.technical_entered.ensures, c.if-technical_entered.false, ← c.wrong_issuance.ensures, c.if-wrong_issuance.false, lt-ltb c.args.self.last c.args.self.first (omega arith))

pub returns-then-rule_broken : goal.returns-then-rule_broken
unfolding link_refusal_in
returns-then-rule_broken c = rw (← c.links_full.ensures, c.if-links_full.false, ← c.link_unknown.ensures, c.if-link_unknown.false, c.if-self.false, ← c.technical_entered.ensures, c.if-technical_entered.false, ← c.wrong_issuance.ensures, c.if-wrong_issuance.false, le-ltb c.args.self.last c.args.self.first (omega arith), ← c.rule_broken.ensures, c.if-rule_broken.true)

pub returns : goal.returns
unfolding link_refusal_in
returns c = rw (← c.links_full.ensures, c.if-links_full.false, ← c.link_unknown.ensures, c.if-link_unknown.false, c.if-self.false, ← c.technical_entered.ensures, c.if-technical_entered.false, ← c.wrong_issuance.ensures, c.if-wrong_issuance.false, le-ltb c.args.self.last c.args.self.first (omega arith), ← c.rule_broken.ensures, c.if-rule_broken.false)
