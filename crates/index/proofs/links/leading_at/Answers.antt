-- The link that leads is an issuer link, or a default link.
use Rattle.std.proofs.Common.{arith, ap}
use borrow.Author.Tests.{eq-eqb, ne_eqb}
use Rattle.index.specs.declared.links.Leading.TheVariants.{To}
use Rattle.index.specs.Asked.{link_in, asked_by}
use Rattle.index.specs.Found.{leading_of}
use Rattle.index.proofs.LinkReading.{lead_small, lead_none, lead_link}
use Rattle.index.proofs.links.leading_at.Goals as goal

pub returns-in_default : goal.returns-in_default
unfolding asked_by leading_of
returns-in_default c =
    let a = c.args in
    rw (lead_none a.index.now a.security a.csd a.day c.in_default.ensures)

pub number_at-requires : goal.number_at-requires
number_at-requires c =
    let a = c.args in
    (lead_small a.index.now a.security a.csd a.day c.in-Some.link c.in-Some.ensures, omega arith)

pub returns-then-number_at-eq0 : goal.returns-then-number_at-eq0
unfolding asked_by leading_of link_in
returns-then-number_at-eq0 c =
    let a = c.args in
    rw (lead_link a.index.now a.security a.csd a.day c.in-Some.link c.in-Some.ensures, ← c.number_at.ensures, eq-eqb c.number_at.result 0 c.if-number_at-eq0.true)

pub technical_of-requires : goal.technical_of-requires
technical_of-requires c = let a = c.args in lead_small a.index.now a.security a.csd a.day c.in-Some.link c.in-Some.ensures

pub returns : goal.returns
unfolding asked_by leading_of link_in
returns c =
    let a = c.args in
    rw (lead_link a.index.now a.security a.csd a.day c.in-Some.link c.in-Some.ensures, ← c.number_at.ensures, ne_eqb c.number_at.result 0 c.if-number_at-eq0.false)
    (ap To c.technical_of.ensures)
