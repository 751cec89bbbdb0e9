-- The account of the link that leads, where it is an issuer link.
use Rattle.std.proofs.Common.{arith}
use borrow.Author.Tests.{eq-eqb, ne_eqb}
use Rattle.index.specs.Asked.{link_in, asked_by}
use Rattle.index.proofs.LinkReading.{lead_small, lead_none, lead_link}
use Rattle.index.proofs.links.issuance_of.Goals as goal

pub number_at-requires : goal.number_at-requires
number_at-requires c =
    let a = c.args in
    (lead_small a.index.now a.security a.csd a.day c.in-Some.link c.in-Some.ensures, omega arith)

pub number_at-requires-in-Some : goal.number_at-requires-in-Some
number_at-requires-in-Some c =
    let a = c.args in
    (lead_small a.index.now a.security a.csd a.day c.in-Some.link c.in-Some.ensures, omega arith)

pub returns-in-Some : goal.returns-in-Some
unfolding asked_by link_in
returns-in-Some c =
    let a = c.args in
    rw (lead_link a.index.now a.security a.csd a.day c.in-Some.link c.in-Some.ensures, ← c.number_at.ensures, eq-eqb c.number_at.result 0 c.if-number_at-eq0.true)
    c.number_at-in-Some.ensures

pub returns-in_default : goal.returns-in_default
unfolding asked_by link_in
returns-in_default c =
    let a = c.args in
    rw (lead_link a.index.now a.security a.csd a.day c.in-Some.link c.in-Some.ensures, ← c.number_at.ensures, ne_eqb c.number_at.result 0 c.if-number_at-eq0.false)

pub returns-in_default-2 : goal.returns-in_default-2
unfolding asked_by
returns-in_default-2 c =
    let a = c.args in
    rw (lead_none a.index.now a.security a.csd a.day c.in_default.ensures)
