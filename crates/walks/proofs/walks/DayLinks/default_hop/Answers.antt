-- The test of the definition, then where the CSD's links lead.
use Rattle.walks.proofs.Hops.{outside_hop, hop_led}
use Rattle.walks.proofs.walks.DayLinks.default_hop.Goals as goal

pub returns-then-is_external : goal.returns-then-is_external
returns-then-is_external c =
    let x = c.args.self.now in
    outside_hop x.index.now x.day x.security c.args.csd c.is_external.result c.is_external.ensures c.if-is_external.true

pub returns-in-Issuer : goal.returns-in-Issuer
returns-in-Issuer c =
    let x = c.args.self.now in
    hop_led x.index.now x.day x.security c.args.csd c.is_external.result c.is_external.ensures c.if-is_external.false _ c.in-Issuer.ensures

pub returns-in-To : goal.returns-in-To
returns-in-To c =
    let x = c.args.self.now in
    hop_led x.index.now x.day x.security c.args.csd c.is_external.result c.is_external.ensures c.if-is_external.false _ c.in-To.ensures

pub returns-in-Nowhere : goal.returns-in-Nowhere
returns-in-Nowhere c =
    let x = c.args.self.now in
    hop_led x.index.now x.day x.security c.args.csd c.is_external.result c.is_external.ensures c.if-is_external.false _ c.in-Nowhere.ensures
