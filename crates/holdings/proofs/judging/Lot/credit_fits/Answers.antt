-- What is held is in the range whose ends the units leave.
use Rattle.std.proofs.Common.{rules, pos}
use Rattle.holdings.proofs.Fitting.{behind, reads, credit_low, credit_high}
use Rattle.holdings.proofs.judging.Lot.credit_fits.Goals as goal

pub returns-in_default : goal.returns-in_default
returns-in_default c = rw (behind c.args.positions.now c.args.self.security c.args.account c.place-to.result c.place-to.ensures (search rules))

pub returns-then-held-units : goal.returns-then-held-units
returns-then-held-units c =
    let a = c.args in
    let there = c.in-Some.ensures.lookup.3 in
    let r = reads a.positions.now a.self.security a.account c.place-to.result c.in-Some.field-0.now c.place-to.ensures there.0 (there.1 (pos 0)) (search rules) in
    credit_low r a.self.quantity c.requires c.if-held-units.true

pub returns : goal.returns
returns c =
    let a = c.args in
    let there = c.in-Some.ensures.lookup.3 in
    let r = reads a.positions.now a.self.security a.account c.place-to.result c.in-Some.field-0.now c.place-to.ensures there.0 (there.1 (pos 0)) (search rules) in
    credit_high r a.self.quantity c.requires c.if-held-units.false
