-- What is held is compared with the units: held against 0 and the lower end of the range where it is less, against the upper end where it is not.
use Rattle.std.proofs.Common.{rules, pos, sym, ◌∙◌}
use Rattle.index.specs.Asked.{asked}
use Rattle.holdings.proofs.Fitting.{behind, reads, debit_short, debit_low, debit_high}
use Rattle.holdings.proofs.judging.Lot.debit_fits.Goals as goal

pub returns-in_default : goal.returns-in_default
returns-in_default c = rw (behind c.args.positions.now c.args.self.security c.args.account c.place-from.result c.place-from.ensures (search rules))

pub returns-then-is_floored : goal.returns-then-is_floored
returns-then-is_floored c =
    let a = c.args in
    let there = c.in-Some.ensures.lookup.3 in
    let r = reads a.positions.now a.self.security a.account c.place-from.result c.in-Some.field-0.now c.place-from.ensures there.0 (there.1 (pos 0)) (search rules) in
    debit_short r a.self.quantity c.requires (asked a.index.now).kind c.if-held-units.true (sym c.is_floored.ensures ∙ c.if-is_floored.true)

pub returns-then-held-units : goal.returns-then-held-units
returns-then-held-units c =
    let a = c.args in
    let there = c.in-Some.ensures.lookup.3 in
    let r = reads a.positions.now a.self.security a.account c.place-from.result c.in-Some.field-0.now c.place-from.ensures there.0 (there.1 (pos 0)) (search rules) in
    debit_low r a.self.quantity c.requires (asked a.index.now).kind c.if-held-units.true (sym c.is_floored.ensures ∙ c.if-is_floored.false)

pub returns : goal.returns
returns c =
    let a = c.args in
    let there = c.in-Some.ensures.lookup.3 in
    let r = reads a.positions.now a.self.security a.account c.place-from.result c.in-Some.field-0.now c.place-from.ensures there.0 (there.1 (pos 0)) (search rules) in
    debit_high r a.self.quantity c.requires (asked a.index.now).kind c.if-held-units.false
