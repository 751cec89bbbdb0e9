-- A quantity out of range, another list or too many steps; else the first step that does not fit, if there is one.
use Rattle.std.proofs.Common.{◌≡◌, rules, arith, sym}
use Rattle.std.proofs.lemmas.Bool.Decides.{nat_tests}
use Rattle.index.specs.Asked.{asked}
use Rattle.chain.specs.StepList.{steps_in}
use Rattle.holdings.specs.Fitting.{steps_fit}
use Rattle.holdings.proofs.Fitting.{steps_tried, fit_more, unfit_at}
use Rattle.holdings.proofs.judging.Transfer.fits.Goals as goal

pub returns-then-lot-gt-LIMIT : goal.returns-then-lot-gt-LIMIT
unfolding steps_fit
returns-then-lot-gt-LIMIT c = grind (arith, nat_tests)

pub returns-then-steps-ne-STEP_NUMBERS : goal.returns-then-steps-ne-STEP_NUMBERS
unfolding steps_fit
returns-then-steps-ne-STEP_NUMBERS c = let e = c.then-steps-ne-STEP_NUMBERS.either in grind (arith, nat_tests)

pub loop-i-init : goal.loop-i-init
unfolding steps_in
loop-i-init c = search rules

pub returns-then-not-debit_fits : goal.returns-then-not-debit_fits
returns-then-not-debit_fits c =
    let a = c.args in
    let kind = (asked a.index.now).kind in
    let size = c.if-steps-ne-STEP_NUMBERS.false in
    steps_tried kind a.positions.now a.self.lot.security a.self.lot.quantity a.self.steps.now size (omega arith) a.self.count (omega arith)
    (unfit_at kind a.positions.now a.self.lot.security a.self.lot.quantity a.self.steps.now size c.loop-i.i (omega arith) a.self.count (omega arith)
    (rw (← c.debit_fits.ensures, c.if-not-debit_fits.true)))

pub returns-then-not-credit_fits : goal.returns-then-not-credit_fits
returns-then-not-credit_fits c =
    let a = c.args in
    let kind = (asked a.index.now).kind in
    let size = c.if-steps-ne-STEP_NUMBERS.false in
    steps_tried kind a.positions.now a.self.lot.security a.self.lot.quantity a.self.steps.now size (omega arith) a.self.count (omega arith)
    (unfit_at kind a.positions.now a.self.lot.security a.self.lot.quantity a.self.steps.now size c.loop-i.i (omega arith) a.self.count (omega arith)
    (rw (← c.debit_fits.ensures, c.if-not-debit_fits.false, ← c.credit_fits.ensures, c.if-not-credit_fits.true)))

pub loop-i-preserved : goal.loop-i-preserved
loop-i-preserved c =
    let a = c.args in
    fit_more (asked a.index.now).kind a.positions.now a.self.lot.security a.self.lot.quantity a.self.steps.now c.if-steps-ne-STEP_NUMBERS.false c.loop-i.i (omega arith)
    c.loop-i.invariant (rw (← c.debit_fits.ensures, c.if-not-debit_fits.false, ← c.credit_fits.ensures, c.if-not-credit_fits.false))

pub returns : goal.returns
returns c =
    let a = c.args in
    let all : c.loop-i.i ≡ a.self.count = omega arith in
    steps_tried (asked a.index.now).kind a.positions.now a.self.lot.security a.self.lot.quantity a.self.steps.now c.if-steps-ne-STEP_NUMBERS.false (omega arith) a.self.count (omega arith)
    (sym (rw all at c.loop-i.invariant))
