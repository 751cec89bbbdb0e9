-- Each refusal in turn decides as the definition has it; where none does, the step judged is the step booked.
use Rattle.std.proofs.Common.{◌≡◌, sym, ◌∙◌}
use Rattle.rules.specs.declared.refusal.Refusal.TheVariants.{NoContra}
use Rattle.std.proofs.lemmas.Result.{err_from_is_err_and}
use Rattle.index.specs.Asked.{asked_on}
use Rattle.chain.proofs.Days.{home_on}
use Rattle.booking.specs.Moves.{way_of}
use Rattle.booking.proofs.Moved.{by_operands, by_contra, by_step}
use Rattle.booking.proofs.Contras.{contra_at, contra_missing}
use Rattle.booking.proofs.Days.{operands_on, step_on}
use Rattle.booking.proofs.moves.move_securities.Goals as goal

pub returns-in_err-move_refusal : goal.returns-in_err-move_refusal
returns-in_err-move_refusal c =
    let a = c.args in
    let p = err_from_is_err_and c.from_residual.result c.from_residual.ensures.1 in
    let r = by_operands (asked_on a.index.now a.day) a.positions.now (way_of a.way) a.account a.security a.quantity
    c.in_err-move_refusal.field-0.0 (c.in_err-move_refusal.ensures ∙ operands_on a.index.now a.day a.account a.security a.quantity) in
    rw (p.1, p.2) (record { answer = r.0; positions = r.1 })

pub returns-in_err-other : goal.returns-in_err-other
returns-in_err-other c =
    let home = c.home_of-csd in
    let a = c.args in
    let e = c.in_err-other.ensures in
    let value = rw e.ok_part at e.value in
    let is : c.in_err-other.field-0.0 ≡ NoContra = cc in
    let p = err_from_is_err_and c.from_residual-in_err-other.result c.from_residual-in_err-other.ensures.1 in
    let r = by_contra (asked_on a.index.now a.day) a.positions.now (way_of a.way) a.account a.security a.quantity
    (c.in_ok-move_refusal.ensures ∙ operands_on a.index.now a.day a.account a.security a.quantity)
    home.result (home.ensures ∙ home_on a.index.now a.day a.account) (contra_missing _ (sym c.contra_of.ensures ∙ e.ok_part)) in
    rw (p.1, p.2, is) (record { answer = r.0; positions = r.1 })

pub returns : goal.returns
returns c =
    let home = c.home_of-csd in
    let a = c.args in
    let r = by_step (asked_on a.index.now a.day) a.positions.now (way_of a.way) a.account a.security a.quantity
    (c.in_ok-move_refusal.ensures ∙ operands_on a.index.now a.day a.account a.security a.quantity)
    home.result (home.ensures ∙ home_on a.index.now a.day a.account) _ (contra_at _ _ (sym c.contra_of.ensures ∙ c.in_ok-other.ensures.ok_part))
    c.move_step-step.result c.move_step-step.ensures c.book_step.result
    (c.book_step.ensures.refusal ∙ step_on a.index.now a.day a.positions.now a.security a.quantity c.move_step-step.result) _ c.book_step.ensures.left in
    record { answer = r.0; positions = r.1 }
