-- The lent list's refusal, the halves', then the chain's, else its steps and their number.
use mathlib.Core.Path.{sym, ◌∙◌}
use Rattle.std.proofs.lemmas.Result.{err_from_is_err_and}
use Rattle.rules.proofs.Numbered.{number_ne0}
use Rattle.index.specs.Asked.{asked_on}
use Rattle.halves.proofs.Days.{halves_on}
use Rattle.chain.proofs.Deriving.{derives_misfit, derives_halves, derives_found}
use Rattle.chain.proofs.derivation.derive.Goals as goal

pub returns-then-steps-ne-STEP_NUMBERS : goal.returns-then-steps-ne-STEP_NUMBERS
returns-then-steps-ne-STEP_NUMBERS c =
    let a = c.args in
    let h = a.halves in
    derives_misfit a.steps.now (asked_on a.index.now a.day) h.delivering h.receiving h.unknown h.same c.if-steps-ne-STEP_NUMBERS.true

pub returns-in_err-halves_refusal : goal.returns-in_err-halves_refusal
returns-in_err-halves_refusal c =
    let a = c.args in
    let h = a.halves in
    let refused = c.in_err-halves_refusal.ensures ∙ halves_on a.index.now a.day h.delivering h.receiving h.unknown h.same in
    let p = err_from_is_err_and c.from_residual.result c.from_residual.ensures.1 in
    rw (p.1, p.2)
    (derives_halves a.steps.now (asked_on a.index.now a.day) h.delivering h.receiving h.unknown h.same c.if-steps-ne-STEP_NUMBERS.false _ refused (number_ne0 c.in_err-halves_refusal.field-0.0))

pub returns-in_err-count : goal.returns-in_err-count
returns-in_err-count c =
    let a = c.args in
    let h = a.halves in
    let passed = sym (c.in_ok-halves_refusal.ensures ∙ halves_on a.index.now a.day h.delivering h.receiving h.unknown h.same) in
    let p = err_from_is_err_and c.from_residual-in_err-count.result c.from_residual-in_err-count.ensures.1 in
    rw (p.1, p.2)
    (derives_found a.steps.now (asked_on a.index.now a.day) h.delivering h.receiving h.unknown h.same c.if-steps-ne-STEP_NUMBERS.false passed _ _ c.in_err-count.ensures)

pub returns : goal.returns
returns c =
    let a = c.args in
    let h = a.halves in
    let passed = sym (c.in_ok-halves_refusal.ensures ∙ halves_on a.index.now a.day h.delivering h.receiving h.unknown h.same) in
    derives_found a.steps.now (asked_on a.index.now a.day) h.delivering h.receiving h.unknown h.same c.if-steps-ne-STEP_NUMBERS.false passed _ _ c.in_ok-count.ensures
