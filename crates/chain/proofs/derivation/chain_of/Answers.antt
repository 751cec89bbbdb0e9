-- The accounts' CSDs: one step where they are the same, else the route between them and the steps along it.
use mathlib.Core.Path.{refl, ◌∙◌}
use native.Mathlib.Omega.{arith}
use Rattle.std.proofs.lemmas.Result.{err_from_is_err_and}
use Rattle.rules.specs.declared.refusal.Refusal.TheVariants.{LentList}
use Rattle.rules.specs.Chain.{chain}
use Rattle.index.specs.Asked.{asked_on}
use Rattle.chain.proofs.Days.{home_on}
use Rattle.chain.proofs.StepList.{holds_none, holds_more}
use Rattle.chain.proofs.Linking.{found_none, found_steps, chain_inside}
use Rattle.chain.proofs.Deriving.{chain_misfit, chain_fits}
use Rattle.chain.proofs.derivation.chain_of.Goals as goal

pub returns-then-steps-ne-STEP_NUMBERS : goal.returns-then-steps-ne-STEP_NUMBERS
returns-then-steps-ne-STEP_NUMBERS c =
    let a = c.args in
    found_none a.steps.now _ LentList (chain_misfit a.steps.now (asked_on a.index.now a.day) a.security a.delivering a.receiving c.if-steps-ne-STEP_NUMBERS.true)

pub returns-then-from-to : goal.returns-then-from-to
returns-then-from-to c =
    let a = c.args in
    let K = asked_on a.index.now a.day in
    let size = c.if-steps-ne-STEP_NUMBERS.false in
    let from = c.home_of-from.ensures ∙ home_on a.index.now a.day a.delivering in
    let to = c.home_of-to.ensures ∙ home_on a.index.now a.day a.receiving in
    rw (chain_fits a.steps.now K a.security a.delivering a.receiving size)
    (found_steps _ _ _ (omega arith) (chain_inside K a.security a.delivering a.receiving _ from (c.if-from-to.true ∙ to))
    (rw c.put_step.ensures.puts (holds_more size (omega arith) _ (omega arith) (holds_none a.steps.now))))

pub returns-in_err-route : goal.returns-in_err-route
unfolding chain
returns-in_err-route c =
    let a = c.args in
    let p = err_from_is_err_and c.from_residual.result c.from_residual.ensures.1 in
    rw (p.1, p.2, chain_fits a.steps.now (asked_on a.index.now a.day) a.security a.delivering a.receiving c.if-steps-ne-STEP_NUMBERS.false, ← home_on a.index.now a.day a.delivering, ← home_on a.index.now a.day a.receiving, ← c.home_of-from.ensures, ← c.home_of-to.ensures, ← c.in_err-route.ensures)
    (found_none a.steps.now _ c.in_err-route.field-0.0 refl)

pub returns : goal.returns
unfolding chain
returns c =
    let a = c.args in
    rw (chain_fits a.steps.now (asked_on a.index.now a.day) a.security a.delivering a.receiving c.if-steps-ne-STEP_NUMBERS.false, ← home_on a.index.now a.day a.delivering, ← home_on a.index.now a.day a.receiving, ← c.home_of-from.ensures, ← c.home_of-to.ensures, ← c.in_ok-route.ensures)
    c.steps_along.ensures
