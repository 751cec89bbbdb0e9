-- 3 and 4 first; else the stream's derivation, its steps laid out.
use mathlib.Core.Path.{refl}
use Rattle.std.proofs.lemmas.Result.{err_from_is_err_and}
use Rattle.rules.specs.Numbers.{number}
use Rattle.rules.proofs.Numbered.{number_ne0}
use Rattle.rules.specs.Outcomes.{derivation_on, blanks}
use Rattle.refusals.specs.Kept.{nothing_kept}
use Rattle.calls.proofs.Admitted.{admits, refuses}
use Rattle.chain.proofs.Deriving.{handed_in_order, handed_derives}
use Rattle.calls.proofs.Decided.{refusal_replied, derivation_refused, derivation_few, derivation_answered, derivation_passed}
use Rattle.calls.proofs.chaining.derived.Goals as goal

pub returns-in_err-admit : goal.returns-in_err-admit
returns-in_err-admit c =
    let a = c.args in
    λ hs e.
    let n = c.in_err-admit.field-0.0 in
    let p = err_from_is_err_and c.from_residual.result c.from_residual.ensures.1 in
    rw (p.1, p.2) (derivation_refused a.directory a.lent hs a.day (number n) nothing_kept (refuses n c.in_err-admit.ensures.number) (number_ne0 n))

pub returns-in_err-count : goal.returns-in_err-count
returns-in_err-count c =
    let a = c.args in
    λ hs e.
    let p = err_from_is_err_and c.from_residual-in_err-count.result c.from_residual-in_err-count.ensures.1 in
    rw (p.1, p.2)
    (refusal_replied (derivation_on a.directory (blanks a.lent) hs a.day) (number c.in_err-count.field-0.0)
    (derivation_answered a.directory a.lent hs a.day 0 c.admit.new.kept (admits c.in_ok-admit.ensures.number c.in_ok-admit.ensures.keeps) refl _ _
    (handed_derives (handed_in_order hs a.halves e) _ _ _ _ c.in_err-count.ensures)))

pub laid_out-requires : goal.laid_out-requires
laid_out-requires c =
    let a = c.args in
    derivation_few a.directory a.lent c.requires.0 a.day 0 c.admit.new.kept (admits c.in_ok-admit.ensures.number c.in_ok-admit.ensures.keeps) refl _ _
    (handed_derives (handed_in_order c.requires.0 a.halves c.requires.1) _ _ _ _ c.in_ok-count.ensures)

pub returns : goal.returns
returns c =
    let a = c.args in
    λ hs e.
    rw c.laid_out.ensures
    (derivation_passed a.directory a.lent hs a.day 0 c.admit.new.kept (admits c.in_ok-admit.ensures.number c.in_ok-admit.ensures.keeps) refl _ _
    (handed_derives (handed_in_order hs a.halves e) _ _ _ _ c.in_ok-count.ensures))
