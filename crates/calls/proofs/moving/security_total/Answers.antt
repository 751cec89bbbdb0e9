-- 3 and 4 first; else the sum of participant positions.
use mathlib.Core.Path.{refl, ◌∙◌}
use Rattle.std.proofs.lemmas.Result.{err_from_is_err_and}
use Rattle.rules.specs.Numbers.{number}
use Rattle.rules.proofs.Numbered.{number_ne0}
use Rattle.refusals.specs.Kept.{nothing_kept}
use Rattle.calls.proofs.Admitted.{admits, refuses}
use Rattle.calls.proofs.Decided.{total_refused, total_passed}
use Rattle.calls.proofs.moving.security_total.Goals as goal

pub returns-in_err-admit : goal.returns-in_err-admit
returns-in_err-admit c =
    let a = c.args in
    let e = c.in_err-admit.field-0.0 in
    let p = err_from_is_err_and c.from_residual.result c.from_residual.ensures.1 in
    rw (p.1, p.2) (total_refused a.directory a.positions.now a.security (number e) nothing_kept (refuses e c.in_err-admit.ensures.number) (number_ne0 e))

pub returns : goal.returns
returns c =
    let a = c.args in
    c.security_total.ensures ∙ total_passed a.directory a.positions.now a.security 0 c.admit.new.kept (admits c.in_ok-admit.ensures.number c.in_ok-admit.ensures.keeps) refl
