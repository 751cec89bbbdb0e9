-- 3 and 4 first; else what the stream's function answers and leaves over the index.
use mathlib.Core.Path.{refl}
use Rattle.std.proofs.lemmas.Result.{err_from_is_err_and}
use Rattle.rules.specs.Numbers.{number}
use Rattle.rules.proofs.Numbered.{number_ne0}
use Rattle.refusals.specs.Kept.{nothing_kept}
use Rattle.calls.proofs.Admitted.{admits, refuses}
use Rattle.booking.specs.Moves.{way_of}
use Rattle.calls.proofs.Decided.{movement_refused, movement_passed}
use Rattle.calls.proofs.moving.movement.Goals as goal

pub returns-in_err-admit-clause-answer : goal.returns-in_err-admit-clause-answer
returns-in_err-admit-clause-answer c =
    let a = c.args in
    let e = c.in_err-admit.field-0.0 in
    let p = err_from_is_err_and c.from_residual.result c.from_residual.ensures.1 in
    rw (p.1, p.2) (movement_refused a.directory a.positions.now (way_of a.way) a.account a.security a.quantity a.day (number e) nothing_kept (refuses e c.in_err-admit.ensures.number) (number_ne0 e)).0

pub returns-in_err-admit-clause-positions : goal.returns-in_err-admit-clause-positions
returns-in_err-admit-clause-positions c =
    let a = c.args in
    let e = c.in_err-admit.field-0.0 in
    (movement_refused a.directory a.positions.now (way_of a.way) a.account a.security a.quantity a.day (number e) nothing_kept (refuses e c.in_err-admit.ensures.number) (number_ne0 e)).1

pub returns-clause-answer : goal.returns-clause-answer
returns-clause-answer c =
    let a = c.args in
    (movement_passed a.directory a.positions.now (way_of a.way) a.account a.security a.quantity a.day 0 c.admit.new.kept (admits c.in_ok-admit.ensures.number c.in_ok-admit.ensures.keeps) refl _ _ c.move_securities.ensures.answer c.move_securities.ensures.positions).0

pub returns-clause-positions : goal.returns-clause-positions
returns-clause-positions c =
    let a = c.args in
    (movement_passed a.directory a.positions.now (way_of a.way) a.account a.security a.quantity a.day 0 c.admit.new.kept (admits c.in_ok-admit.ensures.number c.in_ok-admit.ensures.keeps) refl _ _ c.move_securities.ensures.answer c.move_securities.ensures.positions).1
