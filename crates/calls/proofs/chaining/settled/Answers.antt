-- 3 and 4 first; else the stream's settlement, its steps laid out.
use mathlib.Core.Path.{refl}
use Rattle.std.proofs.lemmas.Result.{err_from_is_err_and}
use Rattle.rules.specs.Numbers.{number}
use Rattle.rules.proofs.Numbered.{number_ne0}
use Rattle.rules.specs.Outcomes.{settlement_on, blanks}
use Rattle.refusals.specs.Kept.{nothing_kept}
use Rattle.calls.proofs.Admitted.{admits, refuses}
use Rattle.chain.proofs.Deriving.{handed_in_order}
use Rattle.booking.proofs.Settled.{handed_settles}
use Rattle.calls.proofs.Decided.{refusal_replied, settlement_refused, settlement_few, settlement_answered, settlement_passed}
use Rattle.calls.proofs.chaining.settled.Goals as goal

pub returns-in_err-admit-clause-reply : goal.returns-in_err-admit-clause-reply
returns-in_err-admit-clause-reply c =
    let a = c.args in
    λ hs e.
    let n = c.in_err-admit.field-0.0 in
    let p = err_from_is_err_and c.from_residual.result c.from_residual.ensures.1 in
    rw (p.1, p.2) (settlement_refused a.directory a.positions.now a.cash.now a.lent hs a.day (number n) nothing_kept (refuses n c.in_err-admit.ensures.number) (number_ne0 n)).0

pub returns-in_err-admit-clause-positions : goal.returns-in_err-admit-clause-positions
returns-in_err-admit-clause-positions c =
    let a = c.args in
    λ hs e.
    let n = c.in_err-admit.field-0.0 in
    (settlement_refused a.directory a.positions.now a.cash.now a.lent hs a.day (number n) nothing_kept (refuses n c.in_err-admit.ensures.number) (number_ne0 n)).1

pub returns-in_err-admit-clause-cash : goal.returns-in_err-admit-clause-cash
returns-in_err-admit-clause-cash c =
    let a = c.args in
    λ hs e.
    let n = c.in_err-admit.field-0.0 in
    (settlement_refused a.directory a.positions.now a.cash.now a.lent hs a.day (number n) nothing_kept (refuses n c.in_err-admit.ensures.number) (number_ne0 n)).2

pub returns-in_err-count-clause-reply : goal.returns-in_err-count-clause-reply
returns-in_err-count-clause-reply c =
    let a = c.args in
    λ hs e.
    let p = err_from_is_err_and c.from_residual-in_err-count.result c.from_residual-in_err-count.ensures.1 in
    rw (p.1, p.2)
    (refusal_replied (settlement_on a.directory a.positions.now a.cash.now (blanks a.lent) hs a.day) (number c.in_err-count.field-0.0)
    (settlement_answered a.directory a.positions.now a.cash.now a.lent hs a.day 0 c.admit.new.kept (admits c.in_ok-admit.ensures.number c.in_ok-admit.ensures.keeps) refl _ _ _ _
    (handed_settles (handed_in_order hs a.halves e) _ _ _ _ _ _ _ _ c.in_err-count.ensures)))

pub returns-in_err-count-clause-positions : goal.returns-in_err-count-clause-positions
returns-in_err-count-clause-positions c =
    let a = c.args in
    λ hs e.
    (settlement_passed a.directory a.positions.now a.cash.now a.lent hs a.day 0 c.admit.new.kept (admits c.in_ok-admit.ensures.number c.in_ok-admit.ensures.keeps) refl _ _ _ _
    (handed_settles (handed_in_order hs a.halves e) _ _ _ _ _ _ _ _ c.in_err-count.ensures)).1

pub returns-in_err-count-clause-cash : goal.returns-in_err-count-clause-cash
returns-in_err-count-clause-cash c =
    let a = c.args in
    λ hs e.
    (settlement_passed a.directory a.positions.now a.cash.now a.lent hs a.day 0 c.admit.new.kept (admits c.in_ok-admit.ensures.number c.in_ok-admit.ensures.keeps) refl _ _ _ _
    (handed_settles (handed_in_order hs a.halves e) _ _ _ _ _ _ _ _ c.in_err-count.ensures)).2

pub laid_out-requires : goal.laid_out-requires
laid_out-requires c =
    let a = c.args in
    settlement_few a.directory a.positions.now a.cash.now a.lent c.requires.0 a.day 0 c.admit.new.kept (admits c.in_ok-admit.ensures.number c.in_ok-admit.ensures.keeps) refl _ _ _ _
    (handed_settles (handed_in_order c.requires.0 a.halves c.requires.1) _ _ _ _ _ _ _ _ c.in_ok-count.ensures)

pub returns-clause-reply : goal.returns-clause-reply
returns-clause-reply c =
    let a = c.args in
    λ hs e.
    rw c.laid_out.ensures
    (settlement_passed a.directory a.positions.now a.cash.now a.lent hs a.day 0 c.admit.new.kept (admits c.in_ok-admit.ensures.number c.in_ok-admit.ensures.keeps) refl _ _ _ _
    (handed_settles (handed_in_order hs a.halves e) _ _ _ _ _ _ _ _ c.in_ok-count.ensures)).0

pub returns-clause-positions : goal.returns-clause-positions
returns-clause-positions c =
    let a = c.args in
    λ hs e.
    (settlement_passed a.directory a.positions.now a.cash.now a.lent hs a.day 0 c.admit.new.kept (admits c.in_ok-admit.ensures.number c.in_ok-admit.ensures.keeps) refl _ _ _ _
    (handed_settles (handed_in_order hs a.halves e) _ _ _ _ _ _ _ _ c.in_ok-count.ensures)).1

pub returns-clause-cash : goal.returns-clause-cash
returns-clause-cash c =
    let a = c.args in
    λ hs e.
    (settlement_passed a.directory a.positions.now a.cash.now a.lent hs a.day 0 c.admit.new.kept (admits c.in_ok-admit.ensures.number c.in_ok-admit.ensures.keeps) refl _ _ _ _
    (handed_settles (handed_in_order hs a.halves e) _ _ _ _ _ _ _ _ c.in_ok-count.ensures)).2
