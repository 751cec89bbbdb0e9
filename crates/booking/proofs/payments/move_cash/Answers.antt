-- Refused, the call leaves what it was lent; else the balance changes by what was judged.
use borrow.Author.Rules.{sfits_of}
use mathlib.Core.Path.{sym, ◌∙◌}
use mir.Facts.{to_z-of_z}
use mir.Syntax.{w64}
use mir.Val.{SFits}
use Rattle.std.proofs.lemmas.Result.{err_from_is_err_and}
use Rattle.rules.specs.Booking.{payment}
use Rattle.index.specs.Asked.{asked}
use Rattle.booking.specs.Moves.{way_of}
use Rattle.booking.proofs.Paid.{cash_fits, payment_signed, pay_refused, pay_done}
use Rattle.booking.proofs.Refused.{pay_open}
use Rattle.booking.proofs.payments.move_cash.Goals as goal

pub returns-in_err-pay_refusal : goal.returns-in_err-pay_refusal
returns-in_err-pay_refusal c =
    let a = c.args in
    let p = err_from_is_err_and c.from_residual.result c.from_residual.ensures.1 in
    let r = pay_refused (asked a.index.now) a.cash.now (way_of a.way) a.account a.amount c.in_err-pay_refusal.field-0.0 c.in_err-pay_refusal.ensures in
    rw (p.1, p.2) (record { answer = r.0; cash = r.1 })

pub add_cents-requires : goal.add_cents-requires
add_cents-requires c =
    let a = c.args in
    let f : SFits w64 c.signed.result = sfits_of c.signed.type_inv in
    let within = (pay_open (asked a.index.now) a.cash.now (way_of a.way) a.account a.amount (sym c.in_ok-pay_refusal.ensures)).1 in
    let fits = cash_fits a.cash.now a.account (payment (way_of a.way) a.amount) within in
    simp to_z-of_z (rw c.signed.ensures (rw (← payment_signed (way_of a.way) a.amount) at fits))

pub returns : goal.returns
returns c =
    let a = c.args in
    let f : SFits w64 c.signed.result = sfits_of c.signed.type_inv in
    let added = simp (c.signed.ensures, payment_signed) at (simp to_z-of_z at c.add_cents.ensures) in
    let r = pay_done (asked a.index.now) a.cash.now (way_of a.way) a.account a.amount c.in_ok-pay_refusal.ensures in
    record { answer = r.0; cash = added ∙ r.1 }
