-- The two changes of a payment have room where 22 lets it pass.
use borrow.Author.Tests.{ne_eqb}
use borrow.Author.Rules.{sfits_of}
use mir.Facts.{to_z-of_z}
use mir.Syntax.{w64}
use mir.Val.{SFits}
use Rattle.booking.proofs.Paid.{cash_fits, both_within, payee_fits}
use Rattle.rules.specs.Booking.{cents, less_cents}
use Rattle.booking.proofs.cash.pay.Goals as goal

pub add_cents-requires : goal.add_cents-requires
add_cents-requires c =
    let down = c.signed in
    let a = c.args in
    let f : SFits w64 down.result = sfits_of down.type_inv in
    simp to_z-of_z (rw down.ensures (cash_fits a.cash.now a.payment.payer (less_cents (cents a.payment.amount))
    (both_within a.cash.now a.payment.payer a.payment.payee a.payment.amount (ne_eqb a.payment.amount 0 c.if-payment-eq0.false) c.requires.1).0))

pub add_cents-requires-2 : goal.add_cents-requires-2
add_cents-requires-2 c =
    let up = c.signed-2 in
    let down = c.signed in
    let a = c.args in
    let f : SFits w64 down.result = sfits_of down.type_inv in
    let g : SFits w64 up.result = sfits_of up.type_inv in
    let between = simp down.ensures at (simp to_z-of_z at c.add_cents.ensures) in
    simp to_z-of_z (rw (between, up.ensures)
    (payee_fits a.cash.now a.payment.payer a.payment.payee a.payment.amount (ne_eqb a.payment.amount 0 c.if-payment-eq0.false) c.requires.0 c.requires.1))
