-- By the command's byte: the desk's move or payment of what its decoder reads, on the whole store.
use mathlib.Core.Path.{sym, ap, ◌∙◌}
use native.Mathlib.Omega.{arith}
use Rattle.rules.specs.Booking.{incoming, outgoing}
use Rattle.rules.specs.Calls.{move, pay}
use Rattle.rules.specs.Stream.{call_of}
use Rattle.wire.specs.declared.operands.Move.{Move}
use Rattle.wire.specs.declared.operands.Payment.{Payment}
use Rattle.wire.proofs.Decoded.{bring_in_call, take_out_call, pay_in_call, pay_out_call}
use Rattle.probe.proofs.Read.{move_tag}
use Rattle.probe.proofs.Moves.{moved, paid}
use Rattle.probe.proofs.boundary.movement.Goals as goal

pub returns-then-tag-eq-BRING_IN : goal.returns-then-tag-eq-BRING_IN
returns-then-tag-eq-BRING_IN c =
    let a = c.args in
    let x = c.decode_move-x in
    moved a.directory a.positions.now a.cash.now (call_of a.tag a.operands.now) c.bring_in.result c.bring_in.new.positions incoming
    x.result.account x.result.security x.result.quantity x.result.day
    (ap (λ (y : Move). move incoming y.account y.security y.quantity y.day) x.ensures ∙ sym (bring_in_call a.tag a.operands.now (omega arith))) c.bring_in.ensures

pub returns-then-tag-eq-TAKE_OUT : goal.returns-then-tag-eq-TAKE_OUT
returns-then-tag-eq-TAKE_OUT c =
    let a = c.args in
    let x = c.decode_move-x-then-tag-eq-TAKE_OUT in
    moved a.directory a.positions.now a.cash.now (call_of a.tag a.operands.now) c.take_out.result c.take_out.new.positions outgoing
    x.result.account x.result.security x.result.quantity x.result.day
    (ap (λ (y : Move). move outgoing y.account y.security y.quantity y.day) x.ensures ∙ sym (take_out_call a.tag a.operands.now (omega arith))) c.take_out.ensures

pub returns-then-tag-eq-PAY_IN : goal.returns-then-tag-eq-PAY_IN
returns-then-tag-eq-PAY_IN c =
    let a = c.args in
    let x = c.decode_payment-x in
    paid a.directory a.positions.now a.cash.now (call_of a.tag a.operands.now) c.pay_in.result c.pay_in.new.cash incoming
    x.result.account x.result.amount
    (ap (λ (y : Payment). pay incoming y.account y.amount) x.ensures ∙ sym (pay_in_call a.tag a.operands.now (omega arith))) c.pay_in.ensures

pub returns : goal.returns
returns c =
    let a = c.args in
    let t = move_tag a.tag c.requires in
    let x = c.decode_payment-x in
    paid a.directory a.positions.now a.cash.now (call_of a.tag a.operands.now) c.pay_out.result c.pay_out.new.cash outgoing
    x.result.account x.result.amount
    (ap (λ (y : Payment). pay outgoing y.account y.amount) x.ensures ∙ sym (pay_out_call a.tag a.operands.now (omega arith))) c.pay_out.ensures
