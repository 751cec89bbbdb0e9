-- Each refusal in turn decides as the definition has it; where none does, the steps and the payment judged are those booked.
use Rattle.std.proofs.Common.{refl, sym, ◌∙◌}
use Rattle.std.proofs.lemmas.Result.{err_from_is_err_and}
use Rattle.rules.specs.Numbers.{number}
use Rattle.rules.proofs.Numbered.{number_ne0, number_test}
use Rattle.index.specs.Asked.{asked_on}
use Rattle.chain.specs.StepList.{steps_in}
use Rattle.halves.proofs.Days.{halves_on}
use Rattle.halves.proofs.Ranges.{halves_ranged}
use Rattle.booking.proofs.Days.{book_on}
use Rattle.booking.proofs.Settled.{by_length, by_halves, by_chain, by_booking, done, booking_open}
use Rattle.booking.proofs.settling.settle.Goals as goal

pub returns-then-steps-ne-STEP_NUMBERS : goal.returns-then-steps-ne-STEP_NUMBERS
returns-then-steps-ne-STEP_NUMBERS c =
    let a = c.args in
    let h = a.halves in
    by_length (asked_on a.index.now a.day) a.positions.now a.cash.now h.delivering h.receiving h.unknown h.same a.steps.now c.if-steps-ne-STEP_NUMBERS.true

pub returns-in_err-halves_refusal : goal.returns-in_err-halves_refusal
returns-in_err-halves_refusal c =
    let a = c.args in
    let h = a.halves in
    let e = c.in_err-halves_refusal in
    let p = err_from_is_err_and c.from_residual.result c.from_residual.ensures.1 in
    rw (p.1, p.2)
    (by_halves (asked_on a.index.now a.day) a.positions.now a.cash.now h.delivering h.receiving h.unknown h.same a.steps.now c.if-steps-ne-STEP_NUMBERS.false
    _ (e.ensures ∙ halves_on a.index.now a.day h.delivering h.receiving h.unknown h.same) (number_ne0 e.field-0.0))

pub returns-in_err-count : goal.returns-in_err-count
returns-in_err-count c =
    let a = c.args in
    let h = a.halves in
    let e = c.in_err-count in
    let p = err_from_is_err_and c.from_residual-in_err-count.result c.from_residual-in_err-count.ensures.1 in
    rw (p.1, p.2)
    (by_chain (asked_on a.index.now a.day) a.positions.now a.cash.now h.delivering h.receiving h.unknown h.same a.steps.now c.if-steps-ne-STEP_NUMBERS.false
    (sym (c.in_ok-halves_refusal.ensures ∙ halves_on a.index.now a.day h.delivering h.receiving h.unknown h.same)) c.chain_of.new.steps e.field-0.0 e.ensures)

pub book_chain-requires : goal.book_chain-requires
book_chain-requires c =
    let a = c.args in
    let h = a.halves in
    let passed = sym (c.in_ok-halves_refusal.ensures ∙ halves_on a.index.now a.day h.delivering h.receiving h.unknown h.same) in
    let ranged = halves_ranged (asked_on a.index.now a.day) h.delivering h.receiving h.unknown h.same passed in
    (ranged.0, c.chain_of.auto.steps ∙ c.if-steps-ne-STEP_NUMBERS.false, c.in_ok-count.ensures.few)

pub returns-in_err-book_chain : goal.returns-in_err-book_chain
returns-in_err-book_chain c =
    let a = c.args in
    let h = a.halves in
    let found = c.in_ok-count in
    let e = c.in_err-book_chain in
    let p = err_from_is_err_and c.from_residual-in_err-book_chain.result c.from_residual-in_err-book_chain.ensures.1 in
    let left = rw (number_test e.field-0.0) at e.ensures.left in
    let xs = steps_in c.chain_of.new.steps found.count in
    rw (p.1, p.2, left)
    (by_booking (asked_on a.index.now a.day) a.positions.now a.cash.now h.delivering h.receiving h.unknown h.same a.steps.now c.if-steps-ne-STEP_NUMBERS.false
    (sym (c.in_ok-halves_refusal.ensures ∙ halves_on a.index.now a.day h.delivering h.receiving h.unknown h.same)) c.chain_of.new.steps found.count found.ensures
    (number e.field-0.0) (e.ensures.refusal ∙ book_on a.index.now a.day a.positions.now a.cash.now h.delivering h.receiving xs) (number_ne0 e.field-0.0))

pub pay-requires : goal.pay-requires
pay-requires c =
    let a = c.args in
    let h = a.halves in
    let K = asked_on a.index.now a.day in
    let passed = sym (c.in_ok-halves_refusal.ensures ∙ halves_on a.index.now a.day h.delivering h.receiving h.unknown h.same) in
    let ranged = halves_ranged K h.delivering h.receiving h.unknown h.same passed in
    let xs = steps_in c.chain_of.new.steps c.in_ok-count.count in
    let clear = c.in_ok-book_chain.ensures.refusal ∙ book_on a.index.now a.day a.positions.now a.cash.now h.delivering h.receiving xs in
    (ranged.1, (booking_open K a.positions.now a.cash.now h.delivering h.receiving h.unknown h.same xs (sym clear)).1)

pub returns : goal.returns
returns c =
    let a = c.args in
    let h = a.halves in
    let found = c.in_ok-count in
    let xs = steps_in c.chain_of.new.steps found.count in
    let booked = c.in_ok-book_chain.ensures in
    done (asked_on a.index.now a.day) a.positions.now a.cash.now h.delivering h.receiving h.unknown h.same a.steps.now c.if-steps-ne-STEP_NUMBERS.false
    (sym (c.in_ok-halves_refusal.ensures ∙ halves_on a.index.now a.day h.delivering h.receiving h.unknown h.same)) c.chain_of.new.steps found.count found.ensures
    0 (booked.refusal ∙ book_on a.index.now a.day a.positions.now a.cash.now h.delivering h.receiving xs) refl
    c.book_chain.new.positions c.pay.new.cash booked.left c.pay.ensures
