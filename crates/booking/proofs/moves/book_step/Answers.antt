-- What the step's tests found decides; where neither found anything, the step has room.
use Rattle.std.proofs.Common.{sym, ◌∙◌, false}
use Rattle.booking.proofs.Moved.{step_room}
use Rattle.booking.proofs.Refused.{book_open}
use Rattle.booking.proofs.moves.book_step.Goals as goal

pub move_units-requires : goal.move_units-requires
move_units-requires c =
    let judged = c.judge-judged in
    let a = c.args in
    let none = book_open judged.result.short false judged.result.beyond (sym c.in_ok-book_refusal.ensures) in
    (c.requires, step_room a.positions.now a.lot.security a.lot.quantity a.step c.requires (sym judged.ensures.beyond ∙ none.2))
