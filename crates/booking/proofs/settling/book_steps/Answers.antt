-- The positions are what the steps so far make of the positions at the start, and the next step has room.
use borrow.Author.Rules.{sfits_of}
use mathlib.Core.Path.{◌∙◌}
use native.Mathlib.Omega.{arith}
use mir.Facts.{to_z-of_z}
use mir.Syntax.{w64}
use mir.Val.{SFits}
use Rattle.booking.proofs.Listed.{booked_none, debit_room, credit_room, both_booked}
use Rattle.booking.proofs.settling.book_steps.Goals as goal

pub loop-done-init : goal.loop-done-init
loop-done-init g c =
    let a = c.args in
    let x = a.transfer in
    booked_none x.steps.now x.lot.security x.lot.quantity a.positions.now

pub add_at-requires : goal.add_at-requires
add_at-requires g c =
    let from = c.place-from in
    let to = c.place-to in
    let down = c.signed-down in
    let a = c.args in
    let x = a.transfer in
    let f : SFits w64 down.result = sfits_of down.type_inv in (
      λ stands. omega (arith, c.requires.1 stands c.loop-done.done (omega arith)),
      simp to_z-of_z (rw down.ensures (debit_room x.steps.now c.loop-done.done x.lot.security x.lot.quantity a.positions.now x.count c.requires.0 (omega arith)
          c.loop-done.positions c.loop-done.invariant from.result to.result from.ensures to.ensures)),
    )

pub add_at-requires-in-loop-done : goal.add_at-requires-in-loop-done
add_at-requires-in-loop-done g c =
    let to = c.place-to in
    let from = c.place-from in
    let up = c.signed-up in
    let down = c.signed-down in
    let a = c.args in
    let x = a.transfer in
    let f : SFits w64 down.result = sfits_of down.type_inv in
    let f' : SFits w64 up.result = sfits_of up.type_inv in
    let gave = simp down.ensures at (simp to_z-of_z at c.add_at.ensures) in (
      λ stands. omega (arith, c.add_at.auto.list, c.requires.1 stands c.loop-done.done (omega arith)),
      simp to_z-of_z (rw up.ensures (credit_room x.steps.now c.loop-done.done x.lot.security x.lot.quantity a.positions.now x.count c.requires.0 (omega arith)
          c.loop-done.positions c.loop-done.invariant from.result to.result from.ensures to.ensures c.add_at.new.list gave)),
    )

pub loop-done-preserved : goal.loop-done-preserved
loop-done-preserved g c =
    let to = c.place-to in
    let from = c.place-from in
    let up = c.signed-up in
    let down = c.signed-down in
    let a = c.args in
    let x = a.transfer in
    let f : SFits w64 down.result = sfits_of down.type_inv in
    let f' : SFits w64 up.result = sfits_of up.type_inv in
    let gave = simp down.ensures at (simp to_z-of_z at c.add_at.ensures) in
    let took = simp up.ensures at (simp to_z-of_z at c.add_at-in-loop-done.ensures) in
    took ∙ both_booked x.steps.now c.loop-done.done x.lot.security x.lot.quantity a.positions.now x.count c.requires.0 (omega arith)
    c.loop-done.positions c.loop-done.invariant from.result to.result from.ensures to.ensures c.add_at.new.list gave
