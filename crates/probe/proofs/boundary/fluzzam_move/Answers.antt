-- 1280, 1 and 2 by the tests; then what the movement answers and leaves.
use mathlib.Core.Path.{refl, ap}
use Prim.Native.Nat.{ℕ}
use native.Mathlib.Omega.{arith}
use Rattle.rules.specs.Numbers.{number}
use Rattle.rules.proofs.Numbered.{number_ne0}
use lib.ListN.{take}
use Rattle.probe.proofs.Exported.{move_unread, moved}
use Rattle.probe.proofs.boundary.fluzzam_move.Goals as goal

pub returns-in-Err : goal.returns-in-Err
returns-in-Err c =
    let a = c.args in
    let m = rw c.is_move.ensures at c.in-Err.ensures in
    move_unread a.counts.now a.rows.now (omega (arith, c.if-counts-ne-COUNTS.false)) (omega (arith, c.if-rows-ne-ROWS.false)) a.positions.now a.cash.now a.tag a.bytes.now (number c.in-Err.refusal) m (number_ne0 c.in-Err.refusal) c.refused.result c.refused.ensures

pub returns : goal.returns
returns c =
    let a = c.args in
    let m = rw c.is_move.ensures at c.in_default.ensures in
    let d = c.read_directory-directory in
    let r = c.movement in
    moved a.counts.now a.rows.now (omega (arith, c.if-counts-ne-COUNTS.false)) (omega (arith, c.if-rows-ne-ROWS.false)) d.result d.ensures a.positions.now a.cash.now a.tag a.bytes.now 0 m refl _ (ap (λ (n : ℕ). take n a.bytes.now) c.width-end.ensures)
    r.result c.code_of.result r.new.positions r.new.cash r.ensures c.code_of.ensures
