-- 1280 and 2 by the tests; then what the derivation answers and leaves.
use mathlib.Core.Path.{refl, ap}
use Prim.Native.Nat.{ℕ}
use native.Mathlib.Omega.{arith}
use lib.ListN.{take}
use Rattle.wire.specs.Operands.{halves_in, day_in}
use Rattle.probe.proofs.Exported.{derive_cut, derived}
use Rattle.probe.proofs.boundary.derive.Goals as goal

pub returns-then-bytes-end : goal.returns-then-bytes-end
returns-then-bytes-end c =
    let a = c.args in
    derive_cut a.counts.now a.rows.now (omega (arith, c.if-counts-ne-COUNTS.false)) (omega (arith, c.if-rows-ne-ROWS.false)) a.tag a.bytes.now a.steps.now
    (omega (arith, c.if-bytes-end.true, c.width-end.ensures)) c.refused.result c.refused.ensures

pub returns : goal.returns
returns c =
    let w = c.replied in
    let r = c.derived-reply in
    let d = c.read_directory-directory in
    let a = c.args in
    derived a.counts.now a.rows.now (omega (arith, c.if-counts-ne-COUNTS.false)) (omega (arith, c.if-rows-ne-ROWS.false)) d.result d.ensures a.tag a.bytes.now a.steps.now
    (omega (arith, c.if-bytes-end.false, c.width-end.ensures)) _ (ap (λ (m : ℕ). take m a.bytes.now) c.width-end.ensures) (halves_in a.tag (take c.width-end.result a.bytes.now)) refl
    (day_in a.tag (take c.width-end.result a.bytes.now)) refl
    r.result w.result w.new.steps w.ensures c.requires r.ensures
