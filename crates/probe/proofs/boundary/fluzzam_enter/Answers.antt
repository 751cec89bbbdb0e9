-- 1280, 1 and 2 by the tests; then what the entry answers, and what is written where it is accepted.
use mathlib.Core.Bool.{not}
use mathlib.Core.Path.{refl, sym, ap, ◌∙◌}
use Prim.Native.Nat.{ℕ}
use native.Mathlib.Omega.{arith}
use Rattle.rules.specs.Numbers.{number}
use Rattle.rules.proofs.Numbered.{number_ne0}
use lib.ListN.{take}
use Rattle.rules.proofs.Basics.{unnot, unnot_false}
use Rattle.probe.proofs.Exported.{entry_unread, entry_refused, entry_accepted}
use Rattle.probe.proofs.boundary.fluzzam_enter.Goals as goal

pub returns-in-Err : goal.returns-in-Err
returns-in-Err c =
    let a = c.args in
    let m = rw c.is_entry.ensures at c.in-Err.ensures in
    entry_unread a.counts.now a.rows.now (omega (arith, c.if-counts-ne-COUNTS.false)) (omega (arith, c.if-rows-ne-ROWS.false)) a.tag a.bytes.now (number c.in-Err.refusal) m (number_ne0 c.in-Err.refusal) c.refused.result c.refused.ensures

pub returns-then-not-accepted : goal.returns-then-not-accepted
returns-then-not-accepted c =
    let a = c.args in
    let m = rw c.is_entry.ensures at c.in_default.ensures in
    let d = c.read_directory-directory in
    let r = c.entry-entered in
    entry_refused a.counts.now a.rows.now (omega (arith, c.if-counts-ne-COUNTS.false)) (omega (arith, c.if-rows-ne-ROWS.false)) d.result d.ensures a.tag a.bytes.now 0 m refl _ (ap (λ (n : ℕ). take n a.bytes.now) c.width-end.ensures) r.result r.ensures
    (sym c.accepted.ensures ∙ unnot _ (ap not c.if-not-accepted.true)) c.code_of.result c.code_of.ensures

pub returns : goal.returns
returns c =
    let a = c.args in
    let m = rw c.is_entry.ensures at c.in_default.ensures in
    let d = c.read_directory-directory in
    let r = c.entry-entered in
    let n = c.write_counts in
    let b = c.write_rows in
    entry_accepted a.counts.now a.rows.now (omega (arith, c.if-counts-ne-COUNTS.false)) (omega (arith, c.if-rows-ne-ROWS.false)) d.result d.ensures a.tag a.bytes.now 0 m refl _ (ap (λ (n : ℕ). take n a.bytes.now) c.width-end.ensures) r.result r.ensures
    (sym c.accepted.ensures ∙ unnot_false _ (ap not c.if-not-accepted.false)) c.code_of-2.result n.new.counts b.new.bytes c.code_of-2.ensures n.ensures b.ensures
