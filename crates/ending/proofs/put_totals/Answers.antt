-- The loop's invariant: the lines of the securities passed stand there.
use mathlib.Core.Path.{◌≡◌, ap, ◌∙◌}
use native.Mathlib.Omega.{arith}
use Rattle.text.proofs.Appends.{no_bytes, then, named}
use Rattle.ending.specs.Ending.{totals_in, securities_in}
use Rattle.ending.proofs.Totals.{counted, units_or, total_told}
use Rattle.ending.proofs.put_totals.Goals as goal

pub loop-security-init : goal.loop-security-init
unfolding totals_in
loop-security-init c = no_bytes _ _ _ c.min-end.ensures

pub loop-security-preserved : goal.loop-security-preserved
loop-security-preserved c =
    let l = c.loop-security in
    let a = c.args in
    let sum = c.unwrap_or-sum.ensures ∙ units_or _ _ c.security_total.ensures in
    named (total_told a.kept.now a.positions.now l.security _ _ c.isin_of-isin.ensures sum) (then l.invariant c.put_total-end.ensures)

pub returns : goal.returns
returns c =
    let l = c.loop-security in
    let a = c.args in
    let all : l.security ≡ securities_in a.kept.now.numbers = omega (arith, counted a.kept.now.numbers, c.min-count.ensures, c.from.ensures, c.entry.ensures, l.auto.security-end, c.loop-security-test.false) in
    named (ap (totals_in a.kept.now a.positions.now) all) l.invariant
