-- The steps stand at the front, and the rest is as before.
use native.Mathlib.Omega.{arith}
use native.Mathlib.Nat.{sub-zero}
use mathlib.Core.Path.{◌∙◌}
use Rattle.layout.proofs.Bytes.{steps_done, steps_fit_lem}
use Rattle.layout.proofs.write_steps.Goals as goal

pub returns-then-rows-bytes : goal.returns-then-rows-bytes
returns-then-rows-bytes c =
    let a = c.args in
    let lent = c.in-Some.ensures.lookup.0 in
    steps_done _ a.bytes.now _ c.put_rows.ensures ∙ rw (lent.2, sub-zero) (steps_fit_lem a.steps a.bytes.now (omega (arith, lent)) (omega (arith, lent)))
