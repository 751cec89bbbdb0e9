-- `stream::lines::put_short_steps` meets its contract: so far the lines of the first steps are appended, and there is room for the others. Assumes nothing.
use mathlib.Core.Path.{refl, ◌∙◌}
use native.Mathlib.Omega.{arith}
use Rattle.rules.specs.Stream.{step_lines}
use Rattle.chain.specs.StepList.{steps_in}
use Rattle.text.proofs.Appends.{no_bytes}
use Rattle.stream.proofs.Telling.{step_more}
use Rattle.stream.proofs.lines.put_short_steps.Goals as goal

pub loop-i-init : goal.loop-i-init
unfolding step_lines steps_in
loop-i-init c = (refl, no_bytes _ _ _ (omega arith), omega arith)

pub loop-i-preserved : goal.loop-i-preserved
loop-i-preserved c =
    let l = c.loop-i in
    let put = c.put_step_by-end.ensures.0 in (
      put.same ∙ l.invariant.0,
      step_more c.args.steps.now l.i _ c.step_at.ensures l.invariant.1 put,
      omega (arith, put.same),
    )
