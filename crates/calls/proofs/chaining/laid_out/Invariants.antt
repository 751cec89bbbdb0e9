-- The first i steps are stored on blank rows.
use mathlib.Core.Path.{◌≡◌}
use Rattle.rules.specs.Chain.{step_limit}
use Rattle.chain.specs.StepList.{step_at}
use Rattle.rules.specs.Outcomes.{blanks}
use Rattle.calls.proofs.Stored.{stored}
use Rattle.calls.proofs.chaining.laid_out.Given as goal

abbrev pub invariant-loop-i : goal.invariant-loop-i
invariant-loop-i l = l.rows ≡ stored (step_at l.numbers) l.i (blanks step_limit)
