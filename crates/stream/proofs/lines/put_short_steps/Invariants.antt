-- `stream::lines::put_short_steps` meets its contract: so far the lines of the first steps are appended, and there is room for the others. Assumes nothing.
use mathlib.Core.Path.{◌≡◌}
use Prim.Native.Nat.{◌+◌, ◌*◌, ◌-◌, ◌≤◌}
use lib.ListN.{length}
use Rattle.rules.specs.Stream.{step_lines}
use Rattle.chain.specs.StepList.{steps_in}
use Rattle.text.specs.Appended.{Appended}
use Rattle.stream.proofs.lines.put_short_steps.Given as goal

abbrev pub invariant-loop-i : goal.invariant-loop-i
invariant-loop-i l =
    (length l.out ≡ length l.initial.out) × Appended l.initial.out l.at l.out l.end (step_lines (steps_in l.steps l.i)) × (l.end + 20 * (l.k - l.i) ≤ length l.out)
