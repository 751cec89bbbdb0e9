-- The first i steps are stored on blank rows.
use native.Mathlib.Omega.{arith}
use Rattle.calls.proofs.Stored.{laid}
use Rattle.calls.proofs.chaining.laid_out.Goals as goal

pub returns : goal.returns
returns c =
    let a = c.args in
    laid a.numbers.now c.loop-i.rows c.loop-i.i a.n c.loop-i.invariant (omega arith) (omega arith) (omega arith)
