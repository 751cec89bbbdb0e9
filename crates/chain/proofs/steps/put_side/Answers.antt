-- The loop's invariant: the first i steps of the side are put.
use native.Mathlib.Omega.{arith}
use lib.ListN.{take}
use Rattle.std.proofs.lemmas.List.{take_more}
use Rattle.rules.specs.Chain.{step}
use Rattle.chain.proofs.Putting.{adds_more}
use Rattle.chain.proofs.steps.put_side.Goals as goal

pub loop-i-preserved : goal.loop-i-preserved
loop-i-preserved c =
    let l = c.loop-i in
    let put = c.put_step.ensures in
    let side = c.args.side.now in
    rw (take_more side l.i (step 0 0 0) c.loop-i-test.true)
    (adds_more c.args.steps.now l.steps _ 0 l.i (take l.i side) _ (omega (arith, c.requires)) put.byte put.puts l.invariant)
