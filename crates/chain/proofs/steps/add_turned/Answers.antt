-- The loop's invariant: what adds the steps ahead, turned, adds the whole side turned.
use native.Mathlib.Omega.{arith}
use lib.ListN.{length-append}
use borrow.Author.Rules.{rules}
use Rattle.rules.specs.declared.Step.{Step}
use Rattle.chain.proofs.Putting.{turns_one, turns_none}
use Rattle.chain.proofs.steps.add_turned.Goals as goal

pub loop-step-preserved : goal.loop-step-preserved
loop-step-preserved c =
    let l = c.loop-step in
    let a = c.args in
    let put = c.put_step.ensures in
    let back = c.in-Some.ensures.steps in
    let room = rw back at l.invariant.room in
    record {
      iterates = search rules;
      room = omega (arith, length-append {A = Step});
      turns =
          turns_one a.side.now a.steps.now a.count _ l.n l.steps _ c.in-Some.step.now
          (omega (arith, length-append {A = Step})) (rw c.flipped.ensures at put.byte) (rw (← c.flipped.ensures) put.puts) (rw back at l.invariant.turns);
    }

pub returns-clause-adds : goal.returns-clause-adds
returns-clause-adds c =
    let l = c.loop-step in
    let a = c.args in
    turns_none a.side.now a.steps.now a.count _ l.n l.steps c.in-None.ensures.steps.0 l.invariant.turns
