-- The loop's invariant: the steps put, before the climb of the CSDs ahead, are the whole climb.
use mathlib.Core.Path.{sym, ◌∙◌}
use native.Mathlib.Omega.{arith}
use lib.ListN.{take, length-drop}
use borrow.Author.Rules.{rules}
use Rattle.std.specs.Slice.Iter.{windows_rest}
use Rattle.std.proofs.lemmas.List.{take_more_set}
use Rattle.index.specs.Asked.{asked}
use Rattle.index.proofs.Found.{pair_row_lem, pair_missing}
use Rattle.walks.specs.Sides.{named}
use Rattle.chain.proofs.Climbing.{climb_ends, climb_fails, climb_goes_on}
use Rattle.chain.proofs.climbed.Climbed.climb.Goals as goal

pub returns-in_default-clause-climbed : goal.returns-in_default-clause-climbed
returns-in_default-clause-climbed c =
    let l = c.loop-two in
    let a = c.args in
    let next = rw l.invariant.two at c.in-Some.ensures.steps in
    let gone = pair_missing _ (sym c.pair_of.ensures ∙ c.in_default.is) in
    climb_fails (asked a.index.now) (named a.side.now) a.account (take l.count l.steps) (windows_rest l.two-iterator) _ l.at l.invariant.climbs next.1.0 next.1.1 gone

pub loop-two-preserved : goal.loop-two-preserved
loop-two-preserved c =
    let l = c.loop-two in
    let a = c.args in
    let next = rw l.invariant.two at c.in-Some.ensures.steps in
    let row = pair_row_lem _ _ (sym c.pair_of.ensures ∙ c.in-Some-pair_of.is) in
    record {
      iterates = search rules;
      two = next.0;
      few = omega arith;
      room = rw next.1.2 (omega (arith, length-drop 1 (windows_rest l.two-iterator)));
      size = search rules;
      climbs =
          rw next.1.2
          (climb_goes_on (asked a.index.now) (named a.side.now) a.account (take l.count l.steps) _ (windows_rest l.two-iterator) _ l.at _ l.invariant.climbs next.1.0 next.1.1 row
          (take_more_set l.steps l.count _ (omega arith)));
    }

pub returns-clause-climbed : goal.returns-clause-climbed
returns-clause-climbed c =
    let l = c.loop-two in
    let a = c.args in
    let ended = rw l.invariant.two at c.in-None.ensures.steps in
    climb_ends (asked a.index.now) (named a.side.now) a.account (take l.count l.steps) (windows_rest l.two-iterator) l.at l.invariant.climbs ended.1.0
