-- `stream::run` meets its contract: the text so far, followed by the lines of the rest, is the whole text. Assumes nothing.
use Rattle.stream.proofs.Going.{running_start, runs_on, less_left, prints_all, prints_long, refuses_short}
use Rattle.stream.proofs.run.Goals as goal

pub returns-then-output-lt-ROOM : goal.returns-then-output-lt-ROOM
returns-then-output-lt-ROOM c = let a = c.args in refuses_short a.input.now a.output.now c.if-output-lt-ROOM.true

pub returns-then-input-gt-INPUT : goal.returns-then-input-gt-INPUT
returns-then-input-gt-INPUT c =
    let a = c.args in
    prints_long a.input.now a.output.now _ _ c.if-input-gt-INPUT.true c.if-output-lt-ROOM.false c.put_word.ensures

pub loop-at-init : goal.loop-at-init
loop-at-init c = let a = c.args in rw c.nothing-held.ensures (running_start a.input.now a.output.now)

pub loop-at-smaller : goal.loop-at-smaller
loop-at-smaller c =
    let t = c.take_turn-turn in
    let r = c.loop-at.invariant in
    less_left _ _ _ _ _ _ _ r c.if-input-gt-INPUT.false c.if-output-lt-ROOM.false c.loop-at-test.true _ t.result _ (t.ensures r.store r.holds)

pub loop-at-preserved : goal.loop-at-preserved
loop-at-preserved c =
    let t = c.take_turn-turn in
    let r = c.loop-at.invariant in
    runs_on _ _ _ _ _ _ _ r c.if-input-gt-INPUT.false c.if-output-lt-ROOM.false c.loop-at-test.true _ t.result _ (t.ensures r.store r.holds)

pub returns : goal.returns
returns c =
    prints_all _ _ _ _ _ _ _ c.loop-at.invariant c.if-input-gt-INPUT.false c.if-output-lt-ROOM.false c.loop-at-test.false _ _ c.put_ending.ensures
