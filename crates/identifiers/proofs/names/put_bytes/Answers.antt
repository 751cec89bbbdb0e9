-- The loop's invariant: the bytes ahead put into the list as it is make the list that is due.
use mathlib.Core.Path.{sym, ◌∙◌}
use Rattle.identifiers.proofs.Laws.{bytes_next, bytes_ended}
use Rattle.identifiers.proofs.names.put_bytes.Goals as goal

pub loop-i-preserved : goal.loop-i-preserved
loop-i-preserved c =
    let a = c.args in
    rw c.put_byte.ensures (bytes_next a.bytes.now c.loop-i.names a.place c.loop-i.i c.loop-i-test.true ∙ c.loop-i.invariant)

pub returns : goal.returns
returns c =
    let a = c.args in
    sym (bytes_ended a.bytes.now c.loop-i.names a.place c.loop-i.i c.loop-i.auto.i-end c.loop-i-test.false) ∙ c.loop-i.invariant
