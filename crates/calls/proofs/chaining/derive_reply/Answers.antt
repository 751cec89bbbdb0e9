-- The halves as they are given.
use mathlib.Core.Path.{◌∙◌}
use Rattle.rules.specs.Calls.{ordered}
use Rattle.calls.proofs.chaining.derive_reply.Goals as goal

pub derived-requires : goal.derived-requires
derived-requires c =
    let a = c.args in
    (ordered a.delivering a.receiving, c.delivering_first-halves.ensures)

pub returns : goal.returns
returns c =
    let a = c.args in
    c.replied.ensures ∙ c.derived.ensures (ordered a.delivering a.receiving) c.delivering_first-halves.ensures
