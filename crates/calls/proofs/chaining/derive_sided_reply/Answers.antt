-- The halves as they are given.
use mathlib.Core.Path.{◌∙◌}
use Rattle.rules.specs.Calls.{sided}
use Rattle.calls.proofs.chaining.derive_sided_reply.Goals as goal

pub derived-requires : goal.derived-requires
derived-requires c =
    let a = c.args in
    (sided a.first a.second, c.in_order-pair.ensures)

pub returns : goal.returns
returns c =
    let a = c.args in
    c.replied.ensures ∙ c.derived.ensures (sided a.first a.second) c.in_order-pair.ensures
