-- The halves as they are given.
use mathlib.Core.Path.{◌∙◌}
use Rattle.rules.specs.Calls.{sided}
use Rattle.calls.proofs.chaining.settle_sided_reply.Goals as goal

pub settled-requires : goal.settled-requires
settled-requires c =
    let a = c.args in
    (sided a.first a.second, c.in_order-halves.ensures)

pub returns : goal.returns
returns c =
    let a = c.args in (
      c.replied.ensures ∙ c.settled.ensures.reply (sided a.first a.second) c.in_order-halves.ensures,
      c.settled.ensures.positions (sided a.first a.second) c.in_order-halves.ensures,
      c.settled.ensures.cash (sided a.first a.second) c.in_order-halves.ensures,
    )
