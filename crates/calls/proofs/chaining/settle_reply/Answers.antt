-- The halves as they are given.
use mathlib.Core.Path.{◌∙◌}
use Rattle.rules.specs.Calls.{ordered}
use Rattle.calls.proofs.chaining.settle_reply.Goals as goal

pub settled-requires : goal.settled-requires
settled-requires c =
    let a = c.args in
    (ordered a.delivering a.receiving, c.delivering_first-halves.ensures)

pub returns : goal.returns
returns c =
    let a = c.args in (
      c.replied.ensures ∙ c.settled.ensures.reply (ordered a.delivering a.receiving) c.delivering_first-halves.ensures,
      c.settled.ensures.positions (ordered a.delivering a.receiving) c.delivering_first-halves.ensures,
      c.settled.ensures.cash (ordered a.delivering a.receiving) c.delivering_first-halves.ensures,
    )
