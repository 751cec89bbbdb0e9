-- The reply serves the call that was lent the list, and leaves the same numbers.
use mathlib.Core.Path.{◌∙◌, ap}
use Rattle.rules.specs.Calls.{Store, ordered}
use Rattle.desk.proofs.Serving.{settlement_serves, settlement_store}
use Rattle.desk.proofs.lent.settle.Goals as goal

pub finish-requires : goal.finish-requires
finish-requires c =
    let a = c.args in
    let reply = c.settle_reply-reply in
    let r = settlement_serves a.directory a.steps.now (ordered a.delivering a.receiving) a.day a.positions.now a.cash.now reply.result reply.ensures.0 in
    (r.few, r.room)

pub returns : goal.returns
returns c =
    let a = c.args in
    let reply = c.settle_reply-reply in
    let r = settlement_serves a.directory a.steps.now (ordered a.delivering a.receiving) a.day a.positions.now a.cash.now reply.result reply.ensures.0 in
    let left = settlement_store a.directory a.steps.now (ordered a.delivering a.receiving) a.day a.positions.now a.cash.now in (
      c.finish.ensures.0 ∙ r.answer,
      reply.ensures.1 ∙ ap (λ (st : Store). st.positions) left,
      reply.ensures.2 ∙ ap (λ (st : Store). st.cash) left,
      c.finish.ensures.1 ∙ r.steps,
    )
