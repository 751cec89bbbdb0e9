-- The reply serves the call that was lent the list.
use mathlib.Core.Path.{◌∙◌}
use Rattle.rules.specs.Calls.{ordered}
use Rattle.desk.proofs.Serving.{derivation_serves}
use Rattle.desk.proofs.lent.derive.Goals as goal

pub finish-requires : goal.finish-requires
finish-requires c =
    let a = c.args in
    let reply = c.derive_reply-reply in
    let r = derivation_serves a.directory a.steps.now (ordered a.delivering a.receiving) a.day reply.result reply.ensures in
    (r.few, r.room)

pub returns : goal.returns
returns c =
    let a = c.args in
    let reply = c.derive_reply-reply in
    let r = derivation_serves a.directory a.steps.now (ordered a.delivering a.receiving) a.day reply.result reply.ensures in
    (c.finish.ensures.0 ∙ r.answer, c.finish.ensures.1 ∙ r.steps)
