-- The CSDs still allowed fall by one with each call; each call names one CSD and does what its hop says.
use Rattle.std.proofs.Common.{◌<◌, length, sym, ◌∙◌, arith}
use Rattle.walks.specs.Sides.{named}
use Rattle.walks.specs.Walks.{seen, hop_of}
use Rattle.walks.proofs.Walking.{one_more_lem, none_left, ends_here, goes_on_lem}
use Rattle.walks.proofs.walks.DayLinks.+walk_from.Goals as goal

pub returns-then-left-eq0 : goal.returns-then-left-eq0
returns-then-left-eq0 t c =
    let a = c.args in
    none_left (hop_of (seen a.self.now) a.self.now.security a.target) (named a.walked.now.side) a.left a.csd c.if-left-eq0.true

pub returns-in-Ends : goal.returns-in-Ends
returns-in-Ends t c =
    let a = c.args in
    let room : a.walked.now.side.count < length a.walked.now.side.csds = omega arith in
    rw (one_more_lem a.walked.now.side.csds a.walked.now.side.count a.csd room)
    (ends_here (hop_of (seen a.self.now) a.self.now.security a.target) (named a.walked.now.side) a.left a.csd c.if-left-eq0.false (sym c.hop_at.ensures ∙ c.in-Ends.is))

pub returns-in-On : goal.returns-in-On
returns-in-On t c =
    let a = c.args in
    let room : a.walked.now.side.count < length a.walked.now.side.csds = omega arith in
    goes_on_lem (hop_of (seen a.self.now) a.self.now.security a.target) (named a.walked.now.side) a.left a.csd c.if-left-eq0.false _ _
    (sym c.hop_at.ensures ∙ c.in-On.is) (rw (one_more_lem a.walked.now.side.csds a.walked.now.side.count a.csd room) at c.walk_from.ensures)
