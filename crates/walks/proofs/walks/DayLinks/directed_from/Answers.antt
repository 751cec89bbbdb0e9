-- Without a turn it is the default walk.
use mathlib.Core.Path.{sym, ap, ◌∙◌}
use Rattle.rules.specs.Tests.{any}
use Rattle.rules.specs.Walks.{Walk, side_limit}
use Rattle.walks.specs.Walks.{seen}
use Rattle.walks.specs.Routes.{turns}
use Rattle.walks.proofs.Directed.{same_walk}
use Rattle.walks.proofs.walks.DayLinks.directed_from.Goals as goal

pub returns : goal.returns
returns c =
    let a = c.args in
    let K = seen a.self.now in
    let plain = sym c.turns_along.ensures ∙ c.if-turns_along.false in
    let known = c.requires in
    known ∙ same_walk K a.self.now.security a.target side_limit a.csd (sym (ap (λ (w : Walk). any (turns K a.self.now.security a.target) w.path) known) ∙ plain)
