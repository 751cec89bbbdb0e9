-- What is no target has no link to it. For a target, whether a link is one does not depend on CSD and security.
use Rattle.std.proofs.Common.{rules, Bool, not, ◌&&◌, is_some, ap, ◌∙◌}
use Rattle.rules.specs.declared.Link.{Link}
use Rattle.rules.specs.Directory.{covers, points_to}
use Rattle.rules.proofs.Basics.{unnot}
use Rattle.index.specs.Index.{newest_at}
use Rattle.index.specs.Asked.{read, link_in, links_at, asked_by}
use borrow.Author.Rules.{lives}
use Rattle.index.proofs.LinkReading.{any_only, finds, begins_there}
use Rattle.index.proofs.links.has_link_to.Goals as goal

pub returns-then-not-is_target : goal.returns-then-not-is_target
unfolding asked_by
returns-then-not-is_target c = rw (← c.is_target.ensures, unnot c.is_target.result (ap not c.if-not-is_target.true))

pub newest_with-requires : goal.newest_with-requires
unfolding link_in
newest_with-requires c k h = (search lives depth 16 fits 5000, (search rules, λ p b le post. search rules))

pub returns : goal.returns
unfolding asked_by
returns c =
    let a = c.args in
    let test : Link → Bool = λ x. covers a.day x && points_to a.technical x in
    let found = finds a.index.now a.security a.csd test (read a.index.now (newest_at a.security a.csd)) (read a.index.now (newest_at a.security a.csd)) in
    rw (← c.is_target.ensures, c.if-not-is_target.false, any_only (covers a.day) (points_to a.technical) (links_at a.index.now a.security a.csd), found.there)
    (c.is_some.ensures ∙ (ap is_some c.newest_with.ensures ∙ begins_there _ found.small))
