-- What is found tells whether there is one.
use Rattle.std.proofs.Common.{◌&&◌, Bool, is_some, ap, sym, ◌∙◌}
use Rattle.rules.specs.declared.Link.{Link}
use Rattle.rules.specs.Entries.{has_day_in}
use Rattle.index.specs.Index.{newest_at}
use Rattle.index.specs.Asked.{read, asked_by}
use Rattle.index.specs.Found.{wants}
use Rattle.index.proofs.LinkReading.{finds, begins_there}
use Rattle.index.proofs.links.meets_link.Goals as goal

pub returns : goal.returns
unfolding asked_by
returns c =
    let a = c.args in
    let x = a.row in
    let test : Link → Bool = λ l. has_day_in x.first x.last l && wants a.wanted l in
    let found = finds a.index.now x.security x.csd test (read a.index.now (newest_at x.security x.csd)) (read a.index.now (newest_at x.security x.csd)) in
    c.is_some.ensures ∙ (ap is_some c.find_link.ensures ∙ (begins_there _ found.small ∙ sym found.there))
