-- The last day of the link that is found on the day.
use Rattle.std.proofs.Common.{Some, suc, sym, ap, ◌∙◌, add-one, arith}
use Rattle.index.specs.declared.links.Wanted.TheVariants.{Defaults}
use Rattle.index.specs.Asked.{link_in}
use Rattle.index.specs.Found.{day_after}
use Rattle.index.proofs.LinkReading.{none_on, one_on, found_small}
use Rattle.index.proofs.links.day_after_default.Goals as goal

pub returns-in_err-link : goal.returns-in_err-link
unfolding day_after
returns-in_err-link c =
    let a = c.args in
    c.from_residual.ensures ∙ sym (ap day_after (none_on a.index.now a.security a.csd a.day Defaults c.in_err-link.ensures))

pub number_at-requires : goal.number_at-requires
number_at-requires c =
    let a = c.args in
    (found_small a.index.now a.security a.csd a.day Defaults c.in_ok-link.link c.in_ok-link.ensures, omega arith)

pub returns : goal.returns
unfolding day_after link_in
returns c =
    let a = c.args in
    ap Some (add-one c.number_at.result ∙ ap suc c.number_at.ensures)
    ∙ sym (ap day_after (one_on a.index.now a.security a.csd a.day Defaults c.in_ok-link.link c.in_ok-link.ensures))
