-- 18 where a pair is missing, or the steps of both sides with what stands between.
use mathlib.Core.Path.{◌∙◌}
use mathlib.Core.List.{[]}
use borrow.Author.Rules.{rules}
use Rattle.std.proofs.lemmas.List.{length-take-le}
use Rattle.std.proofs.lemmas.Result.{err_from_is_err_and}
use Rattle.rules.specs.declared.refusal.Refusal.TheVariants.{NoPair}
use Rattle.walks.specs.Sides.{named}
use Rattle.walks.specs.Walks.{seen}
use Rattle.chain.proofs.Days.{climb_on}
use Rattle.chain.proofs.StepList.{holds_none}
use Rattle.chain.proofs.Linking.{found_none, found_steps, along_unpaired, along_unpaired_down, along_paired}
use Rattle.chain.proofs.steps.steps_along.Goals as goal

pub returns-in_err-up : goal.returns-in_err-up
returns-in_err-up c =
    let a = c.args in
    let r = a.route.now in
    let on = a.links.now in
    let k = seen on in
    let p = err_from_is_err_and c.from_residual.result c.from_residual.ensures.1 in
    let up = c.in_err-up.ensures.climbed ∙ climb_on on.index.now on.day (named r.delivering) a.delivering in
    rw (p.1, p.2, c.in_err-up.ensures.refusal) (found_none a.steps.now _ NoPair (along_unpaired k on.security a.delivering a.receiving r.join (named r.delivering) (named r.receiving) up))

pub returns-in_err-down : goal.returns-in_err-down
returns-in_err-down c =
    let a = c.args in
    let r = a.route.now in
    let on = a.links.now in
    let k = seen on in
    let p = err_from_is_err_and c.from_residual-in_err-down.result c.from_residual-in_err-down.ensures.1 in
    let up = c.in_ok-up.ensures.climbed ∙ climb_on on.index.now on.day (named r.delivering) a.delivering in
    let down = c.in_err-down.ensures.climbed ∙ climb_on on.index.now on.day (named r.receiving) a.receiving in
    rw (p.1, p.2, c.in_err-down.ensures.refusal) (found_none a.steps.now _ NoPair (along_unpaired_down k on.security a.delivering a.receiving r.join (named r.delivering) (named r.receiving) _ _ up down))

pub returns : goal.returns
returns c =
    let a = c.args in
    let r = a.route.now in
    let on = a.links.now in
    let k = seen on in
    let size = c.requires in
    let up = c.in_ok-up.ensures.climbed ∙ climb_on on.index.now on.day (named r.delivering) a.delivering in
    let down = c.in_ok-down.ensures.climbed ∙ climb_on on.index.now on.day (named r.receiving) a.receiving in
    let from = c.in_ok-up.ensures.top in
    let to = c.in_ok-down.ensures.top in
    let long = length-take-le c.in_ok-up.up.count c.climb.new.steps (search rules) in
    let side = rw long at (c.put_side.ensures a.steps.now [] size (holds_none a.steps.now)) in
    let top = c.add_top-top.ensures.adds a.steps.now _ size side in
    found_steps _ _ _ c.add_turned-count.ensures.upper_bound
    (along_paired k on.security a.delivering a.receiving r.join (named r.delivering) (named r.receiving) _ _ up _ _ _ _ down from to)
    (c.add_turned-count.ensures.adds a.steps.now _ size top)
