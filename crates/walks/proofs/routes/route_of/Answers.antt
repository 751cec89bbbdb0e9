-- Case by case: the walks are those of the definition, and the tests are its tests.
use mathlib.Core.Path.{refl, sym, ◌∙◌}
use Rattle.rules.specs.Walks.{directed_walk}
use Rattle.walks.specs.Walks.{walk_of}
use Rattle.walks.proofs.Routing.{unmet, same_csd_lem, walks_meet, reaches, reaches_back, ends_judged}
use Rattle.walks.proofs.Directed.{unreached}
use Rattle.index.specs.Asked.{asked_on}
use Rattle.walks.proofs.routes.route_of.Goals as goal

pub returns-then-from-to : goal.returns-then-from-to
returns-then-from-to c =
    let a = c.args in
    c.joined.ensures ∙ rw (c.alone.ensures, c.alone-then-from-to.ensures) (same_csd_lem (asked_on a.index.now a.day) a.security a.from a.to c.if-from-to.true)

pub returns-then-shared-gt0 : goal.returns-then-shared-gt0
returns-then-shared-gt0 c =
    let w = c.default_walk-delivering in
    let v = c.default_walk-receiving in
    let a = c.args in
    let meets = c.shared_csds-shared.ensures (asked_on a.index.now a.day) a.security a.from a.to w.ensures v.ensures in
    c.joined-then-shared-gt0.ensures ∙ rw (c.without_last.ensures, c.without_last-then-shared-gt0.ensures) (walks_meet (asked_on a.index.now a.day) a.security a.from a.to
    c.if-from-to.false (walk_of w.result) (walk_of v.result) w.ensures v.ensures _ c.if-shared-gt0.true meets)

pub returns-then-none_turns : goal.returns-then-none_turns
returns-then-none_turns c =
    let w = c.default_walk-delivering in
    let v = c.default_walk-receiving in
    let a = c.args in
    let K = asked_on a.index.now a.day in
    let meets = c.shared_csds-shared.ensures K a.security a.from a.to w.ensures v.ensures in
    let apart = unmet c.shared_csds-shared.result K (walk_of w.result) (walk_of v.result) c.if-shared-gt0.false meets in
    let none = c.none_turns.ensures c.if-none_turns.true in
    c.by_ends.ensures ∙ ends_judged K a.security a.from a.to
    c.if-from-to.false (walk_of w.result) (walk_of v.result) w.ensures v.ensures apart
    (directed_walk K a.security a.to a.from) refl (unreached K a.security a.to a.from (rw (← w.ensures) none.0))
    (directed_walk K a.security a.from a.to) refl (unreached K a.security a.from a.to (rw (← v.ensures) none.1))

pub returns-then-has_reached : goal.returns-then-has_reached
returns-then-has_reached c =
    let w = c.default_walk-delivering in
    let v = c.default_walk-receiving in
    let a = c.args in
    let meets = c.shared_csds-shared.ensures (asked_on a.index.now a.day) a.security a.from a.to w.ensures v.ensures in
    let x = c.directed_from-towards in
    let apart = unmet c.shared_csds-shared.result (asked_on a.index.now a.day) (walk_of w.result) (walk_of v.result) c.if-shared-gt0.false meets in
    c.joined-then-has_reached.ensures ∙ rw c.alone-then-has_reached.ensures (reaches (asked_on a.index.now a.day) a.security a.from a.to
    c.if-from-to.false (walk_of w.result) (walk_of v.result) w.ensures v.ensures apart
    (walk_of x.result) x.ensures (sym c.has_reached.ensures ∙ c.if-has_reached.true))

pub returns-then-has_reached-2 : goal.returns-then-has_reached-2
returns-then-has_reached-2 c =
    let w = c.default_walk-delivering in
    let v = c.default_walk-receiving in
    let a = c.args in
    let meets = c.shared_csds-shared.ensures (asked_on a.index.now a.day) a.security a.from a.to w.ensures v.ensures in
    let x = c.directed_from-towards in
    let y = c.directed_from-back in
    let apart = unmet c.shared_csds-shared.result (asked_on a.index.now a.day) (walk_of w.result) (walk_of v.result) c.if-shared-gt0.false meets in
    c.joined-then-has_reached-2.ensures ∙ rw c.alone-then-has_reached-2.ensures (reaches_back (asked_on a.index.now a.day) a.security a.from a.to
    c.if-from-to.false (walk_of w.result) (walk_of v.result) w.ensures v.ensures apart
    (walk_of x.result) x.ensures (sym c.has_reached.ensures ∙ c.if-has_reached.false)
    (walk_of y.result) y.ensures (sym c.has_reached-2.ensures ∙ c.if-has_reached-2.true))

pub returns : goal.returns
returns c =
    let w = c.default_walk-delivering in
    let v = c.default_walk-receiving in
    let a = c.args in
    let meets = c.shared_csds-shared.ensures (asked_on a.index.now a.day) a.security a.from a.to w.ensures v.ensures in
    let x = c.directed_from-towards in
    let y = c.directed_from-back in
    let apart = unmet c.shared_csds-shared.result (asked_on a.index.now a.day) (walk_of w.result) (walk_of v.result) c.if-shared-gt0.false meets in
    c.by_ends-2.ensures ∙ ends_judged (asked_on a.index.now a.day) a.security a.from a.to
    c.if-from-to.false (walk_of w.result) (walk_of v.result) w.ensures v.ensures apart
    (walk_of x.result) x.ensures (sym c.has_reached.ensures ∙ c.if-has_reached.false)
    (walk_of y.result) y.ensures (sym c.has_reached-2.ensures ∙ c.if-has_reached-2.false)
