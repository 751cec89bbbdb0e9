-- By how the delivering walk ended: what the walks have in common at their ends is what they share, but for one external CSD.
use mathlib.Core.Bool.{not}
use mathlib.Core.Path.{ap}
use mathlib.Core.Path.{◌≡◌, sym, ◌∙◌}
use mathlib.Core.Bool.{true}
use Rattle.rules.specs.Walks.{arrived}
use Rattle.rules.proofs.Basics.{impossible, unnot_false}
use Rattle.walks.specs.Walks.{walk_of}
use Rattle.walks.proofs.Meeting.{meet, meet_outside}
use Rattle.walks.proofs.routes.shared_csds.Goals as goal

pub returns-then-common-eq1 : goal.returns-then-common-eq1
returns-then-common-eq1 c k s from to w v =
    let a = c.args in
    let av : arrived a.receiving.now.end ≡ true = sym c.has_arrived.ensures ∙ unnot_false _ (ap not c.if-not-has_arrived.false) in
    let e = c.in-Outside.is in
    let aw : arrived a.delivering.now.end ≡ true = rw e in
    meet_outside k s from to (walk_of a.delivering.now) (walk_of a.receiving.now) w v aw av _ (rw c.if-common-eq1.true at c.requires) e

pub returns-in-Inside : goal.returns-in-Inside
returns-in-Inside c k s from to w v =
    let a = c.args in
    let av : arrived a.receiving.now.end ≡ true = sym c.has_arrived.ensures ∙ unnot_false _ (ap not c.if-not-has_arrived.false) in
    let e = c.in-Inside.is in
    let aw : arrived a.delivering.now.end ≡ true = rw e in
    meet k s from to (walk_of a.delivering.now) (walk_of a.receiving.now) w v aw av _ c.requires (λ n y f. impossible (cc))

pub returns-else-common-eq1 : goal.returns-else-common-eq1
returns-else-common-eq1 c k s from to w v =
    let a = c.args in
    let av : arrived a.receiving.now.end ≡ true = sym c.has_arrived.ensures ∙ unnot_false _ (ap not c.if-not-has_arrived.false) in
    let e = c.in-Outside.is in
    let aw : arrived a.delivering.now.end ≡ true = rw e in
    meet k s from to (walk_of a.delivering.now) (walk_of a.receiving.now) w v aw av _ c.requires (λ n y f. c.if-common-eq1.false n)
