-- Both arrive with nothing in common at their ends, so that neither names where the other starts; and no link leads there.
use mathlib.Core.Bool.{not}
use mathlib.Core.Path.{ap}
use mathlib.Core.Path.{◌≡◌, sym, ◌∙◌}
use mathlib.Core.Bool.{true}
use Rattle.rules.specs.Walks.{arrived}
use Rattle.rules.proofs.Basics.{unnot, unnot_false}
use Rattle.walks.specs.Walks.{seen}
use Rattle.walks.specs.Walks.{walk_of}
use Rattle.walks.specs.Routes.{CommonEnd}
use Rattle.walks.proofs.Meeting.{common_turned, unnamed}
use Rattle.walks.proofs.Unturned.{unturned}
use Rattle.walks.proofs.walks.DayLinks.none_turns.Goals as goal

pub returns : goal.returns
returns c e =
    let a = c.args in
    let w = walk_of a.delivering.now in
    let v = walk_of a.receiving.now in
    let K = seen a.self.now in
    let aw : arrived w.end ≡ true = sym c.has_arrived.ensures ∙ unnot_false _ (ap not c.if-not-has_arrived.false) in
    let av : arrived v.end ≡ true = sym c.has_arrived-2.ensures ∙ unnot_false _ (ap not c.if-not-has_arrived-2.false) in
    let k : CommonEnd w.path v.path 0 = rw c.if-common-ne0.false at c.requires.2 in
    let to = sym c.is_target.ensures ∙ c.if-is_target.false in
    let from = sym c.is_target-2.ensures ∙ unnot _ e in (
      unturned a.self.now.index.now a.self.now.day a.self.now.security a.to w.path to
          (unnamed K a.self.now.security a.from a.to w v c.requires.0 c.requires.1 aw av k),
      unturned a.self.now.index.now a.self.now.day a.self.now.security a.from v.path from
          (unnamed K a.self.now.security a.to a.from v w c.requires.1 c.requires.0 av aw (common_turned w.path v.path 0 k)),
    )
