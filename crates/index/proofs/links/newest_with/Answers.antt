-- The loop's invariant: what is found from the newest link on is what is found from this one on.
use Rattle.std.proofs.Common.{◌≡◌, ◌<◌, refl, sym, ◌∙◌, arith}
use Rattle.index.specs.Index.{newest_at}
use Rattle.index.specs.Asked.{read, older_at}
use Rattle.index.proofs.LinkReading.{goes, one_begins, left_at, nothing_left, older_begins, none_older, code_hit, code_miss}
use Rattle.index.proofs.links.newest_with.Goals as goal
use Rattle.index.proofs.links.newest_with.Goals.{then-older-eq0-via-then-older-eq0, then-older-eq0-via-else-older-eq0+then-link-older}

pub returns-in_err-link : goal.returns-in_err-link
returns-in_err-link g c =
    let a = c.args in
    c.from_residual.ensures ∙ nothing_left a.index.now a.security a.csd g.told (read a.index.now (newest_at a.security a.csd)) refl c.in_err-link.ensures

pub loop-older-init : goal.loop-older-init
loop-older-init g c =
    let a = c.args in
    left_at a.index.now a.security a.csd g.told (read a.index.now (newest_at a.security a.csd)) _ refl c.in_ok-link.ensures

pub returns-then-older-eq0 : goal.returns-then-older-eq0
returns-then-older-eq0 g c =
    let a = c.args in
    let p = c.loop-older.link in
    let n = c.number_at-older.result in
    let left = c.loop-older.invariant in
    let miss = sym (c.requires.1.1 p _ left.1 c.loop-older-test.ensures) in
    let zero : n < p → n ≡ 0 = elim c.then-older-eq0.branch [
      | then-older-eq0-via-then-older-eq0 w ↦ λ h. w.if-older-eq0.true
      | then-older-eq0-via-else-older-eq0+then-link-older w ↦ λ h. absurd (omega arith)
    ] in
    nothing_left a.index.now a.security a.csd g.told (older_at a.index.now p) (left.2 ∙ code_miss a.index.now a.security a.csd g.told p (goes p left.0 left.1) miss)
    (none_older a.index.now p n c.number_at-older.ensures zero)

pub loop-older-preserved : goal.loop-older-preserved
loop-older-preserved g c =
    let a = c.args in
    let p = c.loop-older.link in
    let left = c.loop-older.invariant in
    let miss = sym (c.requires.1.1 p _ left.1 c.loop-older-test.ensures) in
    left_at a.index.now a.security a.csd g.told (older_at a.index.now p) _ (left.2 ∙ code_miss a.index.now a.security a.csd g.told p (goes p left.0 left.1) miss)
    (older_begins a.index.now p c.number_at-older.result c.number_at-older.ensures (omega arith) (omega arith) left.1)

pub returns : goal.returns
returns g c =
    let a = c.args in
    let p = c.loop-older.link in
    let left = c.loop-older.invariant in
    let hit = sym (c.requires.1.1 p _ left.1 c.loop-older-test.ensures) in
    one_begins p left.0 left.1 ∙ rw (left.2 ∙ sym (code_hit a.index.now a.security a.csd g.told p (goes p left.0 left.1) hit))
