-- The loop's invariant: each day of the row has a default exactly if each day from this one on has.
use Prim.Native.Nat.{ℕ, suc, ◌≤◌}
use mathlib.Core.Path.{◌≡◌, refl, sym, ◌∙◌}
use mathlib.Core.Bool.{Bool, false}
use mathlib.Core.List.{List}
use mathlib.Core.Option.{Option, none, some}
use Rattle.std.specs.Prelude.{Some, None}
use native.Mathlib.Omega.{arith}
use Rattle.rules.specs.declared.Link.{Link}
use Rattle.rules.specs.Entries.{default_on, after_default}
use Rattle.rules.proofs.Days.{each_on, each_over, default_lasts}
use Rattle.index.specs.Asked.{links_at, asked_by}
use Rattle.index.specs.Found.{day_after}
use Rattle.refusals.proofs.links.default_each_day.Invariants.{from}
use Rattle.refusals.proofs.links.default_each_day.Goals as goal

-- the day after the default, if there is one, tells what is asked
no_default : (o : Option Link) (later : ℕ → Bool) → None ≡ day_after o → after_default o later ≡ false
unfolding day_after
no_default none later e = refl
no_default (some l) later e = cc

after_default_lem : (o : Option Link) (later : ℕ → Bool) (next : ℕ) → Some next ≡ day_after o → after_default o later ≡ later next
unfolding day_after
after_default_lem none later next e = cc
after_default_lem (some l) later next e = let n : next ≡ suc l.last = cc in rw n

later_day : (ls : List Link) (day next : ℕ) → Some next ≡ day_after (default_on ls day) → suc day ≤ next
unfolding day_after
later_day ls day next s = go (default_on ls day) refl s
  where
    go : (o : Option Link) → default_on ls day ≡ o → Some next ≡ day_after o → suc day ≤ next
    go none e m = cc
    go (some l) e m = let k : day ≤ l.last = default_lasts ls 0 day l e in let n : next ≡ suc l.last = cc in omega arith

pub returns-in_default : goal.returns-in_default
unfolding asked_by
returns-in_default c =
    let a = c.args in
    let ls = links_at a.index.now a.row.security a.row.csd in
    let day : ℕ = c.loop-day.day in
    sym (c.loop-day.invariant ∙ (each_on ls a.row.last day (omega arith)
    ∙ no_default (default_on ls day) (λ next. from ls next a.row.last) c.in_default.ensures))

pub loop-day-smaller : goal.loop-day-smaller
loop-day-smaller c =
    let a = c.args in
    let ls = links_at a.index.now a.row.security a.row.csd in
    let k : suc c.loop-day.day ≤ c.in-Some.next = later_day ls c.loop-day.day c.in-Some.next c.in-Some.ensures in
    omega arith

pub loop-day-preserved : goal.loop-day-preserved
loop-day-preserved c =
    let a = c.args in
    let ls = links_at a.index.now a.row.security a.row.csd in
    c.loop-day.invariant ∙ (each_on ls a.row.last c.loop-day.day (omega arith)
    ∙ after_default_lem (default_on ls c.loop-day.day) (λ next. from ls next a.row.last) c.in-Some.next c.in-Some.ensures)

pub returns : goal.returns
unfolding asked_by
returns c =
    let a = c.args in
    sym (c.loop-day.invariant ∙ each_over (links_at a.index.now a.row.security a.row.csd) a.row.last c.loop-day.day (omega arith))
