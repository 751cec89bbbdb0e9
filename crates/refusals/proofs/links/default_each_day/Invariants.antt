-- The loop's invariant: each day of the row has a default exactly if each day from this one on has.
use Prim.Native.Nat.{ℕ, suc, ◌-◌}
use mathlib.Core.Path.{◌≡◌}
use mathlib.Core.Bool.{Bool}
use mathlib.Core.List.{List}
use Rattle.rules.specs.declared.Link.{Link}
use Rattle.rules.specs.Entries.{each_day}
use Rattle.index.specs.Asked.{links_at}
use Rattle.refusals.proofs.links.default_each_day.Given as goal

-- each day from this one on has a default
abbrev pub from : List Link → ℕ → ℕ → Bool
from ls day last = each_day (suc last - day) ls day last

abbrev pub invariant-loop-day : goal.invariant-loop-day
invariant-loop-day l =
    from (links_at l.index l.row.security l.row.csd) l.row.first l.row.last ≡ from (links_at l.index l.row.security l.row.csd) l.day l.row.last

abbrev pub decreases-loop-day : goal.decreases-loop-day
decreases-loop-day l = suc l.row.last - l.day
