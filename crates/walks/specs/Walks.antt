-- What the code's walks stand for.
use Rattle.std.specs.Prelude.{ℕ, ◌≡◌, List, ◌++◌, Option, Some, None}
use Rattle.rules.specs.declared.Hop.{Hop}
use Rattle.rules.specs.declared.WalkEnd.{WalkEnd}
use Rattle.rules.specs.Lookups.{Lookups}
use Rattle.rules.specs.Walks.{Walk, default_hop, directed_hop}
use Rattle.index.specs.Asked.{asked_on}
use Rattle.walks.specs.Sides.{named}
use Rattle.walks.specs.declared.walks.Walk.{Walk as Walked}
use Rattle.walks.specs.declared.walks.DayLinks.{DayLinks}

-- what is asked of the links of a day
abbrev pub seen : DayLinks → Lookups
seen x = asked_on x.index.now x.day

-- the hop that leads to a target, or along default links
abbrev pub hop_of : Lookups → ℕ → Option ℕ → ℕ → Hop
hop_of k s (Some t) = directed_hop k s t
hop_of k s None = default_hop k s

-- how a walk ended and the CSDs that it named
abbrev pub walk_of : Walked → Walk
walk_of r = record { end = r.end; path = named r.side }

-- The walk w was gone behind the CSDs that were named before: e says how it ended, and those of the walk are named too.
pub record WalksOn (before : List ℕ) (w : Walk) (e : WalkEnd) (after : List ℕ) : Type 0 where
  pub end : e ≡ w.end
  pub path : after ≡ before ++ w.path
