-- What the code's routes stand for.
use Rattle.std.specs.Prelude.{ℕ, zero, suc, ◌-◌, ◌≤◌, ◌<◌, ◌≡◌, Bool, false, ◌||◌, List, eqb, length, take, drop, get_or, Result, Ok, Err}
use Rattle.std.proofs.Math.Option.{none, some}
use Rattle.rules.specs.declared.refusal.Refusal.{Refusal}
use Rattle.rules.specs.Numbers.{number}
use Rattle.rules.specs.Tests.{any}
use Rattle.rules.specs.Lookups.{Lookups}
use Rattle.rules.specs.Walks.{Walk, default_walk}
use Rattle.rules.specs.Chain.{Route, sides, apart, shared, up_to}
use Rattle.walks.specs.Sides.{named}
use Rattle.walks.specs.Walks.{walk_of}
use Rattle.walks.specs.declared.walks.Walk.{Walk as WalkFound}
use Rattle.walks.specs.declared.routes.Route.{Route as Joined}

-- the last n CSDs of both paths are the same, and no more
pub record CommonEnd (p q : List ℕ) (n : ℕ) : Type 0 where
  pub few : n ≤ length p
  pub few' : n ≤ length q
  pub same : drop (length p - n) p ≡ drop (length q - n) q
  pub most : n < length p → n < length q → get_or p (length p - n - 1) 0 ≡ get_or q (length q - n - 1) 0 → ⊥

-- the walks meet at the first of the last n CSDs of both; where n is 0 they do not meet
abbrev pub MeetAt : ℕ → Lookups → Walk → Walk → Type 0
MeetAt zero k w v = shared k w v ≡ none
MeetAt (suc n) k w v =
    (m : ℕ) × (shared k w v ≡ some m) × (up_to m w.path ≡ take (length w.path - n) w.path) × (up_to m v.path ≡ take (length v.path - n) v.path)

-- where w and v are default walks, they meet there
abbrev pub Meets : WalkFound → WalkFound → ℕ → Type 0
Meets w v n =
    (k : Lookups) (s from to : ℕ) → walk_of w ≡ default_walk k s from → walk_of v ≡ default_walk k s to → MeetAt n k (walk_of w) (walk_of v)

-- a walk directed to t may leave the default walk at the CSD c: it is the target, or has a link to it
abbrev pub turns : Lookups → ℕ → ℕ → ℕ → Bool
turns k s t c = eqb c t || k.linked s c t

-- neither the walk from `from` to `to` nor the one back leaves its default walk
abbrev pub Unturned : Lookups → ℕ → ℕ → ℕ → WalkFound → WalkFound → Type 0
Unturned k s from to w v = (any (turns k s to) (named w.side) ≡ false) × (any (turns k s from) (named v.side) ≡ false)

-- how the sides join and the CSDs that they name, or the refusal
abbrev pub route_of : Result Joined Refusal → Route
route_of (Ok r) = sides r.join (named r.delivering) (named r.receiving)
route_of (Err e) = apart (number e)
