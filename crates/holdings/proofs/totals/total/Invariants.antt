-- Account by account the sum is the sum so far; the first number beyond ends it.
use Rattle.std.proofs.Common.{◌≡◌, ℕ, ℤ, Bool}
use Rattle.holdings.specs.Sums.{picked}
use Rattle.holdings.proofs.Bounds.{Within}
use Rattle.holdings.proofs.Summed.{Summed}
use Rattle.holdings.proofs.totals.total.Given as goal

abbrev pub invariant-loop-account : goal.invariant-loop-account
invariant-loop-account g l =
    Within l.account (g.N.Held.number l.sum)
    × ((w : ℕ → Bool) (f : ℕ → ℤ) → ((a : ℕ) (z : _) → goal.F-post g l.counted a z → g.N.Held.number z ≡ picked w f a) → Summed w f l.account (g.N.Held.number l.sum))
