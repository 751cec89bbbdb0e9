-- A chain has at most 16 steps, so that the steps that a derivation or settlement gives fit on the rows that they are laid out on.
use Prim.Native.Nat.{ℕ, zero, suc, ◌≤◌}
use mathlib.Core.Path.{◌≡◌, refl}
use mathlib.Core.List.{List, []}
use lib.ListN.{length}
use native.Mathlib.Omega.{arith}
use Rattle.rules.specs.declared.Step.{Step}
use Rattle.rules.specs.declared.answer.Answer.{Answer}
use Rattle.rules.specs.Tests.{first_of}
use Rattle.rules.specs.Directory.{rows_on}
use Rattle.rules.specs.Lookups.{ask}
use Rattle.rules.specs.Chain.{Chain, chained, unchained, steps_of, step_limit}
use Rattle.rules.specs.Calls.{Halves, Store, Call, settle, derive, outcome, core, core_conditions, delivering, receiving, halves_chain, count_of}
use Rattle.rules.proofs.ChainSize.{chain_few}

-- the two calls that are lent a step list
pub data Lender : Type 0 where
  derives : Lender
  settles : Lender

abbrev pub lending : Lender → Halves → ℕ → List Step → Call
lending derives hs day lent = derive hs day lent
lending settles hs day lent = settle hs day lent

module _ (st : Store) (hs : Halves) (day : ℕ) where
  abbrev found : List Step
  found = steps_of (halves_chain (ask (rows_on day st.directory)) hs)

  -- the chain, and no step where the call is refused
  abbrev pub given_steps : ℕ → List Step
  given_steps zero = found
  given_steps (suc n) = []

  pub steps_counted : (l : Lender) (n : ℕ) (xs : List Step) → count_of (outcome n (lending l hs day xs) st).answer ≡ length (given_steps n)
  steps_counted derives zero xs = refl
  steps_counted derives (suc n) xs = refl
  steps_counted settles zero xs = refl
  steps_counted settles (suc n) xs = refl

  found_few : length found ≤ step_limit
  found_few = go (halves_chain (ask (rows_on day st.directory)) hs) (chain_few (rows_on day st.directory) (delivering hs).security (delivering hs).account (receiving hs).account)
    where
      go : (x : Chain) → ((xs : List Step) → x ≡ chained xs → length xs ≤ step_limit) → length (steps_of x) ≤ step_limit
      go (chained xs) k = k xs refl
      go (unchained n) k = omega arith

  pub given_few : (n : ℕ) → length (given_steps n) ≤ step_limit
  given_few zero = found_few
  given_few (suc n) = omega arith

  -- so few are the steps that any answer of the core counts
  pub core_few : (l : Lender) (lent : List Step) (r : Answer) → r ≡ (core (lending l hs day lent) st).answer → count_of r ≤ step_limit
  unfolding core
  core_few l lent r e =
      let n = first_of (core_conditions (lending l hs day lent) st) in
      rw (e, steps_counted l n lent) (given_few n)
