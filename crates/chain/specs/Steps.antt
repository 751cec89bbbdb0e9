-- What sides climbed, steps added to a list of numbers, and a chain found stand for.
use Rattle.std.specs.Prelude.{ℕ, zero, suc, ◌≤◌, ◌≡◌, Result, Ok, Err, List, ◌++◌, length, take}
use Rattle.rules.specs.declared.Step.{Step}
use Rattle.rules.specs.declared.refusal.Refusal.{Refusal}
use Rattle.rules.specs.Numbers.{refused_by}
use Rattle.rules.specs.Chain.{Climb, climbed, unpaired, Chain, chained, unchained, steps_of, step_limit}
use Rattle.chain.specs.StepList.{step_numbers, steps_in, noted, Holds}
use Rattle.chain.specs.declared.climbed.Climbed.{Climbed}

-- a refusal of 0 says that there is a chain
abbrev pub chain_by : ℕ → List Step → Chain
chain_by zero ss = chained ss
chain_by (suc n) ss = unchained (suc n)

-- how many steps a chain found has, 0 where it is refused
abbrev pub count_found : Result ℕ Refusal → ℕ
count_found (Ok k) = k
count_found (Err e) = 0

-- a side climbed, whose steps stand in front of the list, or one of its pairs is missing
abbrev pub climb_in : Result Climbed Refusal → List Step → Climb
climb_in (Ok x) l = climbed (take x.count l) x.account
climb_in (Err e) l = unpaired

-- the list k, which holds n steps, becomes m, which holds the steps ys behind them, i in all
abbrev pub Adds : List ℕ → ℕ → List Step → List ℕ → ℕ → Type 0
Adds k n ys m i = (l : List ℕ) (xs : List Step) → length l ≡ step_numbers → Holds l xs k n → Holds l (xs ++ ys) m i

-- The list l was lent for the chain x, and is left as k: the refusal and the steps that it then holds are the chain's, and the rest is untouched.
pub record FoundIn (l k : List ℕ) (x : Chain) (r : Result ℕ Refusal) : Type 0 where
  pub chain : chain_by (refused_by r) (steps_in k (count_found r)) ≡ x
  pub steps : steps_in k (count_found r) ≡ steps_of x
  pub list : k ≡ noted (steps_of x) l
  pub few : count_found r ≤ step_limit
