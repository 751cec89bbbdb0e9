-- The chain between two accounts and the derivation for two halves, with the list lent for their steps. Assumes nothing.
use Rattle.std.specs.Prelude.{ℕ, zero, suc, ◌≡◌, Bool, cond, Result, List, [], ◌++◌, eqb, length}
use Rattle.rules.specs.declared.Half.{Half}
use Rattle.rules.specs.declared.Step.{Step}
use Rattle.rules.specs.declared.refusal.Refusal.{Refusal}
use Rattle.rules.specs.declared.answer.Answer.{Answer}
use Rattle.rules.specs.declared.answer.Answer.TheVariants.{Chained, Refused}
use Rattle.rules.specs.Tests.{Condition, first_of}
use Rattle.rules.specs.Lookups.{Lookups}
use Rattle.rules.specs.Chain.{Chain, unchained, chain, steps_of, chain_conditions}
use Rattle.rules.specs.Calls.{count_of, both_conditions}
use Rattle.chain.specs.StepList.{step_numbers, steps_in, noted}
use Rattle.chain.specs.Steps.{FoundIn}

-- the chain whose steps go into the lent list l; 3 where the list has another length
unfoldable pub chain_into : List ℕ → Lookups → ℕ → ℕ → ℕ → Chain
chain_into l k s a b = cond (eqb (length l) step_numbers) (chain k s a b) (unchained 3)

-- what a function that finds it promises, with the list left as m
abbrev pub Finds : List ℕ → List ℕ → Lookups → ℕ → ℕ → ℕ → Result ℕ Refusal → Type 0
Finds l m k s a b r = FoundIn l m (chain_into l k s a b) r

-- What a derivation answers, and the steps of its chain.
pub record Derived : Type 0 where
  pub answer : Answer
  pub steps : List Step

-- by the refusal's number
abbrev pub derived_by : ℕ → List Step → Derived
derived_by zero xs = record { answer = Chained (length xs); steps = xs }
derived_by (suc n) xs = record { answer = Refused (suc n); steps = [] }

-- the chain from the half h to the half g
abbrev pub chain_between : Lookups → Half → Half → Chain
chain_between k h g = chain k h.security h.account g.account

-- the conditions of the derivation for the halves h, which delivers, and g, which receives, and what is asked of their sides
abbrev pub deriving_conditions : Lookups → Half → Half → Bool → Bool → List Condition
deriving_conditions k h g unknown same = both_conditions k h g unknown same ++ chain_conditions (chain_between k h g)

-- that derivation
unfoldable pub derived : Lookups → Half → Half → Bool → Bool → Derived
derived k h g unknown same = derived_by (first_of (deriving_conditions k h g unknown same)) (steps_of (chain_between k h g))

-- the same into the lent list l; 3 where the list has another length
unfoldable pub derived_into : List ℕ → Lookups → Half → Half → Bool → Bool → Derived
derived_into l k h g unknown same = cond (eqb (length l) step_numbers) (derived k h g unknown same) (derived_by 3 [])

-- The list l was lent for the derivation x, and is left as m: the answer and the steps that it then holds are the derivation's, and the rest is untouched.
pub record DerivedIn (l m : List ℕ) (x : Derived) (r : Answer) : Type 0 where
  pub answer : r ≡ x.answer
  pub steps : steps_in m (count_of r) ≡ x.steps
  pub list : m ≡ noted x.steps l

-- what a function that derives promises
abbrev pub Derives : List ℕ → List ℕ → Lookups → Half → Half → Bool → Bool → Answer → Type 0
Derives l m k h g unknown same r = DerivedIn l m (derived_into l k h g unknown same) r
