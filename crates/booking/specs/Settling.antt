-- Settlement over look-ups, with a list lent for the numbers of its steps: what it answers, and what it leaves in the lists. Assumes nothing.
use Rattle.std.specs.Prelude.{ℕ, zero, suc, ◌≡◌, Bool, cond, List, [], ◌++◌, eqb, ℤ, length}
use Rattle.rules.specs.declared.Half.{Half}
use Rattle.rules.specs.declared.Step.{Step}
use Rattle.rules.specs.declared.answer.Answer.{Answer}
use Rattle.rules.specs.declared.answer.Answer.TheVariants.{Booked, Refused}
use Rattle.rules.specs.Tests.{Condition, first_of}
use Rattle.rules.specs.Lookups.{Lookups}
use Rattle.rules.specs.Chain.{steps_of}
use Rattle.rules.specs.Booking.{booked, paid}
use Rattle.rules.specs.Calls.{count_of, book_conditions}
use Rattle.chain.specs.StepList.{step_numbers, steps_in, noted}
use Rattle.chain.specs.Derivation.{chain_between, deriving_conditions, derived_into}

-- what a settlement answers, the steps that the answer counts, and the positions and cash after it
pub record SettleOutcome : Type 0 where
  pub answer : Answer
  pub steps : List Step
  pub positions : List ℤ
  pub cash : List ℤ

-- by the refusal's number: the steps are booked and paid for, or nothing changes
abbrev pub settle_outcome_by : ℕ → List ℤ → List ℤ → Half → Half → List Step → SettleOutcome
settle_outcome_by zero p c h g xs =
    record {
      answer = Booked (length xs);
      steps = xs;
      positions = booked xs h.security h.quantity p;
      cash = paid c g.account h.account h.amount;
    }
settle_outcome_by (suc n) p c h g xs = record { answer = Refused (suc n); steps = []; positions = p; cash = c }

-- the conditions of the settlement of the halves h, which delivers, and g, which receives, and what is asked of their sides
abbrev pub settling_conditions : Lookups → List ℤ → List ℤ → Half → Half → Bool → Bool → List Condition
settling_conditions k p c h g unknown same = deriving_conditions k h g unknown same ++ book_conditions k p c h g (steps_of (chain_between k h g))

-- that settlement
unfoldable pub settle_outcome : Lookups → List ℤ → List ℤ → Half → Half → Bool → Bool → SettleOutcome
settle_outcome k p c h g unknown same = settle_outcome_by (first_of (settling_conditions k p c h g unknown same)) p c h g (steps_of (chain_between k h g))

-- the same into the lent list l; 3 where the list has another length
unfoldable pub settle_into : List ℕ → Lookups → List ℤ → List ℤ → Half → Half → Bool → Bool → SettleOutcome
settle_into l k p c h g unknown same = cond (eqb (length l) step_numbers) (settle_outcome k p c h g unknown same) (settle_outcome_by 3 p c h g [])

-- The list l was lent for steps and is left as m, with the steps xs noted. What is answered, the steps of the answer that m then holds, and the positions
-- and cash left are the outcome's.
pub record SettledIn (l m : List ℕ) (xs : List Step) (o : SettleOutcome) (r : Answer) (p c : List ℤ) : Type 0 where
  pub answer : r ≡ o.answer
  pub steps : steps_in m (count_of r) ≡ o.steps
  pub positions : p ≡ o.positions
  pub cash : c ≡ o.cash
  pub list : m ≡ noted xs l

-- what a function that settles promises: it leaves the list as a derivation does, so that the chain stands there also where 20 to 22 then refuse
abbrev pub Settles : List ℕ → List ℕ → Lookups → List ℤ → List ℤ → Half → Half → Bool → Bool → Answer → List ℤ → List ℤ → Type 0
Settles l m k p c h g unknown same r p' c' = SettledIn l m (derived_into l k h g unknown same).steps (settle_into l k p c h g unknown same) r p' c'
