-- Bring in and take out over look-ups: what they answer, and the positions that they leave. Assumes nothing.
use Rattle.std.specs.Prelude.{ℕ, zero, suc, Bool, not, ◌||◌, List, [], ◌∷◌, ℤ, Some, None, Option as Answered}
use Rattle.std.proofs.Math.Option.{Option, none, some}
use Rattle.rules.specs.declared.Step.{Step}
use Rattle.rules.specs.declared.answer.Answer.{Answer}
use Rattle.rules.specs.declared.answer.Answer.TheVariants.{Accepted, Refused}
use Rattle.rules.specs.Tests.{Condition, ◌when◌, first_of}
use Rattle.rules.specs.Lookups.{Lookups}
use Rattle.rules.specs.Chain.{steps_of}
use Rattle.rules.specs.Booking.{Way, incoming, outgoing, out_of_range, step_short, step_beyond, move_chain, move_conditions, booked}
use Rattle.booking.specs.declared.way.Way.{Way as OneWay}
use Rattle.booking.specs.declared.way.Way.TheVariants.{Incoming, Outgoing}

-- into the desk's books, or out of them
abbrev pub way_of : OneWay → Way
way_of Incoming = incoming
way_of Outgoing = outgoing

-- the account on the other side, if there is one, as the code answers it
unfoldable pub contra_found : Option ℕ → Answered ℕ
contra_found none = None
contra_found (some a) = Some a

-- 6, 7 and 10 of a bring-in or take-out: what its operands give by themselves
abbrev pub operand_conditions : Lookups → ℕ → ℕ → ℕ → List Condition
operand_conditions k a s q =
    6 when (not (k.account a) || not (k.security s)) ∷ 7 when out_of_range q ∷ 10 when not (k.kind a 0) ∷ []

-- 20 and 22 of its one step
abbrev pub step_conditions : (ℕ → ℕ → Bool) → List ℤ → ℕ → ℕ → Step → List Condition
step_conditions kind p s q x = 20 when step_short kind p s q x ∷ 22 when step_beyond p s q x ∷ []

-- what a bring-in or take-out answers, and the positions after it
pub record MoveOutcome : Type 0 where
  pub answer : Answer
  pub positions : List ℤ

-- by the refusal's number: accepted and booked, or refused and nothing changes
abbrev pub move_outcome_by : ℕ → List ℤ → List ℤ → MoveOutcome
move_outcome_by zero before after = record { answer = Accepted; positions = after }
move_outcome_by (suc n) before after = record { answer = Refused (suc n); positions = before }

-- a bring-in or take-out of q units of s on the account a
unfoldable pub move_outcome : Lookups → List ℤ → Way → ℕ → ℕ → ℕ → MoveOutcome
move_outcome k p w a s q = move_outcome_by (first_of (move_conditions k p w a s q)) p (booked (steps_of (move_chain k w a s)) s q p)
