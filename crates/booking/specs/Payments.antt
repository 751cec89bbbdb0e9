-- Pay in and pay out over look-ups: what they answer, and the cash that they leave. Assumes nothing.
use Rattle.std.specs.Prelude.{ℕ, zero, suc, List, ℤ}
use Rattle.rules.specs.declared.answer.Answer.{Answer}
use Rattle.rules.specs.declared.answer.Answer.TheVariants.{Accepted, Refused}
use Rattle.rules.specs.Tests.{first_of}
use Rattle.rules.specs.Lookups.{Lookups}
use Rattle.rules.specs.Booking.{Way, payment, pay_conditions, add_cents}

-- what a pay-in or pay-out answers, and the cash after it
pub record PayOutcome : Type 0 where
  pub answer : Answer
  pub cash : List ℤ

-- by the refusal's number: accepted and booked, or refused and nothing changes
abbrev pub pay_outcome_by : ℕ → List ℤ → List ℤ → PayOutcome
pay_outcome_by zero before after = record { answer = Accepted; cash = after }
pay_outcome_by (suc n) before after = record { answer = Refused (suc n); cash = before }

-- an amount m paid in or out on the account a
unfoldable pub pay_outcome : Lookups → List ℤ → Way → ℕ → ℕ → PayOutcome
pay_outcome k c w a m = pay_outcome_by (first_of (pay_conditions k c w a m)) c (add_cents c a (payment w m))
