-- Replies as the desk's own functions make them. Assumes nothing.
use Rattle.std.specs.Prelude.{ℕ, [], Result, Ok, Err}
use Rattle.rules.specs.declared.Reply.{Reply}
use Rattle.rules.specs.declared.refusal.Refusal.{Refusal}
use Rattle.rules.specs.declared.answer.Answer.TheVariants.{Refused}
use Rattle.rules.specs.Numbers.{number}
use Rattle.rules.specs.Outcomes.{by_value}

-- a refusal has no step
abbrev pub refused : ℕ → Reply
refused n = record { answer = Refused n; steps = by_value [] }

-- the reply, or that of the refusal
abbrev pub reply_by : Result Reply Refusal → Reply
reply_by (Ok r) = r
reply_by (Err e) = refused (number e)
