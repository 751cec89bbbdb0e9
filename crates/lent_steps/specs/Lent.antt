-- What is left of a list of which a call is lent the first steps. Assumes nothing.
use Rattle.std.specs.Prelude.{ℕ, List, ◌++◌}
use Rattle.rules.specs.declared.Step.{Step}
use Rattle.rules.specs.declared.answer.Answer.{Answer}
use Rattle.rules.specs.Calls as Calls
use Rattle.rules.specs.Calls.{Outcome, ordered, sided}
use Rattle.lent_steps.specs.declared.Back.{Back}
use Rattle.lent_steps.specs.declared.Halves.{Halves}
use Rattle.lent_steps.specs.declared.Halves.TheVariants.{Ordered, Sided}

-- steps in the list
abbrev pub size : ℕ
size = 20

-- the halves that the rules know
abbrev pub halves_of : Halves → Calls.Halves
halves_of (Ordered delivering receiving) = ordered delivering receiving
halves_of (Sided first second) = sided first second

abbrev pub left : Answer → List Step → Back
left a xs = record { answer = a; steps = xs }

-- the call's answer, the steps that it was lent as it leaves them, and behind them those that it was not lent
abbrev pub back_from : Outcome → List Step → Back
back_from o rest = left o.answer (o.steps ++ rest)
