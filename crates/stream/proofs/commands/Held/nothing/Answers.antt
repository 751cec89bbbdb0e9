-- `stream::commands::Held::nothing` meets its contract: zeros in every place. Assumes nothing.
use mathlib.Core.Path.{ap}
use lib.ListN.{replicate}
use Rattle.rules.specs.Booking.{position_count, cash_count}
use Rattle.rules.specs.Calls.{zeros}
use Rattle.refusals.specs.declared.kept.Kept.{Kept}
use Rattle.chain.specs.StepList.{step_numbers}
use Rattle.stream.specs.Obeyed.{nothing_held, Held}
use Rattle.stream.proofs.commands.Held.nothing.Goals as goal

holding : Kept → Held
holding k = record { kept = k; positions = zeros position_count; cash = zeros cash_count; steps = replicate step_numbers 0 }

pub returns : goal.returns
unfolding nothing_held zeros holding
returns c = ap holding c.nothing.ensures
