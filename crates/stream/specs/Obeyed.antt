-- A command obeyed, as the rules have its call. Assumes nothing.
use Rattle.std.specs.Prelude.{◌≡◌, ℕ, Bool, true, false, List, length, take, replicate}
use Rattle.std.proofs.Math.Option.{some}
use Rattle.rules.specs.declared.Answer.{Answer}
use Rattle.rules.specs.Booking.{Way, incoming, outgoing, position_count, cash_count}
use Rattle.rules.specs.Calls.{Halves, Store, zeros, Call, settle, derive, Outcome, core, count_of}
use Rattle.rules.specs.Stream.{width_of, ordered_at, sided_at, ordered_day_at, sided_day_at, program_steps}
use Rattle.refusals.specs.Kept.{Keeps, nothing_kept}
use Rattle.chain.specs.StepList.{step_numbers, steps_in}
use Rattle.wire.specs.declared.commands.Command.{Command}
use Rattle.wire.specs.declared.commands.Command.TheVariants.{BringIn, PayIn, Settle, SettleSided, DeriveSided}
pub use Rattle.stream.specs.declared.commands.Held.{Held}

-- nothing is held before the first command
unfoldable pub nothing_held : Held
nothing_held = record { kept = nothing_kept; positions = zeros position_count; cash = zeros cash_count; steps = replicate step_numbers 0 }

-- It is held of this store; the step list has the length that a derivation asks for.
pub record Holds (h : Held) (st : Store) : Type 0 where
  pub kept : Keeps h.kept st.directory
  pub positions : h.positions ≡ st.positions
  pub cash : h.cash ≡ st.cash
  pub long : length h.steps ≡ step_numbers

-- The code has done what the call does: its answer, the steps that the answer counts, and the store.
pub record Obeys (o : Outcome) (a : Answer) (h : Held) : Type 0 where
  pub answer : a ≡ o.answer
  pub steps : steps_in h.steps (count_of o.answer) ≡ take (count_of o.answer) o.steps
  pub left : Holds h o.store

-- it does so on any store that it holds
abbrev pub Does : Call → Held → Answer → Held → Type 0
Does c before a after = (st : Store) → Holds before st → Obeys (core c st) a after

-- the operands are as many as the command has
abbrev pub Whole : ℕ → List ℕ → Type 0
Whole tag operands = width_of tag ≡ some (length operands)

-- ---- 06 to 09

-- into the books, or out of them
abbrev pub way_for : Command → Way
way_for BringIn = incoming
way_for PayIn = incoming
way_for _ = outgoing

-- ---- 0A to 0D

-- the halves: "delivering first", or with their sides
abbrev pub halves_for : Command → List ℕ → Halves
halves_for SettleSided o = sided_at o
halves_for DeriveSided o = sided_at o
halves_for _ o = ordered_at o

-- the day behind them
abbrev pub day_for : Command → List ℕ → ℕ
day_for SettleSided o = sided_day_at o
day_for DeriveSided o = sided_day_at o
day_for _ o = ordered_day_at o

-- two halves settled, or their chain derived, on a day by the program
abbrev pub instruction : Bool → Halves → ℕ → Call
instruction true hs day = settle hs day program_steps
instruction false hs day = derive hs day program_steps

-- whether the command settles
abbrev pub settles : Command → Bool
settles Settle = true
settles SettleSided = true
settles _ = false

-- as the command has it
abbrev pub instruction_for : Command → List ℕ → Call
instruction_for x o = instruction (settles x) (halves_for x o) (day_for x o)
