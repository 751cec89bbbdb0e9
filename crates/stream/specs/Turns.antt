-- One command of a stream: its lines, and where the reading goes on. It makes its call's core, which on a stream's store is the call
-- (proofs/Turned). Assumes nothing.
use Rattle.std.specs.Prelude.{◌≡◌, ℕ, ◌-◌, List, [], length, take, drop}
use Rattle.rules.specs.declared.Answer.TheVariants.{Refused}
use Rattle.rules.specs.Calls.{Store, Outcome, core}
use Rattle.rules.specs.Stream.{call_of, said}
use Rattle.text.specs.Appended.{Appended}
use Rattle.wire.specs.Commands.{Placed, End, Unknown, Cut, Command, next_at}
use Rattle.stream.specs.Obeyed.{Held, Holds}
use Rattle.stream.specs.declared.turns.Turn.{Turn}

-- What one command prints, the place of the next, and the store after it.
pub record Told : Type 0 where
  pub text : List ℕ
  pub at : ℕ
  pub left : Store

-- "1 and 2 stop the reading": it goes on at the input's end
abbrev pub stopped : List ℕ → ℕ → ℕ → Store → Told
stopped input n refusal st = record { text = said n (Refused refusal) []; at = length input; left = st }

-- a command with its outcome
abbrev pub done : ℕ → Outcome → ℕ → Told
done n o at = record { text = said n o.answer o.steps; at = at; left = o.store }

-- command n, by what stands at its place
abbrev pub told_by : List ℕ → ℕ → ℕ → Store → Placed → Told
told_by input n at st End = record { text = []; at = at; left = st }
told_by input n at st Unknown = stopped input n 1 st
told_by input n at st Cut = stopped input n 2 st
told_by input n at st (Command tag start end) = done n (core (call_of tag (take (end - start) (drop start input))) st) end

-- command n at the place `at`
unfoldable pub told : List ℕ → ℕ → ℕ → Store → Told
told input n at st = told_by input n at st (next_at input at)

-- The code has taken the turn: the lines stand behind the text before, and the place and the store are the next command's.
pub record Takes (t : Told) (before : List ℕ) (end : ℕ) (after : List ℕ) (r : Turn) (h : Held) : Type 0 where
  pub lines : Appended before end after r.end t.text
  pub on : r.at ≡ t.at
  pub left : Holds h t.left
