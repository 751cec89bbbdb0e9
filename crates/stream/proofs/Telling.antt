-- A turn by what stands at its place: nothing, a stop, or a command obeyed; and the lines of its steps.
use mathlib.Core.Path.{◌≡◌, refl, ap}
use Prim.Native.Nat.{ℕ, ◌+◌, ◌-◌}
use native.Mathlib.Numerals.{add-one}
use mathlib.Core.List.{List, [], ◌∷◌, ◌++◌, append-nil}
use lib.ListN.{length, take, drop}
use Rattle.rules.specs.declared.Step.{Step}
use Rattle.rules.specs.declared.Answer.{Answer}
use Rattle.rules.specs.declared.Answer.TheVariants.{Refused}
use Rattle.rules.specs.Calls.{Store, Outcome, core, count_of}
use Rattle.rules.specs.Stream.{call_of, said, step_line, step_lines}
use Rattle.chain.specs.StepList.{step_at, steps_in}
use Rattle.text.specs.Appended.{Appended}
use Rattle.text.proofs.Appends.{then, named}
use Rattle.text.proofs.Said.{line_and_steps, lines_append}
use Rattle.wire.specs.Commands.{Placed, End, Unknown, Cut, Command, next_at}
use Rattle.stream.specs.declared.turns.Turn.{Turn}
use Rattle.stream.specs.Obeyed.{Held, Holds, Obeys}
use Rattle.stream.specs.Turns.{stopped, told_by, told, Takes}

-- ---- steps

-- one step more
pub step_more : {out out₁ out₂ : List ℕ} {at mid end : ℕ} (numbers : List ℕ) (i : ℕ) (x : Step) → x ≡ step_at numbers i
    → Appended out at out₁ mid (step_lines (steps_in numbers i)) → Appended out₁ mid out₂ end (step_line x)
    → Appended out at out₂ end (step_lines (steps_in numbers (i + 1)))
unfolding step_lines steps_in
step_more numbers i x e a b =
    let lines : step_lines (steps_in numbers i) ++ step_line x ≡ step_lines (steps_in numbers (i + 1)) =
    rw (e, add-one i, lines_append (steps_in numbers i) (step_at numbers i ∷ []), append-nil) in
    named lines (then a b)

-- ---- a turn

-- the line and the steps of what obeys a call are what the call says
same_lines : (n : ℕ) (o : Outcome) (a : Answer) (h : Held) → Obeys o a h
    → said n a [] ++ step_lines (steps_in h.steps (count_of a)) ≡ said n o.answer o.steps
same_lines n o a h k = rw (k.answer, k.steps) (line_and_steps n o.answer o.steps)

module _ (s : List ℕ) (n at : ℕ) (st : Store) where
  pub told_is : (x : Placed) → next_at s at ≡ x → told s n at st ≡ told_by s n at st x
  unfolding told
  told_is x e = ap (told_by s n at st) e

module _ (s : List ℕ) (n at : ℕ) (out : List ℕ) (end : ℕ) (st : Store) (h : Held) (holds : Holds h st) where
  pub takes_nothing : (after : List ℕ) (last : ℕ) → next_at s at ≡ End → Appended out end after last []
      → Takes (told s n at st) out end after (record { at = at; end = last }) h
  takes_nothing after last e a = rw (told_is s n at st End e) (record { lines = a; on = refl; left = holds })

  stops : (refusal : ℕ) (after : List ℕ) (r : Turn) → Appended out end after r.end (said n (Refused refusal) []) × (r.at ≡ length s)
      → Takes (stopped s n refusal st) out end after r h
  stops refusal after r a = record { lines = a.0; on = a.1; left = holds }

  pub takes_unknown : (after : List ℕ) (r : Turn) → next_at s at ≡ Unknown → Appended out end after r.end (said n (Refused 1) []) × (r.at ≡ length s)
      → Takes (told s n at st) out end after r h
  takes_unknown after r k a = rw (told_is s n at st Unknown k) (stops 1 after r a)

  pub takes_cut : (after : List ℕ) (r : Turn) → next_at s at ≡ Cut → Appended out end after r.end (said n (Refused 2) []) × (r.at ≡ length s)
      → Takes (told s n at st) out end after r h
  takes_cut after r k a = rw (told_is s n at st Cut k) (stops 2 after r a)

module _ (s : List ℕ) (n at : ℕ) (out : List ℕ) (end : ℕ) (st : Store) where
  pub takes_command : (tag start next : ℕ) (a : Answer) (h : Held) (mid after : List ℕ) (line k last : ℕ)
      → next_at s at ≡ Command tag start next → Obeys (core (call_of tag (take (next - start) (drop start s))) st) a h
      → Appended out end mid line (said n a []) → k ≡ count_of a → Appended mid line after last (step_lines (steps_in h.steps k))
      → Takes (told s n at st) out end after (record { at = next; end = last }) h
  takes_command tag start next a h mid after line k last e o l f m =
      rw (told_is s n at st (Command tag start next) e)
      (record { lines = named (same_lines n _ a h o) (then l (rw f at m)); on = refl; left = o.left })
