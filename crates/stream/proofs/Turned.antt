-- A turn against the rules' lines: what it tells, and the lines of what it leaves, are the lines before it. On a ready store a call's core is the
-- call; the store stays ready, and no number of it goes beyond ±10^15.
use mathlib.Core.Path.{◌≡◌, refl, sym, ap, ◌∙◌}
use Prim.Native.Nat.{ℕ, zero, suc, ◌+◌, ◌-◌, ◌*◌, ◌≤◌, ◌<◌}
use native.Mathlib.Decide.{dec_lt}
use native.Mathlib.Omega.{arith}
use mathlib.Core.List.{List, [], ◌++◌}
use mathlib.Core.Option.{Option, none, some}
use lib.ListN.{length, take, drop, get_or}
use Rattle.rules.specs.declared.Answer.TheVariants.{Refused}
use Rattle.rules.specs.Calls.{Store, Outcome, core, desk}
use Rattle.rules.specs.Stream.{next_of, ended, width_of, call_of, said, ending, lines_from}
use Rattle.rules.proofs.Running.{Ready, core_ready, core_is_desk}
use Rattle.wire.specs.Commands.{Placed, End, Unknown, Cut, Command, next_at}
use Rattle.wire.proofs.Found.{finds_end, finds_unknown, finds_cut, finds_command, ended_at, unknown_at, cut_at, Stands, stands}
use Rattle.stream.specs.Turns.{Told, stopped, done, told_by, told}
use Rattle.stream.proofs.Telling.{told_is}
use Rattle.stream.proofs.CallKinds.{fits}
use Rattle.rules.proofs.Limits.{Bounded, desk_bounded}
use Rattle.stream.proofs.Brief.{brief, stop_short}

-- ---- the end of the input

lines_ended : (k n : ℕ) (s : List ℕ) (st : Store) → next_of s ≡ ended → lines_from k n s st ≡ ending st
unfolding lines_from
lines_ended zero n s st e = refl
lines_ended (suc k) n s st e = rw e

pub lines_end : (k n : ℕ) (s : List ℕ) (at : ℕ) (st : Store) → length s ≤ at → lines_from k n (drop at s) st ≡ ending st
lines_end k n s at st h = lines_ended k n (drop at s) st (ended_at s at (finds_end s at h))

-- something stands before it
not_ended : (s : List ℕ) (at : ℕ) → at < length s → next_at s at ≡ End → ⊥
not_ended s at h e = go (width_of (get_or s at 0)) refl
  where
    by_length : (w : ℕ) → width_of (get_or s at 0) ≡ some w → Dec (length s - (at + 1) < w) → ⊥
    by_length w k (yes l) = let f : next_at s at ≡ Cut = finds_cut s at h w k l in let z : ◌≡◌ {A = ℕ} 0 1 = cc in omega arith
    by_length w k (no l) =
        let f : next_at s at ≡ Command (get_or s at 0) (at + 1) (at + 1 + w) = finds_command s at h w k (omega arith) in
        let z : ◌≡◌ {A = ℕ} 0 1 = cc in omega arith

    go : (x : Option ℕ) → width_of (get_or s at 0) ≡ x → ⊥
    go none k = let f : next_at s at ≡ Unknown = finds_unknown s at h k in let z : ◌≡◌ {A = ℕ} 0 1 = cc in omega arith
    go (some w) k = by_length w k (dec_lt (length s - (at + 1)) w)

-- ---- a turn

pub record Turned (s : List ℕ) (n at : ℕ) (st : Store) (t : Told) : Type 0 where
  pub lines : (k : ℕ) → lines_from (suc k) n (drop at s) st ≡ t.text ++ lines_from k (suc n) (drop t.at s) t.left
  pub ready : Ready t.left
  pub bounded : Bounded t.left
  pub on : at < t.at
  pub within : t.at ≤ length s
  -- at most 6 bytes for each byte, and 16 more for a stop
  pub short : t.at < length s → length t.text + 6 * at ≤ 6 * t.at
  pub fits : length t.text + 6 * at ≤ 6 * t.at + 16

module _ (s : List ℕ) (n at : ℕ) (st : Store) (low : n < 100_000) (before : at < length s) (ready : Ready st) (bounded : Bounded st) where
  stop_turned : (refusal : ℕ) → refusal < 100 → ((k : ℕ) → lines_from (suc k) n (drop at s) st ≡ said n (Refused refusal) [] ++ ending st)
      → Turned s n at st (stopped s n refusal st)
  stop_turned refusal l e =
      record {
        lines = λ k. e k ∙ ap (λ (text : List ℕ). said n (Refused refusal) [] ++ text) (sym (lines_end k (suc n) s (length s) st (omega arith)));
        ready = ready;
        bounded = bounded;
        on = before;
        within = omega arith;
        short = λ k. absurd (omega arith);
        fits = omega (arith, stop_short n refusal low l);
      }

  unknown_lines : next_at s at ≡ Unknown → (k : ℕ) → lines_from (suc k) n (drop at s) st ≡ said n (Refused 1) [] ++ ending st
  unfolding lines_from
  unknown_lines e k = rw (unknown_at s at e)

  cut_lines : next_at s at ≡ Cut → (k : ℕ) → lines_from (suc k) n (drop at s) st ≡ said n (Refused 2) [] ++ ending st
  unfolding lines_from
  cut_lines e k = rw (cut_at s at e)

  module _ (tag start end : ℕ) (h : Stands s at tag start end) where
    abbrev operands : List ℕ
    operands = take (end - start) (drop start s)

    abbrev outcome : Outcome
    outcome = core (call_of tag operands) st

    same : desk (call_of tag operands) st ≡ outcome
    same = core_is_desk (call_of tag operands) st ready (fits st ready tag operands)

    command_lines : (k : ℕ) → lines_from (suc k) n (drop at s) st ≡ said n outcome.answer outcome.steps ++ lines_from k (suc n) (drop end s) outcome.store
    unfolding lines_from
    command_lines k = rw (h.finds, same)

    command_turned : Turned s n at st (done n outcome end)
    command_turned =
        let short : length (said n outcome.answer outcome.steps) ≤ 6 * (end - start + 1) = rw same at (brief st ready n tag (end - start) operands low h.width) in
        record {
          lines = command_lines;
          ready = core_ready (call_of tag operands) st ready;
          bounded = rw same at (desk_bounded (call_of tag operands) st bounded);
          on = omega (arith, h.starts, h.forward);
          within = h.inside;
          short = λ k. omega (arith, h.starts, h.forward);
          fits = omega (arith, h.starts, h.forward);
        }

  turned_by : (x : Placed) → next_at s at ≡ x → Turned s n at st (told_by s n at st x)
  turned_by End e = absurd (not_ended s at before e)
  turned_by Unknown e = stop_turned 1 (omega arith) (unknown_lines e)
  turned_by Cut e = stop_turned 2 (omega arith) (cut_lines e)
  turned_by (Command tag start end) e = command_turned tag start end (stands s at tag start end e)

  pub turned : Turned s n at st (told s n at st)
  turned = rw (told_is s n at st (next_at s at) refl) (turned_by (next_at s at) refl)
