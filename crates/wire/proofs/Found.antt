-- What stands at a place: each answer from the tests that lead to it, and what an answer says of the rules' own.
use mathlib.Core.Path.{◌≡◌, refl, sym, ◌∙◌, ap}
use Prim.Native.Nat.{ℕ, suc, ◌+◌, ◌-◌, ◌≤◌, ◌<◌}
use native.Mathlib.Decide.{dec_lt}
use native.Mathlib.Omega.{arith}
use mathlib.Core.Bool.{Bool, true, false, cond}
use mathlib.Core.List.{List}
use mathlib.Core.Option.{Option, none, some}
use lib.Dec.{ltb}
use lib.ListN.{length, get_or, take, drop, length-drop, drop_of_length-le}
use lib.Seq.{drop-cons, drop-drop, length-take-le}
use borrow.Author.Tests.{lt-ltb, le-ltb, ltb-false}
use Rattle.rules.specs.Stream as Rules
use Rattle.rules.specs.Stream.{next_of, by_width, width_of, ended, unknown, cut, command}
use Rattle.wire.specs.Commands.{End, Unknown, Cut, Command, placed, next_at}

-- two different answers are never the same
never : {A : Type 0} → ◌≡◌ {A = ℕ} 0 1 → A
never z = absurd (omega arith)

-- ---- from the tests to the answer

pub finds_end : (s : List ℕ) (at : ℕ) → length s ≤ at → next_at s at ≡ End
unfolding next_of
finds_end s at h = rw (drop_of_length-le s h)

module _ (s : List ℕ) (at : ℕ) (h : at < length s) where
  -- the byte there, and the bytes behind it
  byte_there : next_of (drop at s) ≡ by_width (get_or s at 0) (drop (suc at) s) (width_of (get_or s at 0))
  unfolding next_of
  byte_there = rw (drop-cons s at 0 h)

  left : length (drop (suc at) s) ≡ length s - (at + 1)
  left = omega (arith, length-drop (suc at) s)

  pub finds_unknown : width_of (get_or s at 0) ≡ none → next_at s at ≡ Unknown
  finds_unknown e = rw (byte_there, e)

  module _ (w : ℕ) (e : width_of (get_or s at 0) ≡ some w) where
    pub finds_cut : length s - (at + 1) < w → next_at s at ≡ Cut
    finds_cut k = rw (byte_there, e, left, lt-ltb (length s - (at + 1)) w k)

    pub finds_command : w ≤ length s - (at + 1) → next_at s at ≡ Command (get_or s at 0) (at + 1) (at + 1 + w)
    finds_command k =
        rw (byte_there, e, left, le-ltb (length s - (at + 1)) w k, length-take-le w (drop (suc at) s) (omega (arith, left)))

-- ---- from the answer to what the rules find

module _ (at : ℕ) where
  is_ended : (x : Rules.Next) → placed at x ≡ End → x ≡ ended
  is_ended ended e = refl
  is_ended unknown e = never (cc)
  is_ended cut e = never (cc)
  is_ended (command t o r) e = never (cc)

  is_unknown : (x : Rules.Next) → placed at x ≡ Unknown → x ≡ unknown
  is_unknown ended e = never (cc)
  is_unknown unknown e = refl
  is_unknown cut e = never (cc)
  is_unknown (command t o r) e = never (cc)

  is_cut : (x : Rules.Next) → placed at x ≡ Cut → x ≡ cut
  is_cut ended e = never (cc)
  is_cut unknown e = never (cc)
  is_cut cut e = refl
  is_cut (command t o r) e = never (cc)

pub ended_at : (s : List ℕ) (at : ℕ) → next_at s at ≡ End → next_of (drop at s) ≡ ended
ended_at s at e = is_ended at (next_of (drop at s)) e

pub unknown_at : (s : List ℕ) (at : ℕ) → next_at s at ≡ Unknown → next_of (drop at s) ≡ unknown
unknown_at s at e = is_unknown at (next_of (drop at s)) e

pub cut_at : (s : List ℕ) (at : ℕ) → next_at s at ≡ Cut → next_of (drop at s) ≡ cut
cut_at s at e = is_cut at (next_of (drop at s)) e

-- a command that stands whole at `at`: its operands, and the bytes behind them, as the rules have them
pub record Stands (s : List ℕ) (at tag start end : ℕ) : Type 0 where
  pub starts : start ≡ at + 1
  pub forward : start ≤ end
  pub inside : end ≤ length s
  pub width : width_of tag ≡ some (end - start)
  pub finds : next_of (drop at s) ≡ command tag (take (end - start) (drop start s)) (drop end s)

module _ (s : List ℕ) (at tag start end : ℕ) where
  by_length : (t w : ℕ) (rest : List ℕ) → rest ≡ drop (suc at) s → at < length s → width_of t ≡ some w → next_of (drop at s) ≡ by_width t rest (some w)
      → (b : Bool) → ltb (length rest) w ≡ b → placed at (cond b cut (command t (take w rest) (drop w rest))) ≡ Command tag start end
      → Stands s at tag start end
  by_length t w rest q h k n true l e = never (cc)
  by_length t w rest q h k n false l e =
      let fits : w ≤ length rest = ltb-false (length rest) w l in
      let here : t ≡ tag = cc in
      let first : at + 1 ≡ start = cc in
      let last : at + 1 + length (take w rest) ≡ end = cc in
      let long : length rest ≡ length s - (at + 1) = ap length q ∙ left s at h in
      let size : end - start ≡ w = omega (arith, length-take-le w rest fits) in
      let behind : suc at + w ≡ end = omega (arith, length-take-le w rest fits) in
      let from : suc at ≡ start = omega arith in
      let found : next_of (drop at s) ≡ command t (take w rest) (drop w rest) = rw (n, l) in
      record {
        starts = omega arith;
        forward = omega arith;
        inside = omega (arith, length-take-le w rest fits);
        width = rw (← here, size) k;
        finds = cc (drop-drop w (suc at) s);
      }

  by_width_lem : (x : Option ℕ) → at < length s → width_of (get_or s at 0) ≡ x → next_at s at ≡ Command tag start end → Stands s at tag start end
  by_width_lem none h k e = let n : next_at s at ≡ Unknown = rw (byte_there s at h, k) in never (cc)
  by_width_lem (some w) h k e =
      let n : next_of (drop at s) ≡ by_width (get_or s at 0) (drop (suc at) s) (some w) = rw (byte_there s at h, k) in
      by_length (get_or s at 0) w (drop (suc at) s) refl h k n (ltb (length (drop (suc at) s)) w) refl (rw n at e)

  pub stands : next_at s at ≡ Command tag start end → Stands s at tag start end
  stands e = go (dec_lt at (length s))
    where
      go : Dec (at < length s) → Stands s at tag start end
      go (yes h) = by_width_lem (width_of (get_or s at 0)) h refl e
      go (no h) = let n : next_at s at ≡ End = finds_end s at (omega arith) in never (cc)

-- the operands are as many as the command has
pub operands_long : {s : List ℕ} {at tag start end : ℕ} → Stands s at tag start end → width_of tag ≡ some (length (take (end - start) (drop start s)))
operands_long {s} {at} {tag} {start} {end} h =
    h.width ∙ ap some (sym (length-take-le (end - start) (drop start s) (omega (arith, h.forward, h.inside, length-drop start s))))
