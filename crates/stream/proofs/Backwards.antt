-- Laws of text written from its end to its front: each part stands before the one written last, over bytes that are written after it.
use mathlib.Core.Path.{◌≡◌, refl, sym, ◌∙◌, ap}
use Prim.Native.Nat.{ℕ, ◌+◌, ◌-◌, ◌≤◌}
use native.Mathlib.Omega.{arith}
use mathlib.Core.List.{List, [], ◌++◌, append_assoc}
use lib.ListN.{length, take, drop, length-append, take-append-drop}
use lib.Seq.{take_all, take_at, take-take, length-take-le, drop_at, drop-drop, drop-append-le}
use Rattle.text.specs.Appended.{Appended, shown}
use Rattle.text.proofs.Appends.{Fitted, fits}
use Rattle.stream.specs.Words.{Before}

-- ---- a text that fits

module _ {out out' text : List ℕ} {at end : ℕ} (f : Fitted out at out' end text) (inside : at ≤ length out) where
  -- what stands before it stays
  before_it : take at out' ≡ take at out
  before_it =
      sym (take-take at end out' (omega (arith, f.ends)))
      ∙ (ap (take at) f.front ∙ take_at (take at out) text at (length-take-le at out inside))

  -- from its place on it stands, and then what stood behind it
  from_it : drop at out' ≡ text ++ drop end out
  from_it =
      ap (drop at) (sym (take-append-drop end out'))
      ∙ rw (f.front, f.rest, append_assoc) (drop_at (take at out) (text ++ drop end out) at (length-take-le at out inside))

-- ---- before a place

-- four bytes, the last of which are the text
pub word_before : {out out' word : List ℕ} {last : ℕ} (end : ℕ) (text : List ℕ) → Appended out (end - 4) out' last word → length word ≡ 4 → 4 ≤ end → end ≤ length out
    → length text ≤ 4 → drop (4 - length text) word ≡ text → Before out end out' text
word_before {out} {out'} {word} {last} end text a four h inside short e =
    let f : Fitted out (end - 4) out' last word = fits a (omega arith) in
    let p : end - length text ≡ end - 4 + (4 - length text) = omega arith in
    let q : last ≡ end = omega (arith, f.ends) in
    record {
      front = before_it f (omega arith);
      tail =
          rw (p, ← drop-drop (4 - length text) (end - 4) out', from_it f (omega arith), q)
          (drop-append-le (4 - length text) word (drop end out) (omega arith) ∙ ap (λ (s : List ℕ). s ++ drop end out) e);
      same = a.same;
    }

-- ---- one text before another

-- `out` has become `out'`: the text stands between `from` and `end`; the bytes from `end` on and those before `at` are as they were
pub record Ahead (out : List ℕ) (at end : ℕ) (out' : List ℕ) (from : ℕ) (text : List ℕ) : Type 0 where
  pub front : take at out' ≡ take at out
  pub tail : drop from out' ≡ text ++ drop end out
  pub same : length out' ≡ length out
  pub ends : from + length text ≡ end

pub nothing : (out : List ℕ) (at end : ℕ) → Ahead out at end out end []
nothing out at end = record { front = refl; tail = refl; same = refl; ends = omega arith }

-- one text more
pub ahead : {out out₁ out₂ x y : List ℕ} {at end from : ℕ} (to : ℕ) → Ahead out at end out₁ from y → Before out₁ from out₂ x
    → at + 4 ≤ from → from ≡ to + length x → Ahead out at end out₂ to (x ++ y)
ahead {out} {out₁} {out₂} {x} {y} {at} {end} {from} to a b h e =
    let p : to ≡ from - length x = omega arith in
    record {
      front =
          sym (take-take at (from - 4) out₂ (omega arith))
          ∙ (ap (take at) b.front ∙ (take-take at (from - 4) out₁ (omega arith) ∙ a.front));
      tail = rw (p, b.tail, a.tail) (sym (append_assoc x y (drop end out)));
      same = b.same ∙ a.same;
      ends = omega (arith, a.ends, length-append x y);
    }

-- the text appended in front of them: all of it stands at its place
pub closed : {out out₁ out₂ x y : List ℕ} {at end from : ℕ} → Ahead out at end out₁ from y → Appended out₁ at out₂ from x
    → at + length x ≡ from → end ≤ length out → Appended out at out₂ end (x ++ y)
closed {out} {out₁} {out₂} {x} {y} {at} {end} {from} a b e h =
    let f : Fitted out₁ at out₂ from x = fits b (omega (arith, a.same, a.ends)) in
    let inside : at ≤ length out₁ = omega (arith, a.same, a.ends) in
    let long : length (take at out ++ (x ++ y)) ≡ end =
    omega (arith, a.ends, length-append (take at out) (x ++ y), length-append x y, length-take-le at out (omega (arith, a.same))) in
    let all : out₂ ≡ (take at out ++ (x ++ y)) ++ drop end out =
    sym (take-append-drop at out₂) ∙ rw (before_it f inside, a.front, from_it f inside, a.tail) (simp append_assoc) in
    let uncut : shown out at (x ++ y) ≡ take at out ++ (x ++ y) = take_all (length out) (take at out ++ (x ++ y)) (omega arith) in
    record {
      ends = sym (ap length uncut ∙ long);
      front = rw all (take_at (take at out ++ (x ++ y)) (drop end out) end long ∙ sym uncut);
      rest = rw all (drop_at (take at out ++ (x ++ y)) (drop end out) end long);
      same = b.same ∙ a.same;
    }
