-- Laws of appended text: nothing, one byte, one text after another, and what holds where the buffer has room.
use mathlib.Core.Path.{◌≡◌, refl, sym, ◌∙◌, ap}
use Prim.Native.Nat.{ℕ, zero, suc, ◌+◌, ◌-◌, ◌≤◌, ◌<◌, min}
use native.Mathlib.Numerals.{add-one}
use native.Mathlib.Decide.{dec_le}
use native.Mathlib.Omega.{arith}
use mathlib.Core.List.{List, [], ◌∷◌, ◌++◌, append_assoc, append-nil}
use lib.ListN.{length, take, drop, set, get_or, length-append, length-take, length-set}
use lib.Seq.{take-suc, take-suc-set, take_all, take-length, take-append_seam, take_at, take-take, length-take-le, drop-drop, drop-set-lt}
use Rattle.text.specs.Appended.{Appended, shown}

-- ---- the buffer's end

-- what was cut off before is cut off again
cut_cut : (n : ℕ) (x y : List ℕ) → take n (take n x ++ y) ≡ take n (x ++ y)
cut_cut zero x y = refl
cut_cut (suc n) [] y = refl
cut_cut (suc n) (a ∷ x) y = ap (λ (l : List ℕ). a ∷ l) (cut_cut n x y)

-- a text that fits is not cut
whole : (out : List ℕ) (at : ℕ) (text : List ℕ) → at + length text ≤ length out → shown out at text ≡ take at out ++ text
whole out at text h = take_all (length out) (take at out ++ text) (omega (arith, length-append (take at out) text, length-take at out))

-- past the end nothing is written
full : (out : List ℕ) (at : ℕ) (text : List ℕ) → length out ≤ at → shown out at text ≡ out
full out at text h = ap (λ (l : List ℕ). take (length out) (l ++ text)) (take_all at out h) ∙ take-append_seam out text

pub past_end : (out : List ℕ) (at : ℕ) (text : List ℕ) → length out ≤ at → Appended out at out (length out) text
past_end out at text h =
    record { ends = sym (ap length (full out at text h)); front = take-length out ∙ sym (full out at text h); rest = refl; same = refl }

-- ---- where there is room

-- the text is longer by all of the new text
pub record Fitted (out : List ℕ) (at : ℕ) (out' : List ℕ) (end : ℕ) (text : List ℕ) : Type 0 where
  pub ends : end ≡ at + length text
  pub front : take end out' ≡ take at out ++ text
  pub rest : drop end out' ≡ drop end out
  pub same : length out' ≡ length out

ends_there : (out : List ℕ) (at : ℕ) (text : List ℕ) → at + length text ≤ length out → length (shown out at text) ≡ at + length text
ends_there out at text h =
    omega (arith, ap length (whole out at text h), length-append (take at out) text, length-take-le at out (omega arith))

module _ {out out' text : List ℕ} {at end : ℕ} where
  pub fits : Appended out at out' end text → at + length text ≤ length out → Fitted out at out' end text
  fits a h = record { ends = a.ends ∙ ends_there out at text h; front = a.front ∙ whole out at text h; rest = a.rest; same = a.same }

  fitted : Fitted out at out' end text → at + length text ≤ length out → Appended out at out' end text
  fitted a h = record { ends = a.ends ∙ sym (ends_there out at text h); front = a.front ∙ sym (whole out at text h); rest = a.rest; same = a.same }

-- nothing appended; a place past the buffer's end is the buffer's end
pub no_bytes : (out : List ℕ) (at end : ℕ) → end ≡ min at (length out) → Appended out at out end []
no_bytes out at end e = go (dec_le at (length out))
  where
    go : Dec (at ≤ length out) → Appended out at out end []
    go (yes h) =
        let p : end ≡ at = omega arith in
        rw p (fitted (record { ends = omega arith; front = sym (append-nil (take at out)); rest = refl; same = refl }) (omega arith))
    go (no h) = let p : end ≡ length out = omega arith in rw p (past_end out at [] (omega arith))

pub one_byte : (out : List ℕ) (at b : ℕ) → at < length out → Appended out at (set out at b) (at + 1) (b ∷ [])
one_byte out at b h =
    fitted (record {
      ends = refl;
      front = ap (λ (m : ℕ). take m (set out at b)) (add-one at) ∙ take-suc-set out at b h;
      rest = drop-set-lt (at + 1) out at b (omega arith);
      same = length-set out at b;
    }) (omega arith)

-- ---- one text after another

-- what is still to come stands behind it: the law of a loop that appends one text after another
pub followed : {out out' text : List ℕ} {at end : ℕ} (rest : List ℕ) → Appended out at out' end text
    → take (length out) (take end out' ++ rest) ≡ take (length out) (take at out ++ (text ++ rest))
followed {out} {out'} {text} {at} {end} rest a =
    rw a.front (cut_cut (length out) (take at out ++ text) rest ∙ ap (take (length out)) (append_assoc (take at out) text rest))

-- what is as it was from a place on is so from every later place on
pub further : (x y : List ℕ) (mid end : ℕ) → mid ≤ end → drop mid x ≡ drop mid y → drop end x ≡ drop end y
further x y mid end h e =
    let p : end ≡ mid + (end - mid) = omega arith in
    rw p (sym (drop-drop (end - mid) mid x) ∙ (ap (drop (end - mid)) e ∙ drop-drop (end - mid) mid y))

-- a text that ends inside the buffer ends no earlier with more behind it
no_earlier : (out : List ℕ) (at : ℕ) (text : List ℕ) → at ≤ length out → at ≤ length (shown out at text)
no_earlier out at text h =
    omega (arith, length-take (length out) (take at out ++ text), length-append (take at out) text, length-take at out)

pub then : {out out₁ out₂ : List ℕ} {at mid end : ℕ} {x y : List ℕ} → Appended out at out₁ mid x → Appended out₁ mid out₂ end y
    → Appended out at out₂ end (x ++ y)
then {out} {out₁} {out₂} {at} {mid} {end} {x} {y} a b =
    let e : shown out₁ mid y ≡ shown out at (x ++ y) = rw a.same (followed y a) in
    let inside : mid ≤ length out₁ = omega (arith, a.ends, length-take (length out) (take at out ++ x), a.same) in
    let later : mid ≤ end = omega (arith, b.ends, no_earlier out₁ mid y inside) in
    record {
      ends = b.ends ∙ ap length e;
      front = b.front ∙ e;
      rest = b.rest ∙ further out₁ out mid end later a.rest;
      same = b.same ∙ a.same;
    }

-- the same text by another name
pub named : {out out' : List ℕ} {at end : ℕ} {x y : List ℕ} → x ≡ y → Appended out at out' end x → Appended out at out' end y
named e a = rw e at a

-- one byte more of a word
pub more : {out out₁ out₂ : List ℕ} {at mid end : ℕ} (word : List ℕ) (i : ℕ) → i < length word
    → Appended out at out₁ mid (take i word) → Appended out₁ mid out₂ end (get_or word i 0 ∷ []) → Appended out at out₂ end (take (i + 1) word)
more word i h a b =
    let e : take i word ++ (get_or word i 0 ∷ []) ≡ take (i + 1) word = rw add-one (sym (take-suc word i 0 h)) in
    named e (then a b)

-- ---- bytes written one after another, where there is room

-- one byte more behind a text
pub one_more_lem : {out out₁ x : List ℕ} {at mid : ℕ} (end b : ℕ) → Appended out at out₁ mid x → mid < length out → end ≡ mid + 1
    → Appended out at (set out₁ mid b) end (x ++ (b ∷ []))
one_more_lem {out} {out₁} {x} {at} {mid} end b a h e = rw e (then a (one_byte out₁ mid b (omega (arith, a.same))))

pub two_bytes : (out : List ℕ) (at a b : ℕ) → at + 1 < length out → Appended out at (set (set out at a) (at + 1) b) (at + 2) (a ∷ (b ∷ []))
two_bytes out at a b h = one_more_lem (at + 2) b (one_byte out at a (omega arith)) h (omega arith)

pub three_bytes : (out : List ℕ) (at a b c : ℕ) → at + 2 < length out
    → Appended out at (set (set (set out at a) (at + 1) b) (at + 2) c) (at + 3) (a ∷ (b ∷ (c ∷ [])))
three_bytes out at a b c h = one_more_lem (at + 3) c (two_bytes out at a b (omega arith)) h (omega arith)

pub four_bytes : (out : List ℕ) (at a b c d : ℕ) → at + 3 < length out
    → Appended out at (set (set (set (set out at a) (at + 1) b) (at + 2) c) (at + 3) d) (at + 4) (a ∷ (b ∷ (c ∷ (d ∷ []))))
four_bytes out at a b c d h = one_more_lem (at + 4) d (three_bytes out at a b c (omega arith)) h (omega arith)

-- a text over the last byte of another
pub over : {out out₁ out₂ v : List ℕ} {at mid last end y : ℕ} (x : List ℕ) (b : ℕ) → Appended out at out₁ last (x ++ (b ∷ [])) → at + length x < length out
    → last ≡ mid + 1 → Appended out₁ mid out₂ end (y ∷ v) → Appended out at out₂ end (x ++ (y ∷ v))
over {out} {out₁} {out₂} {v} {at} {mid} {last} {end} {y} x b a h m c =
    let long : length (x ++ (b ∷ [])) ≡ length x + 1 = length-append x (b ∷ []) in
    let f : Fitted out at out₁ last (x ++ (b ∷ [])) = fits a (omega arith) in
    let seam : length (take at out ++ x) ≡ mid = omega (arith, f.ends, length-append (take at out) x, length-take-le at out (omega arith)) in
    let cut : take mid out₁ ≡ take at out ++ x =
    sym (take-take mid last out₁ (omega arith))
    ∙ (ap (take mid) (f.front ∙ sym (append_assoc (take at out) x (b ∷ []))) ∙ take_at (take at out ++ x) (b ∷ []) mid seam) in
    let e : shown out₁ mid (y ∷ v) ≡ shown out at (x ++ (y ∷ v)) =
    rw (a.same, cut) (ap (take (length out)) (append_assoc (take at out) x (y ∷ v))) in
    let later : last ≤ end =
    omega (arith, c.ends, a.same, f.ends, length-take (length out₁) (take mid out₁ ++ (y ∷ v)), length-append (take mid out₁) (y ∷ v), length-take mid out₁) in
    record {
      ends = c.ends ∙ ap length e;
      front = c.front ∙ e;
      rest = c.rest ∙ further out₁ out last end later a.rest;
      same = c.same ∙ a.same;
    }

-- ---- the front of the buffer

-- it ends where the new text does, or before
pub ends_by : {out out' text : List ℕ} {at end : ℕ} → Appended out at out' end text → end ≤ at + length text
ends_by {out} {out'} {text} {at} {end} a =
    omega (arith, a.ends, length-take (length out) (take at out ++ text), length-append (take at out) text, length-take at out)
