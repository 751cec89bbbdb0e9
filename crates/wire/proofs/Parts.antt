-- A part of a list from an index on, and a list made of what a function gives at each index.
use Prim.Native.Nat.{ℕ, zero, suc, ◌+◌, ◌-◌, ◌≤◌}
use native.Mathlib.Numerals.{add-one}
use native.Mathlib.Nat.{add-zero}
use native.Mathlib.Omega.{arith}
use mathlib.Core.Path.{◌≡◌, refl, sym, ◌∙◌}
use mathlib.Core.List.{List, []}
use lib.ListN.{length, take, drop, get_or, length-drop, drop_of_length-le}
use lib.Seq.{take_all, take-suc}
use denote.Ref.{Bor}
use denote.Param.Members.{Mut}
use Rattle.std.specs.Prelude.{Option, Some, None}
use Rattle.std.specs.Option.{unwrap_or}
use Rattle.std.specs.Fn.{Called}
use Rattle.std.specs.Slice.{IsGetRangeResult}
use Rattle.std.specs.Array.{IsFromFnResultFrom, IsFromFnResult}
use Rattle.wire.specs.Operands.{listed, padded_at}
use Rattle.wire.specs.Padded.{padded_is, bytes_dropped}

-- what `get` lends of it
pub rest_of : (s part : List ℕ) (at : ℕ) → part ≡ take (length s - at) (drop at s) → part ≡ drop at s
rest_of s part at e = e ∙ take_all (length s - at) (drop at s) (omega (arith, length-drop at s))

-- or nothing
pub lent : (s : List ℕ) (at : ℕ) (r : Option (Bor (List ℕ))) (none x : Bor (List ℕ)) → IsGetRangeResult s at (length s) r → none.now ≡ []
    → x ≡ unwrap_or r none → x.now ≡ drop at s
lent s at None none x l e q = rw (q, e) (sym (drop_of_length-le s (omega (arith, l.0))))
lent s at (Some y) none x l e q = rw q (rest_of s y.now at l.0.2)

module _ {F A : Type 0} (g : Mut F (ℕ × Unit {0}) A) (f : F) (h : ℕ → A) (calls : (i : ℕ) (y : A) (q : F) → Called g f (i, tt) y q → (y ≡ h i) × (q ≡ f)) where
  listed_from : (ys : List A) (n i : ℕ) → length ys ≡ i + n → IsFromFnResultFrom g f ys i n → take i ys ≡ listed h i → take (i + n) ys ≡ listed h (i + n)
  unfolding listed
  listed_from ys zero i l m e = rw (add-zero i) e
  listed_from ys (suc n) i l (q, y, there, called, rest) e =
      let made = calls i y q called in
      let again : IsFromFnResultFrom g f ys (i + 1) n = rw made.1 at rest in
      let more : take (i + 1) ys ≡ listed h (i + 1) = rw (add-one i, take-suc ys i y (omega arith), there.0, e, made.0) in
      let next : i + suc n ≡ i + 1 + n = omega arith in
      rw next (listed_from ys n (i + 1) (omega arith) again more)

  -- what `array::from_fn` makes of a function that gives h
  pub from_fn_is : (ys : List A) (n : ℕ) → IsFromFnResult g f ys n → ys ≡ listed h n
  unfolding listed
  from_fn_is ys n m =
      let all : take (0 + n) ys ≡ listed h (0 + n) = listed_from ys n 0 (omega (arith, m.long)) m.each refl in
      let z : 0 + n ≡ n = omega arith in
      sym (take_all n ys (omega (arith, m.long))) ∙ rw z at all

-- ---- bytes

-- the first bytes of a part, with 0 for those that it does not have
pub listed_padded : (part : List ℕ) (w : ℕ) → listed (λ k. get_or part k 0) w ≡ padded_at part 0 w
unfolding listed padded_at
listed_padded part zero = refl
listed_padded part (suc w) = let z : 0 + w ≡ w = omega arith in rw (listed_padded part w, z)

module _ (o part : List ℕ) (at w : ℕ) (e : part ≡ drop at o) where
  pub rest_is : padded_at part 0 w ≡ padded_at o at w
  rest_is = rw e (bytes_dropped o at w)

  pub whole_is : (bytes : List ℕ) → w ≤ length part → bytes ≡ take w part → bytes ≡ padded_at o at w
  whole_is bytes h q = q ∙ sym (padded_is part 0 w (omega arith)) ∙ rest_is

-- bytes that are all there
pub all_there : (bytes : List ℕ) (w : ℕ) → length bytes ≡ w → bytes ≡ padded_at bytes 0 w
all_there bytes w e = whole_is bytes bytes 0 w refl bytes (omega arith) (sym (take_all w bytes (omega arith)))
