-- Bytes read with 0 for those that are not there: where all are there, they are the rules' bytes; and what is read of them is what is read of the part.
use mathlib.Core.Path.{◌≡◌, refl, sym, ◌∙◌, ap}
use Prim.Native.Nat.{ℕ, zero, suc, ◌+◌, ◌*◌, ◌≤◌, ◌<◌}
use native.Mathlib.Decide.{dec_lt}
use native.Mathlib.Omega.{arith}
use mathlib.Core.List.{List, [], ◌∷◌, ◌++◌}
use lib.ListN.{length, get_or, drop, length-drop, length-append, get_or-append}
use lib.Seq.{take-suc, get_or-drop, get_or-append_seam}
use Rattle.rules.specs.Stream.{bytes_at, number_at, half_at, sided_half_at}
use Rattle.wire.specs.Operands.{padded_at, csd_in, security_in, account_in, pair_in, link_in, move_in, payment_in}

pub padded_is : (o : List ℕ) (at w : ℕ) → at + w ≤ length o → padded_at o at w ≡ bytes_at o at w
unfolding padded_at
padded_is o at zero h = refl
padded_is o at (suc w) h =
    rw (padded_is o at w (omega arith), ← get_or-drop at o w 0) (sym (take-suc (drop at o) w 0 (omega (arith, length-drop at o))))

-- how many they are
long : (o : List ℕ) (at w : ℕ) → length (padded_at o at w) ≡ w
unfolding padded_at
long o at zero = refl
long o at (suc w) = omega (arith, length-append (padded_at o at w) (get_or o (at + w) 0 ∷ []), long o at w)

-- a byte of them
byte_of : (o : List ℕ) (at w k : ℕ) → k < w → get_or (padded_at o at w) k 0 ≡ get_or o (at + k) 0
unfolding padded_at
byte_of o at zero k h = absurd (omega arith)
byte_of o at (suc w) k h = go (byte_of o at w k) (dec_lt k w)
  where
    go : (k < w → get_or (padded_at o at w) k 0 ≡ get_or o (at + k) 0) → Dec (k < w)
        → get_or (padded_at o at w ++ (get_or o (at + w) 0 ∷ [])) k 0 ≡ get_or o (at + k) 0
    go before (yes i) = get_or-append (padded_at o at w) (get_or o (at + w) 0 ∷ []) 0 k (omega (arith, long o at w)) ∙ before i
    go before (no i) =
        let e : w ≡ k = omega arith in
        let m : k ≡ length (padded_at o at w) = omega (arith, long o at w) in
        ap (λ (j : ℕ). get_or (padded_at o at w ++ (get_or o (at + w) 0 ∷ [])) j 0) m
        ∙ get_or-append_seam (padded_at o at w) (get_or o (at + w) 0) [] 0
        ∙ ap (λ (j : ℕ). get_or o (at + j) 0) e

-- a number among them
number_of : (o : List ℕ) (at w j i : ℕ) → j + i ≤ w → number_at (padded_at o at w) j i ≡ number_at o (at + j) i
unfolding number_at
number_of o at w j zero h = refl
number_of o at w j (suc i) h =
    let e : at + (j + i) ≡ at + j + i = omega arith in
    ap (λ (x : ℕ). x * 256 + get_or (padded_at o at w) (j + i) 0) (number_of o at w j i (omega arith))
    ∙ ap (λ (x : ℕ). number_at o (at + j) i * 256 + x) (byte_of o at w (j + i) (omega arith) ∙ ap (λ (k : ℕ). get_or o k 0) e)

-- a number among them, by where it stands in the bytes that there are
number_there : (o : List ℕ) (at w j i k : ℕ) → j + i ≤ w → at + j ≡ k → number_at (padded_at o at w) j i ≡ number_at o k i
number_there o at w j i k h e = number_of o at w j i h ∙ ap (λ (n : ℕ). number_at o n i) e

-- of a part
number_dropped : (o : List ℕ) (at j i : ℕ) → number_at (drop at o) j i ≡ number_at o (at + j) i
unfolding number_at
number_dropped o at j zero = refl
number_dropped o at j (suc i) =
    let e : at + (j + i) ≡ at + j + i = omega arith in
    ap (λ (x : ℕ). x * 256 + get_or (drop at o) (j + i) 0) (number_dropped o at j i)
    ∙ ap (λ (x : ℕ). number_at o (at + j) i * 256 + x) (get_or-drop at o (j + i) 0 ∙ ap (λ (k : ℕ). get_or o k 0) e)

module _ (o : List ℕ) (at w : ℕ) where
  number_among : (j i : ℕ) → j + i ≤ w → number_at (padded_at o at w) j i ≡ number_at (drop at o) j i
  number_among j i h = number_of o at w j i h ∙ sym (number_dropped o at j i)

  bytes_among : (j i : ℕ) → j + i ≤ w → padded_at (padded_at o at w) j i ≡ padded_at (drop at o) j i
  unfolding padded_at
  bytes_among j zero h = refl
  bytes_among j (suc i) h =
      rw (bytes_among j i (omega arith), byte_of o at w (j + i) (omega arith), get_or-drop at o (j + i) 0)

-- the bytes of a part
pub bytes_dropped : (o : List ℕ) (at i : ℕ) → padded_at (drop at o) 0 i ≡ padded_at o at i
unfolding padded_at
bytes_dropped o at zero = refl
bytes_dropped o at (suc i) =
    let e : at + (0 + i) ≡ at + i = omega arith in
    rw (bytes_dropped o at i, get_or-drop at o (0 + i) 0, e)

-- ---- what is read of them is what is read of the part

pub number_padded : (o : List ℕ) (at w : ℕ) → number_at (padded_at o at w) 0 w ≡ number_at o at w
number_padded o at w = number_there o at w 0 w at (omega arith) (omega arith)

pub bytes_padded : (o : List ℕ) (at w : ℕ) → padded_at (padded_at o at w) 0 w ≡ padded_at o at w
bytes_padded o at w = bytes_among o at w 0 w (omega arith) ∙ bytes_dropped o at w

module _ (o : List ℕ) (at : ℕ) where
  pub csd_padded : csd_in (drop 0 (padded_at o at 12)) ≡ csd_in (drop at o)
  csd_padded = rw (number_among o at 12 0 1 (omega arith), bytes_among o at 12 1 11 (omega arith))

  pub security_padded : security_in (drop 0 (padded_at o at 12)) ≡ security_in (drop at o)
  security_padded = rw (bytes_among o at 12 0 12 (omega arith))

  pub account_padded : account_in (drop 0 (padded_at o at 2)) ≡ account_in (drop at o)
  account_padded = rw (number_among o at 2 0 1 (omega arith), number_among o at 2 1 1 (omega arith))

  pub pair_padded : pair_in (drop 0 (padded_at o at 8)) ≡ pair_in (drop at o)
  pair_padded =
      rw (number_among o at 8 0 1 (omega arith), number_among o at 8 1 1 (omega arith), number_among o at 8 2 2 (omega arith), number_among o at 8 4 2 (omega arith), number_among o at 8 6 2 (omega arith))

  pub link_padded : link_in (drop 0 (padded_at o at 11)) ≡ link_in (drop at o)
  link_padded =
      rw (number_among o at 11 0 1 (omega arith), number_among o at 11 1 1 (omega arith), number_among o at 11 2 1 (omega arith), number_among o at 11 3 1 (omega arith), number_among o at 11 4 1 (omega arith), number_among o at 11 5 2 (omega arith), number_among o at 11 7 2 (omega arith), number_among o at 11 9 2 (omega arith))

  pub move_padded : move_in (drop 0 (padded_at o at 13)) ≡ move_in (drop at o)
  move_padded = rw (number_among o at 13 0 2 (omega arith), number_among o at 13 2 1 (omega arith), number_among o at 13 3 8 (omega arith), number_among o at 13 11 2 (omega arith))

  pub payment_padded : payment_in (drop 0 (padded_at o at 10)) ≡ payment_in (drop at o)
  payment_padded = rw (number_among o at 10 0 2 (omega arith), number_among o at 10 2 8 (omega arith))

pub half_padded : (o : List ℕ) (at : ℕ) → half_at (padded_at o at 20) 0 ≡ half_at o at
half_padded o at =
    rw (number_there o at 20 0 2 at (omega arith) (omega arith), number_of o at 20 2 1 (omega arith), number_of o at 20 3 1 (omega arith), number_of o at 20 4 8 (omega arith), number_of o at 20 12 8 (omega arith))

pub sided_half_padded : (o : List ℕ) (at : ℕ) → sided_half_at (padded_at o at 21) 0 ≡ sided_half_at o at
sided_half_padded o at =
    rw (number_there o at 21 0 1 at (omega arith) (omega arith), number_of o at 21 1 2 (omega arith), number_there o at 21 3 1 (at + 1 + 2) (omega arith) (omega arith), number_there o at 21 4 1 (at + 1 + 3) (omega arith) (omega arith), number_there o at 21 5 8 (at + 1 + 4) (omega arith) (omega arith), number_there o at 21 13 8 (at + 1 + 12) (omega arith) (omega arith))
