-- Laws that the functions' proofs share: bytes put and read one after another, and a search below a number.
use Prim.Native.Nat.{ℕ, zero, suc, ◌+◌, ◌*◌, ◌/◌, ◌≤◌, ◌<◌}
use mathlib.Core.Path.{◌≡◌, refl, sym, ap, ◌∙◌}
use mathlib.Core.Bool.{Bool, ◌&&◌, ◌||◌, and_assoc, and-true, or_assoc, or-false}
use mathlib.Core.List.{List, [], ◌∷◌}
use native.Mathlib.Omega.{arith}
use native.Mathlib.Numerals.{add-one}
use native.Mathlib.Nat.{mul-zero, mul-suc, mul-le-mul_left, mul-div_cancel_left}
use native.Mathlib.Decide.{dec_lt}
use lib.Dec.{eqb}
use lib.ListN.{length, get_or, take, drop, replicate, length-take, length-drop, length-replicate, get_or-eq_default}
use Rattle.std.specs.List.{list_all, list_any}
use Rattle.std.specs.Simd.{first_chunks}
use borrow.Author.Tests.{lt-ltb, le-ltb}
use Rattle.std.proofs.Common.{get_or-drop, drop-drop}
use lib.Seq.{get_or-take, ext_get_or, drop-cons, drop-length}
use Rattle.rules.specs.Tests.{all_below}
use Rattle.rules.specs.Identifiers.{byte_at, same_bytes}
use Rattle.identifiers.specs.Names.{names_size, name_byte, with_byte, with_bytes, bytes_from, any_below}

-- ---- bytes put from the place k on, of which i are passed
module _ (bs l : List ℕ) (k i : ℕ) where
  pub bytes_next : i < length bs → with_bytes (with_byte l (k + i) (get_or bs i 0)) (k + (i + 1)) (drop (i + 1) bs) ≡ with_bytes l (k + i) (drop i bs)
  unfolding with_bytes
  bytes_next h =
      let e : k + (i + 1) ≡ suc (k + i) = omega arith in
      rw (drop-cons bs i 0 h, e, add-one)

  pub bytes_ended : i ≤ length bs → length bs ≤ i → with_bytes l (k + i) (drop i bs) ≡ l
  unfolding with_bytes
  bytes_ended g h =
      let e : i ≡ length bs = omega arith in
      rw (e, drop-length)

-- ---- bytes read from the place p on
from_length : (b : List ℕ) (p n : ℕ) → length (bytes_from b p n) ≡ n
unfolding bytes_from
from_length b p zero = refl
from_length b p (suc n) = rw (from_length b (suc p) n)

pub from_at : (b : List ℕ) (p n k : ℕ) → k < n → byte_at (bytes_from b p n) k ≡ name_byte b (p + k)
unfolding bytes_from
from_at b p zero k h = absurd (omega arith)
from_at b p (suc n) zero h = let e : p + 0 ≡ p = omega arith in rw e
from_at b p (suc n) (suc k) h = let e : p + suc k ≡ suc p + k = omega arith in rw e (from_at b (suc p) n k (omega arith))

pub all_read : (b l : List ℕ) (p n : ℕ) → length l ≡ n → ((k : ℕ) → k < n → get_or l k 0 ≡ name_byte b (p + k)) → l ≡ bytes_from b p n
all_read b l p n e f =
    ext_get_or 0 l (bytes_from b p n) (e ∙ sym (from_length b p n)) (λ k h. f k (omega arith) ∙ sym (from_at b p n k (omega arith)))

-- ---- n of them compared with those of x
same_below : (n : ℕ) (p q : ℕ → Bool) → ((k : ℕ) → k < n → p k ≡ q k) → all_below n p ≡ all_below n q
same_below zero p q h = refl
same_below (suc n) p q h = rw (same_below n p q (λ k g. h k (omega arith)), h n (omega arith))

-- where they are the bytes of a, which may be longer
pub same_as : (b a x : List ℕ) (p n : ℕ) → ((k : ℕ) → k < n → name_byte b (p + k) ≡ byte_at a k) → same_bytes n (bytes_from b p n) x ≡ same_bytes n a x
unfolding same_bytes
same_as b a x p n h =
    same_below n (λ k. eqb (byte_at (bytes_from b p n) k) (byte_at x k)) (λ k. eqb (byte_at a k) (byte_at x k))
    (λ k g. rw (from_at b p n k g, h k g))

-- ---- a test of every byte of a list, place by place
all_first : (n : ℕ) (p : ℕ → Bool) → all_below (suc n) p ≡ (p 0 && all_below n (λ i. p (suc i)))
all_first zero p = sym (and-true (p 0))
all_first (suc n) p = rw (all_first n p) (and_assoc (p 0) (all_below n (λ i. p (suc i))) (p (suc n)))

pub all_listed : (t : ℕ → Bool) (l : List ℕ) → list_all t l ≡ all_below (length l) (λ k. t (byte_at l k))
all_listed t [] = refl
all_listed t (x ∷ l) = rw (all_listed t l) (sym (all_first (length l) (λ k. t (byte_at (x ∷ l) k))))

-- of n of them from a place on
pub all_from : (t : ℕ → Bool) (l : List ℕ) (from n : ℕ) → from + n ≤ length l → list_all t (take n (drop from l)) ≡ all_below n (λ k. t (byte_at l (from + k)))
all_from t l from n h =
    let few : length (take n (drop from l)) ≡ n = omega (arith, length-take n (drop from l), length-drop from l) in
    all_listed t (take n (drop from l))
    ∙ rw few (same_below n (λ k. t (byte_at (take n (drop from l)) k)) (λ k. t (byte_at l (from + k)))
    (λ k g. ap t (get_or-take n (drop from l) k 0 g ∙ get_or-drop from l k 0)))

-- ---- some number below n passes the test
pub any_first : (n : ℕ) (p : ℕ → Bool) → any_below (suc n) p ≡ (p 0 || any_below n (λ i. p (suc i)))
unfolding any_below
any_first zero p = sym (or-false (p 0))
any_first (suc n) p = rw (any_first n p) (or_assoc (p 0) (any_below n (λ i. p (suc i))) (p (suc n)))

any_same : (n : ℕ) (p q : ℕ → Bool) → ((i : ℕ) → i < n → p i ≡ q i) → any_below n p ≡ any_below n q
unfolding any_below
any_same zero p q h = refl
any_same (suc n) p q h = rw (any_same n p q (λ i g. h i (omega arith)), h n (omega arith))

-- ---- n identifiers of w bytes each, one behind another
pub chunk_at : (w n i : ℕ) (l d : List ℕ) → i < n → get_or (first_chunks w n l) i d ≡ take w (drop (w * i) l)
chunk_at w zero i l d h = absurd (omega arith)
chunk_at w (suc n) zero l d h = rw (mul-zero w)
chunk_at w (suc n) (suc i) l d h =
    let e : w + w * i ≡ w * suc i = omega (arith, mul-suc w i) in
    chunk_at w n i (drop w l) d (omega arith) ∙ rw (drop-drop (w * i) w l, e)

length-chunks : (w n : ℕ) (l : List ℕ) → length (first_chunks w n l) ≡ n
length-chunks w zero l = refl
length-chunks w (suc n) l = rw (length-chunks w n (drop w l))

any_chunk : (t : List ℕ → Bool) (w n : ℕ) (l : List ℕ) → list_any t (first_chunks w n l) ≡ any_below n (λ i. t (take w (drop (w * i) l)))
unfolding any_below
any_chunk t w zero l = refl
any_chunk t w (suc n) l =
    let e : (i : ℕ) → t (take w (drop (w * i) (drop w l))) ≡ t (take w (drop (w * suc i) l)) = λ i.
    let q : w + w * i ≡ w * suc i = omega (arith, mul-suc w i) in rw (drop-drop (w * i) w l, q) in
    rw (any_chunk t w n (drop w l), any_same n (λ i. t (take w (drop (w * i) (drop w l)))) (λ i. t (take w (drop (w * suc i) l))) (λ i g. e i))
    (rw (any_first n (λ i. t (take w (drop (w * i) l))), mul-zero w))

-- which the list b has from the place p on
module _ (b l : List ℕ) (p w n : ℕ) (long : w * n ≤ length l) (f : (k : ℕ) → k < w * n → get_or l k 0 ≡ name_byte b (p + k)) where
  pub chunk_named : (i : ℕ) → i < n → take w (drop (w * i) l) ≡ bytes_from b (p + w * i) w
  chunk_named i h =
      let room : w * i + w ≤ w * n = omega (arith, mul-suc w i, mul-le-mul_left w (h)) in
      all_read b (take w (drop (w * i) l)) (p + w * i) w (omega (arith, length-take w (drop (w * i) l), length-drop (w * i) l))
      (λ k g. let e : p + (w * i + k) ≡ p + w * i + k = omega arith in
      get_or-take w (drop (w * i) l) k 0 g ∙ (get_or-drop (w * i) l k 0 ∙ rw e at (f (w * i + k) (omega arith))))

  pub among : (x : List ℕ) → list_any (λ h. same_bytes w h x) (first_chunks w n l) ≡ any_below n (λ i. same_bytes w (bytes_from b (p + w * i) w) x)
  among x =
      any_chunk (λ h. same_bytes w h x) w n l
      ∙ any_same n (λ i. same_bytes w (take w (drop (w * i) l)) x) (λ i. same_bytes w (bytes_from b (p + w * i) w) x)
      (λ i h. rw (chunk_named i h))

-- a part of the list
pub byte_within : (b : List ℕ) (p : ℕ) → p < names_size → name_byte b p ≡ get_or b p 0
unfolding name_byte
byte_within b p h = rw (lt-ltb p names_size h)

byte_behind : (b : List ℕ) (p : ℕ) → names_size ≤ p → name_byte b p ≡ 0
unfolding name_byte
byte_behind b p h = rw (le-ltb p names_size h)

zero_at : (n k : ℕ) → get_or {A = ℕ} (replicate n 0) k 0 ≡ 0
zero_at zero k = refl
zero_at (suc n) zero = refl
zero_at (suc n) (suc k) = zero_at n k

pub part_byte : (b : List ℕ) (p n k : ℕ) → p + n ≤ names_size → k < n → get_or (take n (drop p b)) k 0 ≡ name_byte b (p + k)
part_byte b p n k h g = get_or-take n (drop p b) k 0 g ∙ (get_or-drop p b k 0 ∙ sym (byte_within b (p + k) (omega arith)))

-- a part of the list in which n identifiers stand
module _ (b : List ℕ) (p w n : ℕ) (size : length b ≡ names_size) (room : p + w * n ≤ names_size) (some : 0 < w) where
  abbrev part : List ℕ
  part = take (w * n) (drop p b)

  part_long : length part ≡ w * n
  part_long = omega (arith, length-take (w * n) (drop p b), length-drop p b)

  abbrev held : List (List ℕ)
  held = first_chunks w (length part / w) part

  held_count : length part / w ≡ n
  held_count = rw part_long (mul-div_cancel_left n some)

  held_byte : (k : ℕ) → k < w * n → get_or part k 0 ≡ name_byte b (p + k)
  held_byte k g = part_byte b p (w * n) k room g

  -- one looked for among them
  pub found_among : (x : List ℕ) → list_any (λ h. same_bytes w h x) held ≡ any_below n (λ i. same_bytes w (bytes_from b (p + w * i) w) x)
  found_among x = rw held_count (among b part p w n (omega (arith, part_long)) held_byte x)

  -- one of them, zeros where there is none
  pub fetched : p + w * n ≡ names_size → (i : ℕ) → get_or held i (replicate w 0) ≡ bytes_from b (p + w * i) w
  fetched last i = rw held_count (go (dec_lt i n))
    where
      go : Dec (i < n) → get_or (first_chunks w n part) i (replicate w 0) ≡ bytes_from b (p + w * i) w
      go (yes h) = chunk_at w n i part (replicate w 0) h ∙ chunk_named b part p w n (omega (arith, part_long)) held_byte i h
      go (no o) =
          let far : w * n ≤ w * i = mul-le-mul_left w (omega arith) in
          get_or-eq_default (first_chunks w n part) (replicate w 0) {n = i} (omega (arith, length-chunks w n part))
          ∙ all_read b (replicate w 0) (p + w * i) w (length-replicate w 0)
          (λ k g. zero_at w k ∙ sym (byte_behind b (p + w * i + k) (omega arith)))
