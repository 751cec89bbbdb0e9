-- Bytes put from a place on stand there, and every other byte keeps; so a table of identifiers has one identifier more.
use Prim.Native.Nat.{ℕ, zero, suc, ◌+◌, ◌≤◌, ◌<◌}
use mathlib.Core.Path.{◌≡◌, refl, sym, ap, ◌∙◌}
use mathlib.Core.Logic.{◌≢◌}
use mathlib.Core.Bool.{Bool, true, false, cond}
use mathlib.Core.List.{List, [], ◌∷◌, ◌++◌}
use mathlib.Core.Option.{Option, none, some}
use native.Mathlib.Omega.{arith}
use native.Mathlib.Decide.{dec_lt, ℕ_discrete}
use lib.Dec.{ltb}
use lib.ListN.{length, get_or, set, get_elem?, length-set}
use lib.Seq.{get_or-set_same, get_or-set_other}
use borrow.Author.Tests.{lt-ltb}
use Rattle.index.proofs.Laws.{unknown, row_new, row_old}
use Rattle.identifiers.specs.Names.{names_size, with_byte, with_bytes}

-- ---- one byte
module _ (b : List ℕ) (p n : ℕ) where
  byte_length : length (with_byte b p n) ≡ length b
  unfolding with_byte
  byte_length = go (ltb p names_size)
    where
      go : (t : Bool) → length (cond t (set b p n) b) ≡ length b
      go true = length-set b p n
      go false = refl

  byte_other : (j : ℕ) → j ≢ p → get_or (with_byte b p n) j 0 ≡ get_or b j 0
  unfolding with_byte
  byte_other j o = go (ltb p names_size)
    where
      go : (t : Bool) → get_or (cond t (set b p n) b) j 0 ≡ get_or b j 0
      go true = get_or-set_other b p j n 0 o
      go false = refl

  byte_here : length b ≡ names_size → p < names_size → get_or (with_byte b p n) p 0 ≡ n
  unfolding with_byte
  byte_here e h = rw (lt-ltb p names_size h) (get_or-set_same b p n 0 (omega arith))

-- ---- several, one after another
pub bytes_length : (xs b : List ℕ) (p : ℕ) → length (with_bytes b p xs) ≡ length b
unfolding with_bytes
bytes_length [] b p = refl
bytes_length (x ∷ xs) b p = bytes_length xs (with_byte b p x) (suc p) ∙ byte_length b p x

pub bytes_other : (xs b : List ℕ) (p j : ℕ) → (p ≤ j → j < p + length xs → ⊥) → get_or (with_bytes b p xs) j 0 ≡ get_or b j 0
unfolding with_bytes
bytes_other [] b p j h = refl
bytes_other (x ∷ xs) b p j h =
    bytes_other xs (with_byte b p x) (suc p) j (λ f g. h (omega arith) (omega arith)) ∙ byte_other b p x j (λ e. h (omega arith) (omega arith))

-- they stand where 0 stood
bytes_here : (xs b : List ℕ) (p k : ℕ) → length b ≡ names_size → p + k < names_size → get_or b (p + k) 0 ≡ 0 → get_or (with_bytes b p xs) (p + k) 0 ≡ get_or xs k 0
unfolding with_bytes
bytes_here [] b p k size h e = e
bytes_here (x ∷ xs) b p zero size h e =
    let q : p + 0 ≡ p = omega arith in
    rw q (bytes_other xs (with_byte b p x) (suc p) p (λ f g. omega arith) ∙ byte_here b p x size (omega arith))
bytes_here (x ∷ xs) b p (suc k) size h e =
    let q : p + suc k ≡ suc p + k = omega arith in
    rw q (bytes_here xs (with_byte b p x) (suc p) k (byte_length b p x ∙ size) (omega arith) (byte_other b p x (suc p + k) (omega arith) ∙ (rw q at e)))

-- ---- identifiers of w bytes each, one for a row; the next row's is put behind those of the rows in use
module _ {A : Type 0} (byte : Option A → ℕ → ℕ) (b : List ℕ) (start : ℕ → ℕ) (w most : ℕ) (rows : List A) (x : A) (xs : List ℕ)
    (size : length b ≡ names_size) (spaced : (i j : ℕ) → i < j → start i + w ≤ start j) (fits : start most ≤ names_size) (few : length rows < most) (short : length xs ≤ w)
    (old : (i k : ℕ) → i < most → k < w → get_or b (start i + k) 0 ≡ byte (get_elem? rows i) k)
    (blank : (k : ℕ) → byte none k ≡ 0) (new : (k : ℕ) → k < w → get_or xs k 0 ≡ byte (some x) k) where
  abbrev n : ℕ
  n = length rows

  apart : (i k : ℕ) → i ≢ n → k < w → start n ≤ start i + k → start i + k < start n + length xs → ⊥
  apart i k o h f g = go (dec_lt i n)
    where
      go : Dec (i < n) → ⊥
      go (yes l) = omega (arith, spaced i n l)
      go (no l) = omega (arith, spaced n i (omega arith))

  pub name_added : (i k : ℕ) → i < most → k < w → get_or (with_bytes b (start n) xs) (start i + k) 0 ≡ byte (get_elem? (rows ++ (x ∷ [])) i) k
  name_added i k h g = go (ℕ_discrete i n)
    where
      go : Dec (i ≡ n) → get_or (with_bytes b (start n) xs) (start i + k) 0 ≡ byte (get_elem? (rows ++ (x ∷ [])) i) k
      go (yes e) =
          let free : get_or b (start n + k) 0 ≡ 0 = old n k few g ∙ (ap (λ o. byte o k) (unknown rows n (omega arith)) ∙ blank k) in
          rw (e, row_new rows x) (bytes_here xs b (start n) k size (omega (arith, spaced n most few)) free ∙ new k g)
      go (no o) = bytes_other xs b (start n) (start i + k) (apart i k o g) ∙ (old i k h g ∙ ap (λ r. byte r k) (sym (row_old rows x i o)))
