-- Laws of the tables: where a number's word and its size stand, and that its text is the end of its word.
use mathlib.Core.Path.{◌≡◌, refl, sym, ◌∙◌, ap}
use Prim.Native.Nat.{ℕ, zero, suc, ◌+◌, ◌-◌, ◌*◌, ◌/◌, ◌%◌, ◌≤◌, ◌<◌}
use native.Mathlib.Decide.{dec_lt}
use native.Mathlib.Nat.{mul-suc, mul-le-mul_left}
use native.Mathlib.Numerals.{add-one}
use native.Mathlib.Omega.{arith}
use mathlib.Core.List.{List, [], ◌∷◌, ◌++◌, append_assoc}
use lib.ListN.{length, take, drop, get_or, length-append, get_or-append}
use lib.Seq.{take_all, get_or-append-add}
use Rattle.rules.specs.Stream.{decimal}
use Rattle.text.proofs.Digits.{last, one_is, two_are, three_are, thousands}
use Rattle.stream.specs.Words.{word_of, words_to, number_words, size_of, sizes_to, number_sizes}

-- ---- entries of one width, one after another

module _ (table entry : ℕ → List ℕ) (width : ℕ) (none : table 0 ≡ []) (more : (n : ℕ) → table (suc n) ≡ table n ++ entry n) (wide : (n : ℕ) → length (entry n) ≡ width) where
  long : (n : ℕ) → length (table n) ≡ width * n
  long zero = rw none (omega arith)
  long (suc n) = rw more (omega (arith, long n, wide n, length-append (table n) (entry n), mul-suc width n))

  entry_at : (m n j : ℕ) → n < m → j < width → get_or (table m) (width * n + j) 0 ≡ get_or (entry n) j 0
  entry_at zero n j h l = absurd (omega arith)
  entry_at (suc m) n j h l = rw more (go (dec_lt n m) (λ below. entry_at m n j below l))
    where
      go : Dec (n < m) → (n < m → get_or (table m) (width * n + j) 0 ≡ get_or (entry n) j 0) → get_or (table m ++ entry m) (width * n + j) 0 ≡ get_or (entry n) j 0
      go (yes below) f =
          get_or-append (table m) (entry m) 0 (width * n + j) (omega (arith, long m, mul-suc width n, mul-le-mul_left {m = suc n} {n = m} width below)) ∙ f below
      go (no above) f =
          let e : n ≡ m = omega arith in
          let p : width * n + j ≡ length (table m) + j = omega (arith, long m, ap (λ (i : ℕ). width * i) e) in
          rw p (get_or-append-add (table m) (entry m) j 0 ∙ ap (λ (i : ℕ). get_or (entry i) j 0) (sym e))

-- all of them
whole : (table : ℕ → List ℕ) (n end : ℕ) (s : List ℕ) → n ≡ 1_000 → length s ≤ end → take end s ≡ table n → s ≡ table 1_000
whole table n end s e l h = sym (take_all end s l) ∙ (h ∙ ap table e)

-- ---- one, two and three digits, with the byte behind them

pub one_ends : (b n : ℕ) → n < 10 → last n ∷ (b ∷ []) ≡ decimal n ++ (b ∷ [])
one_ends b n h = ap (λ (s : List ℕ). s ++ (b ∷ [])) (one_is n (last n) refl h)

pub two_end : (b n : ℕ) → 10 ≤ n → n < 100 → last (n / 10) ∷ (last n ∷ (b ∷ [])) ≡ decimal n ++ (b ∷ [])
two_end b n h l = ap (λ (s : List ℕ). s ++ (b ∷ [])) (two_are n _ _ refl refl h l)

pub three_end : (b n : ℕ) → 100 ≤ n → n < 1_000 → word_of b n ≡ decimal n ++ (b ∷ [])
three_end b n h l = ap (λ (s : List ℕ). s ++ (b ∷ [])) (three_are n _ _ _ refl refl refl h l)

-- how many bytes they are
pub few_bytes : (n : ℕ) → n < 1_000 → (2 ≤ size_of n) × (size_of n ≤ 4)
few_bytes n h = go (dec_lt n 10) (dec_lt n 100)
  where
    go : Dec (n < 10) → Dec (n < 100) → (2 ≤ size_of n) × (size_of n ≤ 4)
    go (yes l) d = rw (sym (one_is n (last n) refl l)) (omega arith, omega arith)
    go (no l) (yes k) = rw (sym (two_are n _ _ refl refl (omega arith) k)) (omega arith, omega arith)
    go (no l) (no k) = rw (sym (three_are n _ _ _ refl refl refl (omega arith) h)) (omega arith, omega arith)

pub text_long : (b n : ℕ) → length (decimal n ++ (b ∷ [])) ≡ size_of n
text_long b n = length-append (decimal n) (b ∷ [])

-- a number's text is the end of its word, as much of it as its size says
pub word_ends : (b n : ℕ) → n < 1_000 → drop (4 - size_of n) (word_of b n) ≡ decimal n ++ (b ∷ [])
word_ends b n h = go (dec_lt n 10) (dec_lt n 100)
  where
    go : Dec (n < 10) → Dec (n < 100) → drop (4 - size_of n) (word_of b n) ≡ decimal n ++ (b ∷ [])
    go (yes l) d = rw (sym (one_is n _ refl l))
    go (no l) (yes k) = rw (sym (two_are n _ _ refl refl (omega arith) k))
    go (no l) (no k) = rw (sym (three_are n _ _ _ refl refl refl (omega arith) h))

-- ---- where a word stands

pub no_words : (b : ℕ) → words_to b 0 ≡ []
unfolding words_to
no_words b = refl

words_more : (b n : ℕ) → words_to b (suc n) ≡ words_to b n ++ word_of b n
unfolding words_to
words_more b n = refl

module _ (words : List ℕ) (b : ℕ) (e : words ≡ number_words b) where
  -- byte j of the word of n
  byte : (n j : ℕ) → n < 1_000 → j < 4 → get_or words (4 * n + j) 0 ≡ get_or (word_of b n) j 0
  unfolding number_words
  byte n j h l = ap (λ (s : List ℕ). get_or s (4 * n + j) 0) e ∙ entry_at (words_to b) (word_of b) 4 (no_words b) (words_more b) (λ m. refl) 1_000 n j h l

  first : (n : ℕ) → n < 1_000 → get_or words (4 * n) 0 ≡ last (n / 100)
  first n h = let p : 4 * n ≡ 4 * n + 0 = omega arith in rw p (byte n 0 h (omega arith))

  pub word_is : (n : ℕ) → n < 1_000
      → get_or words (4 * n) 0 ∷ (get_or words (4 * n + 1) 0 ∷ (get_or words (4 * n + 2) 0 ∷ (get_or words (4 * n + 3) 0 ∷ []))) ≡ word_of b n
  word_is n h = rw (first n h, byte n 1 h (omega arith), byte n 2 h (omega arith), byte n 3 h (omega arith))

-- above three digits, the word of the last three stands behind the others
pub six_digits : (b n : ℕ) → 1_000 ≤ n → n < 1_000_000 → decimal (n / 1_000) ++ word_of b (n % 1_000) ≡ decimal n ++ (b ∷ [])
six_digits b n h l =
    let p : n % 1_000 / 100 % 10 ≡ n / 100 % 10 = omega arith in
    let q : n % 1_000 / 10 % 10 ≡ n / 10 % 10 = omega arith in
    let r : n % 1_000 % 10 ≡ n % 10 = omega arith in
    rw (p, q, r)
    (sym (append_assoc (decimal (n / 1_000)) (last (n / 100) ∷ (last (n / 10) ∷ (last n ∷ []))) (b ∷ []))
    ∙ ap (λ (s : List ℕ). s ++ (b ∷ [])) (thousands 20 n (omega arith) h l))

-- ---- the table of words made

-- one word more
pub word_more : (b n : ℕ) → words_to b n ++ word_of b n ≡ words_to b (n + 1)
word_more b n = rw (add-one n) (sym (words_more b n))

pub all_words : (b n : ℕ) (words : List ℕ) → n ≡ 1_000 → length words ≡ 4_000 → take (4 * n) words ≡ words_to b n → words ≡ number_words b
unfolding number_words
all_words b n words e l h = whole (words_to b) n (4 * n) words e (omega arith) h

-- ---- sizes

pub size_two : (n : ℕ) → n < 10 → 2 ≡ size_of n
size_two n h = rw (sym (one_is n (last n) refl h))

pub size_three : (n : ℕ) → 10 ≤ n → n < 100 → 3 ≡ size_of n
size_three n h l = rw (sym (two_are n _ _ refl refl h l))

pub size_four : (n : ℕ) → 100 ≤ n → n < 1_000 → 4 ≡ size_of n
size_four n h l = rw (sym (three_are n _ _ _ refl refl refl h l))

pub no_sizes : sizes_to 0 ≡ []
unfolding sizes_to
no_sizes = refl

sizes_more : (n : ℕ) → sizes_to (suc n) ≡ sizes_to n ++ (size_of n ∷ [])
unfolding sizes_to
sizes_more n = refl

-- one size more
pub size_more : (n : ℕ) → sizes_to n ++ (size_of n ∷ []) ≡ sizes_to (n + 1)
size_more n = rw (add-one n) (sym (sizes_more n))

pub all_sizes : (n : ℕ) (sizes : List ℕ) → n ≡ 1_000 → length sizes ≡ 1_000 → take n sizes ≡ sizes_to n → sizes ≡ number_sizes
unfolding number_sizes
all_sizes n sizes e l h = whole sizes_to n n sizes e (omega arith) h

pub size_stands : (sizes : List ℕ) (n : ℕ) → sizes ≡ number_sizes → n < 1_000 → get_or sizes n 0 ≡ size_of n
unfolding number_sizes
size_stands sizes n e h =
    let p : n ≡ 1 * n + 0 = omega arith in
    rw e (ap (λ (i : ℕ). get_or (sizes_to 1_000) i 0) p ∙ entry_at sizes_to (λ m. size_of m ∷ []) 1 no_sizes sizes_more (λ m. refl) 1_000 n 0 h (omega arith))
