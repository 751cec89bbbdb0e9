-- Laws of decimal digits: none to three, one more behind those of a tenth, three more behind those of a thousandth; and how many there are.
use mathlib.Core.Path.{◌≡◌, refl, sym, ◌∙◌, ap}
use Prim.Native.Nat.{ℕ, zero, suc, ◌+◌, ◌-◌, ◌/◌, ◌%◌, ◌^◌, ◌≤◌, ◌<◌}
use native.Mathlib.Nat.{pow-suc}
use native.Mathlib.Decide.{dec_lt}
use native.Mathlib.Omega.{arith}
use mathlib.Core.Bool.{Bool, true, false, cond}
use mathlib.Core.List.{List, [], ◌∷◌, ◌++◌, append_assoc}
use lib.Dec.{ltb}
use lib.ListN.{length, length-append}
use borrow.Author.Tests.{lt-ltb, le-ltb, ltb-false}
use Rattle.rules.specs.Stream.{digits, decimal}

less_one : (k : ℕ) → suc k - 1 ≡ k
less_one k = omega arith

pub digits_none : (k n : ℕ) → k ≡ 0 → digits k n ≡ []
unfolding digits
digits_none zero n e = refl
digits_none (suc k) n e = absurd (omega (arith, e))

pub digits_one : (k n : ℕ) → (k ≡ 0 → ⊥) → n < 10 → digits k n ≡ (n % 10 + 48) ∷ []
unfolding digits
digits_one zero n e h = absurd (e refl)
digits_one (suc k) n e h = simp (lt-ltb n 10 h)

pub digits_more : (k n : ℕ) → (k ≡ 0 → ⊥) → 10 ≤ n → digits k n ≡ digits (k - 1) (n / 10) ++ ((n % 10 + 48) ∷ [])
unfolding digits
digits_more zero n e h = absurd (e refl)
digits_more (suc k) n e h = simp (le-ltb n 10 h, less_one k)

-- ---- a number of few digits

-- its last digit
abbrev pub last : ℕ → ℕ
last n = n % 10 + 48

digits_two : (k n : ℕ) → 2 ≤ k → 10 ≤ n → n < 100 → digits k n ≡ last (n / 10) ∷ (last n ∷ [])
digits_two k n e h l =
    digits_more k n (λ z. omega (arith, z)) h
    ∙ ap (λ (s : List ℕ). s ++ (last n ∷ [])) (digits_one (k - 1) (n / 10) (λ z. omega (arith, z)) (omega arith))

pub digits_three : (k n : ℕ) → 3 ≤ k → 100 ≤ n → n < 1_000 → digits k n ≡ last (n / 100) ∷ (last (n / 10) ∷ (last n ∷ []))
digits_three k n e h l =
    let q : n / 10 / 10 ≡ n / 100 = omega arith in
    digits_more k n (λ z. omega (arith, z)) (omega arith)
    ∙ ap (λ (s : List ℕ). s ++ (last n ∷ [])) (digits_two (k - 1) (n / 10) (omega arith) (omega arith) (omega arith))
    ∙ ap (λ (m : ℕ). last m ∷ (last (n / 10) ∷ (last n ∷ []))) q

-- three digits are enough
enough : (j k n : ℕ) → 3 ≤ j → 3 ≤ k → n < 1_000 → digits j n ≡ digits k n
enough j k n a b l = go (dec_lt n 10) (dec_lt n 100)
  where
    go : Dec (n < 10) → Dec (n < 100) → digits j n ≡ digits k n
    go (yes h) t = digits_one j n (λ z. omega (arith, z)) h ∙ sym (digits_one k n (λ z. omega (arith, z)) h)
    go (no o) (yes h) = digits_two j n (omega arith) (omega arith) h ∙ sym (digits_two k n (omega arith) (omega arith) h)
    go (no o) (no h) = digits_three j n a (omega arith) l ∙ sym (digits_three k n b (omega arith) l)

-- three digits behind those of a thousandth
pub thousands : (k n : ℕ) → 6 ≤ k → 1_000 ≤ n → n < 1_000_000
    → digits k (n / 1_000) ++ (last (n / 100) ∷ (last (n / 10) ∷ (last n ∷ []))) ≡ digits k n
thousands k n e h l =
    let p : n / 10 / 10 ≡ n / 100 = omega arith in
    let q : n / 100 / 10 ≡ n / 1_000 = omega arith in
    let tens : digits k n ≡ digits (k - 1) (n / 10) ++ (last n ∷ []) = digits_more k n (λ z. omega (arith, z)) (omega arith) in
    let hundreds : digits (k - 1) (n / 10) ≡ digits (k - 1 - 1) (n / 10 / 10) ++ (last (n / 10) ∷ []) =
    digits_more (k - 1) (n / 10) (λ z. omega (arith, z)) (omega arith) in
    let rest : digits (k - 1 - 1) (n / 100) ≡ digits (k - 1 - 1 - 1) (n / 100 / 10) ++ (last (n / 100) ∷ []) =
    digits_more (k - 1 - 1) (n / 100) (λ z. omega (arith, z)) (omega arith) in
    let same : digits (k - 1 - 1 - 1) (n / 1_000) ≡ digits k (n / 1_000) =
    enough (k - 1 - 1 - 1) k (n / 1_000) (omega arith) (omega arith) (omega arith) in
    sym (rw (tens, hundreds, p, rest, q, same) (simp append_assoc))

-- the text of a number below 10, below 100, below 1,000, by its digits as they are computed
pub one_is : (n a : ℕ) → a ≡ last n → n < 10 → a ∷ [] ≡ decimal n
one_is n a e h = ap (λ (m : ℕ). m ∷ []) e ∙ sym (digits_one 20 n (λ z. omega (arith, z)) h)

pub two_are : (n a b : ℕ) → a ≡ last (n / 10) → b ≡ last n → 10 ≤ n → n < 100 → a ∷ (b ∷ []) ≡ decimal n
two_are n a b e f h l = rw (e, f, digits_two 20 n (omega arith) h l)

pub three_are : (n a b c : ℕ) → a ≡ last (n / 100) → b ≡ last (n / 10) → c ≡ last n → 100 ≤ n → n < 1_000 → a ∷ (b ∷ (c ∷ [])) ≡ decimal n
three_are n a b c e f g h l = rw (e, f, g, digits_three 20 n (omega arith) h l)

-- three digits as they are computed
pub listed : {a b c x y z : ℕ} → a ≡ x → b ≡ y → c ≡ z → ◌≡◌ {A = List ℕ} (a ∷ (b ∷ (c ∷ []))) (x ∷ (y ∷ (z ∷ [])))
listed e f g = rw (e, f, g)

-- ---- how many there are

-- a number below 10 to the m has at most m digits, where m is not 0
pub few_digits : (k m n : ℕ) → n < 10 ^ suc m → length (digits k n) ≤ suc m
unfolding digits
few_digits zero m n h = omega arith
few_digits (suc k) m n h = go m h (ltb n 10) refl (λ j l. few_digits k j (n / 10) l)
  where
    go : (m : ℕ) → n < 10 ^ suc m → (b : Bool) → ltb n 10 ≡ b → ((j : ℕ) → n / 10 < 10 ^ suc j → length (digits k (n / 10)) ≤ suc j)
        → length (cond b ((n % 10 + 48) ∷ []) (digits k (n / 10) ++ ((n % 10 + 48) ∷ []))) ≤ suc m
    go m h true e below = omega arith
    go zero h false e below = let l : 10 ≤ n = ltb-false n 10 e in absurd (omega (arith, pow-suc 10 0))
    go (suc j) h false e below =
        omega (arith, below j (omega (arith, pow-suc 10 (suc j))), length-append (digits k (n / 10)) ((n % 10 + 48) ∷ []))

-- k digits at most
pub digits_at_most : (k n : ℕ) → length (digits k n) ≤ k
unfolding digits
digits_at_most zero n = omega arith
digits_at_most (suc k) n = go (ltb n 10) (digits_at_most k (n / 10))
  where
    go : (b : Bool) → length (digits k (n / 10)) ≤ k → length (cond b ((n % 10 + 48) ∷ []) (digits k (n / 10) ++ ((n % 10 + 48) ∷ []))) ≤ suc k
    go true below = omega arith
    go false below = omega (arith, below, length-append (digits k (n / 10)) ((n % 10 + 48) ∷ []))
