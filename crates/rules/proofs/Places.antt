-- Conditions in the order of places: where each test says its number's proposition once those before it fail, the number given is the
-- first that applies.
use mathlib.Core.Path.{◌≡◌, refl}
use mathlib.Core.Logic.{◌⊎◌, inl, inr}
use mathlib.Core.Bool.{Bool, true, false, ◌&&◌, ◌||◌, cond}
use mathlib.Core.List.{List, [], ◌∷◌, Memᴰ}
use Prim.Native.Nat.{ℕ, zero, suc, ◌≤◌, ◌<◌}
use native.Mathlib.Omega.{arith}
use lib.Dec.{eqb, ltb, leb}
use Rattle.rules.specs.Tests.{any, Condition, ◌when◌, first_of}
use Rattle.rules.specs.Refusals.{places, First, now, later}
use Rattle.rules.proofs.Basics.{clash, and_both, leb_is}
use Rattle.rules.proofs.Reflection.{Says, says_as, says_or, says_eq, says_lt, says_any, says_below, denies, denied}

-- the conditions cs render the propositions P of the numbers ns
pub data Renders (P : ℕ → Type 0) : List Condition → List ℕ → Type 0 where
  end : Renders P [] []
  skip : {m : ℕ} {ns : List ℕ} {cs : List Condition} → (P m → ⊥) → Renders P cs ns → Renders P cs (m ∷ ns)
  test : {m : ℕ} {b : Bool} {ns : List ℕ} {cs : List Condition} → Says (P (suc m)) b → (b ≡ false → Renders P cs ns)
      → Renders P ((suc m when b) ∷ cs) (suc m ∷ ns)

-- a condition that holds ends the list: nothing behind it is asked
pub stop : {P : ℕ → Type 0} {m : ℕ} {ns : List ℕ} {cs : List Condition} → P (suc m) → Renders P ((suc m when true) ∷ cs) (suc m ∷ ns)
stop p = test (record { holds = λ e. p; tests = λ q. refl }) (λ e. absurd (clash true refl e))

module _ {P : ℕ → Type 0} where
  -- where no condition holds, no number applies
  pub none_applies : {cs : List Condition} {ns : List ℕ} → Renders P cs ns → first_of cs ≡ 0 → (n : ℕ) → Memᴰ n ns → P n → ⊥
  none_applies end e n i p = elim i [ ]
  none_applies (skip never r) e n (Memᴰ.head h) p = never (rw h at p)
  none_applies (skip never r) e n (Memᴰ.tail i) p = none_applies r e n i p
  none_applies (test {m = m} {b = b} {ns = ns} {cs = cs} S r) e n i p = go b refl e i (λ f g j. none_applies (r f) g n j p)
    where
      go : (x : Bool) → b ≡ x → cond x (suc m) (first_of cs) ≡ 0 → Memᴰ n (suc m ∷ ns) → (b ≡ false → first_of cs ≡ 0 → Memᴰ n ns → ⊥) → ⊥
      go true f g j below = omega arith
      go false f g (Memᴰ.head h) below = denies b S f (rw h at p)
      go false f g (Memᴰ.tail j) below = below f g j

  -- where no number applies, no condition holds
  pub none_holds : {cs : List Condition} {ns : List ℕ} → Renders P cs ns → ((n : ℕ) → Memᴰ n ns → P n → ⊥) → first_of cs ≡ 0
  none_holds end clear = refl
  none_holds (skip k r) clear = none_holds r (λ n i. clear n (Memᴰ.tail i))
  none_holds (test {m = m} {b = b} S r) clear =
      let f : b ≡ false = denied b S (clear (suc m) (Memᴰ.head refl)) in rw f (none_holds (r f) (λ n i. clear n (Memᴰ.tail i)))

  -- the number given is the first that applies
  pub given_first : {cs : List Condition} {ns : List ℕ} → Renders P cs ns → (n : ℕ) → first_of cs ≡ suc n → First P (suc n) ns
  given_first end n e = absurd (omega arith)
  given_first (skip never r) n e = later never (given_first r n e)
  given_first (test {m = m} {b = b} {ns = ns} {cs = cs} S r) n e = go b refl e (λ f g. given_first (r f) n g)
    where
      go : (x : Bool) → b ≡ x → cond x (suc m) (first_of cs) ≡ suc n → (b ≡ false → first_of cs ≡ suc n → First P (suc n) ns) → First P (suc n) (suc m ∷ ns)
      go true f g below = rw (← g) (now (S.holds f))
      go false f g below = later (denies b S f) (below f g)

  -- the first that applies is the number given
  pub first_given : {cs : List Condition} {ns : List ℕ} → Renders P cs ns → (n : ℕ) → First P n ns → first_of cs ≡ n
  first_given end n x4 = elim x4 [ ]
  first_given (skip never r) n (now p) = absurd (never p)
  first_given (skip never r) n (later k f) = first_given r n f
  first_given (test S r) n (now p) = rw (S.tests p)
  first_given (test {b = b} S r) n (later k f) = let e : b ≡ false = denied b S k in rw e (first_given (r e) n f)

-- the same of propositions that say the same
pub renders_as : {P Q : ℕ → Type 0} {cs : List Condition} {ns : List ℕ} → ((n : ℕ) → Memᴰ n ns → P n → Q n) → ((n : ℕ) → Memᴰ n ns → Q n → P n)
    → Renders P cs ns → Renders Q cs ns
renders_as f g end = end
renders_as f g (skip {m = m} never r) = skip (λ q. never (g m (Memᴰ.head refl) q)) (renders_as (λ n i. f n (Memᴰ.tail i)) (λ n i. g n (Memᴰ.tail i)) r)
renders_as f g (test {m = m} S r) =
    test (says_as S (f (suc m) (Memᴰ.head refl)) (g (suc m) (Memᴰ.head refl)))
    (λ e. renders_as (λ n i. f n (Memᴰ.tail i)) (λ n i. g n (Memᴰ.tail i)) (r e))

-- ---- the numbers of the places

-- the numbers from lo on, k of them, before ns
abbrev pub up_from : ℕ → ℕ → List ℕ → List ℕ
up_from lo zero ns = ns
up_from lo (suc k) ns = lo ∷ up_from (suc lo) k ns

-- the places behind 3 and 4
abbrev pub entry_places : List ℕ
entry_places = up_from 5 6 (24 ∷ 11 ∷ 23 ∷ up_from 12 11 [])

-- every number of the list is at least lo, and at most hi
abbrev spans : ℕ → ℕ → List ℕ → Bool
spans lo hi [] = true
spans lo hi (m ∷ ns) = (leb lo m && leb m hi) && spans lo hi ns

spanned : (lo hi : ℕ) (ns : List ℕ) → spans lo hi ns ≡ true → (n : ℕ) → Memᴰ n ns → (lo ≤ n) × (n ≤ hi)
spanned lo hi [] e n x'' = elim x'' [ ]
spanned lo hi (m ∷ ns) e n (Memᴰ.head h) =
    let both = and_both (leb lo m) (leb m hi) (and_both (leb lo m && leb m hi) (spans lo hi ns) e).0 in
    (rw h (leb_is lo m both.0), rw h (leb_is m hi both.1))
spanned lo hi (m ∷ ns) e n (Memᴰ.tail i) = spanned lo hi ns (and_both (leb lo m && leb m hi) (spans lo hi ns) e).1 n i

pub places_range : (n : ℕ) → Memᴰ n places → (3 ≤ n) × (n ≤ 24)
places_range = spanned 3 24 places refl

pub entry_range : (n : ℕ) → Memᴰ n entry_places → (5 ≤ n) × (n ≤ 24)
entry_range = spanned 5 24 entry_places refl

pub listed : (n : ℕ) (ns : List ℕ) → any (eqb n) ns ≡ true → Memᴰ n ns
listed n ns e = let x = (says_any (eqb n) ns (λ m. says_eq n m)).holds e in rw x.2 x.1

pub in_places : (n : ℕ) → 3 ≤ n → n ≤ 24 → Memᴰ n places
in_places n l h = go ((says_below 25 among (λ k. says_or (ltb k 3) (any (eqb k) places) (says_lt k 3) (record { holds = λ e. e; tests = λ e. e }))).holds refl n (omega arith))
  where
    among : ℕ → Bool
    among k = ltb k 3 || any (eqb k) places

    go : (n < 3) ⊎ (any (eqb n) places ≡ true) → Memᴰ n places
    go (inl k) = absurd (omega arith)
    go (inr e) = listed n places e
