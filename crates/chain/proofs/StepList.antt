-- Steps in a list of numbers: one more put behind the first n leaves those as they were, and the rest untouched.
use Prim.Native.Nat.{ℕ, zero, suc, ◌+◌, ◌*◌, ◌%◌, ◌≤◌, ◌<◌}
use mathlib.Core.Path.{◌≡◌, refl, sym, ap, ◌∙◌}
use mathlib.Core.Bool.{Bool, true, false, ◌&&◌, cond}
use mathlib.Core.List.{List, [], ◌∷◌, ◌++◌}
use native.Mathlib.Omega.{arith}
use native.Mathlib.Nat.{mod-eq_of_lt}
use native.Mathlib.Numerals.{add-one}
use lib.Dec.{eqb, ltb}
use lib.ListN.{length, get_or, set, drop, length-set, length-append, length-drop}
use lib.Seq.{sets-eq, get_or-set_same, get_or-set_other, take_at, drop-append-add, drop-drop}
use borrow.Author.Tests.{lt-ltb, eq-eqb}
use Rattle.rules.specs.declared.Step.{Step}
use Rattle.rules.specs.Chain.{step, step_limit}
use Rattle.chain.specs.StepList.{step_numbers, step_at, steps_in, with_step, numbers_of, noted, Holds}

-- ---- the first n steps of a list
pub steps_none : (l : List ℕ) → steps_in l 0 ≡ []
unfolding steps_in
steps_none l = refl

pub steps_counted : (l : List ℕ) (n : ℕ) → n ≡ length (steps_in l n)
unfolding steps_in
steps_counted l zero = refl
steps_counted l (suc n) = rw length-append (omega (arith, steps_counted l n))

-- the list with the step's three numbers
abbrev pub set_step : List ℕ → ℕ → Step → List ℕ
set_step l n x = set (set (set l (3 * n) x.csd) (3 * n + 1) x.debited) (3 * n + 2) x.credited

-- ---- a step in a list that can hold it
module _ (l : List ℕ) (n : ℕ) (size : length l ≡ step_numbers) (room : n < step_limit) where
  fits : (eqb (length l) step_numbers && ltb n step_limit) ≡ true
  fits = rw (eq-eqb (length l) step_numbers size, lt-ltb n step_limit room)

  pub step_here : step_at l n ≡ step (get_or l (3 * n) 0 % 256) (get_or l (3 * n + 1) 0) (get_or l (3 * n + 2) 0)
  unfolding step_at
  step_here = rw fits

  pub put_here : (x : Step) → with_step l n x ≡ set_step l n x
  unfolding with_step
  put_here x = rw fits

-- ---- a step put
pub length_step : (l : List ℕ) (n : ℕ) (x : Step) → length (with_step l n x) ≡ length l
unfolding with_step
length_step l n x = go (eqb (length l) step_numbers && ltb n step_limit)
  where
    go : (b : Bool) → length (cond b (set_step l n x) l) ≡ length l
    go true = simp length-set
    go false = refl

-- lists alike up to the first n steps
alike : (l k : List ℕ) (n : ℕ) → length l ≡ length k → ((i : ℕ) → i < 3 * n → get_or l i 0 ≡ get_or k i 0) → steps_in l n ≡ steps_in k n
unfolding steps_in step_at
alike l k zero s e = refl
alike l k (suc n) s e =
    let before : steps_in l n ≡ steps_in k n = alike l k n s (λ i h. e i (omega arith)) in
    let a : get_or l (3 * n) 0 ≡ get_or k (3 * n) 0 = e (3 * n) (omega arith) in
    let b : get_or l (3 * n + 1) 0 ≡ get_or k (3 * n + 1) 0 = e (3 * n + 1) (omega arith) in
    let c : get_or l (3 * n + 2) 0 ≡ get_or k (3 * n + 2) 0 = e (3 * n + 2) (omega arith) in
    rw (before, s, a, b, c)

module _ (l : List ℕ) (n : ℕ) (x : Step) (size : length l ≡ step_numbers) (room : n < step_limit) where
  elsewhere : (i : ℕ) → i < 3 * n → get_or (with_step l n x) i 0 ≡ get_or l i 0
  elsewhere i h =
      rw (put_here l n size room x)
      (get_or-set_other (set (set l (3 * n) x.csd) (3 * n + 1) x.debited) (3 * n + 2) i x.credited 0 (omega arith)
      ∙ (get_or-set_other (set l (3 * n) x.csd) (3 * n + 1) i x.debited 0 (omega arith)
      ∙ get_or-set_other l (3 * n) i x.csd 0 (omega arith)))

  first_number_lem : get_or (with_step l n x) (3 * n) 0 ≡ x.csd
  first_number_lem =
      rw (put_here l n size room x)
      (get_or-set_other (set (set l (3 * n) x.csd) (3 * n + 1) x.debited) (3 * n + 2) (3 * n) x.credited 0 (omega arith)
      ∙ (get_or-set_other (set l (3 * n) x.csd) (3 * n + 1) (3 * n) x.debited 0 (omega arith)
      ∙ get_or-set_same l (3 * n) x.csd 0 (omega arith)))

  second_number : get_or (with_step l n x) (3 * n + 1) 0 ≡ x.debited
  second_number =
      rw (put_here l n size room x)
      (get_or-set_other (set (set l (3 * n) x.csd) (3 * n + 1) x.debited) (3 * n + 2) (3 * n + 1) x.credited 0 (omega arith)
      ∙ get_or-set_same (set l (3 * n) x.csd) (3 * n + 1) x.debited 0 (rw length-set (omega arith)))

  third_number : get_or (with_step l n x) (3 * n + 2) 0 ≡ x.credited
  third_number =
      rw (put_here l n size room x)
      (get_or-set_same (set (set l (3 * n) x.csd) (3 * n + 1) x.debited) (3 * n + 2) x.credited 0 (simp length-set (omega arith)))

  here : x.csd < 256 → step_at (with_step l n x) n ≡ x
  here small =
      step_here (with_step l n x) n (length_step l n x ∙ size) room
      ∙ rw (first_number_lem, second_number, third_number, mod-eq_of_lt small)

  one_more_lem : x.csd < 256 → steps_in (with_step l n x) (n + 1) ≡ steps_in l n ++ (x ∷ [])
  unfolding steps_in
  one_more_lem small =
      rw (add-one n)
      (ap (λ (p : List Step). p ++ (step_at (with_step l n x) n ∷ [])) (alike (with_step l n x) l n (length_step l n x) elsewhere)
      ∙ ap (λ (y : Step). steps_in l n ++ (y ∷ [])) (here small))

-- ---- steps noted
length_numbers : (xs : List Step) → length (numbers_of xs) ≡ 3 * length xs
unfolding numbers_of
length_numbers [] = refl
length_numbers (x ∷ xs) = omega (arith, length_numbers xs)

numbers_more : (xs : List Step) (x : Step) → numbers_of (xs ++ (x ∷ [])) ≡ numbers_of xs ++ (x.csd ∷ x.debited ∷ x.credited ∷ [])
unfolding numbers_of
numbers_more [] x = refl
numbers_more (y ∷ xs) x = rw (numbers_more xs x)

behind : (p q : List ℕ) (m k : ℕ) → length p ≡ m → drop (m + k) (p ++ q) ≡ drop k q
behind p q m k e = rw (← e) (drop-append-add p q k)

pub noted_none : (l : List ℕ) → noted [] l ≡ l
unfolding noted numbers_of
noted_none l = refl

module _ (xs : List Step) (l : List ℕ) (size : length l ≡ step_numbers) where
  pub length_noted : length xs ≤ step_limit → length (noted xs l) ≡ step_numbers
  unfolding noted
  length_noted few = rw (length-append, length-drop, length_numbers xs, size) (omega arith)

  pub noted_more : (x : Step) → length xs < step_limit → with_step (noted xs l) (length xs) x ≡ noted (xs ++ (x ∷ [])) l
  unfolding noted
  noted_more x room =
      let n = length xs in
      let size' : length (numbers_of xs ++ drop (3 * n) l) ≡ step_numbers = length_noted (omega arith) in
      let one : 3 * n + 1 ≡ suc (3 * n) = omega arith in
      let two : 3 * n + 2 ≡ suc (suc (3 * n)) = omega arith in
      let after : 3 * length (xs ++ (x ∷ [])) ≡ 3 * n + 3 = rw length-append (omega arith) in
      put_here (numbers_of xs ++ drop (3 * n) l) n size' room x
      ∙ rw (one, two)
      (sets-eq (x.csd ∷ x.debited ∷ x.credited ∷ []) (numbers_of xs ++ drop (3 * n) l) (3 * n) (omega arith)
      ∙ rw (take_at (numbers_of xs) (drop (3 * n) l) (3 * n) (length_numbers xs), behind (numbers_of xs) (drop (3 * n) l) (3 * n) 3 (length_numbers xs), drop-drop, after, numbers_more))

-- ---- steps put into a list one by one
pub holds_none : (l : List ℕ) → Holds l [] l 0
holds_none l = record { list = sym (noted_none l); read = steps_none l }

pub holds_more : {l k : List ℕ} {xs : List Step} {n : ℕ} → length l ≡ step_numbers → n < step_limit → (x : Step) → x.csd < 256 → Holds l xs k n
    → Holds l (xs ++ (x ∷ [])) (with_step k n x) (n + 1)
holds_more {l} {k} {xs} {n} size room x small h =
    let count : n ≡ length xs = steps_counted k n ∙ ap length h.read in
    let size' : length k ≡ step_numbers = ap length h.list ∙ length_noted xs l size (omega arith) in
    record {
      list = rw (h.list, count) (noted_more xs l size x (omega arith));
      read = one_more_lem k n x size' room small ∙ rw h.read;
    }
