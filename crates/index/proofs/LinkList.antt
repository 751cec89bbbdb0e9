-- The list of an index is the search of the table: walked from the newest link on, it has the links of the CSD for the security, newest first. Those of a day
-- are the same list without the others.
use Prim.Native.Nat.{ℕ, zero, suc, ◌+◌, ◌≤◌, ◌<◌}
use mathlib.Core.Path.{◌≡◌, refl, sym, ap, subst, ◌∙◌}
use mathlib.Core.Bool.{Bool, true, false, cond}
use mathlib.Core.List.{List, [], ◌∷◌, ◌++◌, reverse, reverse-cons, Memᴰ}
use mathlib.Core.Option.{Option, some}
use native.Mathlib.Omega.{arith}
use native.Mathlib.Nat.{min-eq_left, mod-eq_of_lt}
use lib.ListN.{length, take, get_elem?, length-reverse, length-take}
use borrow.Author.Tests.{lt-ltb}
use Rattle.rules.specs.declared.Link.{Link}
use Rattle.rules.specs.Tests.{only}
use Rattle.rules.specs.Directory.{link_limit, covers, is_link, links_of, links_for}
use Rattle.rules.proofs.Basics.{impossible}
use Rattle.rules.proofs.RowTests.{says_link}
use Rattle.index.specs.Index.{next_number, first_number, last_number, kind_number, flag_number, technical_number, account_number, link_numbers, row_at, newest_code, link_code, number_at}
use Rattle.index.specs.Asked.{technical_by, link_in, older_at, links_from}
use Rattle.index.proofs.LinkReading.{goes}

-- ---- rows in reverse
module _ {A : Type 0} where
  only_behind : (p : A → Bool) (l : List A) (x : A) → only p (l ++ (x ∷ [])) ≡ only p l ++ only p (x ∷ [])
  only_behind p [] x = refl
  only_behind p (y ∷ l) x = go (p y) (only_behind p l x)
    where
      go : (b : Bool) → only p (l ++ (x ∷ [])) ≡ only p l ++ only p (x ∷ [])
          → cond b (y ∷ only p (l ++ (x ∷ []))) (only p (l ++ (x ∷ []))) ≡ cond b (y ∷ only p l) (only p l) ++ only p (x ∷ [])
      go true below = rw below
      go false below = below

  only_reverse : (p : A → Bool) (l : List A) → only p (reverse l) ≡ reverse (only p l)
  only_reverse p [] = refl
  only_reverse p (x ∷ l) = rw (reverse-cons x l, only_behind p (reverse l) x, only_reverse p l) (go (p x))
    where
      nil : (m : List A) → m ++ [] ≡ m
      nil [] = refl
      nil (y ∷ m) = ap (λ (n : List A). y ∷ n) (nil m)

      go : (b : Bool) → reverse (only p l) ++ cond b (x ∷ []) [] ≡ reverse (cond b (x ∷ only p l) (only p l))
      go true = sym (reverse-cons x (only p l))
      go false = nil (reverse (only p l))

  only_only : (p q : A → Bool) (l : List A) → only p (only q l) ≡ only q (only p l)
  only_only p q [] = refl
  only_only p q (x ∷ l) = go (p x) refl (q x) refl (only_only p q l)
    where
      go : (a : Bool) → p x ≡ a → (b : Bool) → q x ≡ b → only p (only q l) ≡ only q (only p l)
          → only p (cond b (x ∷ only q l) (only q l)) ≡ only q (cond a (x ∷ only p l) (only p l))
      go true e true f below = rw (e, f, below)
      go true e false f below = rw (f, below)
      go false e true f below = rw (e, below)
      go false e false f below = below

-- the links of a day among those of the CSD for the security
pub links_on_lem : (day : ℕ) (ls : List Link) (s c : ℕ) → links_for (links_of day ls) s c ≡ only (covers day) (links_for ls s c)
unfolding links_for links_of
links_on_lem day ls s c =
    ap (only (is_link s c)) (sym (only_reverse (covers day) ls)) ∙ only_only (is_link s c) (covers day) (reverse ls)

-- ---- the first m + 1 rows are the first m and row m
module _ {A : Type 0} where
  row_below : (l : List A) (m : ℕ) → m < length l → (x : A) × (get_elem? l m ≡ some x)
  row_below [] m h = absurd (omega arith)
  row_below (y ∷ l) zero h = (y, refl)
  row_below (y ∷ l) (suc m) h = row_below l m (omega arith)

  pub one_further : (l : List A) (m : ℕ) (x : A) → get_elem? l m ≡ some x → take (suc m) l ≡ take m l ++ (x ∷ [])
  one_further [] m x e = impossible (cc)
  one_further (y ∷ l) zero x e = let f : y ≡ x = cc in rw f
  one_further (y ∷ l) (suc m) x e = ap (λ (n : List A). y ∷ n) (one_further l m x e)

  pub reversed : (l : List A) (x : A) → reverse (l ++ (x ∷ [])) ≡ x ∷ reverse l
  reversed [] x = refl
  reversed (y ∷ l) x = rw (reverse-cons y (l ++ (x ∷ [])), reversed l x, reverse-cons y l)

  is_row : (l : List A) (m : ℕ) (x : A) → get_elem? l m ≡ some x → Memᴰ x l
  is_row [] m x e = impossible (cc)
  is_row (y ∷ l) zero x e = let f : x ≡ y = cc in Memᴰ.head f
  is_row (y ∷ l) (suc m) x e = Memᴰ.tail (is_row l m x e)

  pub all_rows : (l : List A) → take (length l) l ≡ l
  all_rows [] = refl
  all_rows (x ∷ l) = ap (λ (n : List A). x ∷ n) (all_rows l)

-- no link from 0 on
links_none : (l : List ℕ) (s c k : ℕ) → links_from l s c k 0 ≡ []
unfolding links_from
links_none l s c zero = refl
links_none l s c (suc k) = refl

-- older links stand before
newest_before : (s c : ℕ) (older : List Link) → newest_code s c older < row_at (length older)
newest_before s c [] = omega arith
newest_before s c (x ∷ older) = go (is_link s c x) (newest_before s c older)
  where
    go : (b : Bool) → newest_code s c older < row_at (length older) → cond b (row_at (length older)) (newest_code s c older) < row_at (suc (length older))
    go true below = omega arith
    go false below = omega arith

-- ---- the list of an index
module _ (l : List ℕ) (ls : List Link) (few : length ls ≤ link_limit)
    (reads : (n f : ℕ) → n < link_limit → f < link_numbers → number_at l (row_at n + f) ≡ link_code (reverse (take n ls)) (get_elem? ls n) f)
    (small : (x : Link) → Memᴰ x ls → x.technical ≤ 0xff) (s c : ℕ) where
  module _ (n : ℕ) (x : Link) (e : get_elem? ls n ≡ some x) (below : n < link_limit) where
    number : (f : ℕ) → f < link_numbers → number_at l (row_at n + f) ≡ link_code (reverse (take n ls)) (some x) f
    number f h = reads n f below h ∙ ap (λ (o : Option Link). link_code (reverse (take n ls)) o f) e

    link_read : is_link s c x ≡ true → link_in l s c (row_at n) ≡ x
    unfolding link_in
    link_read p =
        let of = (says_link s c x).holds p in
        let technical : technical_by (number_at l (row_at n + technical_number)) ≡ x.technical = ap technical_by (number technical_number (omega arith)) ∙ mod-eq_of_lt (omega (arith, small x (is_row ls n x e))) in
        let kind = number kind_number (omega arith) in
        let flag = number flag_number (omega arith) in
        let account = number account_number (omega arith) in
        let first = number first_number (omega arith) in
        let last = number last_number (omega arith) in
        λ i. record { security = sym of.0 i; kind = kind i; csd = sym of.1 i; technical = technical i; flag = flag i; account = account i; first = first i; last = last i }

    next_read : is_link s c x ≡ true → length (reverse (take n ls)) ≡ n → older_at l (row_at n) ≡ newest_code s c (reverse (take n ls))
    next_read p count =
        let of = (says_link s c x).holds p in
        let next : number_at l (row_at n + next_number) ≡ newest_code s c (reverse (take n ls)) = number next_number (omega arith) ∙ rw (of.0, of.1) in
        let before : newest_code s c (reverse (take n ls)) < row_at n = rw count at (newest_before s c (reverse (take n ls))) in
        rw (next, lt-ltb (newest_code s c (reverse (take n ls))) (row_at n) before)

  walked : (m k : ℕ) → newest_code s c (reverse (take m ls)) ≤ k → m ≤ length ls → links_from l s c k (newest_code s c (reverse (take m ls))) ≡ only (is_link s c) (reverse (take m ls))
  unfolding links_from
  walked zero k a b = links_none l s c k
  walked (suc m) k a b =
      let r = row_below ls m (omega arith) in
      let older = reverse (take m ls) in
      let whole : reverse (take (suc m) ls) ≡ r.0 ∷ older = rw (one_further ls m r.0 r.1) (reversed (take m ls) r.0) in
      rw whole (go r.0 r.1 (is_link s c r.0) refl k (rw whole at a) (λ j h. walked m j h (omega arith)))
    where
      count : length (reverse (take m ls)) ≡ m
      count = length-reverse (take m ls) ∙ (length-take m ls ∙ min-eq_left (omega arith))

      go : (x : Link) → get_elem? ls m ≡ some x → (p : Bool) → is_link s c x ≡ p → (k : ℕ) → cond p (row_at (length (reverse (take m ls)))) (newest_code s c (reverse (take m ls))) ≤ k
          → ((j : ℕ) → newest_code s c (reverse (take m ls)) ≤ j → links_from l s c j (newest_code s c (reverse (take m ls))) ≡ only (is_link s c) (reverse (take m ls)))
          → links_from l s c k (cond p (row_at (length (reverse (take m ls)))) (newest_code s c (reverse (take m ls)))) ≡ cond p (x ∷ only (is_link s c) (reverse (take m ls))) (only (is_link s c) (reverse (take m ls)))
      go x e false f k h below = below k h
      go x e true f zero h below = absurd (omega arith)
      go x e true f (suc k) h below =
          let small_row : m < link_limit = omega (arith, few) in
          let before : newest_code s c (reverse (take m ls)) < row_at (length (reverse (take m ls))) = newest_before s c (reverse (take m ls)) in
          rw (count, goes (row_at m) (omega arith) (omega arith), link_read m x e small_row f, next_read m x e small_row f count, below k (omega arith))

  pub walked_all : links_from l s c (newest_code s c (reverse ls)) (newest_code s c (reverse ls)) ≡ links_for ls s c
  unfolding links_for
  walked_all =
      subst (λ (m : List Link). links_from l s c (newest_code s c (reverse m)) (newest_code s c (reverse m)) ≡ only (is_link s c) (reverse m)) (all_rows ls)
      (walked (length ls) (newest_code s c (reverse (take (length ls) ls))) (omega arith) (omega arith))
