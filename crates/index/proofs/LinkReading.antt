-- A search of the links that a list of numbers has from a place on is the search of its definitions; and searches of the links of a day.
use Prim.Native.Nat.{ℕ, zero, suc, ◌+◌, ◌≤◌, ◌<◌}
use mathlib.Core.Path.{◌≡◌, refl, sym, ap, ◌∙◌}
use mathlib.Core.Logic.{◌≢◌}
use mathlib.Core.Bool.{Bool, true, false, not, ◌&&◌, ◌||◌, cond}
use mathlib.Core.List.{List, [], ◌∷◌}
use mathlib.Core.Option.{Option, none, some}
use native.Mathlib.Omega.{arith}
use Rattle.std.specs.Prelude.{Some, None, is_some}
use lib.Dec.{eqb, ltb, leb}
use borrow.Author.Tests.{ne_eqb}
use Rattle.rules.specs.declared.Link.{Link}
use Rattle.rules.specs.Tests.{any, find, only}
use Rattle.rules.specs.Directory.{covers}
use Rattle.rules.specs.Entries.{has_day_in}
use Rattle.rules.proofs.Basics.{impossible, eqb_is, equal_tests, clash, and_both, and-true, or_none, or-false, or_right, eqb_not, eqb_false, ltb_is, ltb_not, ltb-true, ltb-false, leb_is, leb-true}
use Rattle.index.specs.declared.links.Wanted.{Wanted}
use Rattle.index.specs.declared.links.Wanted.TheVariants.{Any, Issuers, Defaults, Towards}
use Rattle.index.specs.Index.{newest_at, next_number, last_row, number_at}
use Rattle.index.specs.Asked.{read, link_in, ends_at, older_at, leads, links_from, links_at, links_on}
use Rattle.index.specs.Found.{wants, begins, code_from, found_by, found_in, lead_in}

-- ---- from a place on

-- the link of a place, none for 0
abbrev pub link_of : List ℕ → ℕ → ℕ → ℕ → Option Link
link_of l s c p = cond (eqb p 0) none (some (link_in l s c p))

pub link_of_lem : (l : List ℕ) (s c p : ℕ) → p ≢ 0 → link_of l s c p ≡ some (link_in l s c p)
link_of_lem l s c p n = rw (ne_eqb p 0 n)

-- where the list does not end, a link may begin
pub goes_on_lem : (p : ℕ) → ends_at p ≡ false → (1 ≤ p) × (p ≤ last_row)
goes_on_lem p e =
    let h = or_none (eqb p 0) (ltb last_row p) e in
    let n : p ≢ 0 = eqb_not p 0 h.0 in
    (omega arith, ltb_not last_row p h.1)

pub goes : (p : ℕ) → 1 ≤ p → p ≤ last_row → ends_at p ≡ false
goes p a b = or-false (eqb p 0) (ltb last_row p) (eqb_false p 0 (λ e. omega arith)) (ltb-false last_row p b)

pub ends : (p : ℕ) → last_row < p → ends_at p ≡ true
ends p h = or_right (eqb p 0) (ltb last_row p) (ltb-true last_row p h)

-- the next older link stands before
pub older_before : (l : List ℕ) (p : ℕ) → 1 ≤ p → older_at l p < p
older_before l p a = go (ltb (number_at l (p + next_number)) p) refl
  where
    go : (b : Bool) → ltb (number_at l (p + next_number)) p ≡ b → cond b (number_at l (p + next_number)) 0 < p
    go true e = ltb_is (number_at l (p + next_number)) p e
    go false e = a

-- ---- a link begins at a place, or none does
pub none_begins : (p : ℕ) → ends_at p ≡ true → None ≡ begins p
none_begins p e = rw e

pub one_begins : (p : ℕ) → 1 ≤ p → p ≤ last_row → Some p ≡ begins p
one_begins p a b = rw (goes p a b)

-- a link that begins there stands there, and may
pub begun : (p q : ℕ) → Some q ≡ begins p → (q ≡ p) × (1 ≤ q) × (q ≤ last_row)
begun p q e = go (ends_at p) refl e
  where
    go : (b : Bool) → ends_at p ≡ b → Some q ≡ cond b None (Some p) → (q ≡ p) × (1 ≤ q) × (q ≤ last_row)
    go true f g = impossible (cc)
    go false f g = let h = goes_on_lem p f in let same : q ≡ p = cc in (same, omega (arith, h.0), omega (arith, h.1))

pub ended : (p : ℕ) → None ≡ begins p → ends_at p ≡ true
ended p e = go (ends_at p) refl e
  where
    go : (b : Bool) → ends_at p ≡ b → None ≡ cond b None (Some p) → ends_at p ≡ true
    go true f g = f
    go false f g = impossible (cc)

-- within the list a place is 0 where none does
within_zero : (p : ℕ) → p ≤ last_row → ends_at p ≡ eqb p 0
within_zero p h = rw (ltb-false last_row p h) (go (eqb p 0))
  where
    go : (b : Bool) → (b || false) ≡ b
    go true = refl
    go false = refl

pub begins_there : (p : ℕ) → p ≤ last_row → is_some (begins p) ≡ not (eqb p 0)
begins_there p h = rw (within_zero p h) (go (eqb p 0))
  where
    go : (b : Bool) → is_some (cond b None (Some p)) ≡ not b
    go true = refl
    go false = refl

pub none_begun : (p : ℕ) → p ≤ last_row → None ≡ begins p → p ≡ 0
none_begun p h e = go (eqb p 0) refl (rw (within_zero p h) at e)
  where
    go : (b : Bool) → eqb p 0 ≡ b → None ≡ cond b None (Some p) → p ≡ 0
    go true f g = eqb_is p 0 f
    go false f g = impossible (cc)

module _ (l : List ℕ) (s c : ℕ) (t : Link → Bool) where
  -- the link at the place that is found is the one that a search of the links finds
  pub record Finds (ls : List Link) (p : ℕ) : Type 0 where
    pub link : find t ls ≡ link_of l s c p
    pub there : any t ls ≡ not (eqb p 0)
    pub small : p ≤ last_row

  pub finds : (k p : ℕ) → Finds (links_from l s c k p) (code_from l s c t k p)
  unfolding links_from code_from
  finds zero p = record { link = refl; there = refl; small = omega arith }
  finds (suc k) p = go (ends_at p) refl (t (link_in l s c p)) refl (links_from l s c k (older_at l p)) (code_from l s c t k (older_at l p)) (finds k (older_at l p))
    where
      go : (b : Bool) → ends_at p ≡ b → (h : Bool) → t (link_in l s c p) ≡ h → (older : List Link) (below : ℕ) → Finds older below
          → Finds (cond b [] (link_in l s c p ∷ older)) (cond b 0 (cond h p below))
      go true e h f older below F = record { link = refl; there = refl; small = omega arith }
      go false e true f older below F =
          let g = goes_on_lem p e in
          record {
            link = rw f (sym (link_of_lem l s c p (λ z. omega (arith, g.0))));
            there = rw (f, ne_eqb p 0 (λ z. omega (arith, g.0)));
            small = g.1;
          }
      go false e false f older below F = record { link = rw f F.link; there = rw f F.there; small = F.small }

  -- as many links as are enough
  as_many : (k m p : ℕ) → p ≤ k → p ≤ m → code_from l s c t k p ≡ code_from l s c t m p
  unfolding code_from
  as_many zero zero p a b = refl
  as_many zero (suc m) p a b = let z : p ≡ 0 = omega arith in rw z
  as_many (suc k) zero p a b = let z : p ≡ 0 = omega arith in rw z
  as_many (suc k) (suc m) p a b = go (ends_at p) refl (λ h. as_many k m (older_at l p) (omega (arith, older_before l p (goes_on_lem p h).0)) (omega (arith, older_before l p (goes_on_lem p h).0)))
    where
      go : (e : Bool) → ends_at p ≡ e → (ends_at p ≡ false → code_from l s c t k (older_at l p) ≡ code_from l s c t m (older_at l p))
          → cond e 0 (cond (t (link_in l s c p)) p (code_from l s c t k (older_at l p))) ≡ cond e 0 (cond (t (link_in l s c p)) p (code_from l s c t m (older_at l p)))
      go true h below = refl
      go false h below = rw (below h)

  -- one step of the search: the list ends, the link is the one, or the next older one is asked
  pub code_end : (p : ℕ) → ends_at p ≡ true → 0 ≡ code_from l s c t p p
  unfolding code_from
  code_end zero e = refl
  code_end (suc p) e = rw e

  pub code_hit : (p : ℕ) → ends_at p ≡ false → t (link_in l s c p) ≡ true → p ≡ code_from l s c t p p
  unfolding code_from
  code_hit zero e h = refl
  code_hit (suc p) e h = rw (e, h)

  pub code_miss : (p : ℕ) → ends_at p ≡ false → t (link_in l s c p) ≡ false → code_from l s c t p p ≡ code_from l s c t (older_at l p) (older_at l p)
  unfolding code_from
  code_miss zero e h = clash true refl e
  code_miss (suc p) e h = rw (e, h) (as_many p (older_at l (suc p)) (older_at l (suc p)) (omega (arith, older_before l (suc p) (omega arith))) (omega arith))

-- the next older link begins where n tells, if that is before this one
module _ (l : List ℕ) (p n : ℕ) (e : n ≡ number_at l (p + next_number)) where
  pub older_begins : 1 ≤ n → n < p → p ≤ last_row → Some n ≡ begins (older_at l p)
  older_begins a b c = rw (← e, ltb-true n p b) (one_begins n a (omega arith))

  pub none_older : (n < p → n ≡ 0) → None ≡ begins (older_at l p)
  none_older z = rw (← e) (go (ltb n p) refl)
    where
      go : (b : Bool) → ltb n p ≡ b → None ≡ begins (cond b n 0)
      go true f = rw (z (ltb_is n p f))
      go false f = refl

-- the search goes on from a link
module _ (l : List ℕ) (s c : ℕ) (t : Link → Bool) where
  abbrev pub LeftAt : ℕ → Type 0
  LeftAt p = (1 ≤ p) × (p ≤ last_row) × (found_by l s c t ≡ code_from l s c t p p)

  -- from the one that begins at a place where it has come to, or nothing is found
  pub left_at : (p q : ℕ) → found_by l s c t ≡ code_from l s c t p p → Some q ≡ begins p → LeftAt q
  left_at p q e f = let b = begun p q f in (b.1, b.2, rw b.0 e)

  pub nothing_left : (p : ℕ) → found_by l s c t ≡ code_from l s c t p p → None ≡ begins p → None ≡ begins (found_by l s c t)
  nothing_left p e f = rw (e ∙ sym (code_end l s c t p (ended p f)))

-- what is looked for does not depend on CSD and security
pub wants_same : (w : Wanted) (l : List ℕ) (s c p : ℕ) → wants w (link_in l s c p) ≡ wants w (link_in l 0 0 p)
unfolding link_in
wants_same Any l s c p = refl
wants_same Issuers l s c p = refl
wants_same Defaults l s c p = refl
wants_same (Towards t) l s c p = refl

pub found_same : (w : Wanted) (first last : ℕ) (l : List ℕ) (s c p : ℕ) (b : Bool) → b ≡ (has_day_in first last (link_in l 0 0 p) && wants w (link_in l 0 0 p))
    → b ≡ (has_day_in first last (link_in l s c p) && wants w (link_in l s c p))
unfolding link_in
found_same w first last l s c p b e = rw (wants_same w l s c p) e

-- ---- searches of the rows that pass a test
module _ {A : Type 0} where
  pub find_only : (p q : A → Bool) (l : List A) → find q (only p l) ≡ find (λ x. p x && q x) l
  find_only p q [] = refl
  find_only p q (x ∷ l) = go (p x) (q x) (find_only p q l)
    where
      go : (a b : Bool) → find q (only p l) ≡ find (λ y. p y && q y) l → find q (cond a (x ∷ only p l) (only p l)) ≡ cond (a && q x) (some x) (find (λ y. p y && q y) l)
      go true b below = rw below
      go false b below = below

  pub any_only : (p q : A → Bool) (l : List A) → any q (only p l) ≡ any (λ x. p x && q x) l
  any_only p q [] = refl
  any_only p q (x ∷ l) = go (p x) (any_only p q l)
    where
      go : (a : Bool) → any q (only p l) ≡ any (λ y. p y && q y) l → any q (cond a (x ∷ only p l) (only p l)) ≡ ((a && q x) || any (λ y. p y && q y) l)
      go true below = rw below
      go false below = below

  pub find_alike : (p q : A → Bool) → ((x : A) → p x ≡ q x) → (l : List A) → find p l ≡ find q l
  find_alike p q e [] = refl
  find_alike p q e (x ∷ l) = rw (e x, find_alike p q e l)

  pub any_alike : (p q : A → Bool) → ((x : A) → p x ≡ q x) → (l : List A) → any p l ≡ any q l
  any_alike p q e [] = refl
  any_alike p q e (x ∷ l) = rw (e x, any_alike p q e l)

-- a period of one day
pub on_the_day : (day : ℕ) (x : Link) → has_day_in day day x ≡ covers day x
on_the_day day x = equal_tests (has_day_in day day x) (covers day x) to from
  where
    to : has_day_in day day x ≡ true → covers day x ≡ true
    to e =
        let b = and_both (leb day day && leb x.first x.last) (leb day x.last && leb x.first day) e in
        let c = and_both (leb day x.last) (leb x.first day) b.1 in
        and-true (leb x.first day) (leb day x.last) c.1 c.0

    from : covers day x ≡ true → has_day_in day day x ≡ true
    from e =
        let b = and_both (leb x.first day) (leb day x.last) e in
        let f : x.first ≤ day = leb_is x.first day b.0 in
        let g : day ≤ x.last = leb_is day x.last b.1 in
        and-true (leb day day && leb x.first x.last) (leb day x.last && leb x.first day)
        (and-true (leb day day) (leb x.first x.last) (leb-true day day (omega arith)) (leb-true x.first x.last (omega arith)))
        (and-true (leb day x.last) (leb x.first day) b.1 b.0)

-- ---- searches of the links of a day
module _ (l : List ℕ) (s c day : ℕ) (w : Wanted) where
  of_the_day : (x : Link) → (covers day x && wants w x) ≡ (has_day_in day day x && wants w x)
  of_the_day x = rw (on_the_day day x)

  search : Finds l s c (λ x. has_day_in day day x && wants w x) (links_at l s c) (found_in l s c day day w)
  search = finds l s c (λ x. has_day_in day day x && wants w x) (read l (newest_at s c)) (read l (newest_at s c))

  pub find_on : find (λ x. covers day x && wants w x) (links_at l s c) ≡ link_of l s c (found_in l s c day day w)
  find_on = find_alike (λ x. covers day x && wants w x) (λ x. has_day_in day day x && wants w x) of_the_day (links_at l s c) ∙ search.link

  pub small : found_in l s c day day w ≤ last_row
  small = search.small

  -- none is found, or this one
  pub none_on : None ≡ begins (found_in l s c day day w) → find (λ x. covers day x && wants w x) (links_at l s c) ≡ none
  none_on e = find_on ∙ rw (none_begun (found_in l s c day day w) small e)

  module _ (p : ℕ) (e : Some p ≡ begins (found_in l s c day day w)) where
    pub found_small : p ≤ last_row
    found_small = (begun (found_in l s c day day w) p e).2

    pub one_on : find (λ x. covers day x && wants w x) (links_at l s c) ≡ some (link_in l s c p)
    one_on = let b = begun (found_in l s c day day w) p e in rw b.0 (find_on ∙ link_of_lem l s c (found_in l s c day day w) (λ z. omega (arith, b.0, b.1)))

-- the issuer link or default link of a day
module _ (l : List ℕ) (s c day : ℕ) where
  lead : Finds l s c (λ x. covers day x && leads x) (links_at l s c) (lead_in l s c day)
  lead = finds l s c (λ x. covers day x && leads x) (read l (newest_at s c)) (read l (newest_at s c))

  pub lead_none : None ≡ begins (lead_in l s c day) → find leads (links_on l day s c) ≡ none
  lead_none e = find_only (covers day) leads (links_at l s c) ∙ (lead.link ∙ ap (link_of l s c) (none_begun (lead_in l s c day) lead.small e))

  -- a link may begin at the place that is found, and it is the one that leads
  module _ (p : ℕ) (e : Some p ≡ begins (lead_in l s c day)) where
    pub lead_small : p ≤ last_row
    lead_small = (begun (lead_in l s c day) p e).2

    pub lead_link : find leads (links_on l day s c) ≡ some (link_in l s c p)
    lead_link =
        let b = begun (lead_in l s c day) p e in
        find_only (covers day) leads (links_at l s c) ∙ rw b.0 (lead.link ∙ link_of_lem l s c (lead_in l s c day) (λ z. omega (arith, b.0, b.1)))
