-- The answers of an index are the answers of its directory: one law for everybody who asks a list.
use Prim.Native.Nat.{ℕ, zero, suc, ◌+◌, ◌-◌, ◌≤◌, ◌<◌}
use mathlib.Core.Path.{◌≡◌, refl, sym, ap, ◌∙◌}
use mathlib.Core.Logic.{inl, inr}
use mathlib.Core.Bool.{Bool, true, false, not, ◌&&◌, cond, and-false, true≢false}
use mathlib.Core.List.{List, [], ◌∷◌, reverse, Memᴰ}
use mathlib.Core.Option.{Option, none, some}
use native.Mathlib.Nat.{mod-eq_of_lt}
use native.Mathlib.Omega.{arith}
use lib.Dec.{eqb, ltb, leb}
use lib.ListN.{length, take, get_elem?, get_or-eq_default}
use borrow.Author.Tests.{ltb-false, lt-ltb, ne_eqb}
use Rattle.rules.specs.declared.Account.{Account}
use Rattle.rules.specs.declared.Pair.{Pair}
use Rattle.rules.specs.declared.Link.{Link}
use Rattle.rules.specs.declared.Directory.{Directory}
use Rattle.rules.specs.Tests.{any, find, only, is_row, is_full}
use Rattle.rules.specs.Directory.{Rows, rows_of, csd_limit, security_limit, account_limit, pair_limit, link_limit, external, is_kind, in_books, serves, same_duo, pair_of, is_served, is_apart, no_csd, on_day, rows_on, covers, issues, defaults, points_to, is_link, links_of, links_for, has_issuer, has_link_to, issuer_link, default_link}
use Rattle.rules.specs.Lookups.{ask, technical_of, account_of, csd_of, home_of, issuance}
use Rattle.rules.proofs.Basics.{impossible, clash, untrue, and_second, and-true, eqb-true, eqb_is, any_true, any_some, none_any, find_some, find_none}
use Rattle.rules.proofs.FirstRow.{none_found, only_found}
use Rattle.rules.proofs.Facts.{Facts, LinkFacts}
use Rattle.rules.proofs.RowTests.{says_link, says_defaults, says_points}
use Rattle.rules.proofs.Days.{in_only, in_reverse, in_links}
use Rattle.rules.proofs.Accounts.{security_small, books_small}
use Rattle.rules.proofs.Soundness.{sound_gives, sound_links, few_links}
use Rattle.rules.proofs.Pairs.{found_pair}
use Rattle.index.specs.Index.{Indexed, Place, csd_count, security_count, account_count, pair_count, link_count, type_at, home_at, kind_at, mirror_at, omnibus_at, investor_at, technical_at, served_at, newest_at, target_at, link_at, link_numbers, row_at, number_at, place_of, newest_code, makes_target, numbers_of, link_code, index_of, type_code, home_code, duo_of, served_row, mirror_code, omnibus_code, investor_code, technical_code}
use Rattle.index.specs.Asked.{IndexAnswers, has, read, home_by, books_in, pair_by, duo_is, links_at, links_on, leads, as_issuer, as_default, is_there, is_target, asked_by}
use Rattle.index.proofs.Laws.{unknown}
use Rattle.index.proofs.Found.{any_found, any_missing}
use Rattle.index.proofs.Read.{read_in, read_off, not_both, inside}
use Rattle.index.proofs.Standing.{number_at_lem}
use Rattle.index.proofs.LookingUp.{facts, row_coded, next_tests, type_told, books_told, kind_told, csd_small, home_small, says_target, target_coded}
use Rattle.index.proofs.PairReading.{found_served, apart_by_lem, apart_by, unpaired, unserved, beside, triplet_row, no_triplet}
use Rattle.index.proofs.LinkList.{links_on_lem, walked_all}

-- ---- from a code to the answer
home_by_lem : (o : Option Account) → ((x : Account) → o ≡ some x → x.csd < csd_limit) → home_by (home_code o) ≡ csd_of o
home_by_lem none small = refl
home_by_lem (some x) small = omega (arith, small x refl)

-- the codes of a duo compared with those of x
duo_by : (x p : Pair)
    → ((eqb (p.mirror + 1) (x.mirror + 1) && eqb p.omnibus x.omnibus) && (eqb p.investor x.investor && eqb p.technical x.technical)) ≡ same_duo x p
duo_by x p =
    rw (next_tests p.mirror x.mirror)
    (turned (eqb p.mirror x.mirror && eqb p.omnibus x.omnibus) (eqb p.investor x.investor && eqb p.technical x.technical))
  where
    turned : (a b : Bool) → (a && b) ≡ (b && a)
    turned true true = refl
    turned true false = refl
    turned false true = refl
    turned false false = refl

-- ---- the issuer link and the default link

-- whether there is an issuer link
some_issuer : (ls : List Link) (s c : ℕ) → is_there (issuer_link ls s c) ≡ has_issuer ls s c
unfolding issuer_link has_issuer
some_issuer ls s c = go (find issues (links_for ls s c)) refl
  where
    go : (o : Option Link) → find issues (links_for ls s c) ≡ o → is_there o ≡ any issues (links_for ls s c)
    go none e = any_missing issues (links_for ls s c) e
    go (some x) e = any_found issues (links_for ls s c) x e

-- of a CSD's links for a security on a day one leads at most
module _ (r : Rows) (F : Facts r) (s c : ℕ) where
  abbrev ls : List Link
  ls = links_for r.links s c

  one_issuer_lem : (x y : Link) → Memᴰ x ls → Memᴰ y ls → issues x ≡ true → x ≡ y
  one_issuer_lem x y m n e =
      let h = in_links r.links s c x m in
      let g = in_links r.links s c y n in
      F.one_issuer x y h.entered g.entered (eqb_is x.kind 0 e) (h.security ∙ sym g.security) (h.csd ∙ sym g.csd)

  one_default_lem : (x y : Link) → Memᴰ x ls → Memᴰ y ls → defaults x ≡ true → defaults y ≡ true → x ≡ y
  one_default_lem x y m n e f =
      let h = in_links r.links s c x m in
      let g = in_links r.links s c y n in
      let a = (says_defaults x).holds e in
      let b = (says_defaults y).holds f in
      F.one_default x y h.entered g.entered a.0 b.0 a.1 b.1 (h.security ∙ sym g.security) (h.csd ∙ sym g.csd)

  -- an issuer link is no default link
  neither : (x : Link) → issues x ≡ true → defaults x ≡ true → ⊥
  neither x e f = let a : x.kind ≡ 0 = eqb_is x.kind 0 e in let b : x.kind ≡ 1 = ((says_defaults x).holds f).0 in omega arith

  kinds : (x : Link) → Memᴰ x ls → LinkFacts r x
  kinds x m = F.links x (in_links r.links s c x m).entered

  issuer_leads : (x : Link) → Memᴰ x ls → issues x ≡ true → leads x ≡ true
  issuer_leads x m i = eqb-true x.flag 1 ((kinds x m).issuer (eqb_is x.kind 0 i)).flag

  default_leads : (x : Link) → defaults x ≡ true → leads x ≡ true
  default_leads x d = eqb-true x.flag 1 ((says_defaults x).holds d).1

  -- a link that leads is the one or the other
  leads_else : (x : Link) → Memᴰ x ls → leads x ≡ true → issues x ≡ false → defaults x ≡ true
  leads_else x m p i =
      elim (kinds x m).kind [
        | inl z ↦ clash (issues x) (eqb-true x.kind 0 z) i
        | inr z ↦ and-true (eqb x.kind 1) (eqb x.flag 1) (eqb-true x.kind 1 z) p
      ]

  -- none is found, or an issuer link, or a default link
  lead_issuer : as_issuer (find leads ls) ≡ issuer_link r.links s c
  unfolding issuer_link
  lead_issuer = go (find leads ls) refl
    where
      go : (o : Option Link) → find leads ls ≡ o → as_issuer o ≡ find issues ls
      go none e = sym (none_found issues ls (λ x m i. clash (leads x) (issuer_leads x m i) (find_none leads ls e x m)))
      go (some x) e = let f = find_some leads ls x e in at x f.0 (issues x) refl
        where
          at : (x : Link) → Memᴰ x ls → (b : Bool) → issues x ≡ b → cond b (some x) none ≡ find issues ls
          at x m true i = sym (only_found issues ls x m i (λ y n j. sym (one_issuer_lem x y m n i)))
          at x m false i = sym (none_found issues ls (λ y n j. clash (issues x) (rw (sym (one_issuer_lem y x n m j)) j) i))

  lead_default : as_default (find leads ls) ≡ default_link r.links s c
  unfolding default_link
  lead_default = go (find leads ls) refl
    where
      go : (o : Option Link) → find leads ls ≡ o → as_default o ≡ find defaults ls
      go none e = sym (none_found defaults ls (λ x m i. clash (leads x) (default_leads x i) (find_none leads ls e x m)))
      go (some x) e = let f = find_some leads ls x e in at x f.0 f.1 (issues x) refl
        where
          at : (x : Link) → Memᴰ x ls → leads x ≡ true → (b : Bool) → issues x ≡ b → cond b none (some x) ≡ find defaults ls
          at x m p true i = sym (none_found defaults ls (λ y n j. neither y (rw (← (one_issuer_lem x y m n i)) i) j))
          at x m p false i =
              let d = leads_else x m p i in
              sym (only_found defaults ls x m d (λ y n j. one_default_lem y x n m j d))

no_link_lem : (s c : ℕ) (ls : List Link) → ((k : Link) → Memᴰ k ls → (k.security < security_limit) × (k.csd < csd_limit))
    → (s < security_limit → c < csd_limit → ⊥) → newest_code s c ls ≡ 0
no_link_lem s c [] small n = refl
no_link_lem s c (x ∷ ls) small n = rw other (no_link_lem s c ls (λ k m. small k (Memᴰ.tail m)) n)
  where
    other : is_link s c x ≡ false
    other = untrue (is_link s c x) (λ e. let p = (says_link s c x).holds e in let t = small x (Memᴰ.head refl) in n (rw p.0 at t.0) (rw p.1 at t.1))

row_within : (ls : List Link) (n : ℕ) (x : Link) → get_elem? ls n ≡ some x → n < length ls
row_within [] n x e = impossible (cc)
row_within (y ∷ ls) zero x e = omega arith
row_within (y ∷ ls) (suc n) x e = let l : n < length ls = row_within ls n x e in omega arith

-- ---- the index of a directory
module _ {l : List ℕ} {d : Directory} (h : Indexed l d) where
  abbrev r : Rows
  r = rows_of d

  -- CSDs, accounts and pairs are the same on every day
  abbrev q : Rows
  q = rows_on 0 d

  -- these rows with other links
  abbrev seeing : List Link → Rows
  seeing ls = record { csds = r.csds; securities = r.securities; accounts = r.accounts; pairs = r.pairs; links = ls }

  -- links name rows
  linked_small : (k : Link) → Memᴰ k r.links → (k.security < security_limit) × (k.csd < csd_limit)
  linked_small k m =
      let f = sound_links d h.sound_books k m in
      (security_small q (facts h) k.security f.security_row, csd_small q (facts h) k.csd f.csd_row)

  target_small : (k : Link) → Memᴰ k r.links → k.kind ≡ 1 → k.technical < csd_limit
  target_small k m e = csd_small q (facts h) k.technical ((sound_links d h.sound_books k m).investor e).technical_row

  technical_small : (k : Link) → Memᴰ k r.links → k.technical ≤ 0xff
  technical_small k m =
      let f = sound_links d h.sound_books k m in
      elim f.kind [
        | inl z ↦ let e : k.technical ≡ no_csd = (f.issuer z).technical in omega arith
        | inr z ↦ omega (arith, target_small k m z)
      ]

  no_target : (s t : ℕ) → (s < security_limit → t < csd_limit → ⊥) → any (makes_target s t) r.links ≡ false
  no_target s t n =
      none_any (makes_target s t) r.links (λ x m. untrue (makes_target s t x) (λ e.
      let p = (says_target s t x).holds e in
      n (rw p.0 at (linked_small x m).0) (rw p.1.1 at (target_small x m p.1.0))))

  beyond_link : (n f : ℕ) → has (link_at n f) ≡ false → 0 ≡ link_code (reverse (take n r.links)) (get_elem? r.links n) f
  beyond_link n f e = go (get_elem? r.links n) refl
    where
      go : (o : Option Link) → get_elem? r.links n ≡ o → 0 ≡ link_code (reverse (take n r.links)) o f
      go none g = refl
      go (some x) g = sym (get_or-eq_default (numbers_of (newest_code x.security x.csd (reverse (take n r.links))) x) 0
          (ltb-false f link_numbers (and_second (ltb n link_limit) (ltb f link_numbers) e
          (lt-ltb n link_limit (omega (arith, few_links d h.sound_books, row_within r.links n x g))))))

  -- beyond it the directory has nothing
  beyond : (p : Place) → has p ≡ false → 0 ≡ index_of r p
  beyond csd_count e = absurd (true≢false e)
  beyond security_count e = absurd (true≢false e)
  beyond account_count e = absurd (true≢false e)
  beyond pair_count e = absurd (true≢false e)
  beyond link_count e = absurd (true≢false e)
  beyond (type_at c) e = rw (unknown r.csds c (omega (arith, (facts h).few_csds, ltb-false c csd_limit e)))
  beyond (home_at a) e = rw (unknown r.accounts a (omega (arith, (facts h).few_accounts, ltb-false a account_limit e)))
  beyond (kind_at a) e = rw (unknown r.accounts a (omega (arith, (facts h).few_accounts, ltb-false a account_limit e)))
  beyond (mirror_at a) e = rw (unpaired q (facts h) a (ltb-false a account_limit e))
  beyond (omnibus_at a) e = rw (unpaired q (facts h) a (ltb-false a account_limit e))
  beyond (investor_at a) e = rw (unpaired q (facts h) a (ltb-false a account_limit e))
  beyond (technical_at a) e = rw (unpaired q (facts h) a (ltb-false a account_limit e))
  beyond (served_at t a) e = rw (unserved q (facts h) t a (not_both t a csd_limit account_limit e))
  beyond (newest_at s c) e = sym (no_link_lem s c (reverse r.links) (λ k m. linked_small k (in_reverse r.links k m)) (not_both s c security_limit csd_limit e))
  beyond (target_at s t) e = rw (no_target s t (not_both s t security_limit csd_limit e))
  beyond (link_at n f) e = beyond_link n f e

  -- what is read is the directory's
  pub reads : (p : Place) → read l p ≡ index_of r p
  reads p = go (has p) refl
    where
      go : (b : Bool) → has p ≡ b → read l p ≡ index_of r p
      go true e = sym (read_in l p e) ∙ (number_at_lem l p (inside p e) ∙ h.at p (inside p e))
      go false e = sym (read_off l p e) ∙ beyond p e

  -- rows
  csd_told : (c : ℕ) → not (eqb (read l (type_at c)) 0) ≡ is_row r.csds c
  csd_told c = rw (reads (type_at c)) (row_coded type_code refl (λ x. omega arith) r.csds c)

  account_told : (a : ℕ) → not (eqb (read l (home_at a)) 0) ≡ is_row r.accounts a
  account_told a = rw (reads (home_at a)) (row_coded home_code refl (λ x. omega arith) r.accounts a)

  outside_told : (c : ℕ) → eqb (read l (type_at c)) 2 ≡ external r.csds c
  unfolding external
  outside_told c = rw (reads (type_at c)) (type_told (get_elem? r.csds c))

  home_told : (a : ℕ) → home_by (read l (home_at a)) ≡ home_of r.accounts a
  unfolding home_of
  home_told a = rw (reads (home_at a)) (home_by_lem (get_elem? r.accounts a) (home_small q (facts h) a))

  in_books_lem : (a c : ℕ) → eqb (read l (home_at a)) (c + 1) ≡ in_books r.accounts a c
  unfolding in_books
  in_books_lem a c = rw (reads (home_at a)) (books_told c (get_elem? r.accounts a))

  is_kind_lem : (a k : ℕ) → eqb (read l (kind_at a)) (k + 1) ≡ is_kind r.accounts a k
  unfolding is_kind
  is_kind_lem a k = rw (reads (kind_at a)) (kind_told k (get_elem? r.accounts a))

  -- pairs
  apart_told : (a : ℕ) (x : Pair) → (not (eqb (read l (mirror_at a)) 0) && not (duo_is l a x)) ≡ is_apart r.pairs a x
  apart_told a x =
      rw (reads (mirror_at a), reads (omnibus_at a), reads (investor_at a), reads (technical_at a), ← (apart_by q (facts h) a x)) (go (duo_of r.pairs a))
    where
      go : (o : Option Pair)
          → (not (eqb (mirror_code o) 0)
          && not ((eqb (mirror_code o) (x.mirror + 1) && eqb (omnibus_code o) x.omnibus) && (eqb (investor_code o) x.investor && eqb (technical_code o) x.technical)))
          ≡ apart_by_lem x o
      go none = refl
      go (some p) = rw (ne_eqb (p.mirror + 1) 0 (λ e. omega (arith, e)), duo_by x p)

  -- the row with this first account
  row_told : (t a : ℕ) (o : Option Pair) → served_row r.pairs t a ≡ o → (i : ℕ) → in_books r.accounts a i ≡ true → pair_by l i t a (mirror_code o) ≡ o
  row_told t a none e i b = refl
  row_told t a (some p) e i b =
      let f = found_served r.pairs t a p e in
      let g = found_pair r.pairs i t a p (sym (triplet_row q (facts h) i t a b) ∙ e) in
      let d = beside q (facts h) p f.0 in
      let b : p.mirror < account_limit = books_small q (facts h) p.mirror p.investor ((facts h).pairs p f.0).mirror_books in
      let m : p.mirror + 1 - 1 ≡ p.mirror = omega arith in
      rw (ne_eqb (p.mirror + 1) 0 (λ q. omega (arith, q)), m, mod-eq_of_lt b, reads (omnibus_at p.mirror), d.1, d.2, ← g.1, ← g.2, ← g.3)

  pair_told : (i t a : ℕ) → cond (books_in l a i) (pair_by l i t a (read l (served_at t a))) none ≡ pair_of r.pairs i t a
  pair_told i t a = rw (in_books_lem a i, reads (served_at t a)) (go (in_books r.accounts a i) refl)
    where
      go : (b : Bool) → in_books r.accounts a i ≡ b → cond b (pair_by l i t a (mirror_code (served_row r.pairs t a))) none ≡ pair_of r.pairs i t a
      go true e = row_told t a (served_row r.pairs t a) refl i e ∙ triplet_row q (facts h) i t a e
      go false e = sym (no_triplet q (facts h) i t a e)

  served_told : (i t a : ℕ) → (not (eqb (read l (served_at t a)) 0) && books_in l a i) ≡ is_served r.pairs i t a
  unfolding pair_of is_served
  served_told i t a = rw (in_books_lem a i, reads (served_at t a)) (go (in_books r.accounts a i) refl)
    where
      whole : (b : Bool) → (b && true) ≡ b
      whole true = refl
      whole false = refl

      some_row : (o : Option Pair) → pair_of r.pairs i t a ≡ o → not (eqb (mirror_code o) 0) ≡ is_served r.pairs i t a
      some_row none q = any_missing (serves i t a) r.pairs q
      some_row (some p) q = rw (ne_eqb (p.mirror + 1) 0 (λ e. omega (arith, e))) (any_found (serves i t a) r.pairs p q)

      go : (b : Bool) → in_books r.accounts a i ≡ b → (not (eqb (mirror_code (served_row r.pairs t a)) 0) && b) ≡ is_served r.pairs i t a
      go true e = whole (not (eqb (mirror_code (served_row r.pairs t a)) 0)) ∙ rw (triplet_row q (facts h) i t a e) (some_row (pair_of r.pairs i t a) refl)
      go false e = rw and-false (any_missing (serves i t a) r.pairs (no_triplet q (facts h) i t a e))

  -- links
  link_reads : (n f : ℕ) → n < link_limit → f < link_numbers → number_at l (row_at n + f) ≡ link_code (reverse (take n r.links)) (get_elem? r.links n) f
  link_reads n f a b =
      let same : row_at n + f ≡ place_of (link_at n f) = omega arith in
      rw same (number_at_lem l (link_at n f) (a, b) ∙ h.at (link_at n f) (a, b))

  links_told : (s c : ℕ) → links_at l s c ≡ links_for r.links s c
  links_told s c = rw (reads (newest_at s c)) (walked_all l r.links (few_links d h.sound_books) link_reads technical_small s c)

  issuer_of : (s c : ℕ) → find issues (links_at l s c) ≡ issuer_link r.links s c
  unfolding issuer_link
  issuer_of s c = ap (find issues) (links_told s c)

  default_of : (s c : ℕ) → find defaults (links_at l s c) ≡ default_link r.links s c
  unfolding default_link
  default_of s c = ap (find defaults) (links_told s c)

  links_on_told : (day s c : ℕ) → only (covers day) (links_at l s c) ≡ links_for (links_of day r.links) s c
  links_on_told day s c = ap (only (covers day)) (links_told s c) ∙ sym (links_on_lem day r.links s c)

  -- a link that leads to the technical issuer makes it a target of its security
  target_told : (s t : ℕ) → is_target l s t ≡ any (makes_target s t) r.links
  target_told s t = rw (reads (target_at s t)) (target_coded s t r.links)

  linked_told : (seen : List Link) → ((x : Link) → Memᴰ x seen → Memᴰ x r.links) → (s c t : ℕ)
      → (is_target l s t && any (points_to t) (links_for seen s c)) ≡ any (points_to t) (links_for seen s c)
  linked_told seen entered s c t = rw (target_told s t) (go (any (points_to t) (links_for seen s c)) refl)
    where
      go : (b : Bool) → any (points_to t) (links_for seen s c) ≡ b → (any (makes_target s t) r.links && b) ≡ b
      go false e = and-false (any (makes_target s t) r.links)
      go true e =
          let x = any_some (points_to t) (links_for seen s c) e in
          let f = in_links seen s c x.0 x.1 in
          rw (any_true (makes_target s t) r.links x.0 (entered x.0 f.entered) ((says_target s t x.0).tests (f.security, (says_points t x.0).holds x.2)))

  -- all of them
  told : (links : ℕ → ℕ → List Link) (issuer default : ℕ → ℕ → Option Link) (seen : List Link) → ((x : Link) → Memᴰ x seen → Memᴰ x r.links) → ((s c : ℕ) → links s c ≡ links_for seen s c)
      → ((s c : ℕ) → issuer s c ≡ issuer_link seen s c) → ((s c : ℕ) → default s c ≡ default_link seen s c) → asked_by links issuer default l ≡ ask (seeing seen)
  unfolding asked_by is_full is_row has_link_to issuance
  told links issuer default seen entered e f g = λ i.
      record {
        accounts_full = ap (leb account_limit) (reads account_count) i;
        pairs_full = ap (leb pair_limit) (reads pair_count) i;
        csd = λ c. csd_told c i;
        security = λ s. ap (ltb s) (reads security_count) i;
        account = λ a. account_told a i;
        outside = λ c. outside_told c i;
        home = λ a. home_told a i;
        books = λ a c. in_books_lem a c i;
        kind = λ a k. is_kind_lem a k i;
        apart = λ a x. apart_told a x i;
        pair = λ j t a. pair_told j t a i;
        served = λ j t a. served_told j t a i;
        links = λ s c. e s c i;
        issuer = λ s c. (ap is_there (f s c) ∙ some_issuer seen s c) i;
        issuing = λ s c. account_of (f s c i);
        onward = λ s c. technical_of (g s c i);
        linked = λ s c t. (ap (λ (ls : List Link). is_target l s t && any (points_to t) ls) (e s c) ∙ linked_told seen entered s c t) i;
      }

  -- on a day the issuer link or default link that is found is the only one
  module _ (day s c : ℕ) where
    abbrev seen : List Link
    seen = links_for (links_of day r.links) s c

    issuer_led : as_issuer (find leads (links_on l day s c)) ≡ issuer_link (links_of day r.links) s c
    issuer_led = ap (λ (ls : List Link). as_issuer (find leads ls)) (links_on_told day s c) ∙ lead_issuer (on_day day r) (sound_gives d h.sound_books day) s c

    default_led : as_default (find leads (links_on l day s c)) ≡ default_link (links_of day r.links) s c
    default_led = ap (λ (ls : List Link). as_default (find leads ls)) (links_on_told day s c) ∙ lead_default (on_day day r) (sound_gives d h.sound_books day) s c

-- the links of a day are among all
of_any_day : (day : ℕ) (ls : List Link) (x : Link) → Memᴰ x (links_of day ls) → Memᴰ x ls
unfolding links_of
of_any_day day ls x m = (in_only (covers day) ls x m).0

pub answers : IndexAnswers
answers =
    record {
      ever = λ l d h.
          told h (links_at l) (λ s c. find issues (links_at l s c)) (λ s c. find defaults (links_at l s c)) (rows_of d).links (λ x m. m) (links_told h)
          (λ s c. issuer_of h s c) (λ s c. default_of h s c);
      daily = λ l d h day.
          told h (links_on l day) (λ s c. as_issuer (find leads (links_on l day s c))) (λ s c. as_default (find leads (links_on l day s c))) (rows_on day d).links
          (of_any_day day (rows_of d).links) (links_on_told h day) (issuer_led h day) (default_led h day);
    }
