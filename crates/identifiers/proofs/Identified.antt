-- The identifiers that are kept are those of the rows in use: a search over the bytes is one over the rows, and a security's ISIN can be read.
use Prim.Native.Nat.{ℕ, zero, suc, ◌+◌, ◌*◌, ◌≤◌, ◌<◌, min}
use mathlib.Core.Path.{◌≡◌, refl, sym, ap, ◌∙◌}
use mathlib.Core.Bool.{Bool, true, ◌&&◌}
use mathlib.Core.List.{List, [], ◌∷◌, Memᴰ}
use mathlib.Core.Option.{none, some}
use native.Mathlib.Omega.{arith}
use native.Mathlib.Decide.{dec_lt}
use lib.Dec.{leb}
use lib.ListN.{length, get_or, get_elem?, take, length-take, get_or-eq_default}
use lib.Seq.{get_or-take, take_all}
use Rattle.rules.specs.declared.Csd.{Csd}
use Rattle.rules.specs.declared.Security.{Security}
use Rattle.rules.specs.declared.Directory.{Directory}
use Rattle.rules.specs.Tests.{any, all_below, is_full}
use Rattle.rules.specs.Identifiers.{capital, digit, capital_or_digit, byte_at, same_bic, is_isin, same_isin}
use Rattle.rules.specs.Directory.{Rows, rows_of, csd_limit, security_limit, bic_entered, isin_entered}
use Rattle.rules.specs.Entries.{security_conditions, security_refusal, securities_sound, within_limits, sound_rows, sound}
use Rattle.rules.proofs.Basics.{impossible, unnot_false, and_both, leb_is, quiet}
use Rattle.rules.proofs.InOrder.{judged}
use Rattle.rules.proofs.SoundParts.{tables}
use Rattle.index.specs.Index.{Indexed, csd_count, security_count}
use Rattle.index.proofs.Laws.{unknown}
use Rattle.index.proofs.LookingUp.{facts}
use Rattle.index.proofs.Answers.{reads}
use Rattle.identifiers.specs.Names.{Named, bic_size, isin_size, isins, name_byte, bic_of, isin_of, any_below, bic_in, isin_in, bic_byte, isin_byte}
use Rattle.identifiers.proofs.Laws.{all_read, same_as, any_first, byte_within}

-- ---- rows by number
row_within : {A : Type 0} (l : List A) (i : ℕ) (x : A) → get_elem? l i ≡ some x → i < length l
row_within l i x e = go (dec_lt i (length l))
  where
    go : Dec (i < length l) → i < length l
    go (yes h) = h
    go (no n) = let z : none ≡ some x = sym (unknown l i (omega arith)) ∙ e in impossible (cc)

row_entered : {A : Type 0} (l : List A) (i : ℕ) (x : A) → get_elem? l i ≡ some x → Memᴰ x l
row_entered [] i x e = impossible (cc)
row_entered (y ∷ l) zero x e = let h : x ≡ y = cc in Memᴰ.head h
row_entered (y ∷ l) (suc i) x e = Memᴰ.tail (row_entered l i x e)

-- ---- a test of the numbers below the count is one of the rows
any_rows : {A : Type 0} (t : A → Bool) (l : List A) (p : ℕ → Bool) → ((i : ℕ) (x : A) → get_elem? l i ≡ some x → p i ≡ t x) → any_below (length l) p ≡ any t l
unfolding any_below
any_rows t [] p h = refl
any_rows t (x ∷ l) p h = any_first (length l) p ∙ rw (h 0 x refl, any_rows t l (λ i. p (suc i)) (λ i y e. h (suc i) y e))

-- ---- the bytes
module _ (b : List ℕ) (r : Rows) (h : Named b r) where
  bic_byte_lem : (c : ℕ) (x : Csd) → c < csd_limit → get_elem? r.csds c ≡ some x → (k : ℕ) → k < bic_size → name_byte b (bic_size * c + k) ≡ byte_at x.bic k
  bic_byte_lem c x g e k l = byte_within b (bic_size * c + k) (omega arith) ∙ (h.bics c k g l ∙ ap (λ o. bic_byte o k) e)

  isin_byte_lem : (s : ℕ) (x : Security) → s < security_limit → get_elem? r.securities s ≡ some x → (k : ℕ) → k < isin_size → name_byte b (isins + isin_size * s + k) ≡ byte_at x.isin k
  isin_byte_lem s x g e k l = byte_within b (isins + isin_size * s + k) (omega arith) ∙ (h.isins s k g l ∙ ap (λ o. isin_byte o k) e)

  same_bics : (y : List ℕ) (c : ℕ) (x : Csd) → c < csd_limit → get_elem? r.csds c ≡ some x → same_bic (bic_of b c) y ≡ same_bic x.bic y
  same_bics y c x g e = same_as b x.bic y (bic_size * c) bic_size (bic_byte_lem c x g e)

  same_isins : (y : List ℕ) (s : ℕ) (x : Security) → s < security_limit → get_elem? r.securities s ≡ some x → same_isin (isin_of b s) y ≡ same_isin x.isin y
  same_isins y s x g e = same_as b x.isin y (isins + isin_size * s) isin_size (isin_byte_lem s x g e)

-- ---- an ISIN has 12 bytes
isin_long : (i : List ℕ) → is_isin i ≡ true → isin_size ≤ length i
unfolding is_isin
isin_long i e = go (dec_lt (length i) isin_size)
  where
    last : 48 ≤ get_or i 11 0
    last =
        let two = and_both (all_below 2 (λ j. capital (byte_at i j))) (all_below 9 (λ j. capital_or_digit (byte_at i (2 + j))) && digit (byte_at i 11)) e in
        let nine = and_both (all_below 9 (λ j. capital_or_digit (byte_at i (2 + j)))) (digit (byte_at i 11)) two.1 in
        leb_is 48 (byte_at i 11) (and_both (leb 48 (byte_at i 11)) (leb (byte_at i 11) 57) nine.1).0

    go : Dec (length i < isin_size) → isin_size ≤ length i
    go (yes h) = absurd (omega (arith, last, get_or-eq_default i 0 {n = 11} (omega arith)))
    go (no n) = omega arith

-- a security of a sound directory has one
row_isin : (d : Directory) → sound d ≡ true → (x : Security) → Memᴰ x (rows_of d).securities → is_isin x.isin ≡ true
unfolding sound securities_sound security_refusal
row_isin d e x m =
    let s = (tables (rows_of d) (and_both (within_limits d) (sound_rows (rows_of d)) e).1).securities in
    let j = judged security_refusal [] (rows_of d).securities s x m in
    unnot_false (is_isin x.isin) (quiet (security_conditions (is_full security_limit j.after) (isin_entered j.after) x) refl j.accepted).1.0

module _ {l b : List ℕ} {d : Directory} (i : Indexed l d) (h : Named b (rows_of d)) where
  abbrev r : Rows
  r = rows_of d

  few_csds_lem : length r.csds ≤ csd_limit
  few_csds_lem = (facts i).few_csds

  few_securities_lem : length r.securities ≤ security_limit
  few_securities_lem = (facts i).few_securities

  -- ---- the searches
  pub bics_found : (y : List ℕ) → bic_in l b y ≡ bic_entered r.csds y
  unfolding bic_in bic_entered
  bics_found y =
      let n : min (length r.csds) csd_limit ≡ length r.csds = omega (arith, few_csds_lem) in
      rw (reads i csd_count, n)
      (any_rows (λ x. same_bic x.bic y) r.csds (λ c. same_bic (bic_of b c) y)
      (λ c x e. same_bics b r h y c x (omega (arith, few_csds_lem, row_within r.csds c x e)) e))

  pub isins_found : (y : List ℕ) → isin_in l b y ≡ isin_entered r.securities y
  unfolding isin_in isin_entered
  isins_found y =
      let n : min (length r.securities) security_limit ≡ length r.securities = omega (arith, few_securities_lem) in
      rw (reads i security_count, n)
      (any_rows (λ x. same_isin x.isin y) r.securities (λ s. same_isin (isin_of b s) y)
      (λ s x e. same_isins b r h y s x (omega (arith, few_securities_lem, row_within r.securities s x e)) e))

  -- ---- a security's ISIN
  module _ (s : ℕ) (x : Security) (e : get_elem? r.securities s ≡ some x) where
    pub isin_kept : isin_of b s ≡ take isin_size x.isin
    isin_kept =
        let long = isin_long x.isin (row_isin d i.sound_books x (row_entered r.securities s x e)) in
        let small = row_within r.securities s x e in
        sym (all_read b (take isin_size x.isin) (isins + isin_size * s) isin_size (omega (arith, length-take isin_size x.isin))
        (λ j g. get_or-take isin_size x.isin j 0 g ∙ sym (isin_byte_lem b r h s x (omega (arith, few_securities_lem)) e j g)))

    -- as a total line shows it
    pub isin_shown : take isin_size (isin_of b s) ≡ take isin_size x.isin
    isin_shown = rw isin_kept (take_all isin_size (take isin_size x.isin) (omega (arith, length-take isin_size x.isin)))
