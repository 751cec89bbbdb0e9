-- What the index has of the pair rows of a sound directory: the duo of an account, which all rows that have it share, and the row that serves an account at
-- a technical issuer.
use Prim.Native.Nat.{ℕ, ◌≤◌, ◌<◌}
use mathlib.Core.Path.{◌≡◌, refl, sym, ◌∙◌}
use mathlib.Core.Logic.{◌≢◌, ◌⊎◌, inl, inr}
use mathlib.Core.Bool.{Bool, true, false, not, cond}
use mathlib.Core.List.{List, Memᴰ}
use mathlib.Core.Option.{Option, none, some}
use native.Mathlib.Omega.{arith}
use lib.Dec.{eqb}
use Rattle.rules.specs.declared.Pair.{Pair}
use Rattle.rules.specs.Tests.{any, find}
use Rattle.rules.specs.Directory.{Rows, csd_limit, account_limit, no_account, in_books, uses, same_duo, uses_apart, pair_of, is_apart}
use Rattle.rules.specs.Refusals.{SharesBoth}
use Rattle.rules.proofs.Basics.{impossible, clash, untrue, unnot, and_both, and-true, bool_cases, or_cases, equal_tests, eqb_is, eqb-true, eqb_not, eqb_false, find_some, find_none, any_true, any_some, none_any}
use Rattle.rules.proofs.Facts.{Facts}
use Rattle.rules.proofs.Duos.{duo_says, duo_is_lem}
use Rattle.rules.proofs.Accounts.{books_small, books_real, one_csd_lem}
use Rattle.rules.proofs.Pairs.{uses_mirror, pair_cases, pair_found_lem, pair_none}
use Rattle.index.specs.Index.{duo_of, serves_at, served_row}
use Rattle.index.proofs.LookingUp.{csd_small}

-- ---- the duo of an account
pub found_duo : (ps : List Pair) (a : ℕ) (p : Pair) → duo_of ps a ≡ some p → (a ≢ no_account) × (Memᴰ p ps) × (uses a p ≡ true)
unfolding duo_of
found_duo ps a p e = go (eqb a no_account) refl e
  where
    go : (b : Bool) → eqb a no_account ≡ b → cond b none (find (uses a) ps) ≡ some p → (a ≢ no_account) × (Memᴰ p ps) × (uses a p ≡ true)
    go true q f = impossible (cc)
    go false q f = let u = find_some (uses a) ps p f in (eqb_not a no_account q, u.0, u.1)

pub no_duo : (ps : List Pair) (a : ℕ) → a ≢ no_account → duo_of ps a ≡ none → (p : Pair) → Memᴰ p ps → uses a p ≡ false
unfolding duo_of
no_duo ps a n e = find_none (uses a) ps (rw (eqb_false a no_account n) at e)

-- the account is in a duo other than that of x, by the first row that has it
abbrev pub apart_by_lem : Pair → Option Pair → Bool
apart_by_lem x none = false
apart_by_lem x (some p) = not (same_duo x p)

-- ---- the row that serves an account
serves_at_says : (t a : ℕ) (p : Pair) → serves_at t a p ≡ true → (p.technical ≡ t) × (p.served ≡ a)
serves_at_says t a p e = let b = and_both (eqb p.technical t) (eqb p.served a) e in (eqb_is p.technical t b.0, eqb_is p.served a b.1)

serves_at_lem : (t a : ℕ) (p : Pair) → p.technical ≡ t → p.served ≡ a → serves_at t a p ≡ true
serves_at_lem t a p e f = and-true (eqb p.technical t) (eqb p.served a) (eqb-true p.technical t e) (eqb-true p.served a f)

pub found_served : (ps : List Pair) (t a : ℕ) (p : Pair) → served_row ps t a ≡ some p → (Memᴰ p ps) × (p.technical ≡ t) × (p.served ≡ a)
unfolding served_row
found_served ps t a p e = let f = find_some (serves_at t a) ps p e in let s = serves_at_says t a p f.1 in (f.0, s.0, s.1)

pub no_served : (ps : List Pair) (t a : ℕ) → served_row ps t a ≡ none → (p : Pair) → Memᴰ p ps → p.technical ≡ t → p.served ≢ a
unfolding served_row
no_served ps t a e p m f g = clash (serves_at t a p) (serves_at_lem t a p f g) (find_none (serves_at t a) ps e p m)

module _ (r : Rows) (F : Facts r) where
  -- of all rows that have the account, the first is of their duo
  pub duo_found : (p : Pair) → Memᴰ p r.pairs → (a : ℕ) → a ≢ no_account → uses a p ≡ true → (q : Pair) × (duo_of r.pairs a ≡ some q) × SharesBoth p q
  duo_found p m a n u = go (duo_of r.pairs a) refl
    where
      go : (o : Option Pair) → duo_of r.pairs a ≡ o → (q : Pair) × (duo_of r.pairs a ≡ some q) × SharesBoth p q
      go none e = clash (uses a p) u (no_duo r.pairs a n e p m)
      go (some q) e = let f = found_duo r.pairs a q e in (q, e, F.one_duo p q m f.1 a n u f.2)

  -- the second account beside the first
  pub beside : (p : Pair) → Memᴰ p r.pairs → (q : Pair) × (duo_of r.pairs p.mirror ≡ some q) × (q.omnibus ≡ p.omnibus)
  beside p m =
      let d = duo_found p m p.mirror (books_real r F p.mirror p.investor (F.pairs p m).mirror_books) (uses_mirror p) in
      (d.0, d.1, d.2.omnibus)

  -- an account beyond the table is in none
  pub unpaired : (a : ℕ) → account_limit ≤ a → duo_of r.pairs a ≡ none
  unpaired a l = go (duo_of r.pairs a) refl
    where
      never : (p : Pair) → (a ≢ no_account) × (Memᴰ p r.pairs) × (uses a p ≡ true) → ⊥
      never p f =
          elim (or_cases (eqb p.mirror a) (eqb p.omnibus a) f.2) [
            | inl e ↦ omega (arith, eqb_is p.mirror a e, books_small r F p.mirror p.investor (F.pairs p f.1).mirror_books)
            | inr e ↦ elim (pair_cases r p (F.pairs p f.1)) [
              | inl h ↦ omega (arith, eqb_is p.omnibus a e, books_small r F p.omnibus p.technical h.omnibus_books)
              | inr h ↦ f.0 (sym (eqb_is p.omnibus a e) ∙ h.alone)
            ]
          ]

      go : (o : Option Pair) → duo_of r.pairs a ≡ o → o ≡ none
      go none e = refl
      go (some p) e = absurd (never p (found_duo r.pairs a p e))

  -- nor is one served, or served at a CSD, beyond the tables
  pub unserved : (t a : ℕ) → (t < csd_limit → a < account_limit → ⊥) → served_row r.pairs t a ≡ none
  unserved t a n = go (served_row r.pairs t a) refl
    where
      go : (o : Option Pair) → served_row r.pairs t a ≡ o → o ≡ none
      go none e = refl
      go (some p) e =
          let f = found_served r.pairs t a p e in
          absurd (n (rw f.1 at (csd_small r F p.technical (F.pairs p f.0).technical_row)) (rw f.2 at (books_small r F p.served p.investor (F.pairs p f.0).served_books)))

  -- ---- in a duo other than that of x
  module _ (a : ℕ) (x : Pair) where
    apart_none : a ≢ no_account → duo_of r.pairs a ≡ none → is_apart r.pairs a x ≡ false
    unfolding is_apart
    apart_none n e = rw (eqb_false a no_account n, none_any (uses_apart a x) r.pairs (λ p m. rw (no_duo r.pairs a n e p m)))

    nobody : eqb a no_account ≡ true → false ≡ is_apart r.pairs a x
    unfolding is_apart
    nobody e = rw e

    apart_some : (p : Pair) → duo_of r.pairs a ≡ some p → is_apart r.pairs a x ≡ not (same_duo x p)
    unfolding is_apart
    apart_some p e =
        let f = found_duo r.pairs a p e in
        rw (eqb_false a no_account f.0) (equal_tests (any (uses_apart a x) r.pairs) (not (same_duo x p)) (to f) (from f))
      where
        to : (a ≢ no_account) × (Memᴰ p r.pairs) × (uses a p ≡ true) → any (uses_apart a x) r.pairs ≡ true → not (same_duo x p) ≡ true
        to f h =
            let q = any_some (uses_apart a x) r.pairs h in
            let b = and_both (uses a q.0) (not (same_duo x q.0)) q.2 in
            let d = F.one_duo q.0 p q.1 f.1 a f.0 b.0 f.2 in
            rw (untrue (same_duo x p) (λ g. let k = duo_says x p g in
            clash (same_duo x q.0) (duo_is_lem x q.0 (record { investor = sym d.investor ∙ k.investor; technical = sym d.technical ∙ k.technical; mirror = sym d.mirror ∙ k.mirror; omnibus = sym d.omnibus ∙ k.omnibus }))
            (unnot (same_duo x q.0) b.1)))

        from : (a ≢ no_account) × (Memᴰ p r.pairs) × (uses a p ≡ true) → not (same_duo x p) ≡ true → any (uses_apart a x) r.pairs ≡ true
        from f h = any_true (uses_apart a x) r.pairs p f.1 (and-true (uses a p) (not (same_duo x p)) f.2 h)

    pub apart_by : apart_by_lem x (duo_of r.pairs a) ≡ is_apart r.pairs a x
    apart_by = go (duo_of r.pairs a) refl
      where
        free : duo_of r.pairs a ≡ none → (eqb a no_account ≡ true) ⊎ (eqb a no_account ≡ false) → false ≡ is_apart r.pairs a x
        free e (inl f) = nobody f
        free e (inr f) = sym (apart_none (eqb_not a no_account f) e)

        go : (o : Option Pair) → duo_of r.pairs a ≡ o → apart_by_lem x o ≡ is_apart r.pairs a x
        go none e = free e (bool_cases (eqb a no_account))
        go (some p) e = sym (apart_some p e)

  -- ---- the row of a triplet is the one that serves the account at the technical issuer, if that is an account of the investor
  module _ (i t a : ℕ) where
    own_investor : in_books r.accounts a i ≡ true → (p : Pair) → Memᴰ p r.pairs → p.served ≡ a → p.investor ≡ i
    own_investor b p m e = one_csd_lem r.accounts a p.investor i (rw e at (F.pairs p m).served_books) b

    pub triplet_row : in_books r.accounts a i ≡ true → served_row r.pairs t a ≡ pair_of r.pairs i t a
    triplet_row b = go (served_row r.pairs t a) refl
      where
        go : (o : Option Pair) → served_row r.pairs t a ≡ o → o ≡ pair_of r.pairs i t a
        go none e = sym (pair_none r.pairs i t a (λ p m f g h. no_served r.pairs t a e p m g h))
        go (some p) e = let f = found_served r.pairs t a p e in sym (pair_found_lem r F i t a p f.0 (own_investor b p f.0 f.2) f.1 f.2)

    -- of another CSD's account it has none
    pub no_triplet : in_books r.accounts a i ≡ false → pair_of r.pairs i t a ≡ none
    no_triplet b = pair_none r.pairs i t a (λ p m f g h. clash (in_books r.accounts a i) (rw (f, h) at (F.pairs p m).served_books) b)
