-- One pair more: its first account by technical issuer and account served, the duo of each of its accounts, and the count.
use Prim.Native.Nat.{ℕ, ◌+◌, ◌<◌}
use mathlib.Core.Path.{◌≡◌, refl, sym, ap}
use mathlib.Core.Logic.{◌≢◌, inl, inr}
use mathlib.Core.Bool.{true, false, not}
use mathlib.Core.List.{List, [], ◌∷◌}
use mathlib.Core.Option.{Option, none, some}
use native.Mathlib.Omega.{arith}
use lib.Dec.{eqb}
use borrow.Author.Tests.{lt-ltb}
use Rattle.rules.specs.declared.Pair.{Pair}
use Rattle.rules.specs.declared.Directory.{Directory}
use Rattle.rules.specs.Tests.{first_of, find}
use Rattle.rules.specs.Directory.{Rows, on_day, rows_of, csd_limit, account_limit, pair_limit, no_account, external, uses, same_duo, uses_apart, serves, is_served, is_apart}
use Rattle.rules.specs.Refusals.{SharesBoth}
use Rattle.rules.specs.Entries.{pair_row, row_conditions, add_row, pair_refusal}
use Rattle.rules.specs.Demands.{with_row}
use Rattle.rules.proofs.Basics.{impossible, clash, untrue, unnot_false, and_both, and-true, and_second, or-false, bool_cases, eqb_is, eqb-true, eqb_not, eqb_false, find_some, find_none, any_true, any_none, none_any}
use Rattle.rules.proofs.Accounts.{books_small, one_csd_lem}
use Rattle.rules.proofs.Duos.{serves_is, duo_says, duo_one}
use Rattle.rules.proofs.Facts.{Facts}
use Rattle.rules.proofs.NewPairs.{NewPair, accepted_pair}
use Rattle.rules.proofs.Pairs.{uses_mirror, uses_omnibus}
use Rattle.index.specs.Index.{Place, pair_count, mirror_at, omnibus_at, investor_at, technical_at, served_at, Inside, index_of, duo_of, serves_at, served_row, mirror_code, omnibus_code, investor_code, technical_code}
use Rattle.index.proofs.LookingUp.{facts, csd_small}
use Rattle.index.proofs.Laws.{one_more_row}
use Rattle.refusals.specs.declared.kept.Kept.{Kept}
use Rattle.refusals.specs.Kept.{Keeps}
use Rattle.entries.specs.Entered.{with_duo, with_pair, with_row_in}
use Rattle.entries.proofs.Stored.{Store, Right, Change}
use Rattle.entries.proofs.ByTable.{OfPairs, Same, every_place, same_csds, same_securities, same_accounts, same_links}
use Rattle.entries.proofs.OneMore.{find_kept, find_old, find_new}
use Rattle.entries.proofs.Growing.{not_full, same_names, grown}

-- the numbers of the duo of x for the account a, before others
abbrev duo_stores : Pair → ℕ → List Store → List Store
duo_stores x a ss =
    record { at = technical_at a; number = x.technical }
    ∷ record { at = investor_at a; number = x.investor }
    ∷ record { at = omnibus_at a; number = x.omnibus }
    ∷ record { at = mirror_at a; number = x.mirror + 1 }
    ∷ ss

-- its numbers; of an account that is hex FFFF none is stored
abbrev stores : Pair → List Store
stores x = duo_stores x x.mirror (record { at = served_at x.technical x.served; number = x.mirror + 1 } ∷ [])

abbrev both_stores : Pair → List Store
both_stores x = duo_stores x x.omnibus (stores x)

module _ (r : Rows) (x : Pair) (F : Facts (on_day 0 r)) (N : NewPair r r.pairs x) where
  abbrev r' : Rows
  r' = with_row (pair_row x) r

  technical_small : x.technical < csd_limit
  technical_small = csd_small (on_day 0 r) F x.technical N.facts.technical_row

  mirror_small : x.mirror < account_limit
  mirror_small = books_small (on_day 0 r) F x.mirror x.investor N.facts.mirror_books

  served_small : x.served < account_limit
  served_small = books_small (on_day 0 r) F x.served x.investor N.facts.served_books

  omnibus_small : x.omnibus ≢ no_account → x.omnibus < account_limit
  omnibus_small ne =
      elim (bool_cases (external r.csds x.technical)) [
        | inl h ↦ absurd (ne (N.facts.away h).alone)
        | inr h ↦ books_small (on_day 0 r) F x.omnibus x.technical (N.facts.home h).omnibus_books
      ]

  -- ---- what finds it
  served_new : served_row r'.pairs x.technical x.served ≡ some x
  unfolding served_row is_served
  served_new =
      find_new (serves_at x.technical x.served) x r.pairs
      (none_any (serves_at x.technical x.served) r.pairs (λ p m. untrue (serves_at x.technical x.served p) (λ e.
      let b = and_both (eqb p.technical x.technical) (eqb p.served x.served) e in
      let served : p.served ≡ x.served = eqb_is p.served x.served b.1 in
      let same : p.investor ≡ x.investor = one_csd_lem r.accounts x.served p.investor x.investor (rw served at (F.pairs p m).served_books) N.facts.served_books in
      clash (is_served r.pairs x.investor x.technical x.served)
      (any_true (serves x.investor x.technical x.served) r.pairs p m
      (serves_is x.investor x.technical x.served p same (eqb_is p.technical x.technical b.0) served)) N.unserved)))
      (and-true (eqb x.technical x.technical) (eqb x.served x.served) (eqb-true x.technical x.technical refl) (eqb-true x.served x.served refl))

  -- the first row that has an account of it is of its duo, whether it stood there before or not
  duo_new : (a : ℕ) → a < account_limit → uses a x ≡ true → is_apart r.pairs a x ≡ false → (q : Pair) × (duo_of r'.pairs a ≡ some q) × SharesBoth x q
  unfolding duo_of is_apart
  duo_new a h u together = rw real (go (find (uses a) r.pairs) refl)
    where
      real : eqb a no_account ≡ false
      real = eqb_false a no_account (omega arith)

      go : (o : Option Pair) → find (uses a) r.pairs ≡ o → (q : Pair) × (find (uses a) r'.pairs ≡ some q) × SharesBoth x q
      go none e = (x, find_new (uses a) x r.pairs (none_any (uses a) r.pairs (find_none (uses a) r.pairs e)) u, duo_one x x refl)
      go (some q) e =
          let f = find_some (uses a) r.pairs q e in (
            q,
            find_old (uses a) x r.pairs q e,
            duo_says x q (unnot_false (same_duo x q) (and_second (uses a q) (not (same_duo x q)) (any_none (uses_apart a x) r.pairs (rw real at together) q f.0) f.1)),
          )

  duo_right : (a : ℕ) → a < account_limit → uses a x ≡ true → is_apart r.pairs a x ≡ false → (ss : List Store) → Right (index_of r') ss → Right (index_of r') (duo_stores x a ss)
  duo_right a h u together ss right =
      let d = duo_new a h u together in
      let b = d.2 in (
        h,
        (
          rw d.1 b.technical,
          (h, (rw d.1 b.investor, (h, (rw d.1 b.omnibus, (h, (rw d.1 (ap (λ n. n + 1) b.mirror), right)))))),
        ),
      )

  right : Right (index_of r') (stores x)
  right = duo_right x.mirror mirror_small (uses_mirror x) N.mirror_together (record { at = served_at x.technical x.served; number = x.mirror + 1 } ∷ []) ((technical_small, served_small), (ap mirror_code served_new, tt))

  -- ---- and what does not: other accounts, and other accounts served
  duo_kept : (a : ℕ) → a ≢ x.mirror → a ≢ x.omnibus → duo_of r.pairs a ≡ duo_of r'.pairs a
  unfolding duo_of
  duo_kept a m o =
      rw (find_kept (uses a) x r.pairs (or-false (eqb x.mirror a) (eqb x.omnibus a) (eqb_false x.mirror a (λ e. m (sym e))) (eqb_false x.omnibus a (λ e. o (sym e)))))

  served_kept : (t a : ℕ) → served_at t a ≢ served_at x.technical x.served → served_row r.pairs t a ≡ served_row r'.pairs t a
  unfolding served_row
  served_kept t a o =
      sym (find_kept (serves_at t a) x r.pairs (untrue (serves_at t a x) (λ e.
      let b = and_both (eqb x.technical t) (eqb x.served a) e in
      o (rw (eqb_is x.technical t b.0, eqb_is x.served a b.1)))))

  -- ---- the change
  own : OfPairs (Same r r' pair_count (both_stores x))
  own =
      record {
        count = λ i o a. absurd (o refl);
        mirror = λ n i o a. ap mirror_code (duo_kept n (λ e. a.1.1.1.1.1.1.1.0 (ap mirror_at e)) (λ e. a.1.1.1.0 (ap mirror_at e)));
        omnibus = λ n i o a. ap omnibus_code (duo_kept n (λ e. a.1.1.1.1.1.1.0 (ap omnibus_at e)) (λ e. a.1.1.0 (ap omnibus_at e)));
        investor = λ n i o a. ap investor_code (duo_kept n (λ e. a.1.1.1.1.1.0 (ap investor_at e)) (λ e. a.1.0 (ap investor_at e)));
        technical = λ n i o a. ap technical_code (duo_kept n (λ e. a.1.1.1.1.0 (ap technical_at e)) (λ e. a.0 (ap technical_at e)));
        served = λ t n i o a. ap mirror_code (served_kept t n a.1.1.1.1.1.1.1.1.0);
      }

  kept : (q : Place) → Same r r' pair_count (both_stores x) q
  kept =
      every_place (Same r r' pair_count (both_stores x)) (same_csds r r' pair_count (both_stores x) refl) (same_securities r r' pair_count (both_stores x) refl)
      (same_accounts r r' pair_count (both_stores x) refl) own (same_links r r' pair_count (both_stores x) refl)

  -- with both accounts
  both : x.omnibus ≢ no_account → Change (index_of r) (index_of r') pair_count (both_stores x)
  both o =
      record {
        inside = tt;
        few = omega (arith, not_full pair_limit r.pairs N.room);
        more = one_more_row r.pairs x;
        apart = (
          (λ e. impossible (cc)),
          (
            (λ e. impossible (cc)),
            (
              (λ e. impossible (cc)),
              (
                (λ e. impossible (cc)),
                (
                  (λ e. impossible (cc)),
                  (
                    (λ e. impossible (cc)),
                    ((λ e. impossible (cc)), ((λ e. impossible (cc)), ((λ e. impossible (cc)), tt))),
                  ),
                ),
              ),
            ),
          ),
        );
        right = duo_right x.omnibus (omnibus_small o) (uses_omnibus x) N.omnibus_together (stores x) right;
        kept = kept;
      }

  -- with the first alone
  alone : x.omnibus ≡ no_account → Change (index_of r) (index_of r') pair_count (stores x)
  alone e =
      record {
        inside = tt;
        few = omega (arith, not_full pair_limit r.pairs N.room);
        more = one_more_row r.pairs x;
        apart = ((λ e. impossible (cc)), ((λ e. impossible (cc)), ((λ e. impossible (cc)), ((λ e. impossible (cc)), ((λ e. impossible (cc)), tt)))));
        right = right;
        kept = λ q i o a. kept q i o (
          (λ f. let outside : Inside (technical_at x.omnibus) = rw f at i in omega (arith, e)),
          (
            (λ f. let outside : Inside (investor_at x.omnibus) = rw f at i in omega (arith, e)),
            ((λ f. let outside : Inside (omnibus_at x.omnibus) = rw f at i in omega (arith, e)), ((λ f. let outside : Inside (mirror_at x.omnibus) = rw f at i in omega (arith, e)), a)),
          ),
        );
      }

pub pair_added : (k : Kept) (d : Directory) (x : Pair) → Keeps k d → first_of (row_conditions (rows_of d) (pair_row x)) ≡ 0 → Keeps (with_row_in (pair_row x) k) (add_row (pair_row x) d)
unfolding with_pair with_duo pair_refusal
pair_added k d x h ok =
    let r : Rows = rows_of d in
    let F : Facts (on_day 0 r) = facts h.indexed in
    let N : NewPair r r.pairs x = accepted_pair r r.pairs x ok in
    let small : x.mirror < account_limit = mirror_small r x F N in
    let names = same_names k.names r (with_row (pair_row x) r) refl refl h.named in
    rw (eqb_false x.mirror no_account (omega arith), lt-ltb x.mirror 0xffff (omega arith))
    elim (bool_cases (eqb x.omnibus no_account)) [
      | inl e ↦ rw e (grown k d h (pair_row x) ok (alone r x F N (eqb_is x.omnibus no_account e)) k.names names)
      | inr e ↦ rw e (grown k d h (pair_row x) ok (both r x F N (eqb_not x.omnibus no_account e)) k.names names)
    ]
