-- A directory with one more row: the rows that were there keep their numbers, so what they say still holds.
use mathlib.Core.Path.{◌≡◌, refl, sym, ◌∙◌}
use mathlib.Core.Logic.{inl, inr}
use mathlib.Core.Bool.{true}
use mathlib.Core.List.{List, [], ◌∷◌, ◌++◌, append-nil}
use Prim.Native.Nat.{ℕ, zero, suc, ◌+◌, ◌<◌}
use native.Mathlib.Omega.{arith}
use lib.ListN.{length, get_elem?, length-append}
use Rattle.rules.specs.Types.{Csd, Account, Pair, Link}
use Rattle.rules.specs.Tests.{is_row}
use Rattle.rules.specs.Directory.{Rows, on_day, external, is_kind, in_books}
use Rattle.rules.specs.Entries.{Row, csd_row, security_row, account_row, pair_row, link_row}
use Rattle.rules.specs.Demands.{with_row}
use Rattle.rules.specs.Booking.{floored}
use Rattle.rules.proofs.Basics.{or_left, or_right, or_cases, ltb_is, ltb-true}
use Rattle.rules.proofs.Facts.{PairFacts, LinkFacts}
use Rattle.rules.proofs.Accounts.{kind_row, books_row}
use Rattle.rules.proofs.NewAccounts.{NewAccount}

-- ---- a list and its longer form
pub record Begins {A : Type 0} (rows rows' : List A) : Type 0 where
  pub more : List A
  pub whole : rows' ≡ rows ++ more

same : {A : Type 0} (rows : List A) → Begins rows rows
same rows = record { more = []; whole = sym (append-nil rows) }

longer : {A : Type 0} (rows : List A) (x : A) → Begins rows (rows ++ (x ∷ []))
longer rows x = record { more = x ∷ []; whole = refl }

module _ {A : Type 0} where
  at_same_place : (rows more : List A) (n : ℕ) → n < length rows → get_elem? (rows ++ more) n ≡ get_elem? rows n
  at_same_place [] more n l = absurd (omega arith)
  at_same_place (x ∷ rows) more zero l = refl
  at_same_place (x ∷ rows) more (suc n) l = at_same_place rows more n (omega arith)

  row_stays : {rows rows' : List A} → Begins rows rows' → (n : ℕ) → is_row rows n ≡ true → is_row rows' n ≡ true
  unfolding is_row
  row_stays {rows} b n e =
      let below : n < length rows = ltb_is n (length rows) e in
      let size : length (rows ++ b.more) ≡ length rows + length b.more = length-append rows b.more in
      rw b.whole (ltb-true n (length (rows ++ b.more)) (omega arith))

external_stays : {cs cs' : List Csd} → Begins cs cs' → (c : ℕ) → is_row cs c ≡ true → external cs' c ≡ external cs c
unfolding external is_row
external_stays {cs} b c e = rw (b.whole, at_same_place cs b.more c (ltb_is c (length cs) e))

kind_stays : {acc acc' : List Account} → Begins acc acc' → (a k : ℕ) → is_kind acc a k ≡ true → is_kind acc' a k ≡ true
unfolding is_kind
kind_stays {acc} b a k e = rw (b.whole, at_same_place acc b.more a (kind_row acc a k e)) e

floored_stays : {acc acc' : List Account} → Begins acc acc' → (a : ℕ) → floored (is_kind acc) a ≡ true → floored (is_kind acc') a ≡ true
floored_stays {acc} {acc'} b a e =
    elim (or_cases (is_kind acc a 0) (is_kind acc a 1) e) [
      | inl h ↦ or_left (is_kind acc' a 0) (is_kind acc' a 1) (kind_stays b a 0 h)
      | inr h ↦ or_right (is_kind acc' a 0) (is_kind acc' a 1) (kind_stays b a 1 h)
    ]

books_stay : {acc acc' : List Account} → Begins acc acc' → (a c : ℕ) → in_books acc a c ≡ true → in_books acc' a c ≡ true
unfolding in_books
books_stay {acc} b a c e = rw (b.whole, at_same_place acc b.more a (books_row acc a c e)) e

-- ---- facts of a row in a longer directory
pub record Grows (r r' : Rows) : Type 0 where
  pub csds : Begins r.csds r'.csds
  pub securities : Begins r.securities r'.securities
  pub accounts : Begins r.accounts r'.accounts

pub grows : (x : Row) (r : Rows) → Grows r (with_row x r)
grows (csd_row x) r = record { csds = longer r.csds x; securities = same r.securities; accounts = same r.accounts }
grows (security_row x) r = record { csds = same r.csds; securities = longer r.securities x; accounts = same r.accounts }
grows (account_row x) r = record { csds = same r.csds; securities = same r.securities; accounts = longer r.accounts x }
grows (pair_row x) r = record { csds = same r.csds; securities = same r.securities; accounts = same r.accounts }
grows (link_row x) r = record { csds = same r.csds; securities = same r.securities; accounts = same r.accounts }

-- the rows of a day: tables other than that of the links are the same
pub of_day : (day : ℕ) (r : Rows) → Grows r (on_day day r)
of_day day r = record { csds = same r.csds; securities = same r.securities; accounts = same r.accounts }

module _ (r r' : Rows) (G : Grows r r') where
  pub account_stays : (b : List Account) (x : Account) → NewAccount r.csds b x → NewAccount r'.csds b x
  account_stays b x n =
      record { room = n.room; csd_row = row_stays G.csds x.csd n.csd_row; kind = n.kind; in_t2s = external_stays G.csds x.csd n.csd_row ∙ n.in_t2s }

  pub pair_stays : (x : Pair) → PairFacts r x → PairFacts r' x
  pair_stays x f =
      let type = external_stays G.csds x.technical f.technical_row in
      record {
        investor_row = row_stays G.csds x.investor f.investor_row;
        technical_row = row_stays G.csds x.technical f.technical_row;
        another = f.another;
        mirror_books = books_stay G.accounts x.mirror x.investor f.mirror_books;
        served_books = books_stay G.accounts x.served x.investor f.served_books;
        served_kind = floored_stays G.accounts x.served f.served_kind;
        home = λ e. let h = f.home (sym type ∙ e) in
            record {
              mirror_kind = kind_stays G.accounts x.mirror 2 h.mirror_kind;
              omnibus_books = books_stay G.accounts x.omnibus x.technical h.omnibus_books;
              omnibus_kind = kind_stays G.accounts x.omnibus 1 h.omnibus_kind;
            };
        away = λ e. let a = f.away (sym type ∙ e) in record { mirror_kind = kind_stays G.accounts x.mirror 3 a.mirror_kind; alone = a.alone };
      }

  pub link_stays : (x : Link) → LinkFacts r x → LinkFacts r' x
  link_stays x f =
      let type = external_stays G.csds x.csd f.csd_row in
      record {
        security_row = row_stays G.securities x.security f.security_row;
        csd_row = row_stays G.csds x.csd f.csd_row;
        kind = f.kind;
        issuer = λ k. let i = f.issuer k in
            record {
              technical = i.technical;
              flag = i.flag;
              books = λ e. books_stay G.accounts x.account x.csd (i.books (sym type ∙ e));
              kind = λ e. kind_stays G.accounts x.account 4 (i.kind (sym type ∙ e));
              away = λ e. i.away (sym type ∙ e);
            };
        investor = λ k. let i = f.investor k in
            record {
              technical_row = row_stays G.csds x.technical i.technical_row;
              another = i.another;
              account = i.account;
              flag = i.flag;
              alternative = λ e. (type ∙ (i.alternative e).0, external_stays G.csds x.technical i.technical_row ∙ (i.alternative e).1);
            };
      }
