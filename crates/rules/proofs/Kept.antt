-- What every call keeps of a list of calls and the store at its end: it holds of the empty store, a refused call changes nothing, and an
-- accepted one adds its row, its quantity or its amount to both sides.
use mathlib.Core.Path.{◌≡◌, refl, sym, ap, ◌∙◌}
use mathlib.Core.Bool.{Bool, true, cond, false≢true}
use mathlib.Core.List.Memᴰ
use mathlib.Core.List.{List, [], ◌∷◌, Memᴰ}
use Prim.Native.Nat.{ℕ, ◌<◌}
use lib.IntN.{ℤ, pos, ◌+ℤ◌, +ℤ_idr}
use Rattle.rules.specs.Types.{Pair, Answer, Refused}
use Rattle.rules.specs.Directory.{Rows, rows_of, security_limit}
use Rattle.rules.specs.Entries.{csd_row, security_row, account_row, pair_row, link_row, Sized}
use Rattle.rules.specs.Calls.{Store, Call, enter, move, pay, settle, derive, is_accepted, Item, item, empty_store}
use Rattle.rules.specs.Demands.{grown, made, brings, brought, pays, paid_in, PairEntered, now, before, Unchanged, Changed, EachChanged, Balanced}
use Rattle.rules.proofs.AmountRelation.{says_floored}
use Rattle.rules.proofs.Tables.{empty_sized, empty_rows}
use Rattle.rules.proofs.Balance.{held_sum, InBalance}
use Rattle.rules.proofs.Funds.{all_cash, Funded}
use Rattle.rules.proofs.EmptyStore.{empty_balance, empty_supply, empty_funds, empty_money}

-- the store st at the end of the calls items
pub record Kept (items : List Item) (st : Store) : Type 0 where
  pub sized : Sized st.directory
  pub rows : rows_of st.directory ≡ made items
  pub pairs : (p : Pair) → PairEntered p items → Memᴰ p (made items).pairs
  pub in_balance : InBalance (made items) st.positions
  pub supply : (s : ℕ) → s < security_limit → held_sum (made items) st.positions s ≡ brought items s
  pub funded : Funded st.cash
  pub money : all_cash st.cash ≡ paid_in items
  pub each : EachChanged items

-- it gives the claim
pub balanced : (items : List Item) (st : Store) → Kept items st → Balanced items st
balanced items st K =
    record {
      books = K.in_balance.books;
      mirrors = λ p s e ne hs. K.in_balance.mirrors p (K.pairs p e) ne s hs;
      none_negative = λ a s l k f. K.in_balance.floor a s l k ((says_floored (made items).accounts a).tests f);
      no_cash_negative = K.funded.floor;
      supply = K.supply;
      money = K.money;
      each = K.each;
    }

-- ---- the empty store
pub empty_kept : Kept [] empty_store
unfolding empty_store made brought paid_in
empty_kept =
    record {
      sized = empty_sized;
      rows = empty_rows;
      pairs = λ p e. elim e [ ];
      in_balance = empty_balance;
      supply = empty_supply;
      funded = empty_funds;
      money = empty_money;
      each = tt;
    }

-- ---- a refused call
unchanged : (c : Call) (x : Answer) (st : Store) → Unchanged (item c x st st)
unchanged c x st = record { positions = refl; cash = refl }

refused_changed : (c : Call) (n : ℕ) (r : Rows) (st : Store) → Changed c r (item c (Refused n) st st)
refused_changed (enter x) n r st = unchanged (enter x) (Refused n) st
refused_changed (move w a s q day) n r st = unchanged (move w a s q day) (Refused n) st
refused_changed (pay w a m) n r st = unchanged (pay w a m) (Refused n) st
refused_changed (settle hs day lent) n r st = unchanged (settle hs day lent) (Refused n) st
refused_changed (derive hs day lent) n r st = unchanged (derive hs day lent) (Refused n) st

pub refused_keeps : (c : Call) (n : ℕ) (items : List Item) (st : Store) → Kept items st → Kept (item c (Refused n) st st ∷ items) st
unfolding made brought paid_in
refused_keeps c n items st K =
    record {
      sized = K.sized;
      rows = K.rows;
      pairs = pairs';
      in_balance = K.in_balance;
      supply = λ s hs. K.supply s hs ∙ sym (+ℤ_idr (brought items s));
      funded = K.funded;
      money = K.money ∙ sym (+ℤ_idr (paid_in items));
      each = (refused_changed c n (made items) st, K.each);
    }
  where
    pairs' : (p : Pair) → PairEntered p (item c (Refused n) st st ∷ items) → Memᴰ p (made items).pairs
    pairs' p (now e f) = absurd (false≢true f)
    pairs' p (before e) = K.pairs p e

-- ---- an accepted call

-- what an accepted call c makes of a store over the rows r
pub record Keeps (r : Rows) (c : Call) (x : Answer) (st left : Store) : Type 0 where
  pub sized : Sized left.directory
  pub rows : rows_of left.directory ≡ grown c r
  pub in_balance : InBalance (grown c r) left.positions
  pub supply : (s : ℕ) → s < security_limit → held_sum (grown c r) left.positions s ≡ held_sum r st.positions s +ℤ brings c s
  pub funded : Funded left.cash
  pub money : all_cash left.cash ≡ all_cash st.cash +ℤ pays c
  pub changed : Changed c r (item c x st left)

pairs_stay : (c : Call) (r : Rows) (p : Pair) → Memᴰ p r.pairs → Memᴰ p (grown c r).pairs
pairs_stay (enter (csd_row x)) r p m = m
pairs_stay (enter (security_row x)) r p m = m
pairs_stay (enter (account_row x)) r p m = m
pairs_stay (enter (pair_row x)) r p m = Memᴰ.append_left (x ∷ []) m
pairs_stay (enter (link_row x)) r p m = m
pairs_stay (move w a s q day) r p m = m
pairs_stay (pay w a m') r p m = m
pairs_stay (settle hs day lent) r p m = m
pairs_stay (derive hs day lent) r p m = m

pair_added : (c : Call) (r : Rows) (p : Pair) → c ≡ enter (pair_row p) → Memᴰ p (grown c r).pairs
pair_added c r p e = rw e (Memᴰ.append_right r.pairs (Memᴰ.head refl))

module _ (c : Call) (x : Answer) (items : List Item) (st left : Store) (ok : is_accepted x ≡ true) where
  made_next : made (item c x st left ∷ items) ≡ grown c (made items)
  unfolding made
  made_next = ap (λ (b : Bool). cond b (grown c (made items)) (made items)) ok

  brought_next : (s : ℕ) → brought (item c x st left ∷ items) s ≡ brought items s +ℤ brings c s
  unfolding brought
  brought_next s = ap (λ (b : Bool). brought items s +ℤ cond b (brings c s) (pos 0)) ok

  paid_next : paid_in (item c x st left ∷ items) ≡ paid_in items +ℤ pays c
  unfolding paid_in
  paid_next = ap (λ (b : Bool). paid_in items +ℤ cond b (pays c) (pos 0)) ok

  pub accepted_keeps : Kept items st → Keeps (made items) c x st left → Kept (item c x st left ∷ items) left
  accepted_keeps K S =
      record {
        sized = S.sized;
        rows = S.rows ∙ sym made_next;
        pairs = λ p e. rw made_next (pairs' p e);
        in_balance = rw made_next S.in_balance;
        supply = λ s hs. rw (made_next, brought_next s) (S.supply s hs ∙ ap (λ (z : ℤ). z +ℤ brings c s) (K.supply s hs));
        funded = S.funded;
        money = rw paid_next (S.money ∙ ap (λ (z : ℤ). z +ℤ pays c) K.money);
        each = (S.changed, K.each);
      }
    where
      pairs' : (p : Pair) → PairEntered p (item c x st left ∷ items) → Memᴰ p (grown c (made items)).pairs
      pairs' p (now e f) = pair_added c (made items) p e
      pairs' p (before e) = pairs_stay c (made items) p (K.pairs p e)
