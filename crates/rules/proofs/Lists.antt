-- Demand 3: what holds of the empty store is kept by every call, refused ones included, so it holds at the end of every list of calls.
use mathlib.Core.Path.{◌≡◌, refl, sym, ap, ◌∙◌, subst}
use mathlib.Core.List.{List, [], ◌∷◌}
use Prim.Native.Nat.{ℕ, zero, suc, ◌<◌}
use lib.IntN.{ℤ, pos, ◌+ℤ◌, +ℤ_idr}
use lib.Dec.{eqb}
use Rattle.rules.specs.Types.{Half, Step}
use Rattle.rules.specs.Tests.{first_of}
use Rattle.rules.specs.Directory.{Rows, rows_of, on_day, security_limit}
use Rattle.rules.specs.Entries.{Row, Sized}
use Rattle.rules.specs.Lookups.{ask}
use Rattle.rules.specs.Chain.{steps_of}
use Rattle.rules.specs.Booking.{booked, Way}
use Rattle.rules.specs.Calls.{Halves, Store, Call, enter, move, pay, settle, derive, core_conditions, desk_conditions, desk, outcome, success, changed, Item, item, Run, next, run_from, run, empty_store, delivering, receiving, halves_chain}
use Rattle.rules.specs.Demands.{signed, Log, begins, calls, Balanced}
use Rattle.rules.proofs.Sums.{pick_zero}
use Rattle.rules.proofs.Facts.{Facts}
use Rattle.rules.proofs.Tables.{added_sized, added_rows}
use Rattle.rules.proofs.ChainRelation.{chain_given_is}
use Rattle.rules.proofs.Refusals.{success_accepted}
use Rattle.rules.proofs.Moves.{source, target, move_steps, move_ends}
use Rattle.rules.proofs.Accepted.{facts_of, core_free, MoveFacts, move_facts, PayFacts, pay_facts, SettleFacts, settle_facts}
use Rattle.rules.proofs.Settlements.{settle_units, settle_cents}
use Rattle.rules.proofs.Balance.{held_sum, InBalance, balance_on, balance_off, transfer_supply, transfer_keeps}
use Rattle.rules.proofs.BalanceEntries.{row_keeps, row_supply}
use Rattle.rules.proofs.Funds.{all_cash, Funded, payment_keeps, payment_sum, paid_keeps, paid_sum}
use Rattle.rules.proofs.Kept.{Kept, balanced, empty_kept, refused_keeps, Keeps, accepted_keeps}

-- ---- each accepted call, over the rows of the directory handed to it
module _ (st : Store) (size : Sized st.directory) (B : InBalance (rows_of st.directory) st.positions) (funds : Funded st.cash) where
  abbrev r : Rows
  r = rows_of st.directory

  -- those of a day
  abbrev on : ℕ → Rows
  on day = on_day day r

  abbrev Done : Call → Type 0
  Done c = first_of (desk_conditions c st) ≡ 0 → Keeps r c (success c st) st (changed c st)

  same_supply : (s : ℕ) → s < security_limit → held_sum r st.positions s ≡ held_sum r st.positions s +ℤ pos 0
  same_supply s hs = sym (+ℤ_idr (held_sum r st.positions s))

  same_money : all_cash st.cash ≡ all_cash st.cash +ℤ pos 0
  same_money = sym (+ℤ_idr (all_cash st.cash))

  enter_done : (x : Row) → Done (enter x)
  enter_done x free =
      let ok : first_of (core_conditions (enter x) st) ≡ 0 = core_free (enter x) st free in
      let F : Facts (on 0) = facts_of (enter x) st free 0 in
      record {
        sized = added_sized x st.directory size;
        rows = added_rows x st.directory size ok;
        in_balance = row_keeps r F st.positions B x ok;
        supply = λ s hs. row_supply r F st.positions B x ok s hs ∙ same_supply s hs;
        funded = funds;
        money = same_money;
        changed = record { positions = refl; cash = refl };
      }

  move_done : (w : Way) (a s q day : ℕ) → Done (move w a s q day)
  move_done w a s q day free =
      let F : Facts (on day) = facts_of (move w a s q day) st free day in
      let M : MoveFacts st w a s q day = move_facts st w a s q day free in
      let steps : List Step = move_steps (on day) w a M.other in
      record {
        sized = size;
        rows = refl;
        in_balance = rw M.chain (balance_off day r (booked steps s q st.positions) (transfer_keeps (on day) F st.positions (balance_on day r st.positions B) (source w a M.other) steps (target w a M.other) s q M.transfer));
        supply = λ t ht. rw M.chain (transfer_supply (on day) F st.positions (balance_on day r st.positions B) (source w a M.other) steps (target w a M.other) s q M.transfer
            (signed w q) (move_ends (on day) a M.other M.holder M.against w q) t ht);
        funded = funds;
        money = same_money;
        changed = tt;
      }

  pay_done : (w : Way) (a m : ℕ) → Done (pay w a m)
  pay_done w a m free =
      let P : PayFacts st w a m = pay_facts st w a m free in
      record {
        sized = size;
        rows = refl;
        in_balance = B;
        supply = same_supply;
        funded = payment_keeps w st.cash a m funds P.account P.covered;
        money = payment_sum w st.cash a m P.size P.account;
        changed = tt;
      }

  settle_done : (hs : Halves) (day : ℕ) (lent : List Step) → Done (settle hs day lent)
  settle_done hs day lent free =
      let F : Facts (on day) = facts_of (settle hs day lent) st free day in
      let h : Half = delivering hs in
      let g : Half = receiving hs in
      let steps : List Step = steps_of (halves_chain (ask (on day)) hs) in
      let S : SettleFacts st hs day steps = settle_facts st hs day lent free in
      record {
        sized = size;
        rows = refl;
        in_balance = balance_off day r (booked steps h.security h.quantity st.positions) (transfer_keeps (on day) F st.positions (balance_on day r st.positions B) h.account steps g.account h.security h.quantity S.transfer);
        supply = λ t ht.
            transfer_supply (on day) F st.positions (balance_on day r st.positions B) h.account steps g.account h.security h.quantity S.transfer
            (pos 0) (rw (S.agree.deliverer, S.agree.receiver) (sym (+ℤ_idr (pos h.quantity)))) t ht
            ∙ ap (λ (z : ℤ). held_sum r st.positions t +ℤ z) (pick_zero (eqb h.security t));
        funded = paid_keeps st.cash g.account h.account h.amount funds S.payer S.payee (λ e. S.agree.two (sym e)) S.allowed.cash;
        money = paid_sum st.cash g.account h.account h.amount funds S.payer S.payee ∙ same_money;
        changed = record {
          delivering = h;
          receiving = g;
          sides = S.sides;
          steps = steps;
          chain = chain_given_is (on day) F h.security h.account g.account steps S.chain;
          units = settle_units st hs day steps S;
          cents = settle_cents st hs day steps S;
        };
      }

  derive_done : (hs : Halves) (day : ℕ) (lent : List Step) → Done (derive hs day lent)
  derive_done hs day lent free =
      record { sized = size; rows = refl; in_balance = B; supply = same_supply; funded = funds; money = same_money; changed = record { positions = refl; cash = refl } }

  call_done : (c : Call) → Done c
  call_done (enter x) = enter_done x
  call_done (move w a s q day) = move_done w a s q day
  call_done (pay w a m) = pay_done w a m
  call_done (settle hs day lent) = settle_done hs day lent
  call_done (derive hs day lent) = derive_done hs day lent

-- ---- every call
call_keeps : (c : Call) (items : List Item) (st : Store) → Kept items st → Kept (item c (desk c st).answer st (desk c st).store ∷ items) (desk c st).store
unfolding desk
call_keeps c items st K = go (first_of (desk_conditions c st)) refl
  where
    go : (n : ℕ) → first_of (desk_conditions c st) ≡ n → Kept (item c (outcome n c st).answer st (outcome n c st).store ∷ items) (outcome n c st).store
    go zero e =
        let B : InBalance (rows_of st.directory) st.positions = subst (λ (r : Rows). InBalance r st.positions) (sym K.rows) K.in_balance in
        accepted_keeps c (success c st) items st (changed c st) (success_accepted c st) K
        (subst (λ (r : Rows). Keeps r c (success c st) st (changed c st)) K.rows (call_done st K.sized B K.funded c e))
    go (suc n) e = refused_keeps c (suc n) items st K

-- ---- every list, and every log
run_keeps : (cs : List Call) (r : Run) → Kept r.items r.store → Kept (run_from cs r).items (run_from cs r).store
run_keeps [] r K = K
run_keeps (c ∷ cs) r K = run_keeps cs (next c r) (call_keeps c r.items r.store K)

log_keeps : (items : List Item) (st : Store) → Log items st → Kept items st
log_keeps items st (begins e) = rw e empty_kept
log_keeps items st (calls {items = older} {st = handed} c x left log e f) = rw (e, f) (call_keeps c older handed (log_keeps older handed log))

pub run_kept : (cs : List Call) → Kept (run cs).items (run cs).store
run_kept cs = run_keeps cs (record { items = []; store = empty_store }) empty_kept

pub lists_balance : (cs : List Call) → Balanced (run cs).items (run cs).store
lists_balance cs = balanced (run cs).items (run cs).store (run_kept cs)

pub logs_balance : (items : List Item) (st : Store) → Log items st → Balanced items st
logs_balance items st log = balanced items st (log_keeps items st log)
