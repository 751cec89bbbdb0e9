-- Demand 2, what an accepted call changes: it leaves what its definition books.
use mathlib.Core.Path.{◌≡◌, ap, ◌∙◌}
use mathlib.Core.Bool.{true}
use mathlib.Core.List.{List}
use Prim.Native.Nat.{ℕ}
use Rattle.rules.specs.Types.{Step}
use Rattle.rules.specs.Tests.{first_of}
use Rattle.rules.specs.Directory.{Rows, rows_of, rows_on}
use Rattle.rules.specs.Entries.{add_row, row_conditions}
use Rattle.rules.specs.Lookups.{home_of}
use Rattle.rules.specs.Booking.{Way, booked, payment}
use Rattle.rules.specs.Calls.{Store, Call, enter, move, pay, settle, derive, Outcome, outcome, desk, desk_conditions, chain_for, is_accepted, delivering, receiving}
use Rattle.rules.specs.Demands.{MovedUnits, Changes}
use Rattle.rules.proofs.Basics.{loud}
use Rattle.rules.proofs.Tables.{added_rows}
use Rattle.rules.proofs.MoveRelation.{contra_found_lem}
use Rattle.rules.proofs.Refusals.{desk_quiet, desk_clear, accepted_free}
use Rattle.rules.proofs.Bookings.{transfer_moves}
use Rattle.rules.proofs.Payments.{cents_shift}
use Rattle.rules.proofs.Moves.{source, target, move_steps}
use Rattle.rules.proofs.Accepted.{facts_of, MoveFacts, move_facts, PayFacts, pay_facts, settle_facts}
use Rattle.rules.proofs.Settlements.{booked_pair}

module _ (st : Store) where
  abbrev rows : Rows
  rows = rows_of st.directory

  move_changes : (w : Way) (a s q day : ℕ) → first_of (desk_conditions (move w a s q day) st) ≡ 0 → Changes (move w a s q day) st (desk (move w a s q day) st).store
  move_changes w a s q day free =
      (ap (λ (o : Outcome). o.store.directory) left, (M.other, rw M.found at (contra_found_lem (rows_on day st.directory) (facts_of (move w a s q day) st free day) s (home_of rows.accounts a) a), units), ap (λ (o : Outcome). o.store.cash) left)
    where
      left : desk (move w a s q day) st ≡ outcome 0 (move w a s q day) st
      left = desk_clear (move w a s q day) st free

      M : MoveFacts st w a s q day
      M = move_facts st w a s q day free

      units : MovedUnits (move_steps (rows_on day st.directory) w a M.other) s q st.positions (desk (move w a s q day) st).store.positions
      units =
          rw (ap (λ (o : Outcome). o.store.positions) left ∙ ap (λ (xs : List Step). booked xs s q st.positions) M.chain)
          (transfer_moves (rows_on day st.directory) st.positions (source w a M.other) (move_steps (rows_on day st.directory) w a M.other) (target w a M.other) s q M.size M.transfer)

  pay_changes : (w : Way) (a m : ℕ) → first_of (desk_conditions (pay w a m) st) ≡ 0 → Changes (pay w a m) st (desk (pay w a m) st).store
  pay_changes w a m free =
      let left : desk (pay w a m) st ≡ outcome 0 (pay w a m) st = desk_clear (pay w a m) st free in
      let P : PayFacts st w a m = pay_facts st w a m free in
      let shift = cents_shift st.cash a (payment w m) P.size P.account in
      let cash = ap (λ (o : Outcome). o.store.cash) left in
      (ap (λ (o : Outcome). o.store.directory) left, ap (λ (o : Outcome). o.store.positions) left, rw cash shift.here, λ b n. rw cash (shift.there b n))

  unrefused_changes : (c : Call) → first_of (desk_conditions c st) ≡ 0 → Changes c st (desk c st).store
  unrefused_changes (enter x) free =
      let left : desk (enter x) st ≡ outcome 0 (enter x) st = desk_clear (enter x) st free in
      let entered : (desk (enter x) st).store.directory ≡ add_row x st.directory = ap (λ (o : Outcome). o.store.directory) left in (
        entered,
        λ z. ap rows_of entered ∙ added_rows x st.directory z (loud (row_conditions rows x) (desk_quiet (enter x) st free).1.1),
        ap (λ (o : Outcome). o.store.positions) left,
        ap (λ (o : Outcome). o.store.cash) left,
      )
  unrefused_changes (move w a s q day) free = move_changes w a s q day free
  unrefused_changes (pay w a m) free = pay_changes w a m free
  unrefused_changes (settle hs day lent) free =
      (delivering hs, receiving hs, chain_for (settle hs day lent) st, (settle_facts st hs day lent free).sides, booked_pair st hs day lent free)
  unrefused_changes (derive hs day lent) free = ap (λ (o : Outcome). o.store) (desk_clear (derive hs day lent) st free)

pub changes : (c : Call) (st : Store) → is_accepted (desk c st).answer ≡ true → Changes c st (desk c st).store
changes c st e = unrefused_changes st c (accepted_free c st e)
