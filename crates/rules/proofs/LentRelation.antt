-- 3: the test of the lists that a call is lent says what the relation says.
use mathlib.Core.Path.{sym}
use mathlib.Core.Logic.{◌≢◌, ◌⊎◌, inl, inr}
use mathlib.Core.Bool.{not, true≢false}
use mathlib.Core.List.{List}
use Prim.Native.Nat.{ℕ, ◌<◌}
use lib.Dec.{eqb, ltb}
use lib.ListN.{length}
use Rattle.rules.specs.Types.{Step}
use Rattle.rules.specs.Chain.{step_limit}
use Rattle.rules.specs.Booking.{position_count, cash_count}
use Rattle.rules.specs.Calls.{Halves, Store, Call, enter, move, pay, settle, derive, misfit}
use Rattle.rules.specs.Refusals.{Misfits, move_positions, pay_cash, settle_positions, settle_cash, settle_steps, derive_steps}
use Rattle.rules.proofs.Reflection.{Says, says_as, says_or, says_ne, says_lt}

module _ (st : Store) where
  settle_misfits : (hs : Halves) (day : ℕ) (lent : List Step) → Says (Misfits st (settle hs day lent)) (misfit (settle hs day lent) st)
  unfolding misfit
  settle_misfits hs day lent =
      says_as
      (says_or (not (eqb (length st.positions) position_count)) _ (says_ne (length st.positions) position_count)
      (says_or (not (eqb (length st.cash) cash_count)) (ltb (length lent) step_limit) (says_ne (length st.cash) cash_count) (says_lt (length lent) step_limit)))
      to from
    where
      to : (length st.positions ≢ position_count) ⊎ ((length st.cash ≢ cash_count) ⊎ (length lent < step_limit)) → Misfits st (settle hs day lent)
      to (inl e) = settle_positions e
      to (inr (inl e)) = settle_cash e
      to (inr (inr l)) = settle_steps l

      from : Misfits st (settle hs day lent) → (length st.positions ≢ position_count) ⊎ ((length st.cash ≢ cash_count) ⊎ (length lent < step_limit))
      from (settle_positions e) = inl e
      from (settle_cash e) = inr (inl e)
      from (settle_steps l) = inr (inr l)

  pub says_misfit : (c : Call) → Says (Misfits st c) (misfit c st)
  unfolding misfit
  says_misfit (enter x) = record { holds = λ e. absurd (true≢false (sym e)); tests = λ m. elim m [ ] }
  says_misfit (move w a s q day) = says_as (says_ne (length st.positions) position_count) move_positions from
    where
      from : Misfits st (move w a s q day) → length st.positions ≢ position_count
      from (move_positions e) = e
  says_misfit (pay w a m) = says_as (says_ne (length st.cash) cash_count) pay_cash from
    where
      from : Misfits st (pay w a m) → length st.cash ≢ cash_count
      from (pay_cash e) = e
  says_misfit (settle hs day lent) = settle_misfits hs day lent
  says_misfit (derive hs day lent) = says_as (says_lt (length lent) step_limit) derive_steps from
    where
      from : Misfits st (derive hs day lent) → length lent < step_limit
      from (derive_steps l) = l
