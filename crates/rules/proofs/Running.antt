-- A store that calls have made from the empty one stays ready for the next: arrays and lists keep their lengths and the directory stays
-- sound, so that the tests 3 and 4 find nothing and a call's core is the call.
use mathlib.Core.Path.{◌≡◌, refl, ◌∙◌}
use mathlib.Core.Bool.{Bool, true, false, cond}
use mathlib.Core.List.{List, [], ◌∷◌}
use Prim.Native.Nat.{ℕ, zero, suc}
use lib.IntN.{ℤ}
use lib.Dec.{eqb}
use lib.ListN.{length}
use Rattle.rules.specs.Tests.{first_of}
use Rattle.rules.specs.Entries.{sound, Sized}
use Rattle.rules.specs.Booking.{position_count, cash_count, payment, paid, cents, less_cents, add_cents}
use Rattle.rules.specs.Calls.{Store, Call, enter, move, pay, settle, derive, delivering, receiving, misfit, core_conditions, desk_conditions, chain_for, changed, outcome, core, desk, Run, next, run_from, empty_store}
use Rattle.rules.proofs.Tables.{empty_sized, empty_sound, added_sized}
use Rattle.rules.proofs.Growth.{keeps_sound}
use Rattle.rules.proofs.Bookings.{booked_length}
use Rattle.rules.proofs.Payments.{cents_length}
use Rattle.rules.proofs.EmptyStore.{zeros_length}
use Rattle.rules.proofs.Accepted.{core_free}

pub record Ready (st : Store) : Type 0 where
  pub sized : Sized st.directory
  pub sound_books : sound st.directory ≡ true
  pub positions : length st.positions ≡ position_count
  pub cash : length st.cash ≡ cash_count

pub empty_ready : Ready empty_store
unfolding empty_store
empty_ready = record { sized = empty_sized; sound_books = empty_sound; positions = zeros_length position_count; cash = zeros_length cash_count }

paid_length : (c : List ℤ) (payer payee m : ℕ) → length (paid c payer payee m) ≡ length c
unfolding paid
paid_length c payer payee m = go (eqb m 0)
  where
    go : (b : Bool) → length (cond b c (add_cents (add_cents c payer (less_cents (cents m))) payee (cents m))) ≡ length c
    go true = refl
    go false = cents_length (add_cents c payer (less_cents (cents m))) payee (cents m) ∙ cents_length c payer (less_cents (cents m))

-- an accepted call keeps the store ready
changed_ready : (c : Call) (st : Store) → Ready st → first_of (core_conditions c st) ≡ 0 → Ready (changed c st)
changed_ready (enter x) st h e =
    record {
      sized = added_sized x st.directory h.sized;
      sound_books = keeps_sound x st.directory h.sized h.sound_books e;
      positions = h.positions;
      cash = h.cash;
    }
changed_ready (move w a s q day) st h e =
    record {
      sized = h.sized;
      sound_books = h.sound_books;
      positions = booked_length (chain_for (move w a s q day) st) s q st.positions ∙ h.positions;
      cash = h.cash;
    }
changed_ready (pay w a m) st h e =
    record { sized = h.sized; sound_books = h.sound_books; positions = h.positions; cash = cents_length st.cash a (payment w m) ∙ h.cash }
changed_ready (settle hs day lent) st h e =
    record {
      sized = h.sized;
      sound_books = h.sound_books;
      positions = booked_length (chain_for (settle hs day lent) st) (delivering hs).security (delivering hs).quantity st.positions ∙ h.positions;
      cash = paid_length st.cash (receiving hs).account (delivering hs).account (delivering hs).amount ∙ h.cash;
    }
changed_ready (derive hs day lent) st h e = h

pub core_ready : (c : Call) (st : Store) → Ready st → Ready (core c st).store
unfolding core
core_ready c st h = go (first_of (core_conditions c st)) refl
  where
    go : (n : ℕ) → first_of (core_conditions c st) ≡ n → Ready (outcome n c st).store
    go zero e = changed_ready c st h e
    go (suc n) e = h

-- and so does the call, with the tests 3 and 4
desk_ready : (c : Call) (st : Store) → Ready st → Ready (desk c st).store
unfolding desk
desk_ready c st h = go (first_of (desk_conditions c st)) refl
  where
    go : (n : ℕ) → first_of (desk_conditions c st) ≡ n → Ready (outcome n c st).store
    go zero e = changed_ready c st h (core_free c st e)
    go (suc n) e = h

-- so every store that a list of calls reaches is ready
pub run_ready : (cs : List Call) (r : Run) → Ready r.store → Ready (run_from cs r).store
run_ready [] r h = h
run_ready (c ∷ cs) r h = run_ready cs (next c r) (desk_ready c r.store h)

-- where the lists that a call is lent fit, its core is the call
pub core_is_desk : (c : Call) (st : Store) → Ready st → misfit c st ≡ false → desk c st ≡ core c st
unfolding desk core
core_is_desk c st h e = rw (e, h.sound_books)
