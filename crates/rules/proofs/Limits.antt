-- Every number of a store that calls have made from the empty one lies within ±10^15: 22 is asked of each number that a call changes.
use mathlib.Core.Path.{◌≡◌, refl}
use mathlib.Core.Logic.{◌≢◌}
use mathlib.Core.List.{List, [], ◌∷◌, Memᴰ}
use Prim.Native.Nat.{ℕ, zero, suc, ◌<◌}
use native.Mathlib.Decide.{ℕ_discrete}
use lib.IntN.{ℤ, pos, ◌+ℤ◌, ◌-ℤ◌, +ℤ_idr}
use Rattle.rules.specs.Types.{Step}
use Rattle.rules.specs.Tests.{first_of}
use Rattle.rules.specs.Directory.{Rows, rows_on, security_limit}
use Rattle.rules.specs.Lookups.{ask}
use Rattle.rules.specs.Chain.{steps_of}
use Rattle.rules.specs.Booking.{Way, held_in, cash_on, booked, beyond, payment, cash_beyond}
use Rattle.rules.specs.Calls.{Halves, Store, Call, enter, move, pay, settle, derive, desk_conditions, changed, outcome, desk, Run, next, run_from, run, empty_store, delivering, receiving, halves_chain}
use Rattle.rules.specs.Demands.{MovedUnits, MovedCents}
use Rattle.rules.specs.Requests.{ReachedWithin}
use Rattle.rules.proofs.Permissions.{NotBeyond, within, units_limits}
use Rattle.rules.proofs.Bookings.{transfer_moves, Fate, spared, taken, handed, fate}
use Rattle.rules.proofs.Payments.{cents_shift}
use Rattle.rules.proofs.Moves.{source, target, move_steps}
use Rattle.rules.proofs.Accepted.{MoveFacts, move_facts, PayFacts, pay_facts, SettleFacts, settle_facts}
use Rattle.rules.proofs.Settlements.{settle_units, settle_cents}
use Rattle.rules.proofs.EmptyStore.{no_units, no_cents}

-- each position, and each balance
abbrev Held : List ℤ → Type 0
Held p = (s a : ℕ) → s < security_limit → NotBeyond (held_in p s a)

abbrev Funds : List ℤ → Type 0
Funds c = (a : ℕ) → NotBeyond (cash_on c a)

pub record Bounded (st : Store) : Type 0 where
  pub positions : Held st.positions
  pub cash : Funds st.cash

-- ---- what a chain moves
units_bounded : (steps : List Step) (s q : ℕ) (p after : List ℤ) → MovedUnits steps s q p after → Held p
    → ((x : Step) → Memᴰ x steps → NotBeyond (held_in p s x.debited -ℤ pos q))
    → ((x : Step) → Memᴰ x steps → NotBeyond (held_in p s x.credited +ℤ pos q)) → Held after
units_bounded steps s q p after M old debits credits t a ht = go (ℕ_discrete t s)
  where
    meet : s < security_limit → Fate a steps → NotBeyond (held_in after s a)
    meet hs (spared n) = rw (M.others a n) (old s a hs)
    meet hs (taken x m e) = rw (e, M.debits x m) (debits x m)
    meet hs (handed x m e) = rw (e, M.credits x m) (credits x m)

    go : Dec (t ≡ s) → NotBeyond (held_in after t a)
    go (yes e) = rw e (meet (rw e at ht) (fate a steps))
    go (no n) = rw (M.other_securities a t ht n) (old t a ht)

-- ---- what is paid
cents_bounded : (payer payee m : ℕ) (c after : List ℤ) → MovedCents payer payee m c after → Funds c
    → (m ≢ 0 → NotBeyond (cash_on c payer -ℤ pos m)) → (m ≢ 0 → NotBeyond (cash_on c payee +ℤ pos m)) → Funds after
cents_bounded payer payee m c after M old pays paid a = go (ℕ_discrete a payer) (ℕ_discrete a payee) (ℕ_discrete m 0)
  where
    go : Dec (a ≡ payer) → Dec (a ≡ payee) → Dec (m ≡ 0) → NotBeyond (cash_on after a)
    go (yes e) f (yes z) = rw (e, M.pays, z, +ℤ_idr (cash_on c payer)) (old payer)
    go (yes e) f (no n) = rw (e, M.pays) (pays n)
    go (no k) (yes e) (yes z) = rw (e, M.paid, z, +ℤ_idr (cash_on c payee)) (old payee)
    go (no k) (yes e) (no n) = rw (e, M.paid) (paid n)
    go (no k) (no l) z = rw (M.others a k l) (old a)

-- ---- each accepted call
module _ (st : Store) (B : Bounded st) where
  move_bounded : (w : Way) (a s q day : ℕ) → first_of (desk_conditions (move w a s q day) st) ≡ 0 → Bounded (changed (move w a s q day) st)
  move_bounded w a s q day free =
      let M : MoveFacts st w a s q day = move_facts st w a s q day free in
      let r : Rows = rows_on day st.directory in
      let steps : List Step = move_steps r w a M.other in
      let limits = units_limits st.positions s q steps M.limits in
      record {
        positions = rw M.chain (units_bounded steps s q st.positions (booked steps s q st.positions)
            (transfer_moves r st.positions (source w a M.other) steps (target w a M.other) s q M.size M.transfer) B.positions (λ x m. (limits x m).0) (λ x m. (limits x m).1));
        cash = B.cash;
      }

  pay_bounded : (w : Way) (a m : ℕ) → first_of (desk_conditions (pay w a m) st) ≡ 0 → Bounded (changed (pay w a m) st)
  unfolding cash_beyond
  pay_bounded w a m free = record { positions = B.positions; cash = λ b. go b (ℕ_discrete b a) }
    where
      P : PayFacts st w a m
      P = pay_facts st w a m free

      go : (b : ℕ) → Dec (b ≡ a) → NotBeyond (cash_on (changed (pay w a m) st).cash b)
      go b (yes e) = rw (e, (cents_shift st.cash a (payment w m) P.size P.account).here) P.limit
      go b (no n) = rw ((cents_shift st.cash a (payment w m) P.size P.account).there b n) (B.cash b)

  settle_bounded : (hs : Halves) (day : ℕ) (lent : List Step) → first_of (desk_conditions (settle hs day lent) st) ≡ 0 → Bounded (changed (settle hs day lent) st)
  settle_bounded hs day lent free =
      let steps : List Step = steps_of (halves_chain (ask (rows_on day st.directory)) hs) in
      let S : SettleFacts st hs day steps = settle_facts st hs day lent free in
      record {
        positions = units_bounded steps (delivering hs).security (delivering hs).quantity st.positions _ (settle_units st hs day steps S) B.positions S.allowed.debit_limits S.allowed.credit_limits;
        cash = cents_bounded (receiving hs).account (delivering hs).account (delivering hs).amount st.cash _ (settle_cents st hs day steps S) B.cash S.allowed.payer_limit S.allowed.payee_limit;
      }

  changed_bounded : (c : Call) → first_of (desk_conditions c st) ≡ 0 → Bounded (changed c st)
  changed_bounded (enter x) free = record { positions = B.positions; cash = B.cash }
  changed_bounded (move w a s q day) free = move_bounded w a s q day free
  changed_bounded (pay w a m) free = pay_bounded w a m free
  changed_bounded (settle hs day lent) free = settle_bounded hs day lent free
  changed_bounded (derive hs day lent) free = B

-- ---- every call, and every list
pub desk_bounded : (c : Call) (st : Store) → Bounded st → Bounded (desk c st).store
unfolding desk
desk_bounded c st B = go (first_of (desk_conditions c st)) refl
  where
    go : (n : ℕ) → first_of (desk_conditions c st) ≡ n → Bounded (outcome n c st).store
    go zero e = changed_bounded st B c e
    go (suc n) e = B

from_bounded : (cs : List Call) (r : Run) → Bounded r.store → Bounded (run_from cs r).store
from_bounded [] r B = B
from_bounded (c ∷ cs) r B = from_bounded cs (next c r) (desk_bounded c r.store B)

pub empty_bounded : Bounded empty_store
unfolding empty_store beyond
empty_bounded = record { positions = λ s a hs. rw (no_units _ s a); cash = λ a. rw (no_cents _ a) }

pub run_bounded : (cs : List Call) → Bounded (run cs).store
run_bounded cs = from_bounded cs (record { items = []; store = empty_store }) empty_bounded

pub reached_within : ReachedWithin
reached_within = record { positions = λ cs s a hs. within _ ((run_bounded cs).positions s a hs); cash = λ cs a. within _ ((run_bounded cs).cash a) }
