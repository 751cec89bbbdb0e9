-- Logs of calls of the desk's functions: what each function's contract says is what demand 3 asks of a log. Assumes nothing.
use Rattle.std.specs.Prelude.{ℕ, ◌≡◌, List, [], ◌∷◌, ℤ}
use Rattle.rules.specs.Types.{Step, Answer, Entered, Reply}
use Rattle.rules.specs.Entries.{Row}
use Rattle.rules.specs.Booking.{Way}
use Rattle.rules.specs.Calls.{Halves, Store, Call, enter, move, pay, settle, derive, Item, item, empty_store}
use Rattle.rules.specs.Demands.{Log, Balanced}
use Rattle.rules.specs.Outcomes.{holding, entered_on, movement_on, payment_on, settlement_on, derivation_on, blanks, reply_of}

-- A call of a desk's function on the store st: the call, the answer r and the store that it left. Each case has the words of the
-- functions' `ensures`; what a function is not handed stays as it is.
pub data Made (st : Store) : Call → Answer → Store → Type 0 where
  -- enter_csd, enter_security, enter_account, enter_pair, enter_link
  entered : (x : Row) (r : Entered) → r ≡ entered_on st.directory x → Made st (enter x) r.answer (holding r.directory st.positions st.cash)
  -- bring_in, take_out
  moved : (w : Way) (a s q day : ℕ) (r : Answer) (p : List ℤ)
      → (r ≡ (movement_on st.directory st.positions w a s q day).answer) × (p ≡ (movement_on st.directory st.positions w a s q day).store.positions)
      → Made st (move w a s q day) r (holding st.directory p st.cash)
  -- pay_in, pay_out
  paid : (w : Way) (a m : ℕ) (r : Answer) (c : List ℤ) → (r ≡ (payment_on st.directory st.cash w a m).answer) × (c ≡ (payment_on st.directory st.cash w a m).store.cash)
      → Made st (pay w a m) r (holding st.directory st.positions c)
  -- settle, settle_sided
  settled : (hs : Halves) (day : ℕ) (lent : List Step) (r : Answer) (p c : List ℤ) (steps : List Step) → (r ≡ (settlement_on st.directory st.positions st.cash lent hs day).answer)
      × (p ≡ (settlement_on st.directory st.positions st.cash lent hs day).store.positions) × (c ≡ (settlement_on st.directory st.positions st.cash lent hs day).store.cash)
      × (steps ≡ (settlement_on st.directory st.positions st.cash lent hs day).steps) → Made st (settle hs day lent) r (holding st.directory p c)
  -- settle_reply, settle_sided_reply, which are told how many steps are lent; settle_by_value with 16
  settled_by_value : (n : ℕ) (hs : Halves) (day : ℕ) (r : Reply) (p c : List ℤ) → (r ≡ reply_of (settlement_on st.directory st.positions st.cash (blanks n) hs day))
      × (p ≡ (settlement_on st.directory st.positions st.cash (blanks n) hs day).store.positions)
      × (c ≡ (settlement_on st.directory st.positions st.cash (blanks n) hs day).store.cash) → Made st (settle hs day (blanks n)) r.answer (holding st.directory p c)
  -- derive, derive_sided
  derived : (hs : Halves) (day : ℕ) (lent : List Step) (r : Answer) (steps : List Step) → (r ≡ (derivation_on st.directory lent hs day).answer) × (steps ≡ (derivation_on st.directory lent hs day).steps)
      → Made st (derive hs day lent) r st
  -- derive_reply, derive_sided_reply, derive_by_value
  derived_by_value : (n : ℕ) (hs : Halves) (day : ℕ) (r : Reply) → r ≡ reply_of (derivation_on st.directory (blanks n) hs day) → Made st (derive hs day (blanks n)) r.answer st

-- "Each call is handed the directory that the last one returned and the positions and cash that it left"
pub data DeskLog : List Item → Store → Type 0 where
  begins : {st : Store} → st ≡ empty_store → DeskLog [] st
  calls : {items : List Item} {st : Store} {c : Call} {r : Answer} {left : Store} → DeskLog items st → Made st c r left → DeskLog (item c r st left ∷ items) left

-- such a log is one of demand 3's, so that demand 3 holds of it
pub record DeskLogged : Type 0 where
  pub logs : (items : List Item) (st : Store) → DeskLog items st → Log items st
  pub balances : (items : List Item) (st : Store) → DeskLog items st → Balanced items st
