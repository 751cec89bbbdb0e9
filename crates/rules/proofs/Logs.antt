-- A log of calls of the desk's functions is one of demand 3's: a call's answer and store go by what its function is handed alone.
use Prim.Native.Nat.{ℕ, zero, suc}
use mathlib.Core.Path.{◌≡◌, refl, ap, ◌∙◌}
use mathlib.Core.List.{List, []}
use lib.IntN.{ℤ}
use Rattle.rules.specs.Types.{Step, Answer, Entered, Reply}
use Rattle.rules.specs.Tests.{first_of}
use Rattle.rules.specs.Entries.{Row}
use Rattle.rules.specs.Booking.{Way}
use Rattle.rules.specs.Calls.{Halves, Store, Call, enter, move, pay, settle, derive, outcome, misfit, desk_conditions, desk, Item}
use Rattle.rules.specs.Demands.{Log, begins, calls}
use Rattle.rules.proofs.Theorems.{demand3}
use Rattle.rules.specs.Outcomes.{holding, derivation_on, blanks}
use Rattle.rules.specs.Logs as desk-log
use Rattle.rules.specs.Logs.{Made, entered, moved, paid, settled, settled_by_value, derived, derived_by_value, DeskLog, DeskLogged}

-- what demand 3 asks of a call of a log
pub record Asked (st : Store) (c : Call) (r : Answer) (left : Store) : Type 0 where
  pub answer : r ≡ (desk c st).answer
  pub store : left ≡ (desk c st).store

module _ (st : Store) where
  -- ---- each call by its refusal's number, on what its function is handed and on the whole store
  entry_answer : (n : ℕ) (x : Row) → (outcome n (enter x) (holding st.directory [] [])).answer ≡ (outcome n (enter x) st).answer
  entry_answer zero x = refl
  entry_answer (suc n) x = refl

  entry_store : (n : ℕ) (x : Row) → holding (outcome n (enter x) (holding st.directory [] [])).store.directory st.positions st.cash ≡ (outcome n (enter x) st).store
  entry_store zero x = refl
  entry_store (suc n) x = refl

  movement_answer : (n : ℕ) (w : Way) (a s q day : ℕ) → (outcome n (move w a s q day) (holding st.directory st.positions [])).answer ≡ (outcome n (move w a s q day) st).answer
  movement_answer zero w a s q day = refl
  movement_answer (suc n) w a s q day = refl

  movement_store : (n : ℕ) (w : Way) (a s q day : ℕ)
      → holding st.directory (outcome n (move w a s q day) (holding st.directory st.positions [])).store.positions st.cash ≡ (outcome n (move w a s q day) st).store
  movement_store zero w a s q day = refl
  movement_store (suc n) w a s q day = refl

  payment_answer : (n : ℕ) (w : Way) (a m : ℕ) → (outcome n (pay w a m) (holding st.directory [] st.cash)).answer ≡ (outcome n (pay w a m) st).answer
  payment_answer zero w a m = refl
  payment_answer (suc n) w a m = refl

  payment_store : (n : ℕ) (w : Way) (a m : ℕ)
      → holding st.directory st.positions (outcome n (pay w a m) (holding st.directory [] st.cash)).store.cash ≡ (outcome n (pay w a m) st).store
  payment_store zero w a m = refl
  payment_store (suc n) w a m = refl

  settlement_directory : (n : ℕ) (hs : Halves) (day : ℕ) (lent : List Step)
      → holding st.directory (outcome n (settle hs day lent) st).store.positions (outcome n (settle hs day lent) st).store.cash ≡ (outcome n (settle hs day lent) st).store
  settlement_directory zero hs day lent = refl
  settlement_directory (suc n) hs day lent = refl

  derivation_answer : (n : ℕ) (hs : Halves) (day : ℕ) (lent : List Step) → (outcome n (derive hs day lent) (holding st.directory [] [])).answer ≡ (outcome n (derive hs day lent) st).answer
  derivation_answer zero hs day lent = refl
  derivation_answer (suc n) hs day lent = refl

  derivation_store : (n : ℕ) (hs : Halves) (day : ℕ) (lent : List Step) → st ≡ (outcome n (derive hs day lent) st).store
  derivation_store zero hs day lent = refl
  derivation_store (suc n) hs day lent = refl

  asked_settlement : (hs : Halves) (day : ℕ) (lent : List Step) (r : Answer) (p c : List ℤ) → r ≡ (desk (settle hs day lent) st).answer
      → p ≡ (desk (settle hs day lent) st).store.positions → c ≡ (desk (settle hs day lent) st).store.cash → Asked st (settle hs day lent) r (holding st.directory p c)
  unfolding desk
  asked_settlement hs day lent r p c a e f = record { answer = a; store = rw (e, f) (settlement_directory (first_of (desk_conditions (settle hs day lent) st)) hs day lent) }

  asked_derivation : (hs : Halves) (day : ℕ) (lent : List Step) (r : Answer) → r ≡ (derivation_on st.directory lent hs day).answer → Asked st (derive hs day lent) r st
  unfolding desk misfit
  asked_derivation hs day lent r e =
      let n = first_of (desk_conditions (derive hs day lent) st) in
      record { answer = e ∙ derivation_answer n hs day lent; store = derivation_store n hs day lent }

  asked : (c : Call) (r : Answer) (left : Store) → Made st c r left → Asked st c r left
  unfolding desk misfit
  asked c r left (entered x made e) =
      let n = first_of (desk_conditions (enter x) st) in
      record {
        answer = ap (λ (y : Entered). y.answer) e ∙ entry_answer n x;
        store = ap (λ (y : Entered). holding y.directory st.positions st.cash) e ∙ entry_store n x;
      }
  asked c r left (moved w a s q day x p e) =
      let n = first_of (desk_conditions (move w a s q day) st) in
      record {
        answer = e.0 ∙ movement_answer n w a s q day;
        store = ap (λ (y : List ℤ). holding st.directory y st.cash) e.1 ∙ movement_store n w a s q day;
      }
  asked c r left (paid w a m x k e) =
      let n = first_of (desk_conditions (pay w a m) st) in
      record {
        answer = e.0 ∙ payment_answer n w a m;
        store = ap (λ (y : List ℤ). holding st.directory st.positions y) e.1 ∙ payment_store n w a m;
      }
  asked c r left (settled hs day lent x p k steps e) = asked_settlement hs day lent x p k e.0 e.1 e.2
  asked c r left (settled_by_value n hs day x p k e) = asked_settlement hs day (blanks n) x.answer p k (ap (λ (y : Reply). y.answer) e.0) e.1 e.2
  asked c r left (derived hs day lent x steps e) = asked_derivation hs day lent x e.0
  asked c r left (derived_by_value n hs day x e) = asked_derivation hs day (blanks n) x.answer (ap (λ (y : Reply). y.answer) e)

desk_logs : (items : List Item) (st : Store) → DeskLog items st → Log items st
desk_logs items st (desk-log.begins e) = begins e
desk_logs items st (desk-log.calls {items = before} {st = handed} {c = c} {r = r} l m) =
    let a = asked handed c r st m in
    calls c r st (desk_logs before handed l) a.answer a.store

pub desk_logged : DeskLogged
desk_logged = record { logs = desk_logs; balances = λ items st l. demand3.logs items st (desk_logs items st l) }
