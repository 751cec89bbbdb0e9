-- The rules' calls on a store are the outcomes over what its directory answers.
use Prim.Native.Nat.{ℕ, zero, suc}
use mathlib.Core.Path.{◌≡◌, refl}
use mathlib.Core.List.{List, []}
use Rattle.rules.specs.declared.Step.{Step}
use Rattle.rules.specs.Tests.{first_of}
use Rattle.rules.specs.Directory.{rows_of, rows_on}
use Rattle.rules.specs.Lookups.{Lookups, ask}
use Rattle.rules.specs.Chain.{steps_of}
use Rattle.rules.specs.Booking.{Way, move_chain, move_conditions, payment, pay_conditions, booked, add_cents}
use Rattle.rules.specs.Calls.{Halves, Store, Outcome, move, pay, settle, outcome, core, delivering, receiving, side_unknown, same_side, halves_chain, settle_conditions, written}
use Rattle.booking.specs.Moves.{MoveOutcome, move_outcome_by, move_outcome}
use Rattle.booking.specs.Payments.{PayOutcome, pay_outcome_by, pay_outcome}
use Rattle.booking.specs.Settling.{SettleOutcome, settle_outcome_by, settle_outcome}

-- ---- an outcome on a store: what is not lent stays
abbrev pub moved_on : Store → MoveOutcome → Outcome
moved_on st o = record { answer = o.answer; store = record { directory = st.directory; positions = o.positions; cash = st.cash }; steps = [] }

abbrev pub paid_on : Store → PayOutcome → Outcome
paid_on st o = record { answer = o.answer; store = record { directory = st.directory; positions = st.positions; cash = o.cash }; steps = [] }

-- with the step list that the call is lent
abbrev pub settled_on : Store → List Step → SettleOutcome → Outcome
settled_on st lent o =
    record {
      answer = o.answer;
      store = record { directory = st.directory; positions = o.positions; cash = o.cash };
      steps = written o.steps lent;
    }

-- ---- the calls
module _ (st : Store) where
  abbrev rows : Lookups
  rows = ask (rows_of st.directory)

  -- on a day
  abbrev daily : ℕ → Lookups
  daily day = ask (rows_on day st.directory)

  pub core_moves : (w : Way) (a s q day : ℕ) → core (move w a s q day) st ≡ moved_on st (move_outcome (daily day) st.positions w a s q)
  unfolding core move_outcome
  core_moves w a s q day = go (first_of (move_conditions (daily day) st.positions w a s q))
    where
      go : (n : ℕ) → outcome n (move w a s q day) st ≡ moved_on st (move_outcome_by n st.positions (booked (steps_of (move_chain (daily day) w a s)) s q st.positions))
      go zero = refl
      go (suc n) = refl

  pub core_pays : (w : Way) (a m : ℕ) → core (pay w a m) st ≡ paid_on st (pay_outcome rows st.cash w a m)
  unfolding core pay_outcome
  core_pays w a m = go (first_of (pay_conditions rows st.cash w a m))
    where
      go : (n : ℕ) → outcome n (pay w a m) st ≡ paid_on st (pay_outcome_by n st.cash (add_cents st.cash a (payment w m)))
      go zero = refl
      go (suc n) = refl

  -- the settlement of two halves as they are given
  abbrev pub of_halves : Lookups → Halves → SettleOutcome
  of_halves k hs = settle_outcome k st.positions st.cash (delivering hs) (receiving hs) (side_unknown hs) (same_side hs)

  pub core_settles : (hs : Halves) (day : ℕ) (lent : List Step) → core (settle hs day lent) st ≡ settled_on st lent (of_halves (daily day) hs)
  unfolding core settle_outcome
  core_settles hs day lent = go (first_of (settle_conditions (daily day) st.positions st.cash hs))
    where
      go : (n : ℕ) → outcome n (settle hs day lent) st ≡ settled_on st lent (settle_outcome_by n st.positions st.cash (delivering hs) (receiving hs) (steps_of (halves_chain (daily day) hs)))
      go zero = refl
      go (suc n) = refl
