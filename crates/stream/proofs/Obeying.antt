-- A call goes by what it is handed alone: what the code answers and leaves on the lists that it is lent, the call answers and leaves on the whole
-- store. The numbers of the steps that it writes are those that the program's step list shows.
use mathlib.Core.Path.{◌≡◌, refl, sym, ap, ◌∙◌}
use Prim.Native.Nat.{ℕ, zero, suc}
use mathlib.Core.List.{List, []}
use lib.IntN.{ℤ}
use lib.ListN.{length, take, drop}
use lib.Seq.{take-append_seam}
use Rattle.rules.specs.declared.Answer.{Answer}
use Rattle.rules.specs.declared.Entered.{Entered}
use Rattle.rules.specs.declared.Step.{Step}
use Rattle.std.specs.Prelude.{Result, Ok, Err}
use Rattle.rules.specs.declared.refusal.Refusal.{Refusal}
use Rattle.rules.specs.Numbers.{refused_by, accepted_by}
use Rattle.rules.specs.Tests.{first_of}
use Rattle.rules.specs.Directory.{rows_of, rows_on}
use Rattle.rules.specs.Entries.{Row, row_conditions}
use Rattle.rules.specs.Lookups.{ask}
use Rattle.rules.specs.Booking.{Way}
use Rattle.rules.specs.Calls.{Halves, delivering, receiving, side_unknown, same_side, Store, Call, enter, move, pay, settle, derive, Outcome, outcome, success, core, core_conditions, count_of, written}
use Rattle.rules.specs.Stream.{program_steps}
use Rattle.rules.proofs.Numbered.{number_suc}
use Rattle.index.specs.Asked.{asked, asked_on}
use Rattle.index.proofs.Answers.{answers}
use Rattle.refusals.specs.declared.kept.Kept.{Kept}
use Rattle.refusals.specs.Kept.{Keeps, refusal_in}
use Rattle.entries.specs.Entered.{answered, entered_in, entered_by, enter_row}
use Rattle.entries.proofs.Keeping.{keeps_entered, answer_is}
use Rattle.chain.specs.StepList.{steps_in}
use Rattle.chain.specs.Derivation.{derived, derived_into, DerivedIn, Derives}
use Rattle.chain.proofs.StepList.{steps_none, steps_counted}
use Rattle.chain.proofs.Deriving.{derived_fits, core_derives}
use Rattle.booking.specs.Moves.{move_outcome}
use Rattle.booking.specs.Payments.{pay_outcome}
use Rattle.booking.specs.Settling.{settle_outcome, SettledIn, Settles}
use Rattle.booking.proofs.Settled.{settle_fits}
use Rattle.booking.proofs.Calls.{core_moves, core_pays, core_settles}
use Rattle.stream.specs.Obeyed.{Held, Holds, Obeys, Does}

-- ---- calls without a chain

no_count : (c : Call) (st : Store) → count_of (success c st) ≡ 0 → count_of (core c st).answer ≡ 0
unfolding core
no_count c st e = go (first_of (core_conditions c st))
  where
    go : (n : ℕ) → count_of (outcome n c st).answer ≡ 0
    go zero = e
    go (suc n) = refl

-- they tell no step
plain_obeys : (c : Call) (st : Store) (a : Answer) (h : Held) → count_of (success c st) ≡ 0 → a ≡ (core c st).answer → Holds h (core c st).store → Obeys (core c st) a h
plain_obeys c st a h n e i = record { answer = e; steps = rw (no_count c st n) (steps_none h.steps); left = i }

-- ---- entries

abbrev entered_on : Store → Entered → Outcome
entered_on st x = record { answer = x.answer; store = record { directory = x.directory; positions = st.positions; cash = st.cash }; steps = [] }

enter_called : (x : Row) (st : Store) → core (enter x) st ≡ entered_on st (enter_row x st.directory)
unfolding core enter_row
enter_called x st = go (first_of (row_conditions (rows_of st.directory) x))
  where
    go : (n : ℕ) → outcome n (enter x) st ≡ entered_on st (entered_by n x st.directory)
    go zero = refl
    go (suc n) = refl

-- accepted or refused, by the refusal's number
accepted_is : {A : Type 0} (o : Result A Refusal) → accepted_by o ≡ answered (refused_by o)
accepted_is (Ok x) = refl
accepted_is (Err e) = let (n, is) = number_suc e in rw is

pub entry_obeys : {A : Type 0} (x : Row) (h : Held) (o : Result A Refusal) (k : Kept) → refused_by o ≡ refusal_in h.kept x → k ≡ entered_in x h.kept
    → Does (enter x) h (accepted_by o) (record h { kept = k })
entry_obeys x h o k e f st i =
    let keeps : Keeps (entered_in x h.kept) (enter_row x st.directory).directory = keeps_entered h.kept st.directory x i.kept in
    rw f
    (plain_obeys (enter x) st (accepted_by o) (record h { kept = entered_in x h.kept }) refl
    (rw (enter_called x st) (accepted_is o ∙ (ap answered e ∙ answer_is h.kept st.directory x i.kept)))
    (rw (enter_called x st) (record { kept = keeps; positions = i.positions; cash = i.cash; long = i.long })))

-- ---- bring in, take out, pay in, pay out

pub move_obeys : (w : Way) (a s q day : ℕ) (h : Held) (r : Answer) (p : List ℤ)
    → r ≡ (move_outcome (asked_on h.kept.numbers day) h.positions w a s q).answer → p ≡ (move_outcome (asked_on h.kept.numbers day) h.positions w a s q).positions
    → Does (move w a s q day) h r (record h { positions = p })
move_obeys w a s q day h r p e f st i =
    let known = answers.daily h.kept.numbers st.directory i.kept.indexed day in
    let called = core_moves st w a s q day in
    plain_obeys (move w a s q day) st r (record h { positions = p }) refl (rw called (rw (known, i.positions) at e))
    (rw called (record { kept = i.kept; positions = rw (known, i.positions) at f; cash = i.cash; long = i.long }))

pub pay_obeys : (w : Way) (a m : ℕ) (h : Held) (r : Answer) (c : List ℤ)
    → r ≡ (pay_outcome (asked h.kept.numbers) h.cash w a m).answer → c ≡ (pay_outcome (asked h.kept.numbers) h.cash w a m).cash
    → Does (pay w a m) h r (record h { cash = c })
pay_obeys w a m h r c e f st i =
    let known = answers.ever h.kept.numbers st.directory i.kept.indexed in
    let called = core_pays st w a m in
    plain_obeys (pay w a m) st r (record h { cash = c }) refl (rw called (rw (known, i.cash) at e))
    (rw called (record { kept = i.kept; positions = i.positions; cash = rw (known, i.cash) at f; long = i.long }))

-- ---- settlements and derivations

-- the steps that an answer counts are the first of the program's step list
shown : (m : List ℕ) (n : ℕ) (xs lent : List Step) → steps_in m n ≡ xs → steps_in m n ≡ take n (written xs lent)
shown m n xs lent e =
    let k : n ≡ length xs = steps_counted m n ∙ ap length e in
    e ∙ sym (rw k (take-append_seam xs (drop (length xs) lent)))

module _ (hs : Halves) (day : ℕ) (h : Held) (m : List ℕ) (r : Answer) (same : length m ≡ length h.steps) where
  pub derive_obeys : Derives h.steps m (asked_on h.kept.numbers day) (delivering hs) (receiving hs) (side_unknown hs) (same_side hs) r
      → Does (derive hs day program_steps) h r (record h { steps = m })
  derive_obeys d st i =
      let x : DerivedIn h.steps m (derived (ask (rows_on day st.directory)) (delivering hs) (receiving hs) (side_unknown hs) (same_side hs)) r =
      rw (derived_fits h.steps (asked_on h.kept.numbers day) (delivering hs) (receiving hs) (side_unknown hs) (same_side hs) i.long, answers.daily h.kept.numbers st.directory i.kept.indexed day) at d in
      rw (core_derives st hs day program_steps)
      (record {
        answer = x.answer;
        steps = rw x.answer at (shown m _ _ program_steps x.steps);
        left = record { kept = i.kept; positions = i.positions; cash = i.cash; long = same ∙ i.long };
      })

  pub settle_obeys : (p c : List ℤ) → Settles h.steps m (asked_on h.kept.numbers day) h.positions h.cash (delivering hs) (receiving hs) (side_unknown hs) (same_side hs) r p c
      → Does (settle hs day program_steps) h r (record { kept = h.kept; positions = p; cash = c; steps = m })
  settle_obeys p c s st i =
      let k = ask (rows_on day st.directory) in
      let x : SettledIn h.steps m (derived_into h.steps k (delivering hs) (receiving hs) (side_unknown hs) (same_side hs)).steps (settle_outcome k st.positions st.cash (delivering hs) (receiving hs) (side_unknown hs) (same_side hs)) r p c =
      rw (settle_fits h.steps (asked_on h.kept.numbers day) h.positions h.cash (delivering hs) (receiving hs) (side_unknown hs) (same_side hs) i.long, answers.daily h.kept.numbers st.directory i.kept.indexed day, i.positions, i.cash) at s in
      rw (core_settles st hs day program_steps)
      (record {
        answer = x.answer;
        steps = rw x.answer at (shown m _ _ program_steps x.steps);
        left = record { kept = i.kept; positions = x.positions; cash = x.cash; long = same ∙ i.long };
      })
