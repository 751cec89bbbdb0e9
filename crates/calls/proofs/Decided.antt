-- What each call answers and leaves, in the words of the functions' contracts: with 3 or 4 it is refused and nothing changes; else it is the core, which the
-- stream's function over the index is too.
use Prim.Native.Nat.{ℕ, zero, suc, ◌≤◌}
use mathlib.Core.Path.{◌≡◌, refl, sym, ap, ◌∙◌}
use mathlib.Core.Logic.{◌≢◌}
use mathlib.Core.Bool.{Bool, not, ◌||◌}
use mathlib.Core.List.{List, []}
use lib.IntN.{ℤ}
use lib.Dec.{eqb, ltb}
use lib.ListN.{length, take, drop, replicate, length-replicate}
use lib.Seq.{take-append_seam}
use Rattle.rules.specs.declared.answer.Answer.{Answer}
use Rattle.rules.specs.declared.answer.Answer.TheVariants.{Refused}
use Rattle.rules.specs.declared.Units.{Units}
use Rattle.rules.specs.declared.Directory.{Directory}
use Rattle.rules.specs.declared.Step.{Step}
use Rattle.rules.specs.declared.Reply.{Reply}
use Rattle.rules.specs.Directory.{rows_of, rows_on}
use Rattle.rules.specs.Entries.{sound}
use Rattle.rules.specs.Lookups.{Lookups, ask}
use Rattle.rules.specs.Chain.{step, step_limit}
use Rattle.rules.specs.Booking.{SecurityTotal, NoUnits, NoCents, Way, position_count, cash_count, participant_sum, security_total_by, security_total_conditions}
use Rattle.rules.specs.Calls.{Halves, delivering, receiving, side_unknown, same_side, Store, Call, Outcome, move, pay, settle, derive, misfit, core, count_of, written, desk_security_total, desk_cash_total}
use Rattle.rules.proofs.Basics.{eqb-true, eqb_false}
use Rattle.index.specs.Asked.{asked, asked_on}
use Rattle.index.proofs.Answers.{answers}
use Rattle.refusals.specs.declared.kept.Kept.{Kept}
use Rattle.refusals.specs.Kept.{Keeps}
use Rattle.chain.specs.StepList.{step_numbers, steps_in}
use Rattle.chain.specs.Derivation.{derived, derived_into, Derives}
use Rattle.chain.proofs.StepList.{steps_counted}
use Rattle.chain.proofs.Deriving.{derived_fits, outcome_of, core_derives}
use Rattle.booking.specs.Moves.{move_outcome}
use Rattle.booking.specs.Payments.{pay_outcome}
use Rattle.booking.specs.Settling.{settle_outcome, settle_into, Settles}
use Rattle.booking.proofs.Calls.{moved_on, core_moves, paid_on, core_pays, settled_on, core_settles}
use Rattle.booking.proofs.Settled.{settle_fits}
use Rattle.rules.specs.Outcomes.{holding, movement_on, payment_on, settlement_on, derivation_on, blanks, by_value, reply_of}
use Rattle.calls.specs.Early.{early}
use Rattle.calls.proofs.Admitted.{Admits}
use Rattle.calls.proofs.Before.{first_early, first_later, early_refused, early_passed}
use Rattle.calls.proofs.Few.{derives, settles, core_few}
use Rattle.holdings.specs.Sums.{security_total, cash_total}
use Rattle.calls.specs.Replies.{refused}

abbrev answer_of : Outcome → Answer
answer_of o = o.answer

abbrev positions_of : Outcome → List ℤ
positions_of o = o.store.positions

abbrev cash_of : Outcome → List ℤ
cash_of o = o.store.cash

abbrev steps_left : Outcome → List Step
steps_left o = o.steps

-- the index answers as the directory that was read into it
same : (d : Directory) (k : Kept) → Keeps k d → asked k.numbers ≡ ask (rows_of d)
same d k keeps = answers.ever k.numbers d keeps.indexed

-- on a day too
same_on : (d : Directory) (k : Kept) → Keeps k d → (day : ℕ) → asked_on k.numbers day ≡ ask (rows_on day d)
same_on d k keeps day = answers.daily k.numbers d keeps.indexed day

-- ---- bring in and take out
module _ (d : Directory) (p : List ℤ) (w : Way) (a s q day n : ℕ) (k : Kept) (e : Admits (not (eqb (length p) position_count)) d n k) where
  abbrev Moved : Answer → List ℤ → Outcome → Type 0
  Moved r left o = (r ≡ o.answer) × (left ≡ o.store.positions)

  pub movement_refused : n ≢ 0 → Moved (Refused n) p (movement_on d p w a s q day)
  unfolding misfit
  movement_refused ne =
      let o = early_refused (move w a s q day) (holding d p []) n e.number ne in
      (sym (ap answer_of o), sym (ap positions_of o))

  moves : n ≡ 0 → moved_on (holding d p []) (move_outcome (asked_on k.numbers day) p w a s q) ≡ movement_on d p w a s q day
  unfolding misfit
  moves z = rw (same_on d k (e.keeps z) day) (sym (early_passed (move w a s q day) (holding d p []) n e.number z ∙ core_moves (holding d p []) w a s q day))

  pub movement_passed : n ≡ 0 → (r : Answer) (left : List ℤ) → r ≡ (move_outcome (asked_on k.numbers day) p w a s q).answer
      → left ≡ (move_outcome (asked_on k.numbers day) p w a s q).positions → Moved r left (movement_on d p w a s q day)
  movement_passed z r left f g = (f ∙ ap answer_of (moves z), g ∙ ap positions_of (moves z))

-- ---- pay in and pay out
module _ (d : Directory) (c : List ℤ) (w : Way) (a m n : ℕ) (k : Kept) (e : Admits (not (eqb (length c) cash_count)) d n k) where
  abbrev Paid : Answer → List ℤ → Outcome → Type 0
  Paid r left o = (r ≡ o.answer) × (left ≡ o.store.cash)

  pub payment_refused : n ≢ 0 → Paid (Refused n) c (payment_on d c w a m)
  unfolding misfit
  payment_refused ne =
      let o = early_refused (pay w a m) (holding d [] c) n e.number ne in
      (sym (ap answer_of o), sym (ap cash_of o))

  pays : n ≡ 0 → paid_on (holding d [] c) (pay_outcome (asked k.numbers) c w a m) ≡ payment_on d c w a m
  unfolding misfit
  pays z = rw (same d k (e.keeps z)) (sym (early_passed (pay w a m) (holding d [] c) n e.number z ∙ core_pays (holding d [] c) w a m))

  pub payment_passed : n ≡ 0 → (r : Answer) (left : List ℤ) → r ≡ (pay_outcome (asked k.numbers) c w a m).answer
      → left ≡ (pay_outcome (asked k.numbers) c w a m).cash → Paid r left (payment_on d c w a m)
  payment_passed z r left f g = (f ∙ ap answer_of (pays z), g ∙ ap cash_of (pays z))

-- ---- totals
refused_total : (n : ℕ) (z : Units) → n ≢ 0 → NoUnits n ≡ security_total_by n z
refused_total zero z ne = absurd (ne refl)
refused_total (suc n) z ne = refl

module _ (d : Directory) (p : List ℤ) (s n : ℕ) (k : Kept) (e : Admits (not (eqb (length p) position_count)) d n k) where
  abbrev fit : Bool
  fit = not (eqb (length p) position_count)

  abbrev total : ℕ → SecurityTotal
  total m = security_total_by m (participant_sum (ask (rows_of d)).kind p s)

  pub total_refused : n ≢ 0 → NoUnits n ≡ desk_security_total d p s
  unfolding desk_security_total
  total_refused ne =
      refused_total n (participant_sum (ask (rows_of d)).kind p s) ne
      ∙ ap total (e.number ∙ sym (first_early fit (not (sound d)) (security_total_conditions (ask (rows_of d)) p s) (λ z. ne (e.number ∙ z))))

  pub total_passed : n ≡ 0 → security_total (asked k.numbers) p s ≡ desk_security_total d p s
  unfolding desk_security_total security_total
  total_passed z =
      rw (same d k (e.keeps z))
      (ap total (sym (first_later fit (not (sound d)) (security_total_conditions (ask (rows_of d)) p s) (sym e.number ∙ z))))

pub cash_misfit : (c : List ℤ) → length c ≢ cash_count → NoCents 3 ≡ desk_cash_total c
unfolding desk_cash_total
cash_misfit c ne = rw (eqb_false (length c) cash_count ne)

pub cash_passed : (c : List ℤ) → length c ≡ cash_count → cash_total c ≡ desk_cash_total c
unfolding desk_cash_total cash_total
cash_passed c e = rw (eqb-true (length c) cash_count e)

-- ---- derivation and settlement with their steps by value
pub refusal_replied : (o : Outcome) (n : ℕ) → o.answer ≡ Refused n → refused n ≡ reply_of o
refusal_replied o n e = rw e

-- the K steps that the list of numbers m holds
abbrev replied : Answer → List ℕ → Reply
replied r m = record { answer = r; steps = by_value (steps_in m (count_of r)) }

by_parts : (o : Outcome) (r : Answer) (ys : List Step) → r ≡ o.answer → ys ≡ o.steps → record { answer = r; steps = by_value (take (count_of r) ys) } ≡ reply_of o
by_parts o r ys a s = rw (a, s)

steps_replied : (o : Outcome) (lent : List Step) (r : Answer) (m : List ℕ) → r ≡ o.answer → written (steps_in m (count_of r)) lent ≡ o.steps → replied r m ≡ reply_of o
steps_replied o lent r m a s =
    let xs = steps_in m (count_of r) in
    let counted : take (count_of r) (written xs lent) ≡ xs =
    ap (λ (i : ℕ). take i (written xs lent)) (steps_counted m (count_of r)) ∙ take-append_seam xs (drop (length xs) lent) in
    ap (λ (ys : List Step). record { answer = r; steps = by_value ys }) (sym counted) ∙ by_parts o r (written xs lent) a s

-- the list of numbers that the steps go into
abbrev blank_numbers : List ℕ
blank_numbers = replicate step_numbers 0

size : length blank_numbers ≡ step_numbers
size = length-replicate {A = ℕ} step_numbers 0

module _ (d : Directory) (lent : ℕ) (hs : Halves) (day n : ℕ) (k : Kept) (e : Admits (ltb lent step_limit) d n k) where
  abbrev called : Call
  called = derive hs day (blanks lent)

  abbrev handed : Store
  handed = holding d [] []

  derive_early : n ≡ early (misfit called handed) d
  unfolding misfit
  derive_early = e.number ∙ ap (λ (i : ℕ). early (ltb i step_limit) d) (sym (length-replicate lent (step 0 0 0)))

  pub derivation_refused : n ≢ 0 → refused n ≡ reply_of (derivation_on d (blanks lent) hs day)
  derivation_refused ne = refusal_replied (derivation_on d (blanks lent) hs day) n (ap answer_of (early_refused called handed n derive_early ne))

  module _ (z : n ≡ 0) (r : Answer) (m : List ℕ) (o : Derives blank_numbers m (asked_on k.numbers day) (delivering hs) (receiving hs) (side_unknown hs) (same_side hs) r) where
    the_core : outcome_of handed (blanks lent) (derived_into blank_numbers (asked_on k.numbers day) (delivering hs) (receiving hs) (side_unknown hs) (same_side hs)) ≡ core called handed
    the_core =
        ap (outcome_of handed (blanks lent)) (derived_fits blank_numbers (asked_on k.numbers day) (delivering hs) (receiving hs) (side_unknown hs) (same_side hs) size ∙ ap (λ (l : Lookups). derived l (delivering hs) (receiving hs) (side_unknown hs) (same_side hs)) (same_on d k (e.keeps z) day))
        ∙ sym (core_derives handed hs day (blanks lent))

    answered : r ≡ (core called handed).answer
    answered = o.answer ∙ ap answer_of the_core

    pub derivation_few : count_of r ≤ step_limit
    derivation_few = core_few handed hs day derives (blanks lent) r answered

    pub derivation_answered : (derivation_on d (blanks lent) hs day).answer ≡ r
    derivation_answered = sym (o.answer ∙ ap answer_of (the_core ∙ sym (early_passed called handed n derive_early z)))

    pub derivation_passed : replied r m ≡ reply_of (derivation_on d (blanks lent) hs day)
    derivation_passed =
        let whole = the_core ∙ sym (early_passed called handed n derive_early z) in
        let steps = ap (λ (xs : List Step). written xs (blanks lent)) o.steps ∙ ap steps_left whole in
        steps_replied (derivation_on d (blanks lent) hs day) (blanks lent) r m (o.answer ∙ ap answer_of whole) steps

module _ (d : Directory) (p c : List ℤ) (lent : ℕ) (hs : Halves) (day n : ℕ) (k : Kept)
    (e : Admits (not (eqb (length p) position_count) || (not (eqb (length c) cash_count) || ltb lent step_limit)) d n k) where
  abbrev settled : Call
  settled = settle hs day (blanks lent)

  settle_early : n ≡ early (misfit settled (holding d p c)) d
  unfolding misfit
  settle_early =
      e.number
      ∙ ap (λ (i : ℕ). early (not (eqb (length p) position_count) || (not (eqb (length c) cash_count) || ltb i step_limit)) d) (sym (length-replicate lent (step 0 0 0)))

  -- a reply, and the positions and cash left
  abbrev Settled : Reply → List ℤ → List ℤ → Outcome → Type 0
  Settled r left cash o = (r ≡ reply_of o) × (left ≡ o.store.positions) × (cash ≡ o.store.cash)

  pub settlement_refused : n ≢ 0 → Settled (refused n) p c (settlement_on d p c (blanks lent) hs day)
  settlement_refused ne =
      let o = early_refused settled (holding d p c) n settle_early ne in
      (refusal_replied (settlement_on d p c (blanks lent) hs day) n (ap answer_of o), sym (ap positions_of o), sym (ap cash_of o))

  module _ (z : n ≡ 0) (r : Answer) (left cash : List ℤ) (m : List ℕ) (o : Settles blank_numbers m (asked_on k.numbers day) p c (delivering hs) (receiving hs) (side_unknown hs) (same_side hs) r left cash) where
    the_booking : settled_on (holding d p c) (blanks lent) (settle_into blank_numbers (asked_on k.numbers day) p c (delivering hs) (receiving hs) (side_unknown hs) (same_side hs)) ≡ core settled (holding d p c)
    the_booking =
        ap (settled_on (holding d p c) (blanks lent))
        (settle_fits blank_numbers (asked_on k.numbers day) p c (delivering hs) (receiving hs) (side_unknown hs) (same_side hs) size ∙ ap (λ (l : Lookups). settle_outcome l p c (delivering hs) (receiving hs) (side_unknown hs) (same_side hs)) (same_on d k (e.keeps z) day))
        ∙ sym (core_settles (holding d p c) hs day (blanks lent))

    booked : r ≡ (core settled (holding d p c)).answer
    booked = o.answer ∙ ap answer_of the_booking

    pub settlement_few : count_of r ≤ step_limit
    settlement_few = core_few (holding d p c) hs day settles (blanks lent) r booked

    pub settlement_answered : (settlement_on d p c (blanks lent) hs day).answer ≡ r
    settlement_answered = sym (o.answer ∙ ap answer_of (the_booking ∙ sym (early_passed settled (holding d p c) n settle_early z)))

    pub settlement_passed : Settled (replied r m) left cash (settlement_on d p c (blanks lent) hs day)
    settlement_passed =
        let whole = the_booking ∙ sym (early_passed settled (holding d p c) n settle_early z) in
        let steps = ap (λ (xs : List Step). written xs (blanks lent)) o.steps ∙ ap steps_left whole in (
          steps_replied (settlement_on d p c (blanks lent) hs day) (blanks lent) r m (o.answer ∙ ap answer_of whole) steps,
          o.positions ∙ ap positions_of whole,
          o.cash ∙ ap cash_of whole,
        )
