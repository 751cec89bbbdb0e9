-- A settlement by its number: 3, that of the halves, then of the chain, then of its booking; else the chain's steps, booked and paid for.
use Prim.Native.Nat.{ℕ, zero, suc}
use mathlib.Core.Path.{◌≡◌, refl, sym, ap, ◌∙◌}
use mathlib.Core.Bool.{Bool, false, ◌||◌}
use mathlib.Core.List.{List, ◌++◌, append_assoc}
use lib.IntN.{ℤ}
use lib.ListN.{length}
use borrow.Author.Tests.{eq-eqb, ne_eqb}
use Rattle.rules.specs.declared.Half.{Half}
use Rattle.rules.specs.declared.Step.{Step}
use Rattle.rules.specs.declared.answer.Answer.{Answer}
use Rattle.rules.specs.declared.answer.Answer.TheVariants.{Booked, Refused}
use Rattle.rules.specs.Tests.{Condition, first_of}
use Rattle.rules.specs.Lookups.{Lookups}
use Rattle.rules.specs.Chain.{chained, unchained, steps_of, chain_conditions}
use Rattle.rules.specs.Booking.{booked, paid, units_short, units_beyond, cash_short, payment_beyond}
use Rattle.rules.specs.Calls.{Halves, delivering, receiving, side_unknown, same_side, both_conditions, book_conditions}
use Rattle.rules.proofs.Basics.{quiet, or_none}
use Rattle.std.specs.Prelude.{Result, Ok, Err}
use Rattle.rules.specs.declared.refusal.Refusal.{Refusal}
use Rattle.rules.specs.Numbers.{number}
use Rattle.rules.proofs.Numbered.{number_ne0}
use Rattle.chain.specs.StepList.{step_numbers, steps_in, noted}
use Rattle.chain.specs.Steps.{FoundIn}
use Rattle.chain.specs.Derivation.{chain_between, Finds, derived_into}
use Rattle.halves.specs.Halves.{Handed}
use Rattle.chain.proofs.StepList.{steps_none, steps_counted}
use Rattle.chain.proofs.Linking.{found_refused, found_chained}
use Rattle.rules.proofs.Conditions.{first_before, first_after}
use Rattle.chain.proofs.Deriving.{chain_fits, derives_misfit, derives_halves, derives_found}
use Rattle.booking.specs.Settling.{settling_conditions, settle_outcome, settle_into, Settles}
use Rattle.booking.proofs.Refused.{book_open}

pub settle_fits : (l : List ℕ) (k : Lookups) (p c : List ℤ) (h g : Half) (u s : Bool) → length l ≡ step_numbers → settle_into l k p c h g u s ≡ settle_outcome k p c h g u s
unfolding settle_into
settle_fits l k p c h g u s size = rw (eq-eqb (length l) step_numbers size)

module _ (k : Lookups) (p c : List ℤ) (h g : Half) (u s : Bool) where
  -- what 20 to 22 let pass can be booked and paid
  pub booking_open : (xs : List Step) → first_of (book_conditions k p c h g xs) ≡ 0
      → (units_beyond p h.security h.quantity xs ≡ false) × (payment_beyond c g.account h.account h.amount ≡ false)
  booking_open xs e =
      let units = units_beyond p h.security h.quantity xs in
      let payment = payment_beyond c g.account h.account h.amount in
      or_none units payment (book_open (units_short k.kind p h.security h.quantity xs) (cash_short c g.account h.amount) (units || payment) e).2

  module _ (l : List ℕ) where
    -- what is answered, and the lists left
    abbrev Leaves : Answer → List ℤ → List ℤ → List ℕ → Type 0
    Leaves x p' c' m = Settles l m k p c h g u s x p' c'

    pub by_length : (length l ≡ step_numbers → ⊥) → Leaves (Refused 3) p c l
    unfolding settle_into
    by_length other =
        let list = (derives_misfit l k h g u s other).list in
        rw (ne_eqb (length l) step_numbers other) (record { answer = refl; steps = steps_none l; positions = refl; cash = refl; list = list })

    module _ (size : length l ≡ step_numbers) where
      refused_with : (n : ℕ) (m : List ℕ) → n ≡ first_of (settling_conditions k p c h g u s) → (n ≡ 0 → ⊥) → m ≡ noted (derived_into l k h g u s).steps l
          → Leaves (Refused n) p c m
      unfolding settle_outcome
      refused_with zero m e some list = absurd (some refl)
      refused_with (suc n) m e some list =
          rw (settle_fits l k p c h g u s size, ← e) (record { answer = refl; steps = steps_none m; positions = refl; cash = refl; list = list })

      -- the conditions from those of the halves on
      abbrev later : List Condition
      later = chain_conditions (chain_between k h g) ++ book_conditions k p c h g (steps_of (chain_between k h g))

      in_order_lem : settling_conditions k p c h g u s ≡ both_conditions k h g u s ++ later
      in_order_lem = append_assoc (both_conditions k h g u s) (chain_conditions (chain_between k h g)) (book_conditions k p c h g (steps_of (chain_between k h g)))

      pub by_halves : (n : ℕ) → n ≡ first_of (both_conditions k h g u s) → (n ≡ 0 → ⊥) → Leaves (Refused n) p c l
      by_halves n e some =
          let first = first_before (both_conditions k h g u s) later (λ z. some (e ∙ z)) in
          refused_with n l (e ∙ sym (ap first_of in_order_lem ∙ first)) some (derives_halves l k h g u s size n e some).list

      -- the halves are in order, and their chain is looked for
      module _ (ok : first_of (both_conditions k h g u s) ≡ 0) (m : List ℕ) where
        then_later : first_of (settling_conditions k p c h g u s) ≡ first_of later
        then_later = ap first_of in_order_lem ∙ first_after (both_conditions k h g u s) later (quiet (both_conditions k h g u s) refl ok)

        is_found : (r : Result ℕ Refusal) → Finds l m k h.security h.account g.account r → FoundIn l m (chain_between k h g) r
        is_found r found = rw (chain_fits l k h.security h.account g.account size) at found

        list : (r : Result ℕ Refusal) → Finds l m k h.security h.account g.account r → m ≡ noted (derived_into l k h g u s).steps l
        list r found = (derives_found l k h g u s size ok m r found).list

        pub by_chain : (e : Refusal) → Finds l m k h.security h.account g.account (Err e) → Leaves (Refused (number e)) p c m
        by_chain e found =
            let none : chain_between k h g ≡ unchained (number e) = (found_refused (is_found (Err e) found)).0 in
            refused_with (number e) m (sym (then_later ∙ rw none)) (number_ne0 e) (list (Err e) found)

        -- there is a chain of n steps: its booking decides
        module _ (n : ℕ) (found : Finds l m k h.security h.account g.account (Ok n)) (i : ℕ) (is : i ≡ first_of (book_conditions k p c h g (steps_in m n))) where
          chain_is : chain_between k h g ≡ chained (steps_in m n)
          chain_is = found_chained (is_found (Ok n) found)

          whole : i ≡ first_of (settling_conditions k p c h g u s)
          whole = is ∙ sym (then_later ∙ rw chain_is)

          pub by_booking : (i ≡ 0 → ⊥) → Leaves (Refused i) p c m
          by_booking some = refused_with i m whole some (list (Ok n) found)

          pub done : i ≡ 0 → (p' c' : List ℤ) → p' ≡ booked (steps_in m n) h.security h.quantity p
              → c' ≡ paid c g.account h.account h.amount → Leaves (Booked n) p' c' m
          unfolding settle_outcome
          done none p' c' e f =
              rw (settle_fits l k p c h g u s size, sym whole ∙ none, chain_is)
              (record { answer = ap Booked (steps_counted m n); steps = refl; positions = e; cash = f; list = list (Ok n) found })

-- ---- two halves as a function is handed them
pub handed_settles : {hs : Halves} {h g : Half} {unknown same : Bool} → Handed hs h g unknown same
    → (l m : List ℕ) (k : Lookups) (p c : List ℤ) (r : Answer) (left cash : List ℤ) → Settles l m k p c h g unknown same r left cash
    → Settles l m k p c (delivering hs) (receiving hs) (side_unknown hs) (same_side hs) r left cash
handed_settles x l m k p c r left cash o = rw (x.delivers, x.receives, x.unknown_side, x.one_side) o
