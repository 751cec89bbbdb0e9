-- Of a lent step list the length alone decides. So a reply with its steps by value says what the call answers, leaves and writes on every
-- list of that length; K is at most 16, and not above the length.
use Prim.Native.Nat.{ℕ, zero, suc, ◌≤◌}
use mathlib.Core.Path.{◌≡◌, refl, sym, ap, ◌∙◌}
use mathlib.Core.Bool.{Bool, true, false, not, ◌||◌, cond}
use mathlib.Core.List.{List, []}
use lib.IntN.{ℤ}
use lib.ListN.{length, drop, length-replicate}
use lib.Seq.{take-append_seam}
use lib.Dec.{ltb, eqb}
use native.Mathlib.Omega.{arith}
use Rattle.rules.specs.declared.Directory.{Directory}
use Rattle.rules.specs.declared.Step.{Step}
use Rattle.rules.specs.declared.Reply.{Reply}
use Rattle.rules.specs.Tests.{first_of}
use Rattle.rules.specs.Chain.{step_limit, step}
use Rattle.rules.specs.Booking.{position_count, cash_count}
use Rattle.rules.specs.Calls.{Halves, Store, Outcome, outcome, desk, misfit, desk_conditions, written}
use Rattle.rules.proofs.Basics.{or_none, ltb_not}
use Rattle.rules.specs.Outcomes.{holding, settlement_on, derivation_on, blanks, by_value, reply_of, step_rows}
pub use Rattle.calls.proofs.Few.{Lender, derives, settles, lending}
use Rattle.calls.proofs.Few.{given_steps, steps_counted, given_few}

-- a reply serves a call that was lent a list: it has the call's answer, and its steps are there to be written
pub record Serves (o : Outcome) (lent : List Step) (r : Reply) : Type 0 where
  pub answer : r.answer ≡ o.answer
  pub steps : written (step_rows r.steps) lent ≡ o.steps
  pub few : r.steps.count ≤ step_limit
  pub room : r.steps.count ≤ length lent

first_clear : (b : Bool) (n : ℕ) → cond b 3 n ≡ 0 → b ≡ false
first_clear true n e = let z : ⊥ = omega arith in absurd z
first_clear false n e = refl

within : {k m n : ℕ} → k ≤ m → m ≤ n → k ≤ n
within a b = omega arith

module _ (st : Store) (hs : Halves) (day : ℕ) where
  abbrev given : ℕ → List Step
  given n = given_steps st hs day n

  -- ---- an outcome by the refusal's number

  same_answer : (l : Lender) (n : ℕ) (xs ys : List Step) → (outcome n (lending l hs day xs) st).answer ≡ (outcome n (lending l hs day ys) st).answer
  same_answer derives zero xs ys = refl
  same_answer derives (suc n) xs ys = refl
  same_answer settles zero xs ys = refl
  same_answer settles (suc n) xs ys = refl

  same_store : (l : Lender) (n : ℕ) (xs ys : List Step) → (outcome n (lending l hs day xs) st).store ≡ (outcome n (lending l hs day ys) st).store
  same_store derives zero xs ys = refl
  same_store derives (suc n) xs ys = refl
  same_store settles zero xs ys = refl
  same_store settles (suc n) xs ys = refl

  steps_written : (l : Lender) (n : ℕ) (xs : List Step) → (outcome n (lending l hs day xs) st).steps ≡ written (given n) xs
  steps_written derives zero xs = refl
  steps_written derives (suc n) xs = refl
  steps_written settles zero xs = refl
  steps_written settles (suc n) xs = refl

  steps_replied : (l : Lender) (n : ℕ) (xs : List Step) → (reply_of (outcome n (lending l hs day xs) st)).steps ≡ by_value (given n)
  steps_replied l n xs =
      rw (steps_counted st hs day l n xs, steps_written l n xs) (ap by_value (take-append_seam (given n) (drop (length (given n)) xs)))

  -- nothing is 3, so the list has room
  fits : (l : Lender) (lent : List Step) → misfit (lending l hs day lent) st ≡ false → step_limit ≤ length lent
  unfolding misfit
  fits derives lent e = ltb_not (length lent) step_limit e
  fits settles lent e =
      let short = ltb (length lent) step_limit in
      let cash = not (eqb (length st.cash) cash_count) in
      ltb_not (length lent) step_limit (or_none cash short (or_none (not (eqb (length st.positions) position_count)) (cash || short) e).1).1

  given_room : (l : Lender) (n : ℕ) (lent : List Step) → first_of (desk_conditions (lending l hs day lent) st) ≡ n → length (given n) ≤ length lent
  given_room l zero lent e = within (given_few st hs day 0) (fits l lent (first_clear _ _ e))
  given_room l (suc n) lent e = omega arith

  -- ---- two lists of one length

  same_number : (l : Lender) (xs ys : List Step) → length xs ≡ length ys
      → first_of (desk_conditions (lending l hs day xs) st) ≡ first_of (desk_conditions (lending l hs day ys) st)
  unfolding misfit
  same_number derives xs ys e = rw e
  same_number settles xs ys e = rw e

  pub serves : (l : Lender) (ys lent : List Step) → length ys ≡ length lent → (r : Reply) → r ≡ reply_of (desk (lending l hs day ys) st)
      → Serves (desk (lending l hs day lent) st) lent r
  unfolding desk
  serves l ys lent e r says =
      let n = first_of (desk_conditions (lending l hs day ys) st) in
      let same = same_number l ys lent e in
      let value : r.steps ≡ by_value (given n) = ap (λ (x : Reply). x.steps) says ∙ steps_replied l n ys in
      let rows : step_rows r.steps ≡ given n = rw value (take-append_seam (given n) (drop (length (given n)) (blanks step_limit))) in
      record {
        answer = ap (λ (x : Reply). x.answer) says ∙ same_answer l n ys lent ∙ ap (λ (m : ℕ). (outcome m (lending l hs day lent) st).answer) same;
        steps = ap (λ (xs : List Step). written xs lent) rows ∙ sym (steps_written l n lent) ∙ ap (λ (m : ℕ). (outcome m (lending l hs day lent) st).steps) same;
        few = rw value (given_few st hs day n);
        room = rw (value, ← e) (given_room l n ys refl);
      }

  left_alike : (l : Lender) (ys lent : List Step) → length ys ≡ length lent → (desk (lending l hs day ys) st).store ≡ (desk (lending l hs day lent) st).store
  unfolding desk
  left_alike l ys lent e =
      same_store l (first_of (desk_conditions (lending l hs day ys) st)) ys lent ∙ ap (λ (m : ℕ). (outcome m (lending l hs day lent) st).store) (same_number l ys lent e)

as_long : (lent : List Step) → length (blanks (length lent)) ≡ length lent
as_long lent = length-replicate (length lent) (step 0 0 0)

module _ (d : Directory) (lent : List Step) (hs : Halves) (day : ℕ) where
  pub derivation_serves : (r : Reply) → r ≡ reply_of (derivation_on d (blanks (length lent)) hs day) → Serves (derivation_on d lent hs day) lent r
  derivation_serves = serves (holding d [] []) hs day derives (blanks (length lent)) lent (as_long lent)

  pub settlement_serves : (p c : List ℤ) (r : Reply) → r ≡ reply_of (settlement_on d p c (blanks (length lent)) hs day) → Serves (settlement_on d p c lent hs day) lent r
  settlement_serves p c = serves (holding d p c) hs day settles (blanks (length lent)) lent (as_long lent)

  pub settlement_store : (p c : List ℤ) → (settlement_on d p c (blanks (length lent)) hs day).store ≡ (settlement_on d p c lent hs day).store
  settlement_store p c = left_alike (holding d p c) hs day settles (blanks (length lent)) lent (as_long lent)
