-- A bring-in or take-out by its number: 6, 7 and 10, then 19, then 20 and 22 of the one step; else that step, booked.
use Prim.Native.Nat.{ℕ, zero, suc, ◌≤◌}
use mathlib.Core.Path.{◌≡◌, refl, sym, ◌∙◌}
use mathlib.Core.Bool.{Bool, false, cond, or-false}
use mathlib.Core.List.{List, [], ◌∷◌, ◌++◌}
use mathlib.Core.Option.{none, some}
use native.Mathlib.Omega.{arith}
use lib.Dec.{eqb}
use lib.IntN.{ℤ}
use Rattle.std.specs.Prelude.{Result, Ok, Err}
use Rattle.rules.specs.declared.Step.{Step}
use Rattle.rules.specs.declared.refusal.Refusal.{Refusal}
use Rattle.rules.specs.declared.answer.Answer.{Answer}
use Rattle.rules.specs.declared.answer.Answer.TheVariants.{Refused}
use Rattle.rules.specs.Numbers.{number, refused_by, accepted_by}
use Rattle.rules.specs.Tests.{Condition, ◌when◌, first_of}
use Rattle.rules.specs.Lookups.{Lookups}
use Rattle.rules.specs.Chain.{Chain, chained, steps_of, chain_conditions}
use Rattle.rules.specs.Booking.{Way, limit, move_step, contra, move_chain, move_conditions, moved, booked, step_short, step_beyond, units_short, units_beyond}
use Rattle.rules.proofs.Basics.{quiet}
use Rattle.rules.proofs.Numbered.{number_ne0, number_test}
use Rattle.rules.proofs.Conditions.{first_before, first_after}
use Rattle.booking.specs.Room.{Room}
use Rattle.booking.specs.Moves.{operand_conditions, step_conditions, move_outcome}
use Rattle.booking.proofs.Booked.{Touches, touched, room}

-- ---- one step
module _ (p : List ℤ) (s q : ℕ) (x : Step) where
  short_one : (kind : ℕ → ℕ → Bool) → units_short kind p s q (x ∷ []) ≡ step_short kind p s q x
  unfolding units_short
  short_one kind = or-false (step_short kind p s q x)

  beyond_one : units_beyond p s q (x ∷ []) ≡ step_beyond p s q x
  unfolding units_beyond
  beyond_one = or-false (step_beyond p s q x)

  booked_one : booked (x ∷ []) s q p ≡ moved x s q p
  unfolding booked
  booked_one = refl

  -- a step that 22 lets pass has room
  pub step_room : q ≤ limit → step_beyond p s q x ≡ false → Room p s q x
  unfolding Touches
  step_room h e = room 2 s q p h x (omega arith) (touched (x ∷ []) s q p h (beyond_one ∙ e)).0

-- ---- the call
module _ (k : Lookups) (p : List ℤ) (w : Way) (a s q : ℕ) where
  -- what is answered, and the positions left
  abbrev pub Moves : Answer → List ℤ → Type 0
  Moves x p' = (x ≡ (move_outcome k p w a s q).answer) × (p' ≡ (move_outcome k p w a s q).positions)

  -- 19, 20 and 22
  abbrev later : Chain → List Condition
  later x = chain_conditions x ++ (20 when units_short k.kind p s q (steps_of x) ∷ 22 when units_beyond p s q (steps_of x) ∷ [])

  refused_with : (n : ℕ) → n ≡ first_of (move_conditions k p w a s q) → (n ≡ 0 → ⊥) → Moves (Refused n) p
  unfolding move_outcome
  refused_with zero e nonzero = absurd (nonzero refl)
  refused_with (suc n) e nonzero = rw (← e) (refl, refl)

  pub by_operands : (y : Refusal) → number y ≡ first_of (operand_conditions k a s q) → Moves (Refused (number y)) p
  by_operands y e =
      refused_with (number y) (e ∙ sym (first_before (operand_conditions k a s q) (later (move_chain k w a s)) (λ z. number_ne0 y (e ∙ z)))) (number_ne0 y)

  module _ (ok : 0 ≡ first_of (operand_conditions k a s q)) where
    then_later : first_of (move_conditions k p w a s q) ≡ first_of (later (move_chain k w a s))
    then_later = first_after (operand_conditions k a s q) (later (move_chain k w a s)) (quiet (operand_conditions k a s q) refl (sym ok))

    module _ (c : ℕ) (home : c ≡ k.home a) where
      pub by_contra : contra k s c a ≡ none → Moves (Refused 19) p
      unfolding move_chain
      by_contra e = refused_with 19 (sym (then_later ∙ rw (← home, e))) (λ z. omega arith)

      -- the step is judged, and the positions left are told by its refusal
      module _ (other : ℕ) (found : contra k s c a ≡ some other) (x : Step) (step : x ≡ move_step w c a other) where
        only : move_chain k w a s ≡ chained (x ∷ [])
        unfolding move_chain
        only = rw (← home, found, step)

        whole : first_of (move_conditions k p w a s q) ≡ first_of (step_conditions k.kind p s q x)
        whole = then_later ∙ rw (only, short_one p s q x k.kind, beyond_one p s q x)

        pub by_step : (r : Result (Unit {0}) Refusal) → refused_by r ≡ first_of (step_conditions k.kind p s q x) → (p' : List ℤ)
            → p' ≡ cond (eqb (refused_by r) 0) (moved x s q p) p → Moves (accepted_by r) p'
        unfolding move_outcome
        by_step (Ok y) e p' left = rw (whole, ← e) (refl, left ∙ rw only (sym (booked_one p s q x)))
        by_step (Err y) e p' left =
            let t = refused_with (number y) (e ∙ sym whole) (number_ne0 y) in
            (t.0, rw (number_test y) at left ∙ t.1)
