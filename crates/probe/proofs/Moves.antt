-- A command's call is the one that its function makes. A bring-in, take-out, pay-in or pay-out on the whole store is the one on what its function is
-- handed; the rest of the store stays.
use Prim.Native.Nat.{ℕ, zero, suc}
use mathlib.Core.Path.{◌≡◌, refl, ap, ◌∙◌}
use mathlib.Core.List.{List, []}
use lib.IntN.{ℤ}
use Rattle.rules.specs.declared.Directory.{Directory}
use Rattle.rules.specs.declared.answer.Answer.{Answer}
use Rattle.rules.specs.declared.Entered.{Entered}
use Rattle.rules.specs.Tests.{first_of}
use Rattle.rules.specs.Entries.{Row}
use Rattle.rules.specs.Booking.{Way}
use Rattle.rules.specs.Calls.{Store, Call, enter, move, pay, outcome, misfit, desk_conditions, desk}
use Rattle.rules.specs.Outcomes.{holding, entered_on, movement_on, payment_on}
use Rattle.probe.specs.Exports.{entered_by}

-- what a call on the store answers and leaves
abbrev pub Leaves : Call → Store → Answer → List ℤ → List ℤ → Type 0
Leaves k st r p c = (r ≡ (desk k st).answer) × (p ≡ (desk k st).store.positions) × (c ≡ (desk k st).store.cash)

pub entered_by_lem : (d : Directory) (k : Call) (x : Row) → enter x ≡ k → (r : Entered) → r ≡ entered_on d x → r ≡ entered_by (desk k (holding d [] []))
entered_by_lem d k x e r q = q ∙ ap (λ (y : Call). entered_by (desk y (holding d [] []))) e

module _ (d : Directory) (p c : List ℤ) where
  moved_by : (n : ℕ) (w : Way) (a s q day : ℕ)
      → ((outcome n (move w a s q day) (holding d p [])).answer ≡ (outcome n (move w a s q day) (holding d p c)).answer)
      × ((outcome n (move w a s q day) (holding d p [])).store.positions ≡ (outcome n (move w a s q day) (holding d p c)).store.positions)
      × (c ≡ (outcome n (move w a s q day) (holding d p c)).store.cash)
  moved_by zero w a s q day = (refl, refl, refl)
  moved_by (suc n) w a s q day = (refl, refl, refl)

  paid_by : (n : ℕ) (w : Way) (a m : ℕ)
      → ((outcome n (pay w a m) (holding d [] c)).answer ≡ (outcome n (pay w a m) (holding d p c)).answer)
      × (p ≡ (outcome n (pay w a m) (holding d p c)).store.positions)
      × ((outcome n (pay w a m) (holding d [] c)).store.cash ≡ (outcome n (pay w a m) (holding d p c)).store.cash)
  paid_by zero w a m = (refl, refl, refl)
  paid_by (suc n) w a m = (refl, refl, refl)

  moved_like : (w : Way) (a s q day : ℕ) → Leaves (move w a s q day) (holding d p c) (movement_on d p w a s q day).answer (movement_on d p w a s q day).store.positions c
  unfolding desk misfit
  moved_like w a s q day = moved_by (first_of (desk_conditions (move w a s q day) (holding d p c))) w a s q day

  paid_like : (w : Way) (a m : ℕ) → Leaves (pay w a m) (holding d p c) (payment_on d c w a m).answer p (payment_on d c w a m).store.cash
  unfolding desk misfit
  paid_like w a m = paid_by (first_of (desk_conditions (pay w a m) (holding d p c))) w a m

  module _ (k : Call) (r : Answer) (l : List ℤ) where
    pub moved : (w : Way) (a s q day : ℕ) → move w a s q day ≡ k → (r ≡ (movement_on d p w a s q day).answer) × (l ≡ (movement_on d p w a s q day).store.positions) → Leaves k (holding d p c) r l c
    moved w a s q day e f =
        let m = moved_like w a s q day in (
          f.0 ∙ m.0 ∙ ap (λ (x : Call). (desk x (holding d p c)).answer) e,
          f.1 ∙ m.1 ∙ ap (λ (x : Call). (desk x (holding d p c)).store.positions) e,
          m.2 ∙ ap (λ (x : Call). (desk x (holding d p c)).store.cash) e,
        )

    pub paid : (w : Way) (a m : ℕ) → pay w a m ≡ k → (r ≡ (payment_on d c w a m).answer) × (l ≡ (payment_on d c w a m).store.cash) → Leaves k (holding d p c) r p l
    paid w a m e f =
        let n = paid_like w a m in (
          f.0 ∙ n.0 ∙ ap (λ (x : Call). (desk x (holding d p c)).answer) e,
          n.1 ∙ ap (λ (x : Call). (desk x (holding d p c)).store.positions) e,
          f.1 ∙ n.2 ∙ ap (λ (x : Call). (desk x (holding d p c)).store.cash) e,
        )
