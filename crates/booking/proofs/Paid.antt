-- A payment that 22 lets pass: neither of its two changes, one after the other, leaves 64 bits.
use mathlib.Core.Path.{◌≡◌, refl}
use mathlib.Core.Bool.{false}
use mathlib.Core.List.{List}
use Prim.Native.Nat.{ℕ, zero, suc, ◌≤◌}
use native.Mathlib.Omega.{arith}
use lib.Dec.{eqb}
use lib.IntN.{ℤ, pos, neg_ℤ, ◌+ℤ◌}
use mir.Syntax.{w64}
use mir.Val.{SFits}
use Rattle.rules.specs.declared.Cents.{Cents}
use Rattle.rules.specs.declared.refusal.Refusal.{Refusal}
use Rattle.rules.specs.declared.answer.Answer.TheVariants.{Accepted, Refused}
use Rattle.rules.specs.Numbers.{number}
use Rattle.rules.proofs.Numbered.{number_ne0}
use Rattle.rules.specs.Tests.{first_of}
use Rattle.rules.specs.Lookups.{Lookups}
use Rattle.rules.specs.Booking.{Way, incoming, outgoing, limit, balance, add_cents, plus_cents, cents, less_cents, cash_on, cash_beyond, payment, pay_conditions, payment_beyond}
use Rattle.rules.specs.Demands.{signed}
use Rattle.rules.proofs.Basics.{or_none}
use Rattle.holdings.proofs.Bounds.{within_one, within_plus, within_fits}
use Rattle.booking.specs.Payments.{pay_outcome}
use Rattle.booking.proofs.Bounds.{within_two, within_pos, within_neg, within_added}

-- one change that ends within ±10^15
pub cash_fits : (c : List ℤ) (a : ℕ) (z : Cents) → cash_beyond c a z ≡ false → SFits w64 (plus_cents (balance c a) z).0
unfolding cash_beyond
cash_fits c a z e = within_fits 1 (cash_on c a +ℤ z.0) (omega arith) (within_one (cash_on c a +ℤ z.0) e)

module _ (c : List ℤ) (payer payee m : ℕ) (some : eqb m 0 ≡ false) where
  pub both_within : payment_beyond c payer payee m ≡ false → (cash_beyond c payer (less_cents (cents m)) ≡ false) × (cash_beyond c payee (cents m) ≡ false)
  unfolding payment_beyond
  both_within e = or_none (cash_beyond c payer (less_cents (cents m))) (cash_beyond c payee (cents m)) (rw some at e)

  pub payee_fits : m ≤ limit → payment_beyond c payer payee m ≡ false
      → SFits w64 (plus_cents (balance (add_cents c payer (less_cents (cents m))) payee) (cents m)).0
  unfolding balance add_cents cash_beyond
  payee_fits h e =
      let held = within_two (cash_on c payee) (pos m) (within_pos m h) (both_within e).1 in
      let between = within_added 2 1 c payer (neg_ℤ (pos m)) payee (within_neg m h) held in
      within_fits 4 (cash_on (add_cents c payer (less_cents (cents m))) payee +ℤ pos m) (omega arith)
      (within_plus 3 1 (cash_on (add_cents c payer (less_cents (cents m))) payee) (pos m) between (within_pos m h))

-- what is paid in is a change upwards, what is paid out one downwards
pub payment_signed : (w : Way) (m : ℕ) → ◌≡◌ {A = Cents} (record { 0 = signed w m }) (payment w m)
payment_signed incoming m = refl
payment_signed outgoing m = refl

-- ---- a pay-in or pay-out by its number
module _ (k : Lookups) (c : List ℤ) (w : Way) (a m : ℕ) where
  refused_with : (n : ℕ) → n ≡ first_of (pay_conditions k c w a m) → (n ≡ 0 → ⊥)
      → (Refused n ≡ (pay_outcome k c w a m).answer) × (c ≡ (pay_outcome k c w a m).cash)
  unfolding pay_outcome
  refused_with zero e nonzero = absurd (nonzero refl)
  refused_with (suc n) e nonzero = rw (← e) (refl, refl)

  pub pay_refused : (y : Refusal) → number y ≡ first_of (pay_conditions k c w a m)
      → (Refused (number y) ≡ (pay_outcome k c w a m).answer) × (c ≡ (pay_outcome k c w a m).cash)
  pay_refused y e = refused_with (number y) e (number_ne0 y)

  pub pay_done : 0 ≡ first_of (pay_conditions k c w a m)
      → (Accepted ≡ (pay_outcome k c w a m).answer) × (add_cents c a (payment w m) ≡ (pay_outcome k c w a m).cash)
  unfolding pay_outcome
  pay_done e = rw (← e) (refl, refl)
