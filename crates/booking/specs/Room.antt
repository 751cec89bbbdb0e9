-- What the functions that change a list ask for: that no sum leaves 64 bits.
use Rattle.std.specs.Prelude.{◌≡◌, false, List, ℕ, ◌≤◌, ℤ, length}
use Rattle.std.specs.Int.{w64}
use Rattle.std.proofs.Common.{SFits}
use Rattle.rules.specs.declared.Step.{Step}
use Rattle.rules.specs.Chain.{step_limit}
use Rattle.rules.specs.Booking.{limit, position, add_units, plus_units, less_units, units, units_beyond}
use Rattle.chain.specs.StepList.{step_numbers, steps_in}

-- the step's two changes, one after the other
pub record Room (p : List ℤ) (s q : ℕ) (x : Step) : Type 0 where
  pub debit : SFits w64 (plus_units (position p s x.debited) (less_units (units q))).0
  pub credit : SFits w64 (plus_units (position (add_units p s x.debited (less_units (units q))) s x.credited) (units q)).0

-- the first n steps of the list l can be booked: 22 lets them pass
pub record Bookable (p : List ℤ) (s q : ℕ) (l : List ℕ) (n : ℕ) : Type 0 where
  pub small : q ≤ limit
  pub size : length l ≡ step_numbers
  pub few : n ≤ step_limit
  pub passes : units_beyond p s q (steps_in l n) ≡ false
