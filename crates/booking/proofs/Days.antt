-- What is asked of no link is answered alike on every day.
use Prim.Native.Nat.{ℕ}
use mathlib.Core.Path.{◌≡◌, refl}
use mathlib.Core.List.{List}
use mathlib.Core.Option.{some}
use lib.IntN.{ℤ}
use Rattle.rules.specs.declared.Half.{Half}
use Rattle.rules.specs.declared.Step.{Step}
use Rattle.rules.specs.Tests.{first_of}
use Rattle.rules.specs.Booking.{inter_csd}
use Rattle.rules.specs.Calls.{book_conditions}
use Rattle.index.specs.Asked.{asked_by, asked, asked_on}
use Rattle.booking.specs.Moves.{operand_conditions, step_conditions}

module _ (l : List ℕ) (day : ℕ) where
  pub inter_csd_on : (c a t : ℕ) → inter_csd (asked l) c a (some t) ≡ inter_csd (asked_on l day) c a (some t)
  unfolding asked_by
  inter_csd_on c a t = refl

  pub operands_on : (a s q : ℕ) → first_of (operand_conditions (asked l) a s q) ≡ first_of (operand_conditions (asked_on l day) a s q)
  unfolding asked_by
  operands_on a s q = refl

  pub step_on : (p : List ℤ) (s q : ℕ) (x : Step)
      → first_of (step_conditions (asked l).kind p s q x) ≡ first_of (step_conditions (asked_on l day).kind p s q x)
  unfolding asked_by
  step_on p s q x = refl

  pub book_on : (p c : List ℤ) (h g : Half) (xs : List Step)
      → first_of (book_conditions (asked l) p c h g xs) ≡ first_of (book_conditions (asked_on l day) p c h g xs)
  unfolding asked_by
  book_on p c h g xs = refl
