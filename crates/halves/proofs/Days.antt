-- What is asked of two halves is answered alike on every day.
use Prim.Native.Nat.{ℕ}
use mathlib.Core.Path.{◌≡◌, refl}
use mathlib.Core.Bool.{Bool}
use mathlib.Core.List.{List}
use Rattle.rules.specs.declared.Half.{Half}
use Rattle.rules.specs.Tests.{first_of}
use Rattle.rules.specs.Calls.{both_conditions}
use Rattle.index.specs.Asked.{asked_by, asked, asked_on}

pub halves_on : (l : List ℕ) (day : ℕ) (h g : Half) (u s : Bool) → first_of (both_conditions (asked l) h g u s) ≡ first_of (both_conditions (asked_on l day) h g u s)
unfolding asked_by
halves_on l day h g u s = refl
