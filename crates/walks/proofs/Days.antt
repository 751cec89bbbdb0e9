-- What is asked of no link is answered alike on every day.
use Prim.Native.Nat.{ℕ}
use mathlib.Core.Path.{◌≡◌, refl}
use mathlib.Core.List.{List}
use Rattle.index.specs.Asked.{asked_by, asked, asked_on}

pub outside_on : (l : List ℕ) (day c : ℕ) → (asked l).outside c ≡ (asked_on l day).outside c
unfolding asked_by
outside_on l day c = refl
