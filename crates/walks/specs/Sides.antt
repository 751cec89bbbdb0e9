-- What the code's sides stand for.
use Rattle.std.specs.Prelude.{ℕ, List, take}
use Rattle.walks.specs.declared.sides.Side.{Side}

-- the CSDs that a side names
abbrev pub named : Side → List ℕ
named x = take x.count x.csds
