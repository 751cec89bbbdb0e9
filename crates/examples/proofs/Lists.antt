-- Lists of rows, row by row.
use Rattle.std.proofs.Common.{◌≡◌, List, ◌∷◌}
use Rattle.rules.specs.Entries.{Row}

pub and_on : {x y : Row} {xs ys : List Row} → x ≡ y → xs ≡ ys → x ∷ xs ≡ y ∷ ys
and_on {x} {y} {xs} {ys} e es = cc
