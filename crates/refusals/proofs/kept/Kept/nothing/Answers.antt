-- Zeros in every place.
use mathlib.Core.Path.{refl}
use Rattle.refusals.specs.Kept.{nothing_kept}
use Rattle.refusals.proofs.kept.Kept.nothing.Goals as goal

pub returns : goal.returns
unfolding nothing_kept
returns c = refl
