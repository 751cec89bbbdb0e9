-- The five counts, as the definition has them.
use mathlib.Core.Path.{refl}
use Rattle.rules.specs.Entries.{within_limits}
use Rattle.reading.proofs.within_limits.Goals as goal

pub returns : goal.returns
unfolding within_limits
returns c = refl
