-- What is lent is the part. Assumes nothing.
use mathlib.Core.Path.{refl}
use Rattle.wire.proofs.Parts.{lent}
use Rattle.wire.proofs.decoding.part.Goals as goal

pub returns : goal.returns
returns c = lent _ _ _ _ _ c.get.ensures.lookup refl c.unwrap_or.ensures
