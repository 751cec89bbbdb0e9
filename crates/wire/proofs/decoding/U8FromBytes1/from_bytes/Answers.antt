-- The byte is the number of one byte. Assumes nothing.
use native.Mathlib.Omega.{arith}
use Rattle.rules.specs.Stream.{number_at}
use Rattle.wire.proofs.decoding.U8FromBytes1.from_bytes.Goals as goal

pub returns : goal.returns
unfolding number_at
returns c = omega arith
