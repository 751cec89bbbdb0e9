-- One byte after another. Assumes nothing.
use native.Mathlib.Omega.{arith}
use Rattle.rules.specs.Stream.{number_at}
use Rattle.wire.proofs.decoding.U16FromBytes2.from_bytes.Goals as goal

pub returns : goal.returns
unfolding number_at
returns c = omega (arith, c.from_be_bytes.ensures)
