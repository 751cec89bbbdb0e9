-- The list has it.
use Prim.Native.Nat.{◌+◌}
use native.Mathlib.Omega.{arith}
use borrow.Author.Tests.{lt-ltb}
use Rattle.index.specs.Index.{index_size, number_at}
use Rattle.index.proofs.links.number_at.Goals as goal

pub returns : goal.returns
unfolding number_at
returns c = let a = c.args in rw (lt-ltb (a.link + a.number) index_size (omega arith))
