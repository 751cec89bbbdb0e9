-- Behind the end nothing is put.
use native.Mathlib.Omega.{arith}
use borrow.Author.Tests.{lt-ltb, le-ltb}
use Rattle.index.specs.Index.{index_size, with_number}
use Rattle.index.proofs.places.store.Goals as goal

pub returns-then-place-lt-INDEX : goal.returns-then-place-lt-INDEX
unfolding with_number
returns-then-place-lt-INDEX c = rw (lt-ltb c.args.place index_size (omega arith))

pub returns-else-place-lt-INDEX : goal.returns-else-place-lt-INDEX
unfolding with_number
returns-else-place-lt-INDEX c = rw (le-ltb c.args.place index_size (omega arith))
