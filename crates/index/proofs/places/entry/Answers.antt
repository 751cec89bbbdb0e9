-- Behind the end stands the default.
use native.Mathlib.Omega.{arith}
use borrow.Author.Tests.{lt-ltb, le-ltb}
use Rattle.index.specs.Index.{index_size, number_at}
use Rattle.index.proofs.places.entry.Goals as goal

pub returns-then-place-lt-INDEX : goal.returns-then-place-lt-INDEX
unfolding number_at
returns-then-place-lt-INDEX c = rw (lt-ltb c.args.place index_size (omega arith))

pub returns : goal.returns
unfolding number_at
returns c = rw (le-ltb c.args.place index_size (omega arith))
