-- `stream::words::put_sizes` meets its contract: so far the sizes of the first numbers stand there. Assumes nothing.
use mathlib.Core.Path.{◌≡◌}
use lib.ListN.{length, take}
use Rattle.stream.specs.Words.{sizes_to}
use Rattle.stream.proofs.words.put_sizes.Given as goal

abbrev pub invariant-loop-n : goal.invariant-loop-n
invariant-loop-n l = (length l.sizes ≡ 1_000) × (take l.n l.sizes ≡ sizes_to l.n)
