-- `stream::words::put_words` meets its contract: so far the words of the first numbers stand there. Assumes nothing.
use mathlib.Core.Path.{◌≡◌}
use Prim.Native.Nat.{◌*◌}
use lib.ListN.{length, take}
use Rattle.stream.specs.Words.{words_to}
use Rattle.stream.proofs.words.put_words.Given as goal

abbrev pub invariant-loop-n : goal.invariant-loop-n
invariant-loop-n l = (length l.words ≡ 4_000) × (take (4 * l.n) l.words ≡ words_to l.last l.n)
