-- `stream::words::size_of` meets its contract: one, two or three digits, and a byte. Assumes nothing.
use native.Mathlib.Omega.{arith}
use Rattle.stream.proofs.Table.{size_two, size_three, size_four}
use Rattle.stream.proofs.words.size_of.Goals as goal

pub returns-then-n-lt10 : goal.returns-then-n-lt10
returns-then-n-lt10 c = size_two _ (omega arith)

pub returns-then-n-lt100 : goal.returns-then-n-lt100
returns-then-n-lt100 c = size_three _ (omega arith) (omega arith)

pub returns : goal.returns
returns c = size_four _ (omega arith) (omega arith)
