-- `stream::words::Words::put_short` meets its contract: the text of a number of one, two or three digits is the end of its word. Assumes nothing.
use native.Mathlib.Omega.{arith}
use Rattle.text.proofs.Appends.{named}
use Rattle.stream.proofs.Table.{one_ends, two_end, three_end}
use Rattle.stream.proofs.words.Words.put_short.Goals as goal

pub returns-then-n-gt99-clause-text : goal.returns-then-n-gt99-clause-text
returns-then-n-gt99-clause-text g c =
    named (three_end g.row.LAST c.args.n (omega arith) (omega arith)) (rw c.word.ensures at c.put_bytes.ensures.0)

pub returns-then-n-gt9-clause-text : goal.returns-then-n-gt9-clause-text
returns-then-n-gt9-clause-text g c =
    named (two_end g.row.LAST c.args.n (omega arith) (omega arith)) (rw c.word-then-n-gt9.ensures at c.put_bytes-then-n-gt9.ensures.0)

pub returns-clause-text : goal.returns-clause-text
returns-clause-text g c = named (one_ends g.row.LAST c.args.n (omega arith)) (rw c.word-2.ensures at c.put_bytes-2.ensures.0)
