-- `stream::words::Words::word` meets its contract: its four bytes stand one after another. Assumes nothing.
use Rattle.stream.proofs.Table.{word_is}
use Rattle.stream.proofs.words.Words.word.Goals as goal

pub returns : goal.returns
returns g c = let a = c.args in word_is a.self.now.bytes g.row.LAST a.self.now.spelled a.n c.requires
