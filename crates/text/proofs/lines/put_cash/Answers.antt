-- `text::lines::put_cash` meets its contract: one text after another. Assumes nothing.
use borrow.Author.Rules.{rules}
use Rattle.rules.specs.Stream.{cash_line}
use Rattle.text.proofs.Signs.{same_signed}
use Rattle.text.proofs.Appends.{then, named}
use Rattle.text.proofs.lines.put_cash.Goals as goal

pub returns : goal.returns
unfolding cash_line
returns c =
    let a = c.args in
    then c.put_word-a.ensures (then (named (same_signed a.sum.0 (search rules)) c.put_signed-b.ensures) c.put_word.ensures)
