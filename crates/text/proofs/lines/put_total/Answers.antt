-- `text::lines::put_total` meets its contract: one text after another; an ISIN has 12 bytes, so that its first 12 are all. Assumes nothing.
use mathlib.Core.Path.{sym, ◌≡◌}
use native.Mathlib.Omega.{arith}
use lib.ListN.{length}
use lib.Seq.{take_all}
use borrow.Author.Rules.{rules}
use Rattle.rules.specs.Stream.{total_line}
use Rattle.text.proofs.Signs.{same_signed}
use Rattle.text.proofs.Appends.{then, named}
use Rattle.text.proofs.lines.put_total.Goals as goal

pub returns : goal.returns
unfolding total_line
returns c =
    let a = c.args in
    let long : length a.isin ≡ 12 = search rules in
    let fits = same_signed a.sum.0 (search rules) in
    then c.put_word-a.ensures
    (then (named (sym (take_all 12 a.isin (omega (arith, long)))) c.put_word-b.ensures)
    (then c.put_word-c.ensures (then (named fits c.put_signed-d.ensures) c.put_word.ensures)))
