-- `text::lines::put_step` meets its contract: one text after another. Assumes nothing.
use Rattle.rules.specs.Stream.{step_line}
use Rattle.text.proofs.Appends.{then}
use Rattle.text.proofs.lines.put_step.Goals as goal

pub returns : goal.returns
unfolding step_line
returns c =
    then c.put_counted-a.ensures (then c.put_counted-b.ensures (then c.put_counted-c.ensures c.put_word.ensures))
