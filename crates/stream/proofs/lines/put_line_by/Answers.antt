-- `stream::lines::put_line_by` meets its contract: the number and a space, then the answer. Assumes nothing.
use mathlib.Core.Path.{sym, ◌∙◌}
use mathlib.Core.List.{[], ◌∷◌, ◌++◌, append_assoc}
use Rattle.rules.specs.Stream.{decimal, answer_text}
use Rattle.text.proofs.Appends.{then, named}
use Rattle.text.proofs.Said.{line_alone}
use Rattle.stream.proofs.lines.put_line_by.Goals as goal

pub returns : goal.returns
returns c =
    let a = c.args in
    named (append_assoc (decimal a.number) (32 ∷ []) (answer_text a.answer ++ (10 ∷ [])) ∙ sym (line_alone a.number a.answer))
    (then c.put_number-end.ensures.0 c.put_answer_by.ensures)
