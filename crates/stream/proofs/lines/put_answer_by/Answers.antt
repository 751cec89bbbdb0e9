-- `stream::lines::put_answer_by` meets its contract: each answer has its word, its number behind it, and the line's end. Assumes nothing.
use mathlib.Core.Path.{sym, ap}
use mathlib.Core.List.{[], ◌∷◌, ◌++◌}
use Rattle.rules.specs.declared.Answer.{Answer}
use Rattle.rules.specs.Stream.{answer_text}
use Rattle.text.proofs.Appends.{then, named}
use Rattle.stream.proofs.lines.put_answer_by.Goals as goal

pub returns-in-Accepted : goal.returns-in-Accepted
unfolding answer_text
returns-in-Accepted c = named (ap (λ (a : Answer). answer_text a ++ (10 ∷ [])) (sym c.in-Accepted.is)) c.put_bytes.ensures.0

pub returns-in-Booked : goal.returns-in-Booked
unfolding answer_text
returns-in-Booked c = named (ap (λ (a : Answer). answer_text a ++ (10 ∷ [])) (sym c.in-Booked.is)) (then c.put_bytes-a.ensures.0 c.put_last.ensures)

pub returns-in-Chained : goal.returns-in-Chained
unfolding answer_text
returns-in-Chained c = named (ap (λ (a : Answer). answer_text a ++ (10 ∷ [])) (sym c.in-Chained.is)) (then c.put_bytes-a-in-Chained.ensures.0 c.put_last-in-Chained.ensures)

pub returns-in-Refused : goal.returns-in-Refused
unfolding answer_text
returns-in-Refused c = named (ap (λ (a : Answer). answer_text a ++ (10 ∷ [])) (sym c.in-Refused.is)) (then c.put_bytes-a-in-Refused.ensures.0 c.put_last-in-Refused.ensures)
