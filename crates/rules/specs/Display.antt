-- What `Display` writes of an answer. Assumes nothing.
use Rattle.std.specs.Prelude.{List, ℕ, ◌++◌}
use Rattle.std.specs.Fmt.{decimal}
use Rattle.rules.specs.declared.answer.Answer.{Answer}
use Rattle.rules.specs.declared.answer.Answer.TheVariants.{Accepted, Booked, Chained, Refused}
use Rattle.rules.specs.Stream.{bytes}

-- the program's words (`Stream: answer_text`), with std's text of a number
abbrev pub displayed : Answer → List ℕ
displayed Accepted = bytes "ok"
displayed (Booked k) = bytes "booked " ++ decimal k
displayed (Chained k) = bytes "chain " ++ decimal k
displayed (Refused n) = bytes "no " ++ decimal n
