-- The list has it, if both are within the tables.
use Rattle.std.proofs.Common.{arith}
use Rattle.index.specs.Asked.{read}
use Rattle.index.proofs.LinkReading.{ends, none_begins, one_begins}
use Rattle.index.proofs.links.newest_link.Goals as goal
use Rattle.index.proofs.links.newest_link.Goals.{then-link-eq0-via-then-link-eq0, then-link-eq0-via-else-link-eq0+then-link-gt-LAST_ROW}

pub returns-then-link-eq0 : goal.returns-then-link-eq0
unfolding read
returns-then-link-eq0 c =
    let link = c.number_by-link.result in
    rw (← c.number_by-link.ensures)
    (elim c.then-link-eq0.branch [
      | then-link-eq0-via-then-link-eq0 w ↦ rw w.if-link-eq0.true
      | then-link-eq0-via-else-link-eq0+then-link-gt-LAST_ROW w ↦ none_begins link (ends link (omega arith))
    ])

pub returns : goal.returns
unfolding read
returns c = rw (← c.number_by-link.ensures) (one_begins c.number_by-link.result (omega arith) (omega arith))
