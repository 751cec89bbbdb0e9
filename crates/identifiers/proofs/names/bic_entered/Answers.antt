-- The search of the rows in use.
use Rattle.std.proofs.Common.{arith, zero-add, ◌∙◌}
use Rattle.index.specs.Asked.{read}
use Rattle.identifiers.specs.Names.{bic_size, bic_in}
use Rattle.identifiers.proofs.Laws.{found_among}
use Rattle.identifiers.proofs.names.bic_entered.Goals as goal

pub returns : goal.returns
unfolding read bic_in
returns c =
    let a = c.args in
    let n = c.min-rows.result in
    let found = found_among a.names.now 0 bic_size n c.told-names (omega arith) (omega arith) a.bic in
    simp zero-add at (rw (c.min-rows.ensures, c.from.ensures, c.entry.ensures) at (c.is_among.ensures ∙ found))
