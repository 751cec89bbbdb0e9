-- The search of the rows in use.
use Rattle.std.proofs.Common.{arith, ◌≡◌, ◌+◌, ◌*◌, ◌-◌, ◌∙◌}
use Rattle.index.specs.Asked.{read}
use Rattle.identifiers.specs.Names.{isins, isin_size, isin_in}
use Rattle.identifiers.proofs.Laws.{found_among}
use Rattle.identifiers.proofs.names.isin_entered.Goals as goal

pub returns : goal.returns
unfolding read isin_in
returns c =
    let a = c.args in
    let n = c.min-rows.result in
    let exact : isins + isin_size * n - isins ≡ isin_size * n = omega arith in
    let found = found_among a.names.now isins isin_size n c.told-names (omega arith) (omega arith) a.isin in
    rw (c.min-rows.ensures, c.from.ensures, c.entry.ensures) at (rw exact at c.is_among.ensures ∙ found)
