-- Each byte is what the part has at its index, or 0. Assumes nothing.
use mathlib.Core.Path.{◌∙◌}
use lib.ListN.{get_or}
use Rattle.std.proofs.Common.{rules}
use Rattle.wire.proofs.Parts.{from_fn_is, listed_padded, rest_is}
use Rattle.wire.proofs.decoding.padded.Goals as goal

pub returns : goal.returns
returns g c =
    let part = c.part-part.result.now in
    from_fn_is _ _ (λ k. get_or part k 0) (λ i y q k. search rules) _ _ c.from_fn.ensures.items ∙ listed_padded part g.row.N
    ∙ rest_is c.args.operands.now part c.args.at g.row.N c.part-part.ensures
