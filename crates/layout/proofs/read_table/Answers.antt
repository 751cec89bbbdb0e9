-- Each row is read where it starts.
use Prim.Native.Nat.{◌+◌, ◌*◌}
use Rattle.std.proofs.Common.{rules}
use Rattle.wire.proofs.Parts.{from_fn_is}
use Rattle.layout.proofs.read_table.Goals as goal

pub returns : goal.returns
returns g c =
    let a = c.args in
    rw (from_fn_is _ _ (λ i. g.T.FromBytes.read_at a.bytes.now (a.start + i * g.row.W)) (λ i y q k. search rules) _ _ c.from_fn-rows.ensures.items)
