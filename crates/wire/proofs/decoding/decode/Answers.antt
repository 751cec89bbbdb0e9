-- The bytes that are all there are the padded ones. Assumes nothing.
use native.Mathlib.Omega.{arith}
use mathlib.Core.Path.{◌∙◌, ap}
use mathlib.Core.List.{List}
use Prim.Native.Nat.{ℕ}
use Rattle.wire.proofs.Parts.{rest_of, whole_is}
use Rattle.wire.proofs.decoding.decode.Goals as goal

pub first_chunk-requires : goal.first_chunk-requires
first_chunk-requires g c = omega (arith, g.met.T.FromBytes.fits)

pub returns : goal.returns
returns g c =
    let a = c.args in
    let lent = c.in-Some.ensures.lookup.0.2 in
    let there = c.in-Some-first_chunk.ensures.cases in
    c.from_bytes.ensures ∙ ap (λ (b : List ℕ). g.T.FromBytes.read_at b 0) (whole_is a.operands.now _ a.at g.row.N (rest_of a.operands.now _ a.at lent) _ there.enough there.same)
    ∙ g.met.T.FromBytes.padded a.operands.now a.at
