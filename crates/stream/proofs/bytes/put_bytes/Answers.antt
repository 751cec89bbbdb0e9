-- `stream::bytes::put_bytes` meets its contract: so far the first bytes are appended. Assumes nothing.
use mathlib.Core.Path.{◌≡◌, refl, sym}
use mathlib.Core.List.{[], ◌∷◌, ◌++◌}
use Prim.Native.Nat.{◌+◌}
use native.Mathlib.Numerals.{add-one}
use native.Mathlib.Omega.{arith}
use lib.ListN.{take, get_or}
use lib.Seq.{take-suc, take_all}
use Rattle.text.proofs.Appends.{no_bytes, one_byte, then, named}
use Rattle.stream.proofs.bytes.put_bytes.Goals as goal

pub loop-i-init : goal.loop-i-init
loop-i-init g c = no_bytes _ _ _ (omega arith)

pub loop-i-preserved : goal.loop-i-preserved
loop-i-preserved g c =
    let l = c.loop-i in
    let at = c.args.at in
    let bytes = c.args.bytes.now in
    let e : take l.i bytes ++ (get_or bytes l.i 0 ∷ []) ≡ take (l.i + 1) bytes = rw add-one (sym (take-suc bytes l.i 0 (omega arith))) in
    let p : at + (l.i + 1) ≡ at + l.i + 1 = omega arith in
    rw p (named e (then l.invariant (one_byte l.out (at + l.i) _ (omega arith))))

pub returns : goal.returns
returns g c =
    let l = c.loop-i in
    let k : l.i ≡ g.row.N = omega arith in
    (rw k at (named (take_all l.i c.args.bytes.now (omega arith)) l.invariant), refl)
