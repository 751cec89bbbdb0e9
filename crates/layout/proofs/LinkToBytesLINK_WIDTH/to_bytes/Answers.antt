-- Eleven bytes one after the other.
use native.Mathlib.Omega.{arith}
use Rattle.layout.proofs.Bytes.{two_bytes}
use Rattle.layout.proofs.LinkToBytesLINK_WIDTH.to_bytes.Goals as goal

pub returns : goal.returns
returns c =
    let x = c.args.self in
    let account = two_bytes x.account _ (omega arith) c.to_be_bytes-account.ensures in
    let first = two_bytes x.first _ (omega arith) c.to_be_bytes-first.ensures in
    let last = two_bytes x.last _ (omega arith) c.to_be_bytes-last.ensures in
    rw (account.0, account.1, first.0, first.1, last.0, last.1)
