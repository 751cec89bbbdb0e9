-- `stream::words::Tables::put_number` meets its contract: above three digits the word of the last three stands behind the others, over their space. Assumes nothing.
use borrow.Author.Rules.{rules}
use Prim.Native.Nat.{◌/◌, ◌<◌, ◌^◌}
use native.Mathlib.Omega.{arith}
use Rattle.rules.specs.Stream.{decimal}
use Rattle.text.proofs.Appends.{named, over}
use Rattle.text.proofs.Lengths.{short_decimal}
use Rattle.stream.proofs.Table.{six_digits}
use Rattle.stream.proofs.words.Tables.put_number.Goals as goal

pub returns : goal.returns
returns c =
    let n = c.args.n in
    let m : n / 1_000 < 10 ^ 3 = omega arith in (
      named (six_digits 32 n (omega arith) (omega arith))
          (over (decimal (n / 1_000)) 32 c.put_short-end.ensures.text (omega (arith, short_decimal 2 (n / 1_000) m)) (omega arith) (named c.word-word.ensures c.put_bytes.ensures.0)),
      search rules,
    )
