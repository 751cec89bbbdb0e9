-- `stream::words::Words::put_before` meets its contract: the number's text is the end of its word, which ends there. Assumes nothing.
use mathlib.Core.Path.{refl}
use mathlib.Core.List.{[], ◌∷◌, ◌++◌}
use native.Mathlib.Omega.{arith}
use Rattle.rules.specs.Stream.{decimal}
use Rattle.text.proofs.Appends.{named}
use Rattle.stream.proofs.Table.{few_bytes, text_long, word_ends}
use Rattle.stream.proofs.Backwards.{word_before}
use Rattle.stream.proofs.words.Words.put_before.Goals as goal

pub returns : goal.returns
returns g c =
    let n = c.args.n in
    let b = g.row.LAST in
    word_before c.args.end (decimal n ++ (b ∷ [])) (named c.word.ensures c.put_bytes.ensures.0) refl (omega arith) (omega arith)
    (rw (text_long b n) (few_bytes n (omega arith)).1) (rw (text_long b n) (word_ends b n (omega arith)))
