-- `stream::words::put_words` meets its contract: so far the words of the first numbers stand there. Assumes nothing.
use mathlib.Core.Path.{◌≡◌, sym, ap, ◌∙◌}
use Prim.Native.Nat.{ℕ, ◌+◌, ◌*◌}
use mathlib.Core.List.{List, ◌++◌}
use native.Mathlib.Omega.{arith}
use lib.ListN.{take}
use Rattle.text.proofs.Appends.{fits}
use Rattle.stream.specs.Words.{word_of}
use Rattle.stream.proofs.Table.{no_words, word_more, all_words}
use Rattle.stream.proofs.words.put_words.Goals as goal

pub loop-n-init : goal.loop-n-init
loop-n-init c = (c.told-words, sym (no_words c.args.last))

pub loop-n-preserved : goal.loop-n-preserved
loop-n-preserved c =
    let l = c.loop-n in
    let b = c.args.last in
    let put = c.put_bytes.ensures in
    let e : c.put_bytes.result ≡ 4 * (l.n + 1) = omega arith in (
      omega (arith, put.0.same),
      ap (λ (m : ℕ). take m c.put_bytes.new.out) (sym e) ∙ ((fits put.0 (omega arith)).front ∙ (ap (λ (s : List ℕ). s ++ word_of b l.n) l.invariant.1 ∙ word_more b l.n)),
    )

pub returns : goal.returns
returns c = let l = c.loop-n in all_words c.args.last l.n l.words (omega arith) l.invariant.0 l.invariant.1
