-- `stream::words::put_sizes` meets its contract: so far the sizes of the first numbers stand there. Assumes nothing.
use mathlib.Core.Path.{sym, ◌∙◌}
use native.Mathlib.Omega.{arith}
use native.Mathlib.Numerals.{add-one}
use lib.ListN.{length-set}
use lib.Seq.{take-suc-set}
use Rattle.stream.proofs.Table.{no_sizes, size_more, all_sizes}
use Rattle.stream.proofs.words.put_sizes.Goals as goal

pub loop-n-init : goal.loop-n-init
loop-n-init c = (c.told-sizes, sym no_sizes)

pub loop-n-preserved : goal.loop-n-preserved
loop-n-preserved c =
    let l = c.loop-n in (
      length-set l.sizes l.n _ ∙ l.invariant.0,
      rw (add-one, take-suc-set l.sizes l.n _ (omega arith), l.invariant.1, c.size_of.ensures, ← add-one l.n) (size_more l.n),
    )

pub returns : goal.returns
returns c = let l = c.loop-n in all_sizes l.n l.sizes (omega arith) (omega arith) l.invariant.1
