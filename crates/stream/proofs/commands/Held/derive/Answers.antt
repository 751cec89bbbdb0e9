-- `stream::commands::Held::derive` meets its contract: what the code is handed of the halves is what they come down to. Assumes nothing.
use Rattle.stream.proofs.Obeying.{derive_obeys}
use Rattle.stream.proofs.commands.Held.derive.Goals as goal

pub returns : goal.returns
returns c = λ hs e.
    rw c.chained.ensures (derive_obeys hs c.args.day c.args.self.now _ _ c.derive.auto.steps (rw e at c.derive.ensures))
