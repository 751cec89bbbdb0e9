-- `stream::commands::Held::settle` meets its contract: what the code is handed of the halves is what they come down to. Assumes nothing.
use Rattle.stream.proofs.Obeying.{settle_obeys}
use Rattle.stream.proofs.commands.Held.settle.Goals as goal

pub returns : goal.returns
returns c = λ hs e.
    rw c.booked.ensures (settle_obeys hs c.args.day c.args.self.now _ _ c.settle.auto.steps _ _ (rw e at c.settle.ensures))
