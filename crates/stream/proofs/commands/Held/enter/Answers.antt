-- `stream::commands::Held::enter` meets its contract: entered in what is kept. Assumes nothing.
use Rattle.stream.proofs.Obeying.{entry_obeys}
use Rattle.stream.proofs.commands.Held.enter.Goals as goal

pub returns : goal.returns
returns g c =
    let e = c.enter.ensures in
    rw c.from.ensures (entry_obeys _ c.args.self.now _ _ e.answer e.left)
