-- `stream::commands::Held::move_units` meets its contract: moved the way that it says. Assumes nothing.
use mathlib.Core.Path.{◌∙◌}
use Rattle.stream.proofs.Obeying.{move_obeys}
use Rattle.stream.proofs.commands.Held.move_units.Goals as goal

pub returns : goal.returns
returns c =
    let moved = c.move_securities.ensures in
    move_obeys _ _ _ _ _ c.args.self.now _ _ (c.from.ensures ∙ moved.answer) moved.positions
