-- `stream::commands::Held::move_money` meets its contract: paid the way that it says. Assumes nothing.
use mathlib.Core.Path.{◌∙◌}
use Rattle.stream.proofs.Obeying.{pay_obeys}
use Rattle.stream.proofs.commands.Held.move_money.Goals as goal

pub returns : goal.returns
returns c =
    let paid = c.move_cash.ensures in
    pay_obeys _ _ _ c.args.self.now _ _ (c.from.ensures ∙ paid.answer) paid.cash
