-- The totals, then the cash.
use mathlib.Core.Path.{ap, ◌∙◌}
use Rattle.rules.specs.Stream.{cash_line}
use Rattle.text.proofs.Appends.{then, named}
use Rattle.ending.specs.Ending.{ending_in}
use Rattle.ending.proofs.Totals.{cents_or}
use Rattle.ending.proofs.put_ending.Goals as goal

pub returns : goal.returns
unfolding ending_in
returns c =
    let sum = c.unwrap_or-sum.ensures ∙ cents_or _ _ c.cash_total.ensures in
    then c.put_totals-totals.ensures (named (ap cash_line sum) c.put_cash.ensures)
