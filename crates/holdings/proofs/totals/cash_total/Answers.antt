-- Each account counts for its balance.
use Rattle.std.proofs.Common.{rules}
use Rattle.rules.specs.Booking.{every_account, cash_on}
use Rattle.holdings.proofs.Summed.{cents_total}
use Rattle.holdings.proofs.totals.cash_total.Goals as goal

pub returns : goal.returns
returns c =
    let cash = c.args.cash.now in
    cents_total cash _ (c.total.ensures every_account (cash_on cash) (λ a z e. search rules))
