-- 3 first; else the sum of all balances.
use mathlib.Core.Path.{◌∙◌}
use Rattle.calls.proofs.Decided.{cash_misfit, cash_passed}
use Rattle.calls.proofs.moving.cash_total.Goals as goal

pub returns-then-cash-ne-ACCOUNTS : goal.returns-then-cash-ne-ACCOUNTS
returns-then-cash-ne-ACCOUNTS c = cash_misfit c.args.cash.now c.if-cash-ne-ACCOUNTS.true

pub returns : goal.returns
returns c = c.cash_total.ensures ∙ cash_passed c.args.cash.now c.if-cash-ne-ACCOUNTS.false
