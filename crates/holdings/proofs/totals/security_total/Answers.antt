-- The security is entered, or the total is 6; each account counts for what `counted` has.
use Rattle.std.proofs.Common.{sym, ◌∙◌, rules}
use Rattle.index.specs.Asked.{asked}
use Rattle.rules.specs.Booking.{participants, held_in}
use Rattle.holdings.specs.Sums.{security_total}
use Rattle.holdings.proofs.Summed.{units_total}
use Rattle.holdings.proofs.totals.security_total.Goals as goal

pub returns-then-not-is_security : goal.returns-then-not-is_security
unfolding security_total
returns-then-not-is_security c = rw (sym c.is_security.ensures ∙ c.if-not-is_security.true)

pub returns : goal.returns
unfolding security_total
returns c =
    let a = c.args in
    let kind = (asked a.index.now).kind in
    rw (sym c.is_security.ensures ∙ c.if-not-is_security.false)
    (units_total kind a.positions.now a.security _ (c.total.ensures (participants kind) (held_in a.positions.now a.security) (λ x z e. search rules)))
