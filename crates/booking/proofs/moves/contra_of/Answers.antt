-- The issuance account of an issuer, else what the default link gives.
use Rattle.std.proofs.Common.{sym, ap, ◌∙◌, Some}
use Rattle.index.specs.Asked.{asked_on}
use Rattle.booking.specs.Moves.{contra_found}
use Rattle.booking.proofs.Contras.{contra_issued, contra_led, contra_lacking}
use Rattle.booking.proofs.Days.{inter_csd_on}
use Rattle.booking.proofs.moves.contra_of.Goals as goal

pub returns-in-Issuer : goal.returns-in-Issuer
unfolding contra_found
returns-in-Issuer c =
    let a = c.args in
    rw (contra_issued (asked_on a.index.now a.day) a.security a.csd a.account (sym c.leading_at.ensures ∙ c.in-Issuer.is))
    (ap Some c.issuance_of.ensures)

pub returns-in-To : goal.returns-in-To
returns-in-To c =
    let a = c.args in
    rw (contra_led (asked_on a.index.now a.day) a.security a.csd a.account _ (sym c.leading_at.ensures ∙ c.in-To.is))
    (c.inter_csd.ensures ∙ ap contra_found (inter_csd_on a.index.now a.day a.csd a.account _))

pub returns-in-Nowhere : goal.returns-in-Nowhere
unfolding contra_found
returns-in-Nowhere c =
    let a = c.args in
    rw (contra_lacking (asked_on a.index.now a.day) a.security a.csd a.account (sym c.leading_at.ensures ∙ c.in-Nowhere.is))
