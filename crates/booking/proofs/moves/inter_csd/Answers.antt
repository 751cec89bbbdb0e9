-- Whether the technical issuer is outside, and the pair for it, as each look-up found them.
use Rattle.std.proofs.Common.{sym, ◌∙◌, rules}
use Rattle.booking.proofs.Contras.{mirror_found}
use Rattle.booking.specs.Moves.{contra_found}
use Rattle.booking.proofs.moves.inter_csd.Goals as goal

pub returns-then-not-is_external : goal.returns-then-not-is_external
unfolding contra_found
returns-then-not-is_external c = rw (sym c.is_external.ensures ∙ c.if-not-is_external.true)

pub returns : goal.returns
returns c =
    rw (sym c.is_external.ensures ∙ c.if-not-is_external.false)
    (mirror_found _ c.map.result (rw (← c.pair_of.ensures) (search rules)))
