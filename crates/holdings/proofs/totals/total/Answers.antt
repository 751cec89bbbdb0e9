-- Account by account the sum is the sum so far; the first number beyond ends it.
use Rattle.std.proofs.Common.{refl, sym, ap, ◌∙◌, arith, ◌+◌}
use Rattle.rules.specs.Directory.{account_limit}
use Rattle.rules.specs.Booking.{beyond}
use Rattle.holdings.proofs.Bounds.{within_none, within_one, within_plus, within_fits}
use Rattle.holdings.proofs.Summed.{summed_none, summed_next, beyond_at}
use Rattle.holdings.proofs.totals.total.Goals as goal

pub loop-account-init : goal.loop-account-init
loop-account-init g c = (rw c.none-sum.ensures within_none, λ w f h. summed_none w f _ c.none-sum.ensures)

pub returns-then-is_beyond : goal.returns-then-is_beyond
returns-then-is_beyond g c =
    λ w f h. (
      beyond_at w f account_limit c.loop-account.account (omega arith)
          (ap beyond (sym (h _ _ c.counted-held.ensures)) ∙ sym c.is_beyond.ensures ∙ c.if-is_beyond.true),
      refl,
    )

pub plus-sum-requires : goal.plus-sum-requires
plus-sum-requires g c =
    within_fits (c.loop-account.account + 1) _ (omega arith)
    (within_plus c.loop-account.account 1 _ _ c.loop-account.invariant.0 (within_one _ (sym c.is_beyond.ensures ∙ c.if-is_beyond.false)))

pub loop-account-preserved : goal.loop-account-preserved
loop-account-preserved g c =
    let small = sym c.is_beyond.ensures ∙ c.if-is_beyond.false in (
      rw c.plus-sum.ensures (within_plus c.loop-account.account 1 _ _ c.loop-account.invariant.0 (within_one _ small)),
      λ w f h. summed_next w f c.loop-account.account _ _ _ (c.loop-account.invariant.1 w f h) (h _ _ c.counted-held.ensures) small c.plus-sum.ensures,
    )
