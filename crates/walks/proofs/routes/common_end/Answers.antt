-- The loop's invariant: the last k CSDs of both sides are the same.
use Rattle.std.proofs.Common.{◌≡◌, arith}
use Rattle.walks.proofs.Paths.{none_agree, one_more_lem, no_more}
use Rattle.walks.proofs.routes.common_end.Goals as goal

pub loop-k-init : goal.loop-k-init
loop-k-init c = none_agree _ _

pub loop-k-preserved : goal.loop-k-preserved
loop-k-preserved c = one_more_lem _ _ c.loop-k.k (omega arith) (omega arith) c.if-up-k.false c.loop-k.invariant

pub returns : goal.returns
returns c =
    let k : c.loop-k.k ≡ c.min-most.result = omega arith in
    rw (← c.named-up.ensures.named, ← c.named-down.ensures.named, ← k) (no_more _ _ c.loop-k.k c.loop-k.invariant (λ f g e. omega arith))
