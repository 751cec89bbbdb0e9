-- By the way in which the sides join.
use Prim.Native.Nat.{◌+◌}
use mathlib.Core.Path.{◌≡◌}
use mathlib.Core.List.{[], ◌∷◌}
use native.Mathlib.Omega.{arith}
use Rattle.chain.proofs.Putting.{adds_none, adds_more}
use Rattle.chain.proofs.steps.add_top.Goals as goal

pub returns-in-Meeting-clause-adds : goal.returns-in-Meeting-clause-adds
returns-in-Meeting-clause-adds c =
    let a = c.args in
    let n = a.up.count in
    let first = adds_more a.steps.now a.steps.now _ n n [] _ (omega arith) (omega arith) c.put_step.ensures.puts (adds_none a.steps.now n) in
    rw c.in-Meeting.is first

pub returns-in-Issuers-clause-adds : goal.returns-in-Issuers-clause-adds
returns-in-Issuers-clause-adds c =
    let a = c.args in
    let n = a.up.count in
    let first = adds_more a.steps.now a.steps.now _ n n [] _ (omega arith) (omega arith) c.put_step-in-Issuers.ensures.puts (adds_none a.steps.now n) in
    let second = adds_more a.steps.now _ _ n (n + 1) (_ ∷ []) _ (omega arith) (omega arith) c.put_step-in-Issuers-2.ensures.puts first in
    let two : n + 2 ≡ n + 1 + 1 = omega arith in
    rw (two, c.in-Issuers.is, ← c.issuance_of.ensures, ← c.issuance_of-in-Issuers.ensures) second
