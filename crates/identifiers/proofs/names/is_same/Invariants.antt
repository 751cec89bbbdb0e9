-- The loop's invariant: whether the bytes passed are the same.
use mathlib.Core.Path.{◌≡◌}
use lib.Dec.{eqb}
use Rattle.rules.specs.Tests.{all_below}
use Rattle.rules.specs.Identifiers.{byte_at}
use Rattle.identifiers.proofs.names.is_same.Given as goal

abbrev pub invariant-loop-i : goal.invariant-loop-i
invariant-loop-i g l = l.same ≡ all_below l.i (λ k. eqb (byte_at l.a k) (byte_at l.b k))
