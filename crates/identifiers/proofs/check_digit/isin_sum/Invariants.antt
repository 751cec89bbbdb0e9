-- The loop's invariant: from the sums kept, the characters ahead lead to the sum of all.
use Prim.Native.Nat.{◌+◌, ◌*◌, ◌≤◌}
use mathlib.Core.Path.{◌≡◌}
use lib.ListN.{take, drop}
use Rattle.rules.specs.Identifiers.{read_from}
use Rattle.identifiers.specs.Sums.{sums_of}
use Rattle.identifiers.proofs.check_digit.isin_sum.Given as goal

abbrev pub invariant-loop-c : goal.invariant-loop-c
invariant-loop-c l = (l.s.last + l.s.other ≤ 800 * l.c-index) × (read_from (sums_of l.s) (drop l.c-index l.c-items) ≡ read_from (record { last = 0; other = 0 }) (take 11 l.fn.isin))
