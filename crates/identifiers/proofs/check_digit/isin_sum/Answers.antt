-- The loop's invariant: from the sums kept, the characters ahead lead to the sum of all.
use borrow.Author.Rules.{rules}
use mathlib.Core.Path.{◌≡◌, ap, ◌∙◌}
use lib.ListN.{length, take, drop_of_length-le}
use native.Mathlib.Omega.{arith}
use Rattle.rules.specs.Identifiers.{Sums, read_from, isin_sum_left}
use Rattle.rules.proofs.Identifiers.{left_is_right}
use Rattle.std.proofs.lemmas.List.{drop_more}
use Rattle.identifiers.proofs.check_digit.isin_sum.Goals as goal

pub loop-c-preserved : goal.loop-c-preserved
unfolding read_from
loop-c-preserved c =
    let s = c.args.isin in
    let n : length s ≡ 12 = search rules in
    let small = c.read_character-s.ensures.small in
    (omega arith, rw c.read_character-s.ensures.read (rw (drop_more (take 11 s) c.loop-c.c-index 0 c.loop-c-test.true) at c.loop-c.invariant.1))

pub returns-clause-sum : goal.returns-clause-sum
unfolding read_from isin_sum_left
returns-clause-sum c =
    let s = c.args.isin in
    let n : length s ≡ 12 = search rules in
    ap (λ (x : Sums). x.last) (rw (drop_of_length-le (take 11 s) {i = c.loop-c.c-index} c.loop-c-test.false) at c.loop-c.invariant.1) ∙ left_is_right (take 11 s)
