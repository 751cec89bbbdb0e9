-- Its three parts, each by its own test.
use Rattle.std.proofs.Common.{rules, arith, ◌≡◌, ◌+◌, length}
use Rattle.std.proofs.Math.Bool.{and_assoc}
use Rattle.rules.specs.Identifiers.{is_isin, capital, capital_or_digit, digit, byte_at}
use Rattle.rules.specs.Tests.{all_below}
use Rattle.identifiers.specs.Names.{isin_size}
use Rattle.identifiers.proofs.Laws.{all_from}
use Rattle.identifiers.proofs.forms.is_isin.Goals as goal

pub returns : goal.returns
unfolding is_isin
returns c =
    let i = c.args.isin in
    let long : length i ≡ isin_size = search rules in
    let nine = all_from capital_or_digit i 2 9 (omega arith) in
    rw (c.is_ascii_uppercase.ensures.value, c.is_ascii_uppercase-2.ensures.value, c.are_capitals_or_digits-number.ensures, c.is_ascii_digit.ensures.value, nine)
    (and_assoc (all_below 2 (λ k. capital (byte_at i k))) (all_below 9 (λ k. capital_or_digit (byte_at i (2 + k)))) (digit (byte_at i 11)))
