-- All 11 bytes are capitals or digits.
use Rattle.std.proofs.Common.{rules, ◌≡◌, length, ◌∙◌}
use Rattle.rules.specs.Identifiers.{is_bic, capital_or_digit}
use Rattle.identifiers.specs.Names.{bic_size}
use Rattle.identifiers.proofs.Laws.{all_listed}
use Rattle.identifiers.proofs.forms.is_bic.Goals as goal

pub returns : goal.returns
unfolding is_bic
returns c =
    let b = c.args.bic in
    let long : length b ≡ bic_size = search rules in
    c.are_capitals_or_digits.ensures ∙ (rw long at (all_listed capital_or_digit b))
