-- A refused row changes nothing; an accepted one is added.
use mathlib.Core.Path.{refl, sym}
use Rattle.rules.proofs.Numbered.{refuses}
use Rattle.entries.specs.Entered.{kept_by, entered_in}
use Rattle.entries.proofs.entries.enter.Goals as goal

pub returns-in_err-refusal-clause-left : goal.returns-in_err-refusal-clause-left
unfolding entered_in
returns-in_err-refusal-clause-left g c =
    let x = g.R.Entry.as_row c.args.row in
    let k = c.args.kept.now in
    rw (← c.in_err-refusal.ensures) (sym (refuses c.in_err-refusal.field-0.0 (λ n. kept_by n x k) k (λ n. refl)))

pub returns-clause-left : goal.returns-clause-left
unfolding entered_in
returns-clause-left g c = rw (← c.in_ok-refusal.ensures) c.keep_in.ensures
