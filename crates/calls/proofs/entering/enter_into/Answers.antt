-- 4 on an unsound directory; else the row's refusal, or the row is added.
use mathlib.Core.Path.{refl, ap, ◌∙◌}
use Rattle.std.proofs.lemmas.Result.{err_from_is_err_and}
use Rattle.rules.specs.Numbers.{number}
use Rattle.rules.proofs.Numbered.{number_ne0}
use Rattle.refusals.specs.Kept.{nothing_kept}
use Rattle.calls.proofs.Admitted.{admits, refuses as early_refuses}
use Rattle.calls.proofs.Entries.{answer_of, directory_of, unsound, refuses, roomy, has_room, accepts}
use Rattle.calls.proofs.entering.enter_into.Goals as goal

pub returns-in_err-admit-clause-answer : goal.returns-in_err-admit-clause-answer
returns-in_err-admit-clause-answer g c =
    let x = g.R.Entry.as_row c.args.row in
    let e = c.in_err-admit.field-0.0 in
    let p = err_from_is_err_and c.from_residual.result c.from_residual.ensures.1 in
    rw (p.1, p.2) (ap answer_of (unsound c.args.directory.now x (number e) nothing_kept (early_refuses e c.in_err-admit.ensures.number) (number_ne0 e)))

pub returns-in_err-admit-clause-left : goal.returns-in_err-admit-clause-left
returns-in_err-admit-clause-left g c =
    let x = g.R.Entry.as_row c.args.row in
    let e = c.in_err-admit.field-0.0 in
    ap directory_of (unsound c.args.directory.now x (number e) nothing_kept (early_refuses e c.in_err-admit.ensures.number) (number_ne0 e))

pub returns-in_err-refusal-clause-answer : goal.returns-in_err-refusal-clause-answer
returns-in_err-refusal-clause-answer g c =
    let x = g.R.Entry.as_row c.args.row in
    let e = c.in_err-refusal.field-0.0 in
    let k = admits c.in_ok-admit.ensures.number c.in_ok-admit.ensures.keeps in
    let p = err_from_is_err_and c.from_residual-in_err-refusal.result c.from_residual-in_err-refusal.ensures.1 in
    rw (p.1, p.2) (ap answer_of (refuses c.args.directory.now x 0 c.admit.new.kept k refl (number e) c.in_err-refusal.ensures (number_ne0 e)))

pub returns-in_err-refusal-clause-left : goal.returns-in_err-refusal-clause-left
returns-in_err-refusal-clause-left g c =
    let x = g.R.Entry.as_row c.args.row in
    let e = c.in_err-refusal.field-0.0 in
    let k = admits c.in_ok-admit.ensures.number c.in_ok-admit.ensures.keeps in
    ap directory_of (refuses c.args.directory.now x 0 c.admit.new.kept k refl (number e) c.in_err-refusal.ensures (number_ne0 e))

pub list_in-requires : goal.list_in-requires
list_in-requires g c =
    let x = g.R.Entry.as_row c.args.row in
    let k = admits c.in_ok-admit.ensures.number c.in_ok-admit.ensures.keeps in
    has_room x c.args.directory.now (roomy c.args.directory.now x 0 c.admit.new.kept k refl 0 c.in_ok-refusal.ensures refl)

pub returns-clause-answer : goal.returns-clause-answer
returns-clause-answer g c =
    let x = g.R.Entry.as_row c.args.row in
    let k = admits c.in_ok-admit.ensures.number c.in_ok-admit.ensures.keeps in
    ap answer_of (accepts c.args.directory.now x 0 c.admit.new.kept k refl 0 c.in_ok-refusal.ensures refl)

pub returns-clause-left : goal.returns-clause-left
returns-clause-left g c =
    let x = g.R.Entry.as_row c.args.row in
    let k = admits c.in_ok-admit.ensures.number c.in_ok-admit.ensures.keeps in
    c.list_in.ensures ∙ ap directory_of (accepts c.args.directory.now x 0 c.admit.new.kept k refl 0 c.in_ok-refusal.ensures refl)
