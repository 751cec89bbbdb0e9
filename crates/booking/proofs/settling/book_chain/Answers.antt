-- Steps that fit leave the cash to decide; else what each test found is put into the definition of the refusal.
use Rattle.std.proofs.Common.{refl, sym, ◌∙◌}
use Rattle.std.proofs.lemmas.Result.{err_from_is_err_and}
use Rattle.rules.proofs.Basics.{or_none}
use Rattle.rules.proofs.Numbered.{number_test}
use Rattle.index.specs.Asked.{asked}
use Rattle.holdings.proofs.Fitting.{fit_open}
use Rattle.booking.proofs.Refused.{book_open}
use Rattle.booking.proofs.settling.book_chain.Goals as goal

pub returns-then-short : goal.returns-then-short
returns-then-short c =
    let x = c.args.transfer in
    let all = fit_open (asked c.args.index.now).kind c.args.positions.now x.lot.security x.lot.quantity x.steps.now x.count (sym c.fits.ensures ∙ c.if-fits.true) in
    record { refusal = rw (all.short, sym c.short.ensures ∙ c.if-short.true); left = refl }

pub returns-then-beyond : goal.returns-then-beyond
returns-then-beyond c =
    let x = c.args.transfer in
    let all = fit_open (asked c.args.index.now).kind c.args.positions.now x.lot.security x.lot.quantity x.steps.now x.count (sym c.fits.ensures ∙ c.if-fits.true) in
    record { refusal = rw (all.short, all.beyond, sym c.short.ensures ∙ c.if-short.false, sym c.beyond.ensures ∙ c.if-beyond.true); left = refl }

pub book_steps-requires : goal.book_steps-requires
book_steps-requires c =
    let x = c.args.transfer in
    let all = fit_open (asked c.args.index.now).kind c.args.positions.now x.lot.security x.lot.quantity x.steps.now x.count (sym c.fits.ensures ∙ c.if-fits.true) in
    (record { small = c.requires.0; size = c.requires.1; few = c.requires.2; passes = all.beyond }, λ stands. all.standing)

pub returns-then-fits : goal.returns-then-fits
returns-then-fits c =
    let x = c.args.transfer in
    let all = fit_open (asked c.args.index.now).kind c.args.positions.now x.lot.security x.lot.quantity x.steps.now x.count (sym c.fits.ensures ∙ c.if-fits.true) in
    record {
      refusal = rw (all.short, all.beyond, sym c.short.ensures ∙ c.if-short.false, sym c.beyond.ensures ∙ c.if-beyond.false);
      left = c.book_steps.ensures;
    }

pub returns-in_err-book_refusal : goal.returns-in_err-book_refusal
returns-in_err-book_refusal c =
    let found = c.judge-units.ensures in
    let e = c.in_err-book_refusal in
    let p = err_from_is_err_and c.from_residual.result c.from_residual.ensures.1 in
    rw (p.1, p.2) (record {
      refusal = rw (found.short, c.short-unpaid.ensures, found.beyond, c.beyond-2.ensures) at e.ensures;
      left = rw (number_test e.field-0.0);
    })

pub book_steps-requires-2 : goal.book_steps-requires-2
book_steps-requires-2 c =
    let none = book_open c.judge-units.result.short c.short-unpaid.result _ (sym c.in_ok-book_refusal.ensures) in
    let passes = sym c.judge-units.ensures.beyond ∙ (or_none c.judge-units.result.beyond c.beyond-2.result none.2).0 in
    (record { small = c.requires.0; size = c.requires.1; few = c.requires.2; passes = passes }, λ untested. cc)

pub returns : goal.returns
returns c =
    let found = c.judge-units.ensures in
    record {
      refusal = rw (found.short, c.short-unpaid.ensures, found.beyond, c.beyond-2.ensures) at c.in_ok-book_refusal.ensures;
      left = c.book_steps-2.ensures;
    }
