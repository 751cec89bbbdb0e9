-- The row has the first account by its place, and the second beside it.
use mathlib.Core.Bool.{not}
use mathlib.Core.Path.{◌≡◌, ap, ◌∙◌}
use native.Mathlib.Omega.{arith}
use borrow.Author.Tests.{ne_eqb}
use Rattle.rules.proofs.Basics.{unnot, unnot_false}
use Rattle.index.specs.Asked.{asked_by}
use Rattle.index.specs.Found.{pair_found}
use Rattle.index.proofs.lookups.pair_of.Goals as goal

pub returns-then-not-in_books : goal.returns-then-not-in_books
unfolding asked_by pair_found
returns-then-not-in_books c = rw (← c.in_books.ensures, unnot c.in_books.result (ap not c.if-not-in_books.true))

pub returns-in_err-mirror : goal.returns-in_err-mirror
unfolding asked_by pair_found
returns-in_err-mirror c =
    let none : c.served_code.result ≡ 0 = omega (arith, c.in_err-mirror.ensures) in
    c.from_residual.ensures ∙ rw (← c.in_books.ensures, unnot_false c.in_books.result (ap not c.if-not-in_books.false), ← c.served_code.ensures, none)

pub returns : goal.returns
unfolding asked_by pair_found
returns c =
    let code = c.served_code in
    let first = c.in_ok-mirror.ensures in
    rw (
      ← c.in_books.ensures,
      unnot_false c.in_books.result (ap not c.if-not-in_books.false),
      ← code.ensures,
      ne_eqb code.result 0 (λ z. omega (arith, first.0)),
      ← first.1,
      ← c.omnibus_beside-omnibus.ensures,
    )
