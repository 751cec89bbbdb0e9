-- A row more is read, or the reading stops.
use Prim.Native.Nat.{ℕ, ◌+◌, ◌<◌}
use mathlib.Core.Path.{◌≡◌, sym, ◌∙◌}
use mathlib.Core.List.{List, [], ◌∷◌, map}
use lib.ListN.{length, get_or, take, drop, drop_of_length-le}
use lib.Seq.{drop-cons}
use native.Mathlib.Numerals.{add-one}
use native.Mathlib.Omega.{arith}
use Rattle.std.proofs.lemmas.List.{take_min}
use Rattle.refusals.specs.Kept.{refusal_in}
use Rattle.rules.specs.Entries.{Row}
use Rattle.rules.proofs.Numbered.{number_ne0}
use Rattle.reading.proofs.Loops.{fails, added, kept_so, all_read, stops, goes_on_lem}
use Rattle.reading.proofs.read_rows.Goals as goal

next : {A : Type 0} (f : A → Row) (l : List A) (i : ℕ) (x : A) → i < length l → x ≡ get_or l i x → map f (drop i l) ≡ f x ∷ map f (drop (i + 1) l)
next f l i x h e = rw (add-one, drop-cons l i x h, ← e)

pub loop-row-init : goal.loop-row-init
loop-row-init g c =
    (omega arith, record { ends = rw (c.min-used.ensures, take_min c.args.count c.args.rows.now) })

pub returns-in_err-enter : goal.returns-in_err-enter
returns-in_err-enter g c =
    let k = c.loop-row.kept in
    let x = g.R.Entry.as_row c.row-item.result in
    let some = next g.R.Entry.as_row (take c.min-used.result c.args.rows.now) c.loop-row.row-index c.row-item.result (omega arith) c.row-item.is in
    let ne = λ (e : refusal_in k x ≡ 0). number_ne0 c.in_err-enter.field-0.0 (c.in_err-enter.ensures.answer ∙ e) in
    rw (fails c.from_residual.result c.from_residual.ensures.0, c.in_err-enter.ensures.left, kept_so x k ne)
    (stops (rw some at c.loop-row.invariant.1) ne)

pub loop-row-preserved : goal.loop-row-preserved
loop-row-preserved g c =
    let k = c.loop-row.kept in
    let x = g.R.Entry.as_row c.row-item.result in
    let some = next g.R.Entry.as_row (take c.min-used.result c.args.rows.now) c.loop-row.row-index c.row-item.result (omega arith) c.row-item.is in
    let ok = sym c.in_ok-enter.ensures.answer in (
      omega arith,
      rw (c.in_ok-enter.ensures.left, added x k ok) (goes_on_lem (rw some at c.loop-row.invariant.1) ok),
    )

pub returns : goal.returns
returns g c =
    let rows = take c.min-used.result c.args.rows.now in
    let none : drop c.loop-row.row-index rows ≡ [] = drop_of_length-le rows {i = c.loop-row.row-index} (omega arith) in
    all_read (rw none at c.loop-row.invariant.1)
