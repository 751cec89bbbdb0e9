-- The tables are read one behind the other: after each the rows of the tables left end the whole reading.
use mathlib.Core.Path.{refl}
use Rattle.reading.proofs.Loops.{fails, all_left, next_table, no_table, last_table}
use Rattle.reading.proofs.read_tables.Goals as goal

pub returns-in_err-read_rows : goal.returns-in_err-read_rows
returns-in_err-read_rows c =
    rw (fails c.from_residual.result c.from_residual.ensures.0)
    (no_table _ _ (all_left _ _) c.in_err-read_rows.ensures refl)

pub returns-in_err-read_rows-2 : goal.returns-in_err-read_rows-2
returns-in_err-read_rows-2 c =
    rw (fails c.from_residual-in_err-read_rows-2.result c.from_residual-in_err-read_rows-2.ensures.0)
    (no_table _ _ (next_table _ _ (all_left _ _) c.in_ok-read_rows.ensures refl) c.in_err-read_rows-2.ensures refl)

pub returns-in_err-read_rows-3 : goal.returns-in_err-read_rows-3
returns-in_err-read_rows-3 c =
    rw (fails c.from_residual-in_err-read_rows-3.result c.from_residual-in_err-read_rows-3.ensures.0)
    (no_table _ _ (next_table _ _ (next_table _ _ (all_left _ _) c.in_ok-read_rows.ensures refl) c.in_ok-read_rows-2.ensures refl) c.in_err-read_rows-3.ensures refl)

pub returns-in_err-read_rows-4 : goal.returns-in_err-read_rows-4
returns-in_err-read_rows-4 c =
    rw (fails c.from_residual-in_err-read_rows-4.result c.from_residual-in_err-read_rows-4.ensures.0)
    (no_table _ _ (next_table _ _ (next_table _ _ (next_table _ _ (all_left _ _) c.in_ok-read_rows.ensures refl) c.in_ok-read_rows-2.ensures refl) c.in_ok-read_rows-3.ensures refl) c.in_err-read_rows-4.ensures refl)

pub returns : goal.returns
returns c = last_table (next_table _ _ (next_table _ _ (next_table _ _ (next_table _ _ (all_left _ _) c.in_ok-read_rows.ensures refl) c.in_ok-read_rows-2.ensures refl) c.in_ok-read_rows-3.ensures refl) c.in_ok-read_rows-4.ensures refl) c.read_rows-links.ensures
