-- A directory read into what is kept of one: its rows entered one after another, table by table, up to the first that is refused. Assumes nothing.
use Rattle.std.specs.Prelude.{ℕ, zero, suc, ◌≡◌, Bool, true, false, cond, List, [], ◌∷◌, ◌++◌, map}
use Rattle.rules.specs.declared.Directory.{Directory}
use Rattle.rules.specs.Directory.{Rows, rows_of}
use Rattle.rules.specs.Entries.{Row, csd_row, security_row, account_row, pair_row, link_row, within_limits, sound}
use Rattle.index.specs.Index.{WholeTables}
use Rattle.refusals.specs.declared.kept.Kept.{Kept}
use Rattle.refusals.specs.Kept.{nothing_kept, Keeps, refusal_in}
use Rattle.entries.specs.Entered.{with_row_in}

-- Whether every row was accepted, and what is kept after the last that was.
pub record Reading : Type 0 where
  pub accepted : Bool
  pub kept : Kept

-- a row by its refusal: it is added and the reading goes on, or the reading stops
abbrev pub read_by : ℕ → Row → Kept → (Kept → Reading) → Reading
read_by zero x k onward = onward (with_row_in x k)
read_by (suc n) x k onward = record { accepted = false; kept = k }

-- "each row .. would be accepted after the rows before it"
unfoldable pub read_rows : List Row → Kept → Reading
read_rows [] k = record { accepted = true; kept = k }
read_rows (x ∷ xs) k = read_by (refusal_in k x) x k (λ after. read_rows xs after)

-- "tables taken in this order"
abbrev pub in_order : Rows → List Row
in_order r = map csd_row r.csds ++ (map security_row r.securities ++ (map account_row r.accounts ++ (map pair_row r.pairs ++ map link_row r.links)))

-- "counts are within limits", then the rows
unfoldable pub read_directory : Directory → Kept → Reading
read_directory d k = cond (within_limits d) (read_rows (in_order (rows_of d)) k) (record { accepted = false; kept = k })

-- the code has read: its answer, and what is kept after it
pub record Reads (x : Reading) (r : Bool) (k : Kept) : Type 0 where
  pub answer : r ≡ x.accepted
  pub left : k ≡ x.kept

-- Reading a directory whose tables are whole, as every directory of the code is, is the test of its soundness, and what is then kept is its own (proved in
-- proofs/Sounds).
pub record ReadingSounds : Type 0 where
  pub sounds : (d : Directory) → WholeTables d → (read_directory d nothing_kept).accepted ≡ sound d
  pub keeps : (d : Directory) → WholeTables d → sound d ≡ true → Keeps (read_directory d nothing_kept).kept d
