-- What is kept of a directory with one row more: the numbers that the row changes, and the identifiers of all rows.
use Prim.Native.Nat.{ℕ, ◌<◌}
use mathlib.Core.Path.{◌≡◌, ◌∙◌}
use mathlib.Core.Bool.{false}
use mathlib.Core.List.{List}
use lib.ListN.{length}
use Rattle.rules.specs.declared.Directory.{Directory}
use Rattle.rules.specs.Tests.{is_full, first_of}
use Rattle.rules.specs.Directory.{Rows, rows_of}
use Rattle.rules.specs.Entries.{Row, row_conditions, add_row, Sized}
use Rattle.rules.specs.Demands.{with_row}
use Rattle.rules.proofs.Basics.{leb_not}
use Rattle.rules.proofs.Tables.{added_sized, added_rows}
use Rattle.rules.proofs.Growth.{keeps_sound}
use Rattle.index.specs.Index.{Place, Inside, place_of, number_at, index_of, WholeTables}
use Rattle.index.proofs.Standing.{number_at_lem}
use Rattle.identifiers.specs.Names.{Named}
use Rattle.refusals.specs.declared.kept.Kept.{Kept}
use Rattle.refusals.specs.Kept.{Keeps}
use Rattle.entries.specs.Entered.{counted}
use Rattle.entries.proofs.Stored.{Store, stored, Change, change_length, change_at}

sized : (d : Directory) → WholeTables d → Sized d
sized d w = record { csds = w.csds; securities = w.securities; accounts = w.accounts; pairs = w.pairs; links = w.links }

pub whole : (d : Directory) → Sized d → WholeTables d
whole d z = record { csds = z.csds; securities = z.securities; accounts = z.accounts; pairs = z.pairs; links = z.links }

-- a table that is not full has room
pub not_full : {A : Type 0} (most : ℕ) (rows : List A) → is_full most rows ≡ false → length rows < most
unfolding is_full
not_full most rows e = leb_not most (length rows) e

-- a row that has no identifier leaves them
pub same_names : (b : List ℕ) (r r' : Rows) → r.csds ≡ r'.csds → r.securities ≡ r'.securities → Named b r → Named b r'
same_names b r r' e f n = record { size = n.size; bics = rw e at n.bics; isins = rw f at n.isins }

module _ (k : Kept) (d : Directory) (h : Keeps k d) where
  -- the number at a place is the directory's
  pub number_is : (p : Place) → Inside p → number_at k.numbers (place_of p) ≡ index_of (rows_of d) p
  number_is p i = number_at_lem k.numbers p i ∙ h.indexed.at p i

  pub grown : (x : Row) → first_of (row_conditions (rows_of d) x) ≡ 0
      → {count : Place} {ss : List Store} → Change (index_of (rows_of d)) (index_of (with_row x (rows_of d))) count ss
      → (b : List ℕ) → Named b (with_row x (rows_of d)) → Keeps (record { numbers = counted count (stored ss k.numbers); names = b }) (add_row x d)
  grown x ok c b named =
      let z : Sized d = sized d h.indexed.whole in
      record {
        indexed =
            record {
              sound_books = keeps_sound x d z h.indexed.sound_books ok;
              whole = whole (add_row x d) (added_sized x d z);
              size = change_length k.numbers h.indexed.size c h.indexed.at ∙ h.indexed.size;
              at = λ p i. rw (added_rows x d z ok) (change_at k.numbers h.indexed.size c h.indexed.at p i);
            };
        named = rw (added_rows x d z ok) named;
      }
