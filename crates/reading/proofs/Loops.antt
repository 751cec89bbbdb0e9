-- Rows read one after another: a row more in the loop over a table, and a table more in the directory.
use Prim.Native.Nat.{ℕ, zero, suc}
use mathlib.Core.Path.{◌≡◌, refl, sym, ◌∙◌}
use mathlib.Core.Bool.{Bool, true, false, cond, true≢false}
use mathlib.Core.List.{List, [], ◌∷◌, ◌++◌}
use Rattle.rules.specs.declared.Directory.{Directory}
use Rattle.rules.specs.Directory.{rows_of}
use Rattle.rules.specs.Entries.{Row, within_limits}
use Rattle.refusals.specs.declared.kept.Kept.{Kept}
use Rattle.refusals.specs.Kept.{refusal_in}
use Rattle.entries.specs.Entered.{with_row_in, kept_by, entered_in}
use Rattle.std.specs.Prelude.{Result, Ok, Err}
use Rattle.std.specs.Result.{is_ok, IsErr}
use Rattle.reading.specs.Read.{Reading, Reads, read_by, read_rows, in_order, read_directory}

-- a reading that ended with this answer and these lists
abbrev pub ended : Bool → Kept → Reading
ended r k = record { accepted = r; kept = k }

told : (s : Reading) (r : Bool) (k : Kept) → s ≡ ended r k → Reads s r k
told s r k e = record { answer = rw e; left = rw e }

-- an outcome that is an error
pub fails : {A E : Type 0} (r : Result A E) → IsErr r → is_ok r ≡ false
fails (Ok x) h = absurd (true≢false (sym h))
fails (Err x) h = refl

-- ---- one row
module _ (x : Row) (xs : List Row) (k : Kept) where
  row_added : refusal_in k x ≡ 0 → read_rows (x ∷ xs) k ≡ read_rows xs (with_row_in x k)
  unfolding read_rows
  row_added e = rw e

  row_refused : (refusal_in k x ≡ 0 → ⊥) → read_rows (x ∷ xs) k ≡ ended false k
  unfolding read_rows
  row_refused f = go (refusal_in k x) f
    where
      go : (n : ℕ) → (n ≡ 0 → ⊥) → read_by n x k (λ after. read_rows xs after) ≡ ended false k
      go zero f = absurd (f refl)
      go (suc n) f = refl

-- ---- a row entered
module _ (x : Row) (k : Kept) where
  pub added : refusal_in k x ≡ 0 → entered_in x k ≡ with_row_in x k
  unfolding entered_in
  added e = rw e

  pub kept_so : (refusal_in k x ≡ 0 → ⊥) → entered_in x k ≡ k
  unfolding entered_in
  kept_so f = go (refusal_in k x) f
    where
      go : (n : ℕ) → (n ≡ 0 → ⊥) → kept_by n x k ≡ k
      go zero f = absurd (f refl)
      go (suc n) f = refl

-- ---- the loop over a table: those of its rows that are ahead end the whole reading from what is kept now
pub record Ahead (ahead : List Row) (whole : Reading) (k : Kept) : Type 0 where
  pub ends : read_rows ahead k ≡ whole

pub all_read : {whole : Reading} {k : Kept} → Ahead [] whole k → Reads whole true k
unfolding read_rows
all_read inv = told _ true _ (sym inv.ends)

module _ {x : Row} {xs : List Row} {whole : Reading} {k : Kept} (inv : Ahead (x ∷ xs) whole k) where
  pub stops : (refusal_in k x ≡ 0 → ⊥) → Reads whole false k
  stops f = told whole false k (sym inv.ends ∙ row_refused x xs k f)

  pub goes_on_lem : refusal_in k x ≡ 0 → Ahead xs whole (with_row_in x k)
  goes_on_lem e = record { ends = sym (row_added x xs k e) ∙ inv.ends }

-- ---- the rows xs, then ys, of which none is read where one of xs is refused
abbrev then : List Row → Reading → Reading
then ys s = cond s.accepted (read_rows ys s.kept) s

both_read : (xs ys : List Row) (k : Kept) → read_rows (xs ++ ys) k ≡ then ys (read_rows xs k)
unfolding read_rows
both_read [] ys k = refl
both_read (x ∷ xs) ys k = go (refusal_in k x) (both_read xs ys (with_row_in x k))
  where
    go : (n : ℕ) → read_rows (xs ++ ys) (with_row_in x k) ≡ then ys (read_rows xs (with_row_in x k))
        → read_by n x k (λ after. read_rows (xs ++ ys) after) ≡ then ys (read_by n x k (λ after. read_rows xs after))
    go zero e = e
    go (suc n) e = refl

-- ---- the directory: the rows xs end the whole reading from what is kept now
pub record Left (whole : Reading) (xs : List Row) (k : Kept) : Type 0 where
  pub ends : read_rows xs k ≡ whole

pub all_left : (xs : List Row) (k : Kept) → Left (read_rows xs k) xs k
all_left xs k = record { ends = refl }

module _ (d : Directory) (k : Kept) {r : Bool} (few : r ≡ within_limits d) where
  pub tables_read : r ≡ true → {b : Bool} {k' : Kept} → Reads (read_rows (in_order (rows_of d)) k) b k' → Reads (read_directory d k) b k'
  unfolding read_directory
  tables_read h t = record { answer = rw (sym few ∙ h) t.answer; left = rw (sym few ∙ h) t.left }

  pub too_many : r ≡ false → Reads (read_directory d k) false k
  unfolding read_directory
  too_many h = told _ false k (rw (sym few ∙ h))

-- the code has read the table of xs
module _ (xs ys : List Row) {whole : Reading} {k k' : Kept} (w : Left whole (xs ++ ys) k) {r : Bool} (t : Reads (read_rows xs k) r k') where
  read_so : read_rows xs k ≡ ended r k'
  read_so = rw (t.answer, t.left)

  pub next_table : r ≡ true → Left whole ys k'
  next_table h = record { ends = sym (both_read xs ys k ∙ rw (read_so, h)) ∙ w.ends }

  pub no_table : r ≡ false → Reads whole false k'
  no_table h = told whole false k' (sym w.ends ∙ (both_read xs ys k ∙ rw (read_so, h)))

pub last_table : {whole : Reading} {xs : List Row} {k k' : Kept} {r : Bool} → Left whole xs k → Reads (read_rows xs k) r k' → Reads whole r k'
last_table w t = rw w.ends at t
