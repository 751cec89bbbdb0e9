-- Reading a directory into nothing is the test of its soundness: each row is judged and added as the rules judge and add it, table by table.
use Prim.Native.Nat.{ℕ, zero, suc}
use mathlib.Core.Path.{◌≡◌, refl, sym, ap, ◌∙◌}
use mathlib.Core.Bool.{Bool, true, false, ◌&&◌, cond, and_assoc, and-true, true≢false}
use mathlib.Core.List.{List, [], ◌∷◌, ◌++◌, map, append_assoc, append-nil}
use native.Mathlib.Omega.{arith}
use lib.Dec.{eqb}
use Rattle.rules.specs.declared.Csd.{Csd}
use Rattle.rules.specs.declared.Security.{Security}
use Rattle.rules.specs.declared.Account.{Account}
use Rattle.rules.specs.declared.Pair.{Pair}
use Rattle.rules.specs.declared.Link.{Link}
use Rattle.rules.specs.declared.Directory.{Directory}
use Rattle.rules.specs.Tests.{each_after, first_of}
use Rattle.rules.specs.Directory.{Rows, rows_of}
use Rattle.rules.specs.Entries.{Row, csd_row, security_row, account_row, pair_row, link_row, row_conditions, add_row, empty_directory, Sized}
use Rattle.rules.specs.Entries.{csd_refusal, security_refusal, account_refusal, pair_refusal, link_refusal}
use Rattle.rules.specs.Entries.{csds_sound, securities_sound, accounts_sound, pairs_sound, links_sound, within_limits, sound_rows, sound}
use Rattle.rules.specs.Demands.{with_row, no_rows}
use Rattle.rules.proofs.Basics.{and_both, eqb_false}
use Rattle.rules.proofs.Tables.{added_rows, empty_rows}
use Rattle.index.specs.Index.{WholeTables}
use Rattle.refusals.specs.declared.kept.Kept.{Kept}
use Rattle.refusals.specs.Kept.{nothing_kept, Keeps, refusal_in}
use Rattle.entries.specs.Entered.{with_row_in}
use Rattle.refusals.proofs.Refusing.{refusal_is}
use Rattle.entries.proofs.Keeping.{keeps_grown}
use Rattle.entries.proofs.Empty.{keeps_empty}
use Rattle.reading.specs.Read.{read_rows, in_order, read_directory, ReadingSounds}
use Rattle.reading.proofs.Loops.{ended}

-- ---- rows after rows by the rules: whether each is accepted after those before it, and all of them together
abbrev accepts : Rows → List Row → Bool
accepts r [] = true
accepts r (x ∷ xs) = eqb (first_of (row_conditions r x)) 0 && accepts (with_row x r) xs

abbrev with_rows : Rows → List Row → Rows
with_rows r [] = r
with_rows r (x ∷ xs) = with_rows (with_row x r) xs

-- a table's rows l after b, which are entered by `put` and stand among the other rows by `among`; then the rows xs
module _ {A : Type 0} (put : A → Row) (among : List A → Rows) (more : (b : List A) (x : A) → with_row (put x) (among b) ≡ among (b ++ (x ∷ [])))
    (xs : List Row) where
  table_rows : (b l : List A) → with_rows (among b) (map put l ++ xs) ≡ with_rows (among (b ++ l)) xs
  table_rows b [] = rw append-nil
  table_rows b (x ∷ l) = ap (λ q. with_rows q (map put l ++ xs)) (more b x) ∙ (table_rows (b ++ (x ∷ [])) l ∙ rw append_assoc)

  table_accepts : (b l : List A)
      → accepts (among b) (map put l ++ xs) ≡ (each_after (λ before x. eqb (first_of (row_conditions (among before) (put x))) 0) b l && accepts (among (b ++ l)) xs)
  table_accepts b [] = rw append-nil
  table_accepts b (x ∷ l) = rw (more b x, table_accepts (b ++ (x ∷ [])) l, append_assoc, and_assoc)

-- ---- the rows of a directory, table by table
module _ (r : Rows) where
  abbrev with_csds : List Csd → Rows
  with_csds l = record { csds = l; securities = []; accounts = []; pairs = []; links = [] }

  abbrev with_securities : List Security → Rows
  with_securities l = record { csds = r.csds; securities = l; accounts = []; pairs = []; links = [] }

  abbrev with_accounts : List Account → Rows
  with_accounts l = record { csds = r.csds; securities = r.securities; accounts = l; pairs = []; links = [] }

  abbrev with_pairs : List Pair → Rows
  with_pairs l = record { csds = r.csds; securities = r.securities; accounts = r.accounts; pairs = l; links = [] }

  abbrev with_links : List Link → Rows
  with_links l = record { csds = r.csds; securities = r.securities; accounts = r.accounts; pairs = r.pairs; links = l }

  all_accepts : accepts no_rows (in_order r) ≡ sound_rows r
  unfolding sound_rows csds_sound securities_sound accounts_sound pairs_sound links_sound csd_refusal security_refusal account_refusal pair_refusal link_refusal
  all_accepts =
      rw (
        ← append-nil (map link_row r.links),
        table_accepts csd_row with_csds (λ b x. refl) _ [] r.csds,
        table_accepts security_row with_securities (λ b x. refl) _ [] r.securities,
        table_accepts account_row with_accounts (λ b x. refl) _ [] r.accounts,
        table_accepts pair_row with_pairs (λ b x. refl) _ [] r.pairs,
        table_accepts link_row with_links (λ b x. refl) [] [] r.links,
        and-true,
      )

  all_rows : with_rows no_rows (in_order r) ≡ r
  all_rows =
      rw (
        ← append-nil (map link_row r.links),
        table_rows csd_row with_csds (λ b x. refl) _ [] r.csds,
        table_rows security_row with_securities (λ b x. refl) _ [] r.securities,
        table_rows account_row with_accounts (λ b x. refl) _ [] r.accounts,
        table_rows pair_row with_pairs (λ b x. refl) _ [] r.pairs,
        table_rows link_row with_links (λ b x. refl) [] [] r.links,
      )

-- ---- what is kept of some sound directory with these rows in use
pub record Holds (k : Kept) (r : Rows) : Type 0 where
  pub directory : Directory
  pub keeps : Keeps k directory
  pub rows : rows_of directory ≡ r

module _ (k : Kept) (r : Rows) (h : Holds k r) (x : Row) where
  judged : refusal_in k x ≡ first_of (row_conditions r x)
  judged = refusal_is k h.directory x h.keeps ∙ ap (λ q. first_of (row_conditions q x)) h.rows

  one_more_lem : refusal_in k x ≡ 0 → Holds (with_row_in x k) (with_row x r)
  one_more_lem e =
      let d = h.directory in
      let w = h.keeps.indexed.whole in
      let z : Sized d = record { csds = w.csds; securities = w.securities; accounts = w.accounts; pairs = w.pairs; links = w.links } in
      let ok : first_of (row_conditions (rows_of d) x) ≡ 0 = sym (refusal_is k d x h.keeps) ∙ e in
      record { directory = add_row x d; keeps = keeps_grown k d x h.keeps ok; rows = added_rows x d z ok ∙ ap (with_row x) h.rows }

-- the rows xs read into what holds r
pub record Told (xs : List Row) (k : Kept) (r : Rows) : Type 0 where
  pub accepted : (read_rows xs k).accepted ≡ accepts r xs
  pub holds : accepts r xs ≡ true → Holds (read_rows xs k).kept (with_rows r xs)

told : (xs : List Row) (k : Kept) (r : Rows) → Holds k r → Told xs k r
unfolding read_rows
told [] k r h = record { accepted = refl; holds = λ e. h }
told (x ∷ xs) k r h = go (refusal_in k x) refl (λ e. told xs (with_row_in x k) (with_row x r) (one_more_lem k r h x e))
  where
    go : (n : ℕ) → refusal_in k x ≡ n → (refusal_in k x ≡ 0 → Told xs (with_row_in x k) (with_row x r)) → Told (x ∷ xs) k r
    go zero e t =
        let j : first_of (row_conditions r x) ≡ 0 = sym (judged k r h x) ∙ e in
        record { accepted = rw (e, j) (t e).accepted; holds = λ a. rw e ((t e).holds (rw j at a)) }
    go (suc n) e t =
        let j : eqb (first_of (row_conditions r x)) 0 ≡ false = eqb_false _ 0 (λ q. let z : suc n ≡ 0 = sym e ∙ (judged k r h x ∙ q) in omega arith) in
        record { accepted = rw (e, j); holds = λ a. absurd (true≢false (sym (rw j at a))) }

none_held : Holds nothing_kept no_rows
unfolding nothing_kept
none_held = record { directory = empty_directory; keeps = keeps_empty; rows = empty_rows }

all_told : (d : Directory) → Told (in_order (rows_of d)) nothing_kept no_rows
all_told d = told (in_order (rows_of d)) nothing_kept no_rows none_held

-- what is kept of some directory with these rows is kept of every one that is sound
keeps_all : (k : Kept) (d : Directory) → WholeTables d → sound d ≡ true → Holds k (rows_of d) → Keeps k d
keeps_all k d w s h =
    let i = h.keeps.indexed in
    record {
      indexed = record { sound_books = s; whole = w; size = i.size; at = λ p q. rw h.rows at (i.at p q) };
      named = rw h.rows at h.keeps.named;
    }

sounds : (d : Directory) → WholeTables d → (read_directory d nothing_kept).accepted ≡ sound d
unfolding read_directory sound
sounds d w = go (within_limits d)
  where
    go : (b : Bool) → (cond b (read_rows (in_order (rows_of d)) nothing_kept) (ended false nothing_kept)).accepted ≡ (b && sound_rows (rows_of d))
    go true = (all_told d).accepted ∙ all_accepts (rows_of d)
    go false = refl

keeps : (d : Directory) → WholeTables d → sound d ≡ true → Keeps (read_directory d nothing_kept).kept d
unfolding read_directory sound
keeps d w s =
    let p = and_both (within_limits d) (sound_rows (rows_of d)) s in
    rw p.0 (keeps_all _ d w s (rw (all_rows (rows_of d)) at ((all_told d).holds (all_accepts (rows_of d) ∙ p.1))))

pub reading_sounds : ReadingSounds
reading_sounds = record { sounds = sounds; keeps = keeps }
