-- What refuses a row by what is kept of a directory is what refuses it by the directory's rows.
use mathlib.Core.Path.{◌≡◌, ap}
use Rattle.rules.specs.declared.Directory.{Directory}
use Rattle.rules.specs.Tests.{is_full, first_of}
use Rattle.rules.specs.Directory.{rows_of}
use Rattle.rules.specs.Entries.{Row, csd_row, security_row, account_row, pair_row, link_row, row_conditions, account_conditions, pair_conditions}
use Rattle.index.specs.Index.{csd_count, security_count, link_count}
use Rattle.index.proofs.Answers.{reads, answers}
use Rattle.refusals.specs.Kept.{Kept, Keeps, csd_refusal_in, security_refusal_in, account_refusal_in, pair_refusal_in, link_refusal_in, refusal_in}
use Rattle.identifiers.proofs.Identified.{bics_found, isins_found}

pub refusal_is : (k : Kept) (d : Directory) (x : Row) → Keeps k d → refusal_in k x ≡ first_of (row_conditions (rows_of d) x)
unfolding csd_refusal_in security_refusal_in account_refusal_in pair_refusal_in link_refusal_in is_full
refusal_is k d (csd_row x) h = rw (reads h.indexed csd_count, bics_found h.indexed h.named x.bic)
refusal_is k d (security_row x) h = rw (reads h.indexed security_count, isins_found h.indexed h.named x.isin)
refusal_is k d (account_row x) h = ap (λ q. first_of (account_conditions q x)) (answers.ever k.numbers d h.indexed)
refusal_is k d (pair_row x) h = ap (λ q. first_of (pair_conditions q x)) (answers.ever k.numbers d h.indexed)
refusal_is k d (link_row x) h = rw (reads h.indexed link_count, answers.ever k.numbers d h.indexed)
