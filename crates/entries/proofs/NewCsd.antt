-- One CSD more: its type and its BIC at the next number, and the count.
use Prim.Native.Nat.{ℕ, ◌+◌, ◌*◌, ◌<◌}
use mathlib.Core.Path.{◌≡◌, refl, sym, ap, ◌∙◌}
use mathlib.Core.List.{List, [], ◌∷◌}
use native.Mathlib.Omega.{arith}
use lib.ListN.{length, take, length-take}
use lib.Seq.{get_or-take}
use Rattle.rules.specs.declared.Csd.{Csd}
use Rattle.rules.specs.declared.Directory.{Directory}
use Rattle.rules.specs.Tests.{first_of}
use Rattle.rules.specs.Directory.{Rows, rows_of, csd_limit}
use Rattle.rules.specs.Entries.{csd_row, row_conditions, add_row}
use Rattle.rules.specs.Demands.{with_row}
use Rattle.rules.proofs.Basics.{impossible, quiet}
use Rattle.index.specs.Index.{csd_count, type_at, index_of, type_code}
use Rattle.index.proofs.Laws.{one_more_row, row_new, row_old}
use Rattle.identifiers.specs.Names.{Named, bic_size, isin_size, isins, bic_byte}
use Rattle.refusals.specs.declared.kept.Kept.{Kept}
use Rattle.refusals.specs.Kept.{Keeps}
use Rattle.entries.specs.Entered.{with_csd, with_bic, with_row_in}
use Rattle.entries.proofs.Stored.{Store, Change}
use Rattle.entries.proofs.ByTable.{OfCsds, Same, every_place, same_securities, same_accounts, same_pairs, same_links}
use Rattle.identifiers.proofs.Bytes.{bytes_length, bytes_other, name_added}
use Rattle.entries.proofs.Growing.{not_full, number_is, grown}

-- its number
abbrev stores : Csd → ℕ → List Store
stores x n = record { at = type_at n; number = x.external + 1 } ∷ []

module _ (r : Rows) (x : Csd) (few : length r.csds < csd_limit) where
  abbrev r' : Rows
  r' = with_row (csd_row x) r

  abbrev n : ℕ
  n = length r.csds

  abbrev ss : List Store
  ss = stores x n

  own : OfCsds (Same r r' csd_count ss)
  own = record { count = λ i o a. absurd (o refl); type = λ c i o a. ap type_code (sym (row_old r.csds x c (λ e. a.0 (ap type_at e)))) }

  change : Change (index_of r) (index_of r') csd_count ss
  change =
      record {
        inside = tt;
        few = omega (arith, few);
        more = one_more_row r.csds x;
        apart = ((λ e. impossible (cc)), tt);
        right = (few, (ap type_code (row_new r.csds x), tt));
        kept =
            every_place (Same r r' csd_count ss) own (same_securities r r' csd_count ss refl) (same_accounts r r' csd_count ss refl) (same_pairs r r' csd_count ss refl)
            (same_links r r' csd_count ss refl);
      }

  names : (b : List ℕ) → Named b r → Named (with_bic x n b) r'
  unfolding with_bic
  names b h =
      let bic : List ℕ = take bic_size x.bic in
      let short = length-take bic_size x.bic in
      record {
        size = bytes_length bic b (bic_size * n) ∙ h.size;
        bics =
            name_added bic_byte b (λ c. bic_size * c) bic_size csd_limit r.csds x bic h.size (λ i j l. omega arith) (omega arith) few (omega arith) h.bics (λ j. refl)
            (λ j g. get_or-take bic_size x.bic j 0 g);
        isins = λ s j u v. bytes_other bic b (bic_size * n) (isins + isin_size * s + j) (λ f g. omega (arith, few, short)) ∙ h.isins s j u v;
      }

pub csd_added : (k : Kept) (d : Directory) (x : Csd) → Keeps k d → first_of (row_conditions (rows_of d) (csd_row x)) ≡ 0 → Keeps (with_row_in (csd_row x) k) (add_row (csd_row x) d)
unfolding with_csd
csd_added k d x h ok =
    let r : Rows = rows_of d in
    let few = not_full csd_limit r.csds (quiet (row_conditions r (csd_row x)) refl ok).0 in
    rw (number_is k d h csd_count tt) (grown k d h (csd_row x) ok (change r x few) (with_bic x (length r.csds) k.names) (names r x few k.names h.named))
