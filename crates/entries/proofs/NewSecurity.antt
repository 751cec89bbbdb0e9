-- One security more: its ISIN at the next number, and the count.
use Prim.Native.Nat.{ℕ, ◌+◌, ◌*◌, ◌<◌}
use mathlib.Core.Path.{◌≡◌, refl, ◌∙◌}
use mathlib.Core.List.{List, []}
use native.Mathlib.Omega.{arith}
use lib.ListN.{length, take, length-take}
use lib.Seq.{get_or-take}
use Rattle.rules.specs.declared.Security.{Security}
use Rattle.rules.specs.declared.Directory.{Directory}
use Rattle.rules.specs.Tests.{first_of}
use Rattle.rules.specs.Directory.{Rows, rows_of, security_limit}
use Rattle.rules.specs.Entries.{security_row, row_conditions, add_row}
use Rattle.rules.specs.Demands.{with_row}
use Rattle.rules.proofs.Basics.{quiet}
use Rattle.index.specs.Index.{security_count, index_of}
use Rattle.index.proofs.Laws.{one_more_row}
use Rattle.identifiers.specs.Names.{Named, bic_size, isin_size, isins, isin_byte}
use Rattle.refusals.specs.declared.kept.Kept.{Kept}
use Rattle.refusals.specs.Kept.{Keeps}
use Rattle.entries.specs.Entered.{with_security, with_isin, with_row_in}
use Rattle.entries.proofs.Stored.{Change}
use Rattle.entries.proofs.ByTable.{Same, every_place, same_csds, same_accounts, same_pairs, same_links}
use Rattle.identifiers.proofs.Bytes.{bytes_length, bytes_other, name_added}
use Rattle.entries.proofs.Growing.{not_full, number_is, grown}

module _ (r : Rows) (x : Security) (few : length r.securities < security_limit) where
  abbrev r' : Rows
  r' = with_row (security_row x) r

  abbrev n : ℕ
  n = length r.securities

  change : Change (index_of r) (index_of r') security_count []
  change =
      record {
        inside = tt;
        few = omega (arith, few);
        more = one_more_row r.securities x;
        apart = tt;
        right = tt;
        kept =
            every_place (Same r r' security_count []) (same_csds r r' security_count [] refl) (λ i o a. absurd (o refl)) (same_accounts r r' security_count [] refl)
            (same_pairs r r' security_count [] refl) (same_links r r' security_count [] refl);
      }

  names : (b : List ℕ) → Named b r → Named (with_isin x n b) r'
  unfolding with_isin
  names b h =
      let isin : List ℕ = take isin_size x.isin in
      let short = length-take isin_size x.isin in
      record {
        size = bytes_length isin b (isins + isin_size * n) ∙ h.size;
        bics = λ c j u v. bytes_other isin b (isins + isin_size * n) (bic_size * c + j) (λ f g. omega arith) ∙ h.bics c j u v;
        isins =
            name_added isin_byte b (λ s. isins + isin_size * s) isin_size security_limit r.securities x isin h.size (λ i j l. omega arith) (omega arith) few (omega arith) h.isins (λ j. refl)
            (λ j g. get_or-take isin_size x.isin j 0 g);
      }

pub security_added : (k : Kept) (d : Directory) (x : Security) → Keeps k d → first_of (row_conditions (rows_of d) (security_row x)) ≡ 0
    → Keeps (with_row_in (security_row x) k) (add_row (security_row x) d)
unfolding with_security
security_added k d x h ok =
    let r : Rows = rows_of d in
    let few = not_full security_limit r.securities (quiet (row_conditions r (security_row x)) refl ok).0 in
    rw (number_is k d h security_count tt) (grown k d h (security_row x) ok (change r x few) (with_isin x (length r.securities) k.names) (names r x few k.names h.named))
