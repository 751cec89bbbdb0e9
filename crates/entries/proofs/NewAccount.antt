-- One account more: its CSD and its kind at the next number, and the count.
use Prim.Native.Nat.{ℕ, ◌+◌, ◌<◌}
use mathlib.Core.Path.{◌≡◌, refl, sym, ap}
use mathlib.Core.List.{List, [], ◌∷◌}
use native.Mathlib.Omega.{arith}
use lib.ListN.{length}
use Rattle.rules.specs.declared.Account.{Account}
use Rattle.rules.specs.declared.Directory.{Directory}
use Rattle.rules.specs.Tests.{first_of}
use Rattle.rules.specs.Directory.{Rows, rows_of, account_limit}
use Rattle.rules.specs.Entries.{account_row, row_conditions, add_row}
use Rattle.rules.specs.Demands.{with_row}
use Rattle.rules.proofs.Basics.{impossible, quiet}
use Rattle.index.specs.Index.{account_count, home_at, kind_at, index_of, home_code, kind_code}
use Rattle.index.proofs.Laws.{one_more_row, row_new, row_old}
use Rattle.refusals.specs.declared.kept.Kept.{Kept}
use Rattle.refusals.specs.Kept.{Keeps}
use Rattle.entries.specs.Entered.{with_account, with_row_in}
use Rattle.entries.proofs.Stored.{Store, Change}
use Rattle.entries.proofs.ByTable.{OfAccounts, Same, every_place, same_csds, same_securities, same_pairs, same_links}
use Rattle.entries.proofs.Growing.{not_full, same_names, number_is, grown}

-- its numbers
abbrev stores : Account → ℕ → List Store
stores x n = record { at = kind_at n; number = x.kind + 1 } ∷ record { at = home_at n; number = x.csd + 1 } ∷ []

module _ (r : Rows) (x : Account) (few : length r.accounts < account_limit) where
  abbrev r' : Rows
  r' = with_row (account_row x) r

  abbrev ss : List Store
  ss = stores x (length r.accounts)

  own : OfAccounts (Same r r' account_count ss)
  own =
      record {
        count = λ i o a. absurd (o refl);
        home = λ n i o a. ap home_code (sym (row_old r.accounts x n (λ e. a.1.0 (ap home_at e))));
        kind = λ n i o a. ap kind_code (sym (row_old r.accounts x n (λ e. a.0 (ap kind_at e))));
      }

  change : Change (index_of r) (index_of r') account_count ss
  change =
      record {
        inside = tt;
        few = omega (arith, few);
        more = one_more_row r.accounts x;
        apart = ((λ e. impossible (cc)), ((λ e. impossible (cc)), tt));
        right = (few, (ap kind_code (row_new r.accounts x), (few, (ap home_code (row_new r.accounts x), tt))));
        kept =
            every_place (Same r r' account_count ss) (same_csds r r' account_count ss refl) (same_securities r r' account_count ss refl) own (same_pairs r r' account_count ss refl)
            (same_links r r' account_count ss refl);
      }

pub account_added : (k : Kept) (d : Directory) (x : Account) → Keeps k d → first_of (row_conditions (rows_of d) (account_row x)) ≡ 0
    → Keeps (with_row_in (account_row x) k) (add_row (account_row x) d)
unfolding with_account
account_added k d x h ok =
    let r : Rows = rows_of d in
    let few = not_full account_limit r.accounts (quiet (row_conditions r (account_row x)) refl ok).0 in
    rw (number_is k d h account_count tt) (grown k d h (account_row x) ok (change r x few) k.names (same_names k.names r (with_row (account_row x) r) refl refl h.named))
