-- What is kept of a directory grows with it: an accepted row's numbers and bytes are added, and a refused row changes nothing.
use Prim.Native.Nat.{ℕ, zero, suc}
use mathlib.Core.Path.{◌≡◌, refl}
use Rattle.rules.specs.declared.Directory.{Directory}
use Rattle.rules.specs.Tests.{first_of}
use Rattle.rules.specs.Directory.{rows_of}
use Rattle.rules.specs.Entries.{Row, csd_row, security_row, account_row, pair_row, link_row, row_conditions, add_row}
use Rattle.refusals.specs.declared.kept.Kept.{Kept}
use Rattle.refusals.specs.Kept.{Keeps, refusal_in}
use Rattle.entries.specs.Entered.{with_row_in, answered, kept_by, entered_in, entered_by, enter_row}
use Rattle.refusals.proofs.Refusing.{refusal_is}
use Rattle.entries.proofs.NewCsd.{csd_added}
use Rattle.entries.proofs.NewSecurity.{security_added}
use Rattle.entries.proofs.NewAccount.{account_added}
use Rattle.entries.proofs.NewPair.{pair_added}
use Rattle.entries.proofs.NewLink.{link_added}

pub keeps_grown : (k : Kept) (d : Directory) (x : Row) → Keeps k d → first_of (row_conditions (rows_of d) x) ≡ 0 → Keeps (with_row_in x k) (add_row x d)
keeps_grown k d (csd_row x) h ok = csd_added k d x h ok
keeps_grown k d (security_row x) h ok = security_added k d x h ok
keeps_grown k d (account_row x) h ok = account_added k d x h ok
keeps_grown k d (pair_row x) h ok = pair_added k d x h ok
keeps_grown k d (link_row x) h ok = link_added k d x h ok

pub keeps_entered : (k : Kept) (d : Directory) (x : Row) → Keeps k d → Keeps (entered_in x k) (enter_row x d).directory
unfolding entered_in enter_row
keeps_entered k d x h = rw (refusal_is k d x h) (go (first_of (row_conditions (rows_of d) x)) refl)
  where
    go : (n : ℕ) → first_of (row_conditions (rows_of d) x) ≡ n → Keeps (kept_by n x k) (entered_by n x d).directory
    go zero e = keeps_grown k d x h e
    go (suc n) e = h

pub answer_is : (k : Kept) (d : Directory) (x : Row) → Keeps k d → answered (refusal_in k x) ≡ (enter_row x d).answer
unfolding enter_row
answer_is k d x h = rw (refusal_is k d x h) (go (first_of (row_conditions (rows_of d) x)))
  where
    go : (n : ℕ) → answered n ≡ (entered_by n x d).answer
    go zero = refl
    go (suc n) = refl
