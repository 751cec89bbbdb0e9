-- What is kept of a directory, and what refuses a row by it. Assumes nothing.
use Rattle.std.specs.Prelude.{ℕ, List, leb, replicate}
pub use Rattle.refusals.specs.declared.kept.Kept.{Kept}
use Rattle.rules.specs.declared.Csd.{Csd}
use Rattle.rules.specs.declared.Security.{Security}
use Rattle.rules.specs.declared.Account.{Account}
use Rattle.rules.specs.declared.Pair.{Pair}
use Rattle.rules.specs.declared.Link.{Link}
use Rattle.rules.specs.declared.Directory.{Directory}
use Rattle.rules.specs.Tests.{first_of}
use Rattle.rules.specs.Directory.{rows_of, csd_limit, security_limit, link_limit}
use Rattle.rules.specs.Entries.{Row, csd_row, security_row, account_row, pair_row, link_row, csd_conditions, security_conditions, account_conditions, pair_conditions, link_conditions}
use Rattle.index.specs.Index.{index_size, Indexed, csd_count, security_count, link_count}
use Rattle.index.specs.Asked.{read, asked}
use Rattle.identifiers.specs.Names.{names_size, bic_in, isin_in, Named}

-- by the numbers l and the bytes b
abbrev pub kept_in : List ℕ → List ℕ → Kept
kept_in l b = record { numbers = l; names = b }

-- nothing is kept yet
unfoldable pub nothing_kept : Kept
nothing_kept = record { numbers = replicate index_size 0; names = replicate names_size 0 }

-- it is kept of this sound directory
pub record Keeps (k : Kept) (d : Directory) : Type 0 where
  pub indexed : Indexed k.numbers d
  pub named : Named k.names (rows_of d)

-- ---- the refusal of a row, 0 for none

-- of a CSD, by the numbers l and the bytes b
unfoldable pub csd_refusal_in : List ℕ → List ℕ → Csd → ℕ
csd_refusal_in l b x = first_of (csd_conditions (leb csd_limit (read l csd_count)) (bic_in l b) x)

-- of a security
unfoldable pub security_refusal_in : List ℕ → List ℕ → Security → ℕ
security_refusal_in l b x = first_of (security_conditions (leb security_limit (read l security_count)) (isin_in l b) x)

-- of an account
unfoldable pub account_refusal_in : List ℕ → Account → ℕ
account_refusal_in l x = first_of (account_conditions (asked l) x)

-- of a pair
unfoldable pub pair_refusal_in : List ℕ → Pair → ℕ
pair_refusal_in l x = first_of (pair_conditions (asked l) x)

-- of a link
unfoldable pub link_refusal_in : List ℕ → Link → ℕ
link_refusal_in l x = first_of (link_conditions (leb link_limit (read l link_count)) (asked l) x)

-- of any row
abbrev pub refusal_in : Kept → Row → ℕ
refusal_in k (csd_row x) = csd_refusal_in k.numbers k.names x
refusal_in k (security_row x) = security_refusal_in k.numbers k.names x
refusal_in k (account_row x) = account_refusal_in k.numbers x
refusal_in k (pair_row x) = pair_refusal_in k.numbers x
refusal_in k (link_row x) = link_refusal_in k.numbers x
