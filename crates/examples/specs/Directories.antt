-- The directories of the examples: rows entered one after another. Assumes nothing.
use Rattle.std.specs.Prelude.{ℕ, List, [], ◌∷◌, set}
use Rattle.rules.specs.declared.Csd.{Csd}
use Rattle.rules.specs.declared.Pair.{Pair}
use Rattle.rules.specs.declared.Link.{Link}
use Rattle.rules.specs.declared.Directory.{Directory}
use Rattle.examples.specs.declared.rows.Row.{Row as AnyRow}
use Rattle.examples.specs.declared.rows.Row.TheVariants.{Csd as ACsd, Security as ASecurity, Account as AnAccount, Pair as APair, Link as ALink}
use Rattle.rules.specs.Directory.{no_csd, no_account}
use Rattle.rules.specs.Entries.{Row, csd_row, security_row, account_row, pair_row, link_row}
use Rattle.rules.specs.Stream.{bytes}
use Rattle.rules.specs.Outcomes.{entered_on}

-- the row that the rules know
abbrev pub row_of : AnyRow → Row
row_of (ACsd x) = csd_row x
row_of (ASecurity x) = security_row x
row_of (AnAccount x) = account_row x
row_of (APair x) = pair_row x
row_of (ALink x) = link_row x

-- a directory with one row more; where its entry is refused, as it was
abbrev pub entering : Row → Directory → Directory
entering x d = (entered_on d x).directory

-- with these rows, one after another
abbrev pub entering_all : List Row → Directory → Directory
entering_all [] d = d
entering_all (x ∷ xs) d = entering_all xs (entering x d)

-- a CSD by one byte of its BIC
abbrev pub csd_by : ℕ → ℕ → Csd
csd_by external byte = record { external = external; bic = set (bytes "AAAAXX00XXX") 7 byte }

-- a pair row
abbrev pub pair_by : ℕ → ℕ → ℕ → ℕ → ℕ → Pair
pair_by investor technical mirror omnibus served = record { investor = investor; technical = technical; mirror = mirror; omnibus = omnibus; served = served }

-- the examples' one security
abbrev pub listing : Row
listing = security_row (record { isin = bytes "XS0000000009" })

-- a link for the one security, on every day
abbrev pub link_by : ℕ → ℕ → ℕ → ℕ → ℕ → Link
link_by kind csd technical flag account =
    record { security = 0; kind = kind; csd = csd; technical = technical; flag = flag; account = account; first = 0; last = 0xffff }

-- an account
abbrev pub account_by : ℕ → ℕ → Row
account_by csd kind = account_row (record { csd = csd; kind = kind })

-- an investor CSD with its technical issuer: their pair for one account served, and a default link
abbrev pub joining : ℕ → ℕ → ℕ → ℕ → ℕ → List Row
joining investor technical mirror omnibus served =
    pair_row (pair_by investor technical mirror omnibus served) ∷ link_row (link_by 1 investor technical 1 no_account) ∷ []

-- the worked example: CSD 0 has the participant 0 and the mirror 1; CSD 1 has the omnibus 2, the issuance account 3 and the participant 4
abbrev pub worked_rows : List Row
worked_rows =
    csd_row (csd_by 0 48) ∷ csd_row (csd_by 0 49) ∷ listing
    ∷ account_by 0 0 ∷ account_by 0 2 ∷ account_by 1 1 ∷ account_by 1 4 ∷ account_by 1 0
    ∷ link_row (link_by 0 1 no_csd 1 3) ∷ joining 0 1 1 2 0

-- after it: CSD 1 has another participant, 5; CSD 2, with the participant 6 and the mirror 7, is an investor in it by the omnibus 8; CSD 3, with the
-- participant 9, has no link
abbrev pub wider_rows : List Row
wider_rows =
    account_by 1 0 ∷ csd_row (csd_by 0 50) ∷ csd_row (csd_by 0 51)
    ∷ account_by 2 0 ∷ account_by 2 2 ∷ account_by 1 1 ∷ account_by 3 0 ∷ joining 2 1 7 8 6
