-- The directory as five counts and 6,592 bytes, and steps as 5 bytes each. A row has the bytes of the command that enters it. Assumes nothing.
use Rattle.std.specs.Prelude.{ℕ, zero, suc, ◌+◌, ◌*◌, ◌/◌, ◌%◌, ◌≡◌, cond, ◌&&◌, List, [], ◌∷◌, ◌++◌, eqb, leb, length, get_or, take, drop}
use Rattle.rules.specs.declared.Csd.{Csd}
use Rattle.rules.specs.declared.Security.{Security}
use Rattle.rules.specs.declared.Account.{Account}
use Rattle.rules.specs.declared.Pair.{Pair}
use Rattle.rules.specs.declared.Link.{Link}
use Rattle.rules.specs.declared.Step.{Step}
use Rattle.rules.specs.declared.Table.{Table}
use Rattle.rules.specs.declared.Directory.{Directory}
use Rattle.rules.specs.Directory.{csd_limit, security_limit, account_limit, pair_limit, link_limit}
use Rattle.rules.specs.Entries.{Row, csd_row, security_row, account_row, pair_row, link_row, blank_account, blank_pair, blank_link}
use Rattle.rules.specs.Chain.{step, step_limit}
use Rattle.rules.specs.Outcomes.{Steps, step_rows}
use Rattle.rules.specs.Stream.{account_at, pair_at, link_at}
use Rattle.wire.specs.Operands.{csd_in, security_in}

-- bytes of a row of each table, and of a step
abbrev pub csd_width : ℕ
csd_width = 12

abbrev pub security_width : ℕ
security_width = 12

abbrev pub account_width : ℕ
account_width = 2

abbrev pub pair_width : ℕ
pair_width = 8

abbrev pub link_width : ℕ
link_width = 11

abbrev pub step_width : ℕ
step_width = 5

-- bytes of each table
abbrev pub csds_length : ℕ
csds_length = csd_limit * csd_width

abbrev pub securities_length : ℕ
securities_length = security_limit * security_width

abbrev pub accounts_length : ℕ
accounts_length = account_limit * account_width

abbrev pub pairs_length : ℕ
pairs_length = pair_limit * pair_width

abbrev pub links_length : ℕ
links_length = link_limit * link_width

-- where each table starts: one behind the other
abbrev pub csds_start : ℕ
csds_start = 0

abbrev pub securities_start : ℕ
securities_start = csds_start + csds_length

abbrev pub accounts_start : ℕ
accounts_start = securities_start + securities_length

abbrev pub pairs_start : ℕ
pairs_start = accounts_start + accounts_length

abbrev pub links_start : ℕ
links_start = pairs_start + pairs_length

-- how many counts and bytes of rows there are
abbrev pub counts_length : ℕ
counts_length = 5

abbrev pub rows_length : ℕ
rows_length = links_start + links_length

-- ---- the directory that counts and bytes stand for: what is not there reads as 0

-- the account, pair and link of a row
abbrev pub account_of : Row → Account
account_of (csd_row x) = blank_account
account_of (security_row x) = blank_account
account_of (account_row x) = x
account_of (pair_row x) = blank_account
account_of (link_row x) = blank_account

abbrev pub pair_of : Row → Pair
pair_of (csd_row x) = blank_pair
pair_of (security_row x) = blank_pair
pair_of (account_row x) = blank_pair
pair_of (pair_row x) = x
pair_of (link_row x) = blank_pair

abbrev pub link_of : Row → Link
link_of (csd_row x) = blank_link
link_of (security_row x) = blank_link
link_of (account_row x) = blank_link
link_of (pair_row x) = blank_link
link_of (link_row x) = x

-- as the stream's decoders read them
abbrev pub account_in : List ℕ → Account
account_in o = account_of (account_at o)

abbrev pub pair_in : List ℕ → Pair
pair_in o = pair_of (pair_at o)

abbrev pub link_in : List ℕ → Link
link_in o = link_of (link_at o)

-- n rows of w bytes from index `start` on, each as its decoder reads it
unfoldable pub rows_in : {A : Type 0} → (List ℕ → A) → ℕ → ℕ → List ℕ → ℕ → List A
rows_in row start w bytes zero = []
rows_in row start w bytes (suc n) = rows_in row start w bytes n ++ (row (drop (start + n * w) bytes) ∷ [])

-- each table, all its rows, in use or not
unfoldable pub csds_in : ℕ → List ℕ → Table Csd csd_limit
csds_in count bytes = record { count = count; rows = rows_in csd_in csds_start csd_width bytes csd_limit }

unfoldable pub securities_in : ℕ → List ℕ → Table Security security_limit
securities_in count bytes = record { count = count; rows = rows_in security_in securities_start security_width bytes security_limit }

unfoldable pub accounts_in : ℕ → List ℕ → Table Account account_limit
accounts_in count bytes = record { count = count; rows = rows_in account_in accounts_start account_width bytes account_limit }

unfoldable pub pairs_in : ℕ → List ℕ → Table Pair pair_limit
pairs_in count bytes = record { count = count; rows = rows_in pair_in pairs_start pair_width bytes pair_limit }

unfoldable pub links_in : ℕ → List ℕ → Table Link link_limit
links_in count bytes = record { count = count; rows = rows_in link_in links_start link_width bytes link_limit }

unfoldable pub directory_in : List ℕ → List ℕ → Directory
directory_in counts bytes =
    record {
      csds = csds_in (get_or counts 0 0) bytes;
      securities = securities_in (get_or counts 1 0) bytes;
      accounts = accounts_in (get_or counts 2 0) bytes;
      pairs = pairs_in (get_or counts 3 0) bytes;
      links = links_in (get_or counts 4 0) bytes;
    }

-- ---- the counts and bytes that a directory is written as

-- the bytes of a row; a number of two bytes is big-endian
abbrev pub csd_bytes : Csd → List ℕ
csd_bytes x = x.external ∷ x.bic

abbrev pub security_bytes : Security → List ℕ
security_bytes x = x.isin

abbrev pub account_bytes : Account → List ℕ
account_bytes x = x.csd ∷ x.kind ∷ []

abbrev pub pair_bytes : Pair → List ℕ
pair_bytes x =
    x.investor ∷ x.technical ∷ x.mirror / 256 ∷ x.mirror % 256 ∷ x.omnibus / 256 ∷ x.omnibus % 256 ∷ x.served / 256 ∷ x.served % 256 ∷ []

abbrev pub link_bytes : Link → List ℕ
link_bytes x =
    x.security
    ∷ x.kind
    ∷ x.csd
    ∷ x.technical
    ∷ x.flag
    ∷ x.account / 256
    ∷ x.account % 256
    ∷ x.first / 256
    ∷ x.first % 256
    ∷ x.last / 256
    ∷ x.last % 256
    ∷ []

abbrev pub step_bytes : Step → List ℕ
step_bytes x = x.csd ∷ x.debited / 256 ∷ x.debited % 256 ∷ x.credited / 256 ∷ x.credited % 256 ∷ []

-- in place of a row that is not there
abbrev pub no_csd : Csd
no_csd = record { external = 0; bic = [] }

abbrev pub no_security : Security
no_security = record { isin = [] }

-- the first n bytes of rows of w bytes each: byte j is byte j % w of row j / w
unfoldable pub bytes_in : {A : Type 0} → (A → List ℕ) → A → ℕ → List A → ℕ → List ℕ
bytes_in bytes blank w rows zero = []
bytes_in bytes blank w rows (suc n) = bytes_in bytes blank w rows n ++ (get_or (bytes (get_or rows (n / w) blank)) (n % w) 0 ∷ [])

-- the bytes of each table, and of steps
abbrev pub bytes_of_csds : Table Csd csd_limit → List ℕ
bytes_of_csds t = bytes_in csd_bytes no_csd csd_width t.rows csds_length

abbrev pub bytes_of_securities : Table Security security_limit → List ℕ
bytes_of_securities t = bytes_in security_bytes no_security security_width t.rows securities_length

abbrev pub bytes_of_accounts : Table Account account_limit → List ℕ
bytes_of_accounts t = bytes_in account_bytes blank_account account_width t.rows accounts_length

abbrev pub bytes_of_pairs : Table Pair pair_limit → List ℕ
bytes_of_pairs t = bytes_in pair_bytes blank_pair pair_width t.rows pairs_length

abbrev pub bytes_of_links : Table Link link_limit → List ℕ
bytes_of_links t = bytes_in link_bytes blank_link link_width t.rows links_length

unfoldable pub bytes_of_steps : List Step → List ℕ
bytes_of_steps xs = bytes_in step_bytes (step 0 0 0) step_width xs (length xs * step_width)

unfoldable pub bytes_of : Directory → List ℕ
bytes_of d =
    bytes_of_csds d.csds ++ (bytes_of_securities d.securities ++ (bytes_of_accounts d.accounts ++ (bytes_of_pairs d.pairs ++ bytes_of_links d.links)))

abbrev pub counts_of : Directory → List ℕ
counts_of d = d.csds.count ∷ d.securities.count ∷ d.accounts.count ∷ d.pairs.count ∷ d.links.count ∷ []

-- a buffer of n numbers takes the new ones, any other stays as it was
abbrev pub filled : ℕ → List ℕ → List ℕ → List ℕ
filled n new old = cond (eqb (length old) n) new old

-- steps at the front of a buffer, "the rest untouched"
abbrev pub with_steps : List Step → List ℕ → List ℕ
with_steps xs old = bytes_of_steps xs ++ drop (length xs * step_width) old

-- a buffer with room for all steps, at most 16, takes them, any other stays as it was
abbrev pub steps_put : Steps → List ℕ → List ℕ
steps_put t old = cond (leb t.count step_limit && leb (t.count * step_width) (length old)) (with_steps (step_rows t) old) old

-- xs stands in a buffer from index `start` up to `end`; the rest of it is as before
abbrev pub Put : ℕ → ℕ → List ℕ → List ℕ → List ℕ → Type 0
Put start end xs before after = (length after ≡ length before) × (take end after ≡ take start before ++ xs) × (drop end after ≡ drop end before)
