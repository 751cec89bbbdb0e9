-- Entries over an index and the identifiers: what a row adds, unless it is refused. Assumes nothing.
use Rattle.std.specs.Prelude.{ℕ, zero, suc, ◌+◌, ◌*◌, cond, List, ltb, eqb, take}
use Rattle.rules.specs.declared.Csd.{Csd}
use Rattle.rules.specs.declared.Security.{Security}
use Rattle.rules.specs.declared.Account.{Account}
use Rattle.rules.specs.declared.Pair.{Pair}
use Rattle.rules.specs.declared.Link.{Link}
use Rattle.rules.specs.declared.Directory.{Directory}
use Rattle.rules.specs.declared.Answer.{Answer}
use Rattle.rules.specs.declared.Answer.TheVariants.{Accepted, Refused}
use Rattle.rules.specs.declared.Entered.{Entered}
use Rattle.rules.specs.Tests.{first_of}
use Rattle.rules.specs.Directory.{rows_of, csd_limit, account_limit, link_limit, no_account}
use Rattle.rules.specs.Entries.{Row, csd_row, security_row, account_row, pair_row, link_row, row_conditions, add_row}
use Rattle.index.specs.Index.{Place, csd_count, security_count, account_count, pair_count, link_count, place_of, types, homes, kinds, mirrors, omnibuses, investors, technicals, served, newest, targets, links, next_number, first_number, last_number, kind_number, flag_number, technical_number, account_number, link_numbers, row_at, number_at, with_number}
use Rattle.identifiers.specs.Names.{bic_size, isin_size, isins, with_bytes}
use Rattle.refusals.specs.declared.kept.Kept.{Kept}
use Rattle.refusals.specs.Kept.{refusal_in}

-- ---- what a row adds

-- one more, below the largest 16-bit number
abbrev pub one_more : ℕ → ℕ
one_more n = cond (ltb n 0xffff) (n + 1) n

-- one row more in the table whose count stands there
unfoldable pub counted : Place → List ℕ → List ℕ
counted p l = with_number l (place_of p) (one_more (number_at l (place_of p)))

-- a CSD: its type
unfoldable pub with_csd : Csd → List ℕ → List ℕ
with_csd x l = counted csd_count (with_number l (types + number_at l (place_of csd_count)) (x.external + 1))

-- and its BIC, where n CSDs are entered
unfoldable pub with_bic : Csd → ℕ → List ℕ → List ℕ
with_bic x n b = with_bytes b (bic_size * n) (take bic_size x.bic)

-- a security
unfoldable pub with_security : Security → List ℕ → List ℕ
with_security x l = counted security_count l

-- its ISIN, where n securities are entered
unfoldable pub with_isin : Security → ℕ → List ℕ → List ℕ
with_isin x n b = with_bytes b (isins + isin_size * n) (take isin_size x.isin)

-- an account: its CSD and its kind
unfoldable pub with_account : Account → List ℕ → List ℕ
with_account x l =
    let n = number_at l (place_of account_count) in
    counted account_count (with_number (with_number l (homes + n) (x.csd + 1)) (kinds + n) (x.kind + 1))

-- an account is in the duo of x; hex FFFF never is in one
unfoldable pub with_duo : Pair → ℕ → List ℕ → List ℕ
with_duo x a l =
    cond (eqb a no_account) l
    (with_number (with_number (with_number (with_number l (mirrors + a) (one_more x.mirror)) (omnibuses + a) x.omnibus) (investors + a) x.investor) (technicals + a) x.technical)

-- a pair: its first account, by technical issuer and account served, and the duo of its accounts
unfoldable pub with_pair : Pair → List ℕ → List ℕ
with_pair x l =
    counted pair_count (with_duo x x.omnibus (with_duo x x.mirror (with_number l (served + (x.technical * account_limit + x.served)) (one_more x.mirror))))

-- where the numbers of link n begin, 0 behind the last that an index has
abbrev pub row_for : ℕ → ℕ
row_for n = cond (ltb n link_limit) (row_at n) 0

-- the technical issuer of an investor link is a target of its security
unfoldable pub with_target : Link → List ℕ → List ℕ
with_target x l = cond (eqb x.kind 1) (with_number l (targets + (x.security * csd_limit + x.technical)) 1) l

-- a link: its numbers behind those of the others, it is the newest of its CSD for its security, and its technical issuer is a target
unfoldable pub with_link : Link → List ℕ → List ℕ
with_link x l =
    let n = number_at l (place_of link_count) in
    let cell = newest + (x.security * csd_limit + x.csd) in
    let numbers =
    with_number (with_number (with_number (with_number (with_number (with_number (with_number l
    (links + (n * link_numbers + next_number)) (number_at l cell))
    (links + (n * link_numbers + first_number)) x.first)
    (links + (n * link_numbers + last_number)) x.last)
    (links + (n * link_numbers + kind_number)) x.kind)
    (links + (n * link_numbers + flag_number)) x.flag)
    (links + (n * link_numbers + technical_number)) x.technical)
    (links + (n * link_numbers + account_number)) x.account in
    counted link_count (with_target x (with_number numbers cell (row_for n)))

-- any row
abbrev pub with_row_in : Row → Kept → Kept
with_row_in (csd_row x) k = record { numbers = with_csd x k.numbers; names = with_bic x (number_at k.numbers (place_of csd_count)) k.names }
with_row_in (security_row x) k = record { numbers = with_security x k.numbers; names = with_isin x (number_at k.numbers (place_of security_count)) k.names }
with_row_in (account_row x) k = record { numbers = with_account x k.numbers; names = k.names }
with_row_in (pair_row x) k = record { numbers = with_pair x k.numbers; names = k.names }
with_row_in (link_row x) k = record { numbers = with_link x k.numbers; names = k.names }

-- ---- an entry

-- what it answers, by the refusal's number
abbrev pub answered : ℕ → Answer
answered zero = Accepted
answered (suc n) = Refused (suc n)

-- what is kept by the refusal's number
abbrev pub kept_by : ℕ → Row → Kept → Kept
kept_by zero x k = with_row_in x k
kept_by (suc n) x k = k

-- all that is kept after an entry
unfoldable pub entered_in : Row → Kept → Kept
entered_in x k = kept_by (refusal_in k x) x k

-- by the refusal's number, 0 for none
abbrev pub entered_by : ℕ → Row → Directory → Entered
entered_by zero x d = record { answer = Accepted; directory = add_row x d }
entered_by (suc n) x d = record { answer = Refused (suc n); directory = d }

-- an entry into a directory, sound or not: its answer, and the directory after it
unfoldable pub enter_row : Row → Directory → Entered
enter_row x d = entered_by (first_of (row_conditions (rows_of d) x)) x d
