-- The questions of the rules, put to a list of numbers that stand where an index has them. Whatever the list, each has its answer; where the list is the
-- index of a directory, it is the directory's. Assumes nothing.
use Rattle.std.specs.Prelude.{◌≡◌, ℕ, zero, suc, ◌+◌, ◌-◌, ◌%◌, Bool, true, false, not, ◌&&◌, ◌||◌, cond, List, [], ◌∷◌, eqb, ltb, leb}
use Rattle.std.proofs.Math.Option.{Option, none, some}
use Rattle.rules.specs.declared.Pair.{Pair}
use Rattle.rules.specs.declared.Link.{Link}
use Rattle.rules.specs.declared.Directory.{Directory}
use Rattle.rules.specs.Tests.{any, find, only}
use Rattle.rules.specs.Directory.{rows_of, rows_on, covers, issues, defaults, points_to, csd_limit, security_limit, account_limit, pair_limit, link_limit}
use Rattle.rules.specs.Lookups.{Lookups, technical_of, account_of, ask}
use Rattle.index.specs.Index.{Indexed, Place, csd_count, security_count, account_count, pair_count, link_count, type_at, home_at, kind_at, mirror_at, omnibus_at, investor_at, technical_at, served_at, newest_at, target_at, link_at, next_number, first_number, last_number, kind_number, flag_number, technical_number, account_number, link_numbers, last_row, place_of, number_at}

-- the places that an index has
abbrev pub has : Place → Bool
has csd_count = true
has security_count = true
has account_count = true
has pair_count = true
has link_count = true
has (type_at c) = ltb c csd_limit
has (home_at a) = ltb a account_limit
has (kind_at a) = ltb a account_limit
has (mirror_at a) = ltb a account_limit
has (omnibus_at a) = ltb a account_limit
has (investor_at a) = ltb a account_limit
has (technical_at a) = ltb a account_limit
has (served_at t a) = ltb t csd_limit && ltb a account_limit
has (newest_at s c) = ltb s security_limit && ltb c csd_limit
has (target_at s t) = ltb s security_limit && ltb t csd_limit
has (link_at n f) = ltb n link_limit && ltb f link_numbers

-- the number at a place of the list, 0 beyond
unfoldable pub read : List ℕ → Place → ℕ
read l p = cond (has p) (number_at l (place_of p)) 0

-- a CSD by its code, which is one more: a byte, and hex FF for no row
abbrev pub home_by : ℕ → ℕ
home_by code = (code + 0xff) % 256

-- the account stands in the books of this CSD
abbrev pub books_in : List ℕ → ℕ → ℕ → Bool
books_in l a c = eqb (read l (home_at a)) (c + 1)

-- a pair row by its first account, which is of the table: the second is the one that stands in a duo with it
abbrev pub pair_by : List ℕ → ℕ → ℕ → ℕ → ℕ → Option Pair
pair_by l i t a code =
    cond (eqb code 0) none (some (record { investor = i; technical = t; mirror = code - 1; omnibus = read l (omnibus_at ((code - 1) % account_limit)); served = a }))

-- the duo of the account a is that of x
abbrev pub duo_is : List ℕ → ℕ → Pair → Bool
duo_is l a x =
    (eqb (read l (mirror_at a)) (x.mirror + 1) && eqb (read l (omnibus_at a)) x.omnibus)
    && (eqb (read l (investor_at a)) x.investor && eqb (read l (technical_at a)) x.technical)

-- a technical issuer by its number, which is a byte
abbrev pub technical_by : ℕ → ℕ
technical_by n = n % 256

-- the link whose numbers begin at the place p, read as one of the CSD c for the security s
unfoldable pub link_in : List ℕ → ℕ → ℕ → ℕ → Link
link_in l s c p =
    record {
      security = s;
      kind = number_at l (p + kind_number);
      csd = c;
      technical = technical_by (number_at l (p + technical_number));
      flag = number_at l (p + flag_number);
      account = number_at l (p + account_number);
      first = number_at l (p + first_number);
      last = number_at l (p + last_number);
    }

-- a list of links ends at this place: it is 0, or none where a link may begin
abbrev pub ends_at : ℕ → Bool
ends_at p = eqb p 0 || ltb last_row p

-- where the next older link stands; it stands before this one
abbrev pub older_at : List ℕ → ℕ → ℕ
older_at l p = cond (ltb (number_at l (p + next_number)) p) (number_at l (p + next_number)) 0

-- the links from a place on, each followed by the next older one; k of them at most
unfoldable pub links_from : List ℕ → ℕ → ℕ → ℕ → ℕ → List Link
links_from l s c zero p = []
links_from l s c (suc k) p = cond (ends_at p) [] (link_in l s c p ∷ links_from l s c k (older_at l p))

-- the links of the CSD for the security, newest first
abbrev pub links_at : List ℕ → ℕ → ℕ → List Link
links_at l s c = links_from l s c (read l (newest_at s c)) (read l (newest_at s c))

-- an investor link for the security has the CSD as technical issuer
abbrev pub is_target : List ℕ → ℕ → ℕ → Bool
is_target l s t = not (eqb (read l (target_at s t)) 0)

-- an issuer link, which "has .. flag 1", or a default link: on a day a CSD has one of them at most for a security
abbrev pub leads : Link → Bool
leads x = eqb x.flag 1

-- such a link, where it is an issuer link
abbrev pub as_issuer : Option Link → Option Link
as_issuer none = none
as_issuer (some x) = cond (issues x) (some x) none

-- where it is a default link
abbrev pub as_default : Option Link → Option Link
as_default none = none
as_default (some x) = cond (issues x) none (some x)

-- there is one
abbrev pub is_there : Option Link → Bool
is_there none = false
is_there (some x) = true

-- the answers that a list of numbers gives, where these are the links of a CSD for a security, its issuer link and its default link
unfoldable pub asked_by : (ℕ → ℕ → List Link) → (ℕ → ℕ → Option Link) → (ℕ → ℕ → Option Link) → List ℕ → Lookups
asked_by links issuer default l =
    record {
      accounts_full = leb account_limit (read l account_count);
      pairs_full = leb pair_limit (read l pair_count);
      csd = λ c. not (eqb (read l (type_at c)) 0);
      security = λ s. ltb s (read l security_count);
      account = λ a. not (eqb (read l (home_at a)) 0);
      outside = λ c. eqb (read l (type_at c)) 2;
      home = λ a. home_by (read l (home_at a));
      books = books_in l;
      kind = λ a k. eqb (read l (kind_at a)) (k + 1);
      apart = λ a x. not (eqb (read l (mirror_at a)) 0) && not (duo_is l a x);
      pair = λ i t a. cond (books_in l a i) (pair_by l i t a (read l (served_at t a))) none;
      served = λ i t a. not (eqb (read l (served_at t a)) 0) && books_in l a i;
      links = links;
      issuer = λ s c. is_there (issuer s c);
      issuing = λ s c. account_of (issuer s c);
      onward = λ s c. technical_of (default s c);
      linked = λ s c t. is_target l s t && any (points_to t) (links s c);
    }

-- those of all links
abbrev pub asked : List ℕ → Lookups
asked l = asked_by (links_at l) (λ s c. find issues (links_at l s c)) (λ s c. find defaults (links_at l s c)) l

-- the links of a day: "only links valid on it are seen"
abbrev pub links_on : List ℕ → ℕ → ℕ → ℕ → List Link
links_on l day s c = only (covers day) (links_at l s c)

-- those of a day: its issuer link or its default link is the newest of these that is found
abbrev pub asked_on : List ℕ → ℕ → Lookups
asked_on l day = asked_by (links_on l day) (λ s c. as_issuer (find leads (links_on l day s c))) (λ s c. as_default (find leads (links_on l day s c))) l

-- An index answers as its directory does, on a day too (proved in proofs/Answers).
pub record IndexAnswers : Type 0 where
  pub ever : (l : List ℕ) (d : Directory) → Indexed l d → asked l ≡ ask (rows_of d)
  pub daily : (l : List ℕ) (d : Directory) → Indexed l d → (day : ℕ) → asked_on l day ≡ ask (rows_on day d)
