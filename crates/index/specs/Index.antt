-- The index of a directory: one number for each question that a chain, a booking or an entry asks of the tables, and for links a list for each security and
-- CSD. Assumes nothing.
use Rattle.std.specs.Prelude.{◌≡◌, ℕ, ◌+◌, ◌-◌, ◌*◌, ◌<◌, Bool, true, ◌&&◌, cond, List, [], ◌∷◌, reverse, ltb, eqb, length, get_or, set, take}
use Rattle.std.proofs.Math.Option.{Option, none, some}
use Rattle.std.proofs.Math.ListN.{get_elem?}
use Rattle.rules.specs.declared.Csd.{Csd}
use Rattle.rules.specs.declared.Account.{Account}
use Rattle.rules.specs.declared.Pair.{Pair}
use Rattle.rules.specs.declared.Link.{Link}
use Rattle.rules.specs.declared.Directory.{Directory}
use Rattle.rules.specs.Directory.{Rows, rows_of, csd_limit, security_limit, account_limit, pair_limit, link_limit, no_account, uses, is_link, points_to}
use Rattle.rules.specs.Tests.{any, find}
use Rattle.rules.specs.Entries.{sound}

-- What stands in an index: the counts of the five tables; by CSD its type; by account its CSD, its kind and the duo that it is in: investor, technical
-- issuer and the two accounts; by technical issuer and account served the first account of their pair row; by security and CSD their newest link, and
-- whether an investor link for the security leads to the CSD; by link its numbers.
pub data Place : Type 0 where
  csd_count : Place
  security_count : Place
  account_count : Place
  pair_count : Place
  link_count : Place
  type_at : ℕ → Place
  home_at : ℕ → Place
  kind_at : ℕ → Place
  mirror_at : ℕ → Place
  omnibus_at : ℕ → Place
  investor_at : ℕ → Place
  technical_at : ℕ → Place
  served_at : ℕ → ℕ → Place
  newest_at : ℕ → ℕ → Place
  target_at : ℕ → ℕ → Place
  link_at : ℕ → ℕ → Place

-- a number more than a row's, and 0 for no row
abbrev pub type_code : Option Csd → ℕ
type_code none = 0
type_code (some x) = x.external + 1

-- the account's CSD
abbrev pub home_code : Option Account → ℕ
home_code none = 0
home_code (some x) = x.csd + 1

-- the account's kind
abbrev pub kind_code : Option Account → ℕ
kind_code none = 0
kind_code (some x) = x.kind + 1

-- the first row that has the account as one of its two; all that have it are of one duo. Hex FFFF is in none
unfoldable pub duo_of : List Pair → ℕ → Option Pair
duo_of ps a = cond (eqb a no_account) none (find (uses a) ps)

-- the row serves the account at the technical issuer
abbrev pub serves_at : ℕ → ℕ → Pair → Bool
serves_at t a p = eqb p.technical t && eqb p.served a

-- the first such row: its investor is the account's CSD
unfoldable pub served_row : List Pair → ℕ → ℕ → Option Pair
served_row ps t a = find (serves_at t a) ps

-- the pair's account in the investor's books
abbrev pub mirror_code : Option Pair → ℕ
mirror_code none = 0
mirror_code (some p) = p.mirror + 1

-- the pair's account in the technical issuer's books, hex FFFF for none
abbrev pub omnibus_code : Option Pair → ℕ
omnibus_code none = 0
omnibus_code (some p) = p.omnibus

-- the pair's investor
abbrev pub investor_code : Option Pair → ℕ
investor_code none = 0
investor_code (some p) = p.investor

-- the pair's technical issuer
abbrev pub technical_code : Option Pair → ℕ
technical_code none = 0
technical_code (some p) = p.technical

-- a link's numbers, by their places: where the next older link of its CSD for its security stands; its first and last day, kind, flag, technical issuer
-- and account
abbrev pub next_number : ℕ
next_number = 0

abbrev pub first_number : ℕ
first_number = 1

abbrev pub last_number : ℕ
last_number = 2

abbrev pub kind_number : ℕ
kind_number = 3

abbrev pub flag_number : ℕ
flag_number = 4

abbrev pub technical_number : ℕ
technical_number = 5

abbrev pub account_number : ℕ
account_number = 6

-- how many they are
abbrev pub link_numbers : ℕ
link_numbers = 7

-- where the regions of the index begin, one behind the other, after the five counts
abbrev pub types : ℕ
types = 5

abbrev pub homes : ℕ
homes = types + csd_limit

abbrev pub kinds : ℕ
kinds = homes + account_limit

abbrev pub mirrors : ℕ
mirrors = kinds + account_limit

abbrev pub omnibuses : ℕ
omnibuses = mirrors + account_limit

abbrev pub investors : ℕ
investors = omnibuses + account_limit

abbrev pub technicals : ℕ
technicals = investors + account_limit

abbrev pub served : ℕ
served = technicals + account_limit

abbrev pub newest : ℕ
newest = served + csd_limit * account_limit

abbrev pub targets : ℕ
targets = newest + security_limit * csd_limit

abbrev pub links : ℕ
links = targets + security_limit * csd_limit

-- how many numbers an index has
abbrev pub index_size : ℕ
index_size = links + link_limit * link_numbers

-- where the numbers of link n begin
abbrev pub row_at : ℕ → ℕ
row_at n = links + n * link_numbers

-- where those of the last link begin that an index may have
abbrev pub last_row : ℕ
last_row = index_size - link_numbers

-- where the newest link of the CSD for the security stands, 0 for none; the links are given newest first
abbrev pub newest_code : ℕ → ℕ → List Link → ℕ
newest_code s c [] = 0
newest_code s c (x ∷ older) = cond (is_link s c x) (row_at (length older)) (newest_code s c older)

-- an investor link for the security to the technical issuer
abbrev pub makes_target : ℕ → ℕ → Link → Bool
makes_target s t x = eqb x.security s && points_to t x

-- 1 where there is one, else 0
abbrev pub target_code : ℕ → ℕ → List Link → ℕ
target_code s t ls = cond (any (makes_target s t) ls) 1 0

-- the numbers of a link, where the next older one stands at `next`
abbrev pub numbers_of : ℕ → Link → List ℕ
numbers_of next x = next ∷ x.first ∷ x.last ∷ x.kind ∷ x.flag ∷ x.technical ∷ x.account ∷ []

-- number f of a link behind those that are older, which stand newest first
abbrev pub link_code : List Link → Option Link → ℕ → ℕ
link_code older none f = 0
link_code older (some x) f = get_or (numbers_of (newest_code x.security x.csd older) x) f 0

-- the index of a directory's rows: the number at each place
abbrev pub index_of : Rows → Place → ℕ
index_of r csd_count = length r.csds
index_of r security_count = length r.securities
index_of r account_count = length r.accounts
index_of r pair_count = length r.pairs
index_of r link_count = length r.links
index_of r (type_at c) = type_code (get_elem? r.csds c)
index_of r (home_at a) = home_code (get_elem? r.accounts a)
index_of r (kind_at a) = kind_code (get_elem? r.accounts a)
index_of r (mirror_at a) = mirror_code (duo_of r.pairs a)
index_of r (omnibus_at a) = omnibus_code (duo_of r.pairs a)
index_of r (investor_at a) = investor_code (duo_of r.pairs a)
index_of r (technical_at a) = technical_code (duo_of r.pairs a)
index_of r (served_at t a) = mirror_code (served_row r.pairs t a)
index_of r (newest_at s c) = newest_code s c (reverse r.links)
index_of r (target_at s t) = target_code s t r.links
index_of r (link_at n f) = link_code (reverse (take n r.links)) (get_elem? r.links n) f

-- the places that an index has
abbrev pub Inside : Place → Type 0
Inside csd_count = Unit {0}
Inside security_count = Unit {0}
Inside account_count = Unit {0}
Inside pair_count = Unit {0}
Inside link_count = Unit {0}
Inside (type_at c) = c < csd_limit
Inside (home_at a) = a < account_limit
Inside (kind_at a) = a < account_limit
Inside (mirror_at a) = a < account_limit
Inside (omnibus_at a) = a < account_limit
Inside (investor_at a) = a < account_limit
Inside (technical_at a) = a < account_limit
Inside (served_at t a) = (t < csd_limit) × (a < account_limit)
Inside (newest_at s c) = (s < security_limit) × (c < csd_limit)
Inside (target_at s t) = (s < security_limit) × (t < csd_limit)
Inside (link_at n f) = (n < link_limit) × (f < link_numbers)

-- the number at a place of a list, 0 behind the end of an index
unfoldable pub number_at : List ℕ → ℕ → ℕ
number_at l p = cond (ltb p index_size) (get_or l p 0) 0

-- the list with the number at the place; behind the end of an index nothing is put
unfoldable pub with_number : List ℕ → ℕ → ℕ → List ℕ
with_number l p n = cond (ltb p index_size) (set l p n) l

-- where they stand
abbrev pub place_of : Place → ℕ
place_of csd_count = 0
place_of security_count = 1
place_of account_count = 2
place_of pair_count = 3
place_of link_count = 4
place_of (type_at c) = types + c
place_of (home_at a) = homes + a
place_of (kind_at a) = kinds + a
place_of (mirror_at a) = mirrors + a
place_of (omnibus_at a) = omnibuses + a
place_of (investor_at a) = investors + a
place_of (technical_at a) = technicals + a
place_of (served_at t a) = served + (t * account_limit + a)
place_of (newest_at s c) = newest + (s * csd_limit + c)
place_of (target_at s t) = targets + (s * csd_limit + t)
place_of (link_at n f) = links + (n * link_numbers + f)

-- the tables are as long as their limits, rows that are not in use among them
pub record WholeTables (d : Directory) : Type 0 where
  pub csds : length d.csds.rows ≡ csd_limit
  pub securities : length d.securities.rows ≡ security_limit
  pub accounts : length d.accounts.rows ≡ account_limit
  pub pairs : length d.pairs.rows ≡ pair_limit
  pub links : length d.links.rows ≡ link_limit

-- The list is the index of a sound directory.
pub record Indexed (ix : List ℕ) (d : Directory) : Type 0 where
  pub sound_books : sound d ≡ true
  pub whole : WholeTables d
  pub size : length ix ≡ index_size
  pub at : (p : Place) → Inside p → get_or ix (place_of p) 0 ≡ index_of (rows_of d) p
