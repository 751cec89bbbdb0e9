-- What document 02 asks to be shown, a section for each request. Each claim is proved in proofs/.
use Rattle.std.specs.Prelude.{◌≡◌, ◌⊎◌, true, ℕ, ◌+◌, ◌-◌, ◌%◌, ◌≤◌, ◌<◌, eqb, length, take}
use mathlib.Core.List.{List, [], ◌∷◌, ◌++◌, map, reverse, Memᴰ}
use Rattle.std.proofs.Math.Option.{Option, none, some}
use Rattle.rules.specs.Types.{Csd, Account, Pair, Link, Directory, Half, SidedHalf, Step, Accepted, Booked, Refused}
use Rattle.rules.specs.Tests.{first_of}
use Rattle.rules.specs.Identifiers.{byte_at, same_bic, isin_checks, isin_sum_left}
use Rattle.rules.specs.Directory.{Rows, links_of, rows_of, on_day, rows_on, no_csd, no_account, security_limit}
use Rattle.rules.specs.Lookups.{home_of, ask}
use Rattle.rules.specs.Entries.{csd_row, link_row, pair_conditions, row_conditions, sound_rows, sound}
use Rattle.rules.specs.Chain.{Chain, chained, unchained, step, chain, step_limit}
use Rattle.rules.specs.Booking.{Way, held_in, cash_on, contra}
use Rattle.rules.specs.Calls.{Halves, ordered, sided, Store, Outcome, Item, Call, enter, move, settle, derive, written, desk, run}
use Rattle.rules.specs.Relations.{Meets, DirectedWalk, NoDirected, ChainIs}
use Rattle.rules.specs.Refusals.{Delivers, Sound, Uses, SharesBoth, Linked, ValidOn}
use Rattle.rules.specs.Demands.{ChainOfHalves, Within, PairEntered, made}
use Rattle.rules.specs.Stream.{bytes, transcript}
use Rattle.rules.specs.Examples.{csd_as, A, B, both_reach, way_there, way_back, sample_start, sample_delivering, sample_receiving, sample_day, sample_output, output_with}

-- ---- Ask 1, "The side in the half": on every store, halves and step list, refusals included

-- An outcome is the answer, the store and the step list after the call.
pub record SideInTheHalf : Type 0 where
  -- "Either order gives the same chain and booking."
  pub settles_either : (st : Store) (x y : SidedHalf) (day : ℕ) (lent : List Step) → desk (settle (sided x y) day lent) st ≡ desk (settle (sided y x) day lent) st
  pub derives_either : (st : Store) (x y : SidedHalf) (day : ℕ) (lent : List Step) → desk (derive (sided x y) day lent) st ≡ desk (derive (sided y x) day lent) st
  -- "Commands 0C (settle) and 0D (derive) are 0A and 0B with one byte before each half": where h delivers and g receives, they are 0A and 0B of h and g
  pub settles_ordered : (st : Store) (x y : SidedHalf) (day : ℕ) (lent : List Step) (h g : Half) → Delivers (sided x y) h g
      → desk (settle (sided x y) day lent) st ≡ desk (settle (ordered h g) day lent) st
  pub derives_ordered : (st : Store) (x y : SidedHalf) (day : ℕ) (lent : List Step) (h g : Half) → Delivers (sided x y) h g
      → desk (derive (sided x y) day lent) st ≡ desk (derive (ordered h g) day lent) st

-- document 01's sample with the pair's sides written out, by a command byte, in both orders
abbrev sided_inputs : ℕ → List (List ℕ)
sided_inputs tag =
    (sample_start ++ ((tag ∷ 0 ∷ sample_delivering) ++ (1 ∷ sample_receiving) ++ sample_day))
    ∷ (sample_start ++ ((tag ∷ 1 ∷ sample_receiving) ++ (0 ∷ sample_delivering) ++ sample_day))
    ∷ []

-- 0C prints what 0A prints, and 0D `chain 2` with the same steps
pub record SidedSample : Type 0 where
  pub settled : map transcript (sided_inputs 12) ≡ sample_output ∷ sample_output ∷ []
  pub derived : map transcript (sided_inputs 13) ≡ output_with (bytes "chain 2") ∷ output_with (bytes "chain 2") ∷ []

-- ---- Ask 2, "Branches are different depositories"

-- "All 11 bytes decide from now on whether two BICs are the same"
pub record Branches : Type 0 where
  pub same : (a b : List ℕ) → length a ≡ 11 → length b ≡ 11 → same_bic a b ≡ true → a ≡ b
  pub itself : (a : List ℕ) → same_bic a a ≡ true

-- CSDs of a type whose BICs "differ only in the last three bytes": three capitals X, and two branches that differ in the last byte
abbrev group : ℕ → List Csd
group t = csd_as t (bytes "AAAAXX00XXX") ∷ csd_as t (bytes "AAAAXX00ABC") ∷ csd_as t (bytes "AAAAXX00ABD") ∷ []

-- Entered one after another in T2S all three are accepted, so that the directory with those before it is sound each time; as external CSDs each is then 9.
-- The answers stand newest first.
pub record BranchesEntered : Type 0 where
  pub answers : map (λ (i : Item). i.answer) (run (map (λ (c : Csd). enter (csd_row c)) (group 0 ++ group 1))).items
      ≡ Refused 9 ∷ Refused 9 ∷ Refused 9 ∷ Accepted ∷ Accepted ∷ Accepted ∷ []

-- ---- Ask 3, "Segregated holdings"

-- Of two rows entered in any list of calls:
pub record Duos : Type 0 where
  -- one serves an account of an investor at a technical issuer
  pub triplets : (cs : List Call) (p q : Pair) → PairEntered p (run cs).items → PairEntered q (run cs).items
      → p.investor ≡ q.investor → p.technical ≡ q.technical → p.served ≡ q.served → p ≡ q
  -- "Rows of the same two CSDs may share both accounts or neither ..; other rows share none."
  pub shares : (cs : List Call) (p q : Pair) → PairEntered p (run cs).items → PairEntered q (run cs).items → (a : ℕ) → Uses p a → Uses q a → SharesBoth p q

-- an account of a CSD and kind
abbrev account_as : ℕ → ℕ → Account
account_as c k = record { csd = c; kind = k }

-- a pair row, written short
abbrev pair_as : ℕ → ℕ → ℕ → ℕ → ℕ → Pair
pair_as i t m o a = record { investor = i; technical = t; mirror = m; omnibus = o; served = a }

-- CSD 0 holds with CSD 1 through two omnibus accounts, 5 for its participant 0, and 7 for its participants 1 and 2; its participant 3 has no row. CSD 1
-- holds with the issuer, CSD 2, through one omnibus for each of these. CSD 0 holds with CSD 3, which is external, by one inter-CSD account for its
-- participants 0 and 1.
unfoldable pub segregated : Rows
segregated =
    record {
      csds = csd_as 0 (bytes "AAAAXX00XXX") ∷ csd_as 0 (bytes "BBBBXX00XXX") ∷ csd_as 0 (bytes "IIIIXX00XXX") ∷ csd_as 1 (bytes "XXXXXX00XXX") ∷ [];
      securities = record { isin = bytes "XS0000000009" } ∷ [];
      accounts =
          account_as 0 0 ∷ account_as 0 0 ∷ account_as 0 0 ∷ account_as 0 0 ∷ account_as 0 2 ∷ account_as 1 1 ∷ account_as 0 2 ∷ account_as 1 1
          ∷ account_as 1 2 ∷ account_as 2 1 ∷ account_as 1 2 ∷ account_as 2 1 ∷ account_as 2 4 ∷ account_as 2 0 ∷ account_as 0 3 ∷ account_as 0 2 ∷ account_as 1 1 ∷ account_as 1 3 ∷ [];
      pairs = pair_as 0 1 4 5 0 ∷ pair_as 0 1 6 7 1 ∷ pair_as 0 1 6 7 2 ∷ pair_as 1 2 8 9 5 ∷ pair_as 1 2 10 11 7 ∷ pair_as 0 3 14 no_account 0 ∷ pair_as 0 3 14 no_account 1 ∷ [];
      links =
          record { security = 0; kind = 0; csd = 2; technical = no_csd; flag = 1; account = 12; first = 0; last = 0xffff }
          ∷ record { security = 0; kind = 1; csd = 0; technical = 1; flag = 1; account = no_account; first = 0; last = 0xffff }
          ∷ record { security = 0; kind = 1; csd = 1; technical = 2; flag = 1; account = no_account; first = 0; last = 0xffff }
          ∷ [];
    }

-- the chains from participant 13 of the issuer to the participants of CSD 0: each side climbs from its account, "the row of the account at its other
-- side" being that of the omnibus just reached
abbrev pub segregated_chains : List Chain
segregated_chains =
    chained (step 2 13 9 ∷ step 1 8 5 ∷ step 0 4 0 ∷ [])
    ∷ chained (step 2 13 11 ∷ step 1 10 7 ∷ step 0 6 1 ∷ [])
    ∷ chained (step 2 13 11 ∷ step 1 10 7 ∷ step 0 6 2 ∷ [])
    ∷ unchained 18
    ∷ []

-- rows, and what refuses them there, 0 for none
abbrev pub segregated_rows : List (Pair × ℕ)
segregated_rows =
    -- both accounts shared; neither; "with an external issuer the inter-CSD account alone"
    (pair_as 0 1 4 5 3, 0)
    ∷ (pair_as 0 1 15 16 3, 0)
    ∷ (pair_as 0 3 14 no_account 3, 0)
    -- "the same triplet", whatever the accounts
    ∷ (pair_as 0 1 15 16 0, 9)
    -- one account shared and the other not
    ∷ (pair_as 0 1 4 7 3, 9)
    ∷ (pair_as 0 1 4 16 3, 9)
    ∷ (pair_as 0 1 15 5 3, 9)
    -- rows of other CSDs, and an account in the other column
    ∷ (pair_as 1 0 8 16 5, 9)
    ∷ (pair_as 0 3 4 no_account 3, 9)
    ∷ (pair_as 0 1 5 4 3, 9)
    -- an account given second with an external issuer: in a row, and in none
    ∷ (pair_as 0 3 14 14 3, 9)
    ∷ (pair_as 0 3 14 16 3, 11)
    -- the account served: an omnibus that is in a row and served in another, which is no sharing; no row; of another CSD; a mirror
    ∷ (pair_as 1 3 17 no_account 5, 0)
    ∷ (pair_as 0 1 4 5 no_account, 6)
    ∷ (pair_as 0 1 4 5 13, 10)
    ∷ (pair_as 0 1 4 5 6, 10)
    ∷ []

-- the directory is sound, its chains, what refuses rows after it; and "04 becomes an unknown byte"
pub record SegregatedShown : Type 0 where
  pub sound : sound_rows segregated ≡ true
  pub chains : map (λ (a : ℕ). chain (ask segregated) 0 13 a) (0 ∷ 1 ∷ 2 ∷ 3 ∷ []) ≡ segregated_chains
  pub refusals : map (λ (x : Pair × ℕ). first_of (pair_conditions (ask segregated) x.0)) segregated_rows ≡ map (λ (x : Pair × ℕ). x.1) segregated_rows
  pub former_byte : transcript (4 ∷ []) ≡ bytes "1 no 1\ncash 0\n"

-- ---- Ask 4, "ISIN digits without the scratch copy"

-- "it is to add while reading, with no buffer of digits into which letters are spread": `isin_sum_left` keeps two sums of what it has read, and no
-- digit. That it is the sum of the spread digits, added up from the right, over any length, is `Examples: IsinShown.rule`; so of any bytes:
pub record AddedWhileReading : Type 0 where
  -- "Valid and invalid ISINs are the same ones."
  pub same : (i : List ℕ) → eqb ((isin_sum_left (take 11 i) + (byte_at i 11 - 48)) % 10) 0 ≡ isin_checks i

-- ---- Ask 5, "Links have days"

-- "A link gets a first and last day .., both included", "and only links valid on it are seen"
pub record LinksOfADay : Type 0 where
  pub seen : (day : ℕ) (ls : List Link) (l : Link) → Memᴰ l (links_of day ls) → Memᴰ l ls × ValidOn day l
  pub all : (day : ℕ) (ls : List Link) (l : Link) → Memᴰ l ls → ValidOn day l → Memᴰ l (links_of day ls)

-- two stores that differ in links of other days alone
pub record AlikeOn (day : ℕ) (st st' : Store) : Type 0 where
  pub rows : rows_on day st.directory ≡ rows_on day st'.directory
  pub sound_books : sound st.directory ≡ true
  pub sound_books' : sound st'.directory ≡ true
  pub positions : st.positions ≡ st'.positions
  pub cash : st.cash ≡ st'.cash

-- the same answer, steps, positions and cash
pub record SameFate (o o' : Outcome) : Type 0 where
  pub answer : o.answer ≡ o'.answer
  pub steps : o.steps ≡ o'.steps
  pub positions : o.store.positions ≡ o'.store.positions
  pub cash : o.store.cash ≡ o'.store.cash

-- "Chains and the fate of a pair are then those of the links of its day."
pub record FateOfTheDay : Type 0 where
  pub settles : (st st' : Store) (hs : Halves) (day : ℕ) (lent : List Step) → AlikeOn day st st' → SameFate (desk (settle hs day lent) st) (desk (settle hs day lent) st')
  pub derives : (st st' : Store) (hs : Halves) (day : ℕ) (lent : List Step) → AlikeOn day st st' → SameFate (desk (derive hs day lent) st) (desk (derive hs day lent) st')
  pub moves : (st st' : Store) (w : Way) (a s q day : ℕ) → AlikeOn day st st' → SameFate (desk (move w a s q day) st) (desk (move w a s q day) st')

-- a link that the accepted calls of a list have entered, of the CSD c for the security s, valid on the day
pub record EnteredOn (cs : List Call) (s c day : ℕ) (l : Link) : Type 0 where
  pub linked : Linked (made (run cs).items).links s c l
  pub valid : ValidOn day l

-- Of the links of a CSD for a security after any list of calls, on any day:
pub record OnAnyDay : Type 0 where
  -- one default
  pub one_default : (cs : List Call) (s c day : ℕ) (l k : Link) → EnteredOn cs s c day l → EnteredOn cs s c day k → l.kind ≡ 1 → k.kind ≡ 1 → l.flag ≡ 1 → k.flag ≡ 1 → l ≡ k
  -- no other link beside an issuer link
  pub issuer_alone : (cs : List Call) (s c day : ℕ) (l k : Link) → EnteredOn cs s c day l → EnteredOn cs s c day k → l.kind ≡ 0 → l ≡ k
  -- "an alternative needs a default on each of its days"
  pub covered : (cs : List Call) (s c day : ℕ) (l : Link) → EnteredOn cs s c day l → l.kind ≡ 1 → l.flag ≡ 0
      → (k : Link) × EnteredOn cs s c day k × (k.kind ≡ 1) × (k.flag ≡ 1)

-- a link for security 0, written short: an issuer link, a default link, an alternative
abbrev issuer_as : ℕ → ℕ → ℕ → ℕ → Link
issuer_as c a from to = record { security = 0; kind = 0; csd = c; technical = no_csd; flag = 1; account = a; first = from; last = to }

abbrev default_as : ℕ → ℕ → ℕ → ℕ → Link
default_as c t from to = record { security = 0; kind = 1; csd = c; technical = t; flag = 1; account = no_account; first = from; last = to }

abbrev alternative_as : ℕ → ℕ → ℕ → ℕ → Link
alternative_as c t from to = record { security = 0; kind = 1; csd = c; technical = t; flag = 0; account = no_account; first = from; last = to }

-- CSD 2 is the issuer on every day. CSD 0 holds with it on days 10 to 19, with CSD 1 on days 20 to 29, and with CSD 3, which is external, on days 40 and 41;
-- on days 18 and 19 it has an alternative to CSD 1. CSD 1 holds with the issuer on days 20 to 29.
unfoldable pub dated : Rows
dated =
    record {
      csds = csd_as 0 (bytes "AAAAXX00XXX") ∷ csd_as 0 (bytes "BBBBXX00XXX") ∷ csd_as 0 (bytes "IIIIXX00XXX") ∷ csd_as 1 (bytes "XXXXXX00XXX") ∷ csd_as 0 (bytes "JJJJXX00XXX") ∷ [];
      securities = record { isin = bytes "XS0000000009" } ∷ [];
      accounts =
          account_as 0 0 ∷ account_as 1 0 ∷ account_as 2 0 ∷ account_as 0 2 ∷ account_as 2 1 ∷ account_as 0 2 ∷ account_as 1 1 ∷ account_as 1 2 ∷ account_as 2 1
          ∷ account_as 2 4 ∷ account_as 0 3 ∷ account_as 0 4 ∷ [];
      pairs = pair_as 0 2 3 4 0 ∷ pair_as 0 1 5 6 0 ∷ pair_as 1 2 7 8 6 ∷ pair_as 0 3 10 no_account 0 ∷ [];
      links = issuer_as 2 9 0 0xffff ∷ default_as 0 2 10 19 ∷ default_as 0 1 20 29 ∷ default_as 0 3 40 41 ∷ alternative_as 0 1 18 19 ∷ default_as 1 2 20 29 ∷ [];
    }

-- days, and the chain from participant 0 of CSD 0 to participant 2 of the issuer
abbrev pub to_the_issuer : List (ℕ × Chain)
to_the_issuer =
    (9, unchained 14)
    ∷ (10, chained (step 0 0 3 ∷ step 2 4 2 ∷ []))
    ∷ (19, chained (step 0 0 3 ∷ step 2 4 2 ∷ []))
    ∷ (20, chained (step 0 0 5 ∷ step 1 6 7 ∷ step 2 8 2 ∷ []))
    ∷ (29, chained (step 0 0 5 ∷ step 1 6 7 ∷ step 2 8 2 ∷ []))
    ∷ (30, unchained 14)
    ∷ []

-- and to participant 1 of CSD 1: before day 20, when that has no link, by the alternative alone
abbrev pub by_the_alternative : List (ℕ × Chain)
by_the_alternative =
    (17, unchained 14)
    ∷ (18, chained (step 0 0 5 ∷ step 1 6 1 ∷ []))
    ∷ (19, chained (step 0 0 5 ∷ step 1 6 1 ∷ []))
    ∷ (30, unchained 14)
    ∷ []

-- days, and the account that a bring-in on participant 0 debits
abbrev pub brought_in_by : List (ℕ × Option ℕ)
brought_in_by = (39, none) ∷ (40, some 10) ∷ (41, some 10) ∷ (42, none) ∷ []

-- links, and what refuses them there, 0 for none
abbrev pub dated_rows : List (Link × ℕ)
dated_rows =
    -- default links: between two others, and with a day of one of them
    (default_as 0 2 30 39, 0)
    ∷ (default_as 0 4 29 39, 11)
    ∷ (default_as 0 4 30 40, 11)
    ∷ (default_as 0 4 0 0, 0)
    ∷ (default_as 0 4 0xffff 0xffff, 0)
    -- the same technical issuer, with a day in common and without
    ∷ (default_as 0 2 19 39, 9)
    ∷ (default_as 0 2 9 10, 9)
    ∷ (alternative_as 0 2 20 29, 0)
    -- alternatives: over two defaults that follow one another; a day too many, before, behind and between
    ∷ (alternative_as 0 4 10 29, 0)
    ∷ (alternative_as 0 4 9 29, 11)
    ∷ (alternative_as 0 4 10 30, 11)
    ∷ (alternative_as 0 4 10 41, 11)
    -- issuer on some days and investor on others
    ∷ (issuer_as 0 11 30 39, 0)
    ∷ (issuer_as 0 11 29 39, 11)
    ∷ (default_as 2 4 5 5, 11)
    -- a first day after the last: no other link shares a day with it, and 10 is given before
    ∷ (default_as 0 2 15 14, 24)
    ∷ (alternative_as 0 4 36 35, 24)
    ∷ (issuer_as 0 0 36 35, 10)
    ∷ []

-- the directory is sound, its chains by days, its contra accounts by days, and what refuses links after it
pub record DaysShown : Type 0 where
  pub sound : sound_rows dated ≡ true
  pub issuer : map (λ (x : ℕ × Chain). chain (ask (on_day x.0 dated)) 0 0 2) to_the_issuer ≡ map (λ (x : ℕ × Chain). x.1) to_the_issuer
  pub alternative : map (λ (x : ℕ × Chain). chain (ask (on_day x.0 dated)) 0 0 1) by_the_alternative ≡ map (λ (x : ℕ × Chain). x.1) by_the_alternative
  pub brought_in : map (λ (x : ℕ × Option ℕ). contra (ask (on_day x.0 dated)) 0 0 0) brought_in_by ≡ map (λ (x : ℕ × Option ℕ). x.1) brought_in_by
  pub refusals : map (λ (x : Link × ℕ). first_of (row_conditions dated (link_row x.0))) dated_rows ≡ map (λ (x : Link × ℕ). x.1) dated_rows

-- ---- Ask 6, "Taking a delivery back"

-- "The store is one reached by calls from empty": each of its positions and balances lies within ±10^15
pub record ReachedWithin : Type 0 where
  pub positions : (cs : List Call) (s a : ℕ) → s < security_limit → Within (held_in (run cs).store.positions s a)
  pub cash : (cs : List Call) (a : ℕ) → Within (cash_on (run cs).store.cash a)

-- a step with debit and credit exchanged
abbrev pub exchanged : Step → Step
exchanged x = step x.csd x.credited x.debited

-- the steps of a chain from its other end: in reverse order, each with debit and credit exchanged
abbrev pub from_the_other_end : List Step → List Step
from_the_other_end steps = reverse (map exchanged steps)

-- "This is wanted for chains of one step, for default chains, and where just one of the two directed walks reaches": of a chain of K steps for the security s
-- between the CSDs D, which delivers, and R, which receives
pub data Wanted (r : Rows) (s D R K : ℕ) : Type 0 where
  -- "chains of one step"
  one_step : K ≡ 1 → Wanted r s D R K
  -- "default chains": the two default walks meet; or neither directed walk reaches, and the ends of the default walks are judged
  defaults_meet : {up down : List ℕ} → Meets r.csds r.links s D R up down → Wanted r s D R K
  defaults_end : NoDirected r.csds r.links s R D → NoDirected r.csds r.links s D R → Wanted r s D R K
  -- "just one of the two directed walks reaches": the one from D to R, or the one from R to D
  just_there : {path : List ℕ} → DirectedWalk r.csds r.links s R D path → NoDirected r.csds r.links s D R → Wanted r s D R K
  just_back : {path : List ℕ} → NoDirected r.csds r.links s R D → DirectedWalk r.csds r.links s D R path → Wanted r s D R K

-- "both reach"
pub record BothReach (r : Rows) (s D R : ℕ) : Type 0 where
  pub there : (path : List ℕ) × DirectedWalk r.csds r.links s R D path
  pub back : (path : List ℕ) × DirectedWalk r.csds r.links s D R path

-- Over the rows of a day of any sound directory, of the chain from the account a to the account b:
pub record ChainTurns : Type 0 where
  -- where it is wanted, the chain from b to a is the same from the other end
  pub turns : (d : Directory) (day s a b : ℕ) (steps : List Step) → Sound d → ChainIs (rows_on day d) s a b steps
      → Wanted (rows_on day d) s (home_of (rows_of d).accounts a) (home_of (rows_of d).accounts b) (length steps)
      → ChainIs (rows_on day d) s b a (from_the_other_end steps)
  -- and it is wanted unless both directed walks reach
  pub unless : (d : Directory) (day s a b : ℕ) (steps : List Step) → Sound d → ChainIs (rows_on day d) s a b steps
      → Wanted (rows_on day d) s (home_of (rows_of d).accounts a) (home_of (rows_of d).accounts b) (length steps)
      ⊎ BothReach (rows_on day d) s (home_of (rows_of d).accounts a) (home_of (rows_of d).accounts b)

-- the pair of the half h, which delivers, and g, which receives, is one for which it is wanted
abbrev pub WantedOf : Store → ℕ → Half → Half → ℕ → Type 0
WantedOf st day h g K =
    Wanted (rows_on day st.directory) h.security (home_of (rows_of st.directory).accounts h.account) (home_of (rows_of st.directory).accounts g.account) K

-- the outcome of the opposite pair, after the pair of h and g has been booked with K steps over the store st
pub record TakesBack (st : Store) (day : ℕ) (h g : Half) (K : ℕ) (lent : List Step) (o : Outcome) : Type 0 where
  -- "is accepted"
  pub answer : o.answer ≡ Booked K
  -- with the steps of the pair's chain from the other end
  pub chain : List Step
  pub booked : ChainOfHalves st day h g chain
  pub steps : o.steps ≡ written (from_the_other_end chain) lent
  -- "and restores every position and balance", the directory being as it was
  pub store : o.store ≡ st

-- "after a booked pair the opposite one, same security, quantity, amount and day, settled as the next call": h delivers and g receives in the pair, g delivers and
-- h receives in the opposite one, and the halves of a booked pair have the same security, quantity and amount. The pair is the last of a list of calls from the empty
-- store. "every call is lent at least 16 steps": the pair was, since it is booked.
pub record TakingBack : Type 0 where
  pub restores : (cs : List Call) (pair opposite : Halves) (h g : Half) (day K : ℕ) (lent again : List Step)
      → Delivers pair h g → Delivers opposite g h → step_limit ≤ length again
      → (desk (settle pair day lent) (run cs).store).answer ≡ Booked K → WantedOf (run cs).store day h g K
      → TakesBack (run cs).store day h g K again (desk (settle opposite day again) (desk (settle pair day lent) (run cs).store).store)

-- "where both reach, the way back may be another chain": so in the directory of `Examples: AnotherWayBack`, where it is wanted neither of the chain there nor of
-- the one back
pub record BothReachShown : Type 0 where
  pub both : BothReach (on_day 0 both_reach) 0 A B
  pub there : Wanted (on_day 0 both_reach) 0 A B (length way_there) → ⊥
  pub back : Wanted (on_day 0 both_reach) 0 B A (length way_back) → ⊥
