-- What refuses a call, in the documents' words: for each call and each number of 'Refusals by place' a constructor for every way in which the
-- number applies. Nothing is computed here; demand 2 says that the conditions of Entries, Booking and Calls hold exactly where these do.
use Rattle.std.specs.Prelude.{◌≡◌, ◌≢◌, ◌⊎◌, ℕ, ◌+◌, ◌*◌, ◌≤◌, ◌<◌, ℤ, pos, neg_ℤ, ◌+ℤ◌, ◌-ℤ◌, ◌<ℤ◌, length, take}
use mathlib.Core.List.{List, [], ◌∷◌, ◌++◌, reverse, Memᴰ}
use Rattle.rules.specs.Types.{Csd, Security, Account, Pair, Link, Directory, Half, SidedHalf, Step, WalkEnd, Inside, Outside, NoLink, Join}
use Rattle.rules.specs.Identifiers.{byte_at}
use Rattle.rules.specs.Directory.{Rows, rows_of, rows_on, csd_limit, security_limit, account_limit, pair_limit, link_limit, no_csd, no_account}
use Rattle.rules.specs.Lookups.{home_of}
use Rattle.rules.specs.Entries.{Row, csd_row, security_row, account_row, pair_row, link_row}
use Rattle.rules.specs.Chain.{step_limit}
use Rattle.rules.specs.Booking.{Way, outgoing, limit, position_count, cash_count, held_in, cash_on, move_step, payment}
use Rattle.rules.specs.Calls.{Halves, ordered, sided, Store, Call, enter, move, pay, settle, derive, delivering_side, receiving_side}
use Rattle.rules.specs.Relations.{Is, External, InT2S, IssuerOf, DefaultOf, LinkTo, NoIssuer, DefaultWalk, NoMeeting, NoDirected, Joins, ChainIs}

-- ---- the numbers

-- the numbers before 14; 24 stands "just before 11", 23 "just before 12"
abbrev pub before_chain : List ℕ
before_chain = 3 ∷ 4 ∷ 5 ∷ 6 ∷ 7 ∷ 8 ∷ 9 ∷ 10 ∷ 24 ∷ 11 ∷ 23 ∷ 12 ∷ 13 ∷ []

-- "Refusals by place": the numbers in the order of their places
abbrev pub places : List ℕ
places = before_chain ++ (14 ∷ 15 ∷ 16 ∷ 17 ∷ 18 ∷ 19 ∷ 20 ∷ 21 ∷ 22 ∷ [])

-- none of them applies
abbrev pub NoneApplies : (ℕ → Type 0) → Type 0
NoneApplies applies = (n : ℕ) → Memᴰ n places → applies n → ⊥

-- n applies, and no number before it does
pub data First (applies : ℕ → Type 0) (n : ℕ) : List ℕ → Type 0 where
  now : {ns : List ℕ} → applies n → First applies n (n ∷ ns)
  later : {m : ℕ} {ns : List ℕ} → (applies m → ⊥) → First applies n ns → First applies n (m ∷ ns)

-- ---- rows

-- the "number names no row"
abbrev pub NoRow : {A : Type 0} → List A → ℕ → Type 0
NoRow rows n = length rows ≤ n

-- a participant or omnibus account
abbrev pub ParticipantOrOmnibus : List Account → ℕ → Type 0
ParticipantOrOmnibus acc a = (x : Account) × Is acc a x × ((x.kind ≡ 0) ⊎ (x.kind ≡ 1))

-- "beyond ±10^15"
abbrev pub Beyond : ℤ → Type 0
Beyond z = (pos limit <ℤ z) ⊎ (z <ℤ neg_ℤ (pos limit))

-- ---- BIC and ISIN

-- A to Z
abbrev pub Capital : ℕ → Type 0
Capital c = (65 ≤ c) × (c ≤ 90)

-- 0 to 9
abbrev pub Digit : ℕ → Type 0
Digit c = (48 ≤ c) × (c ≤ 57)

-- "capitals or digits"
abbrev pub CapitalOrDigit : ℕ → Type 0
CapitalOrDigit c = Capital c ⊎ Digit c

-- the first n bytes are the same
abbrev pub Same : ℕ → List ℕ → List ℕ → Type 0
Same n a b = (k : ℕ) → k < n → byte_at a k ≡ byte_at b k

-- characters and the digits that they give: "Letters become 10 to 35, each written as two digits"
pub data Spelt : List ℕ → List ℕ → Type 0 where
  none : Spelt [] []
  letter : {c : ℕ} {cs ds : List ℕ} (t u : ℕ) → Capital c → c ≡ 55 + (10 * t + u) → u < 10 → Spelt cs ds → Spelt (c ∷ cs) (t ∷ u ∷ ds)
  digit : {c d : ℕ} {cs ds : List ℕ} → Digit c → c ≡ 48 + d → Spelt cs ds → Spelt (c ∷ cs) (d ∷ ds)

-- digits from the right and their sum: "every other digit, the first included, is doubled and its digits added"
pub data Adds : List ℕ → ℕ → Type 0 where
  none : Adds [] 0
  one : {d : ℕ} (t u : ℕ) → 2 * d ≡ 10 * t + u → u < 10 → Adds (d ∷ []) (t + u)
  two : {d e n : ℕ} {ds : List ℕ} (t u : ℕ) → 2 * d ≡ 10 * t + u → u < 10 → Adds ds n → Adds (d ∷ e ∷ ds) (t + u + (e + n))

-- ---- the five entries, after the rows before them

-- 01: a CSD
pub data CsdRefused (cs : List Csd) (x : Csd) : ℕ → Type 0 where
  csds_full : csd_limit ≤ length cs → CsdRefused cs x 5
  neither_type : x.external ≢ 0 → x.external ≢ 1 → CsdRefused cs x 7
  no_bic : (k : ℕ) → k < 11 → (CapitalOrDigit (byte_at x.bic k) → ⊥) → CsdRefused cs x 7
  -- "All 11 bytes decide from now on whether two BICs are the same"
  bic_entered : (y : Csd) → Memᴰ y cs → Same 11 y.bic x.bic → CsdRefused cs x 9

-- 02: a security
pub data SecurityRefused (ss : List Security) (x : Security) : ℕ → Type 0 where
  securities_full : security_limit ≤ length ss → SecurityRefused ss x 5
  no_capital : (k : ℕ) → k < 2 → (Capital (byte_at x.isin k) → ⊥) → SecurityRefused ss x 7
  no_capital_or_digit : (k : ℕ) → 2 ≤ k → k < 11 → (CapitalOrDigit (byte_at x.isin k) → ⊥) → SecurityRefused ss x 7
  no_check_digit : (Digit (byte_at x.isin 11) → ⊥) → SecurityRefused ss x 7
  -- "with the check digit the sum is a multiple of 10"
  wrong_check_digit : (ds : List ℕ) (sum check : ℕ) → Spelt (take 11 x.isin) ds → Adds (reverse ds) sum → byte_at x.isin 11 ≡ 48 + check → ((m : ℕ) → sum + check ≢ 10 * m) → SecurityRefused ss x 8
  isin_entered : (y : Security) → Memᴰ y ss → Same 12 y.isin x.isin → SecurityRefused ss x 9

-- 03: an account
pub data AccountRefused (cs : List Csd) (acc : List Account) (x : Account) : ℕ → Type 0 where
  accounts_full : account_limit ≤ length acc → AccountRefused cs acc x 5
  home_unknown : NoRow cs x.csd → AccountRefused cs acc x 6
  no_kind : 4 < x.kind → AccountRefused cs acc x 7
  home_external : External cs x.csd → AccountRefused cs acc x 10

-- the account is one of the row's two; of hex FFFF "Neither ever counts as already entered or shared", and "A served account doesn't count as
-- shared."
pub data Uses (p : Pair) (a : ℕ) : Type 0 where
  as_mirror : p.mirror ≡ a → a ≢ no_account → Uses p a
  as_omnibus : p.omnibus ≡ a → a ≢ no_account → Uses p a

-- "Rows of the same two CSDs may share both accounts"
pub record SharesBoth (x p : Pair) : Type 0 where
  pub investor : p.investor ≡ x.investor
  pub technical : p.technical ≡ x.technical
  pub mirror : p.mirror ≡ x.mirror
  pub omnibus : p.omnibus ≡ x.omnibus

-- "those with an external issuer the inter-CSD account alone"
pub record SharesInterCsd (x p : Pair) : Type 0 where
  pub investor : p.investor ≡ x.investor
  pub technical : p.technical ≡ x.technical
  pub inter_csd : p.mirror ≡ x.mirror
  pub alone : p.omnibus ≡ no_account

-- "no row for the triplet": investor, technical issuer, account served
abbrev pub NoPair : List Pair → ℕ → ℕ → ℕ → Type 0
NoPair ps i t a = (p : Pair) → Memᴰ p ps → p.investor ≡ i → p.technical ≡ t → p.served ≢ a

-- 0E: a pair. "Technical issuer in T2S: a mirror in the investor's books, an omnibus in the other's. External: an inter-CSD account, and
-- hex FFFF for none." (01) It serves "a participant or omnibus account of the investor CSD" (02).
pub data PairRefused (cs : List Csd) (acc : List Account) (ps : List Pair) (x : Pair) : ℕ → Type 0 where
  pairs_full : pair_limit ≤ length ps → PairRefused cs acc ps x 5
  investor_unknown : NoRow cs x.investor → PairRefused cs acc ps x 6
  technical_unknown : NoRow cs x.technical → PairRefused cs acc ps x 6
  first_unknown : NoRow acc x.mirror → PairRefused cs acc ps x 6
  second_unknown : NoRow acc x.omnibus → x.omnibus ≢ no_account → PairRefused cs acc ps x 6
  second_due : NoRow acc x.omnibus → InT2S cs x.technical → PairRefused cs acc ps x 6
  served_unknown : NoRow acc x.served → PairRefused cs acc ps x 6
  -- "9 the same triplet or a sharing not allowed"
  triplet_entered : (p : Pair) → Memᴰ p ps → p.investor ≡ x.investor → p.technical ≡ x.technical → p.served ≡ x.served → PairRefused cs acc ps x 9
  mirror_shared : InT2S cs x.technical → (p : Pair) → Memᴰ p ps → Uses p x.mirror → (SharesBoth x p → ⊥) → PairRefused cs acc ps x 9
  inter_csd_shared : External cs x.technical → (p : Pair) → Memᴰ p ps → Uses p x.mirror → (SharesInterCsd x p → ⊥) → PairRefused cs acc ps x 9
  omnibus_shared : (p : Pair) → Memᴰ p ps → Uses p x.omnibus → (SharesBoth x p → ⊥) → PairRefused cs acc ps x 9
  first_of_other : (y : Account) → Is acc x.mirror y → y.csd ≢ x.investor → PairRefused cs acc ps x 10
  no_inter_csd : External cs x.technical → (y : Account) → Is acc x.mirror y → y.kind ≢ 3 → PairRefused cs acc ps x 10
  no_mirror : InT2S cs x.technical → (y : Account) → Is acc x.mirror y → y.kind ≢ 2 → PairRefused cs acc ps x 10
  second_of_other : InT2S cs x.technical → (y : Account) → Is acc x.omnibus y → y.csd ≢ x.technical → PairRefused cs acc ps x 10
  no_omnibus : InT2S cs x.technical → (y : Account) → Is acc x.omnibus y → y.kind ≢ 1 → PairRefused cs acc ps x 10
  served_of_other : (y : Account) → Is acc x.served y → y.csd ≢ x.investor → PairRefused cs acc ps x 10
  neither_served : (y : Account) → Is acc x.served y → y.kind ≢ 0 → y.kind ≢ 1 → PairRefused cs acc ps x 10
  same_csd : x.investor ≡ x.technical → PairRefused cs acc ps x 11
  second_not_due : External cs x.technical → x.omnibus ≢ no_account → PairRefused cs acc ps x 11

-- an entered link of the CSD for the security
pub record Linked (ls : List Link) (s c : ℕ) (l : Link) : Type 0 where
  pub entered : Memᴰ l ls
  pub security : l.security ≡ s
  pub csd : l.csd ≡ c

-- the link is valid on the day: "a first and last day .., both included"
pub record ValidOn (day : ℕ) (l : Link) : Type 0 where
  pub begun : l.first ≤ day
  pub not_over : day ≤ l.last

-- "two periods share a day"
abbrev pub ShareDay : Link → Link → Type 0
ShareDay x l = (day : ℕ) × ValidOn day x × ValidOn day l

-- 05: a link. "The rules on one default, other technical issuers and issuer links are judged wherever two periods share a day" (02)
pub data LinkRefused (cs : List Csd) (ss : List Security) (acc : List Account) (ls : List Link) (x : Link) : ℕ → Type 0 where
  links_full : link_limit ≤ length ls → LinkRefused cs ss acc ls x 5
  security_unknown : NoRow ss x.security → LinkRefused cs ss acc ls x 6
  csd_unknown : NoRow cs x.csd → LinkRefused cs ss acc ls x 6
  issuer_unknown : NoRow cs x.technical → x.technical ≢ no_csd → LinkRefused cs ss acc ls x 6
  issuer_due : NoRow cs x.technical → x.kind ≡ 1 → LinkRefused cs ss acc ls x 6
  account_unknown : NoRow acc x.account → x.account ≢ no_account → LinkRefused cs ss acc ls x 6
  account_due : NoRow acc x.account → x.kind ≡ 0 → InT2S cs x.csd → LinkRefused cs ss acc ls x 6
  neither_kind : x.kind ≢ 0 → x.kind ≢ 1 → LinkRefused cs ss acc ls x 7
  neither_flag : x.flag ≢ 0 → x.flag ≢ 1 → LinkRefused cs ss acc ls x 7
  issuer_entered : (l : Link) → LinkTo cs ls x.security x.technical x.csd l → ShareDay x l → x.technical ≢ no_csd → LinkRefused cs ss acc ls x 9
  -- "An issuer link has technical issuer hex FF, flag 1, and an issuance account of its CSD (hex FFFF if external); that CSD has no other
  -- link for the security."
  account_of_other : x.kind ≡ 0 → InT2S cs x.csd → (y : Account) → Is acc x.account y → y.csd ≢ x.csd → LinkRefused cs ss acc ls x 10
  no_issuance : x.kind ≡ 0 → InT2S cs x.csd → (y : Account) → Is acc x.account y → y.kind ≢ 4 → LinkRefused cs ss acc ls x 10
  first_after_last : x.last < x.first → LinkRefused cs ss acc ls x 24
  issuer_not_due : x.kind ≡ 0 → x.technical ≢ no_csd → LinkRefused cs ss acc ls x 11
  issuer_flag : x.kind ≡ 0 → x.flag ≢ 1 → LinkRefused cs ss acc ls x 11
  account_not_due : x.kind ≡ 0 → External cs x.csd → x.account ≢ no_account → LinkRefused cs ss acc ls x 11
  beside_link : x.kind ≡ 0 → (l : Link) → Linked ls x.security x.csd l → ShareDay x l → LinkRefused cs ss acc ls x 11
  -- "An investor link has another CSD as technical issuer and FFFF."
  own_issuer : x.kind ≡ 1 → x.technical ≡ x.csd → LinkRefused cs ss acc ls x 11
  account_given : x.kind ≡ 1 → x.account ≢ no_account → LinkRefused cs ss acc ls x 11
  beside_issuer : x.kind ≡ 1 → (l : Link) → IssuerOf cs ls x.security x.csd l → ShareDay x l → LinkRefused cs ss acc ls x 11
  -- "one default"
  two_defaults : x.kind ≡ 1 → x.flag ≡ 1 → (l : Link) → DefaultOf cs ls x.security x.csd l → ShareDay x l → LinkRefused cs ss acc ls x 11
  -- "an alternative needs a default on each of its days" (02): on this one it has none
  day_without_default : x.kind ≡ 1 → x.flag ≡ 0 → (day : ℕ) → ValidOn day x → ((l : Link) → DefaultOf cs ls x.security x.csd l → ValidOn day l → ⊥) → LinkRefused cs ss acc ls x 11
  -- "an alternative joins two CSDs in T2S" (01)
  from_external : x.kind ≡ 1 → x.flag ≡ 0 → External cs x.csd → LinkRefused cs ss acc ls x 11
  to_external : x.kind ≡ 1 → x.flag ≡ 0 → External cs x.technical → LinkRefused cs ss acc ls x 11

-- an entry of a row into a directory
abbrev pub RowRefused : Rows → Row → ℕ → Type 0
RowRefused r (csd_row x) = CsdRefused r.csds x
RowRefused r (security_row x) = SecurityRefused r.securities x
RowRefused r (account_row x) = AccountRefused r.csds r.accounts x
RowRefused r (pair_row x) = PairRefused r.csds r.accounts r.pairs x
RowRefused r (link_row x) = LinkRefused r.csds r.securities r.accounts r.links x

-- ---- the directory and the lent lists

-- "each row .. would be accepted after the rows before it"
abbrev pub InOrder : {A : Type 0} → (List A → A → ℕ → Type 0) → List A → Type 0
InOrder {A} refused rows = (before after : List A) (x : A) → rows ≡ before ++ (x ∷ after) → NoneApplies (refused before x)

-- "A directory is sound when counts are within limits and each row, tables taken in this order, would be accepted after the rows before it."
pub record Sound (d : Directory) : Type 0 where
  pub csd_count : d.csds.count ≤ csd_limit
  pub security_count : d.securities.count ≤ security_limit
  pub account_count : d.accounts.count ≤ account_limit
  pub pair_count : d.pairs.count ≤ pair_limit
  pub link_count : d.links.count ≤ link_limit
  pub csds : InOrder CsdRefused (rows_of d).csds
  pub securities : InOrder SecurityRefused (rows_of d).securities
  pub accounts : InOrder (AccountRefused (rows_of d).csds) (rows_of d).accounts
  pub pairs : InOrder (PairRefused (rows_of d).csds (rows_of d).accounts) (rows_of d).pairs
  pub links : InOrder (LinkRefused (rows_of d).csds (rows_of d).securities (rows_of d).accounts) (rows_of d).links

-- "positions not 4,096, cash not 256, steps below 16", for the lists that a call is lent
pub data Misfits (st : Store) : Call → Type 0 where
  move_positions : {w : Way} {a s q day : ℕ} → length st.positions ≢ position_count → Misfits st (move w a s q day)
  pay_cash : {w : Way} {a m : ℕ} → length st.cash ≢ cash_count → Misfits st (pay w a m)
  settle_positions : {hs : Halves} {day : ℕ} {lent : List Step} → length st.positions ≢ position_count → Misfits st (settle hs day lent)
  settle_cash : {hs : Halves} {day : ℕ} {lent : List Step} → length st.cash ≢ cash_count → Misfits st (settle hs day lent)
  settle_steps : {hs : Halves} {day : ℕ} {lent : List Step} → length lent < step_limit → Misfits st (settle hs day lent)
  derive_steps : {hs : Halves} {day : ℕ} {lent : List Step} → length lent < step_limit → Misfits st (derive hs day lent)

-- ---- 06 to 09

-- the account that a bring-in on the account a of the CSD c debits: "in its CSD, the issuance account of its issuer link, else the inter-CSD account
-- of its default link to an external CSD" (01); "bring in and take out use the participant's row" (02)
pub data ContraOf (r : Rows) (s c a : ℕ) : ℕ → Type 0 where
  issuance : (l : Link) → IssuerOf r.csds r.links s c l → ContraOf r s c a l.account
  inter_csd : (l : Link) (p : Pair) → NoIssuer r.csds r.links s c → DefaultOf r.csds r.links s c l → External r.csds l.technical
      → Memᴰ p r.pairs → p.investor ≡ c → p.technical ≡ l.technical → p.served ≡ a → ContraOf r s c a p.mirror

-- a step that q units of s are short for: "A debited participant or omnibus position must not fall below 0"
pub record Short (acc : List Account) (p : List ℤ) (s q : ℕ) (x : Step) : Type 0 where
  pub floored : ParticipantOrOmnibus acc x.debited
  pub holds : held_in p s x.debited <ℤ pos q

-- a step by which a number would end beyond ±10^15
pub data Exceeds (p : List ℤ) (s q : ℕ) (x : Step) : Type 0 where
  debited : Beyond (held_in p s x.debited -ℤ pos q) → Exceeds p s q x
  credited : Beyond (held_in p s x.credited +ℤ pos q) → Exceeds p s q x

-- 06, 07: a bring-in or take-out of q units of s on the account a
pub data MoveRefused (r : Rows) (p : List ℤ) (w : Way) (a s q : ℕ) : ℕ → Type 0 where
  move_account : NoRow r.accounts a → MoveRefused r p w a s q 6
  move_security : NoRow r.securities s → MoveRefused r p w a s q 6
  no_quantity : q ≡ 0 → MoveRefused r p w a s q 7
  quantity_beyond : limit < q → MoveRefused r p w a s q 7
  move_kind : (y : Account) → Is r.accounts a y → y.kind ≢ 0 → MoveRefused r p w a s q 10
  -- "no issuer link and no default link to an external CSD, or no pair for it"
  no_link : NoIssuer r.csds r.links s (home_of r.accounts a)
      → ((l : Link) → DefaultOf r.csds r.links s (home_of r.accounts a) l → InT2S r.csds l.technical) → MoveRefused r p w a s q 19
  no_pair : NoIssuer r.csds r.links s (home_of r.accounts a) → (l : Link) → DefaultOf r.csds r.links s (home_of r.accounts a) l
      → External r.csds l.technical → NoPair r.pairs (home_of r.accounts a) l.technical a → MoveRefused r p w a s q 19
  move_short : (u : ℕ) → ContraOf r s (home_of r.accounts a) a u → Short r.accounts p s q (move_step w (home_of r.accounts a) a u) → MoveRefused r p w a s q 20
  move_beyond : (u : ℕ) → ContraOf r s (home_of r.accounts a) a u → Exceeds p s q (move_step w (home_of r.accounts a) a u) → MoveRefused r p w a s q 22

-- 08, 09: an amount m paid in or out on the account a
pub data PayRefused (r : Rows) (c : List ℤ) (w : Way) (a m : ℕ) : ℕ → Type 0 where
  pay_account : NoRow r.accounts a → PayRefused r c w a m 6
  no_amount : m ≡ 0 → PayRefused r c w a m 7
  amount_beyond : limit < m → PayRefused r c w a m 7
  pay_kind : (y : Account) → Is r.accounts a y → y.kind ≢ 0 → PayRefused r c w a m 10
  pay_short : w ≡ outgoing → cash_on c a <ℤ pos m → PayRefused r c w a m 21
  pay_beyond : Beyond (cash_on c a +ℤ (payment w m).0) → PayRefused r c w a m 22

-- ---- 0A to 0D

-- which half delivers and which receives: "two halves, delivering first" (01); "one byte before each half: 0 delivering, 1 receiving", "in either
-- order" (02)
pub data Delivers : Halves → Half → Half → Type 0 where
  by_place : {h g : Half} → Delivers (ordered h g) h g
  first_delivers : {x y : SidedHalf} → x.side ≡ delivering_side → y.side ≡ receiving_side → Delivers (sided x y) x.half y.half
  second_delivers : {x y : SidedHalf} → x.side ≡ receiving_side → y.side ≡ delivering_side → Delivers (sided x y) y.half x.half

-- one of the two halves, whatever its side
pub data Among : Half → Halves → Type 0 where
  first : {h g : Half} → Among h (ordered h g)
  second : {h g : Half} → Among g (ordered h g)
  sided_first : {x y : SidedHalf} → Among x.half (sided x y)
  sided_second : {x y : SidedHalf} → Among y.half (sided x y)

-- one half: 6, 7 and 10
pub data HalfRefused (r : Rows) (h : Half) : ℕ → Type 0 where
  half_account : NoRow r.accounts h.account → HalfRefused r h 6
  half_counterpart : NoRow r.csds h.counterpart → HalfRefused r h 6
  half_security : NoRow r.securities h.security → HalfRefused r h 6
  half_no_quantity : h.quantity ≡ 0 → HalfRefused r h 7
  half_quantity : limit < h.quantity → HalfRefused r h 7
  half_amount : limit < h.amount → HalfRefused r h 7
  half_kind : (y : Account) → Is r.accounts h.account y → y.kind ≢ 0 → HalfRefused r h 10

-- the side bytes: "It refuses with 23 .. two halves of the same side; another byte value is 7."
pub data SidesRefused : Halves → ℕ → Type 0 where
  first_side : {x y : SidedHalf} → x.side ≢ delivering_side → x.side ≢ receiving_side → SidesRefused (sided x y) 7
  second_side : {x y : SidedHalf} → y.side ≢ delivering_side → y.side ≢ receiving_side → SidesRefused (sided x y) 7
  one_side : {x y : SidedHalf} → x.side ≡ y.side → SidesRefused (sided x y) 23

-- h delivers, g receives: "security, quantity, amount differ, or a counterpart isn't the other's CSD"; "both accounts the same"
pub data BothRefused (r : Rows) (h g : Half) : ℕ → Type 0 where
  securities : h.security ≢ g.security → BothRefused r h g 12
  quantities : h.quantity ≢ g.quantity → BothRefused r h g 12
  amounts : h.amount ≢ g.amount → BothRefused r h g 12
  receiver_csd : (y : Account) → Is r.accounts g.account y → y.csd ≢ h.counterpart → BothRefused r h g 12
  deliverer_csd : (y : Account) → Is r.accounts h.account y → y.csd ≢ g.counterpart → BothRefused r h g 12
  same_account : h.account ≡ g.account → BothRefused r h g 13

-- all of these
pub data HalvesRefused (r : Rows) (hs : Halves) : ℕ → Type 0 where
  each : {n : ℕ} (h : Half) → Among h hs → HalfRefused r h n → HalvesRefused r hs n
  sides : {n : ℕ} → SidesRefused hs n → HalvesRefused r hs n
  both : {n : ℕ} (h g : Half) → Delivers hs h g → BothRefused r h g n → HalvesRefused r hs n

-- the chain's cases 1 to 3 give none
pub record Unjoined (r : Rows) (s D R : ℕ) : Type 0 where
  pub differ : D ≢ R
  pub no_meeting : NoMeeting r.csds r.links s D R
  pub not_ahead : NoDirected r.csds r.links s R D
  pub not_back : NoDirected r.csds r.links s D R

-- "nine are too long, and so is A to C to A": no default walk of at most 8 CSDs from c ends
abbrev pub TooLong : Rows → ℕ → ℕ → Type 0
TooLong r s c = (path : List ℕ) (e : WalkEnd) → DefaultWalk r.csds r.links s c path e → ⊥

-- a side that stands on the account a goes on from a CSD to the next, and no row serves the account: here, or above it, from the omnibus of the row
-- that serves it here
pub data Unpaired (ps : List Pair) : List ℕ → ℕ → Type 0 where
  between : {c n a : ℕ} {path : List ℕ} → NoPair ps c n a → Unpaired ps (c ∷ n ∷ path) a
  above : {c n a : ℕ} {path : List ℕ} (p : Pair) → Memᴰ p ps → p.investor ≡ c → p.technical ≡ n → p.served ≡ a
      → Unpaired ps (n ∷ path) p.omnibus → Unpaired ps (c ∷ n ∷ path) a

-- the chain for the security s from the account a of the CSD D to the account b of the CSD R
pub data ChainRefused (r : Rows) (s D R a b : ℕ) : ℕ → Type 0 where
  delivering_unlinked : Unjoined r s D R → (path : List ℕ) → DefaultWalk r.csds r.links s D path NoLink → ChainRefused r s D R a b 14
  receiving_unlinked : Unjoined r s D R → (path : List ℕ) → DefaultWalk r.csds r.links s R path NoLink → ChainRefused r s D R a b 14
  delivering_too_long : Unjoined r s D R → TooLong r s D → ChainRefused r s D R a b 15
  receiving_too_long : Unjoined r s D R → TooLong r s R → ChainRefused r s D R a b 15
  -- "D inside, R outside; the reverse"
  inside_outside : Unjoined r s D R → (up down : List ℕ) (i y : ℕ) → DefaultWalk r.csds r.links s D up (Inside i) → DefaultWalk r.csds r.links s R down (Outside y) → ChainRefused r s D R a b 16
  outside_inside : Unjoined r s D R → (up down : List ℕ) (x j : ℕ) → DefaultWalk r.csds r.links s D up (Outside x) → DefaultWalk r.csds r.links s R down (Inside j) → ChainRefused r s D R a b 17
  -- "18 means no row for the triplet"
  up_unpaired : (j : Join) (up down : List ℕ) → Joins r.csds r.links s D R j up down → Unpaired r.pairs up a → ChainRefused r s D R a b 18
  down_unpaired : (j : Join) (up down : List ℕ) → Joins r.csds r.links s D R j up down → Unpaired r.pairs down b → ChainRefused r s D R a b 18

-- a derivation
pub data DeriveRefused (r : Rows) (hs : Halves) : ℕ → Type 0 where
  halves : {n : ℕ} → HalvesRefused r hs n → DeriveRefused r hs n
  chain : {n : ℕ} (h g : Half) → Delivers hs h g → ChainRefused r h.security (home_of r.accounts h.account) (home_of r.accounts g.account) h.account g.account n
      → DeriveRefused r hs n

-- the booking of h, which delivers, and g, which receives, "judged on the store before the call"; "amount 0 touches none"
pub data BookRefused (r : Rows) (p c : List ℤ) (h g : Half) : ℕ → Type 0 where
  securities_short : (steps : List Step) (x : Step) → ChainIs r h.security h.account g.account steps → Memᴰ x steps
      → Short r.accounts p h.security h.quantity x → BookRefused r p c h g 20
  cash_short : h.amount ≢ 0 → cash_on c g.account <ℤ pos h.amount → BookRefused r p c h g 21
  securities_beyond : (steps : List Step) (x : Step) → ChainIs r h.security h.account g.account steps → Memᴰ x steps → Exceeds p h.security h.quantity x → BookRefused r p c h g 22
  payer_beyond : h.amount ≢ 0 → Beyond (cash_on c g.account -ℤ pos h.amount) → BookRefused r p c h g 22
  payee_beyond : h.amount ≢ 0 → Beyond (cash_on c h.account +ℤ pos h.amount) → BookRefused r p c h g 22

-- a settlement
pub data SettleRefused (r : Rows) (p c : List ℤ) (hs : Halves) : ℕ → Type 0 where
  derivation : {n : ℕ} → DeriveRefused r hs n → SettleRefused r p c hs n
  booking : {n : ℕ} (h g : Half) → Delivers hs h g → BookRefused r p c h g n → SettleRefused r p c hs n

-- ---- any call

-- from 5 on
abbrev pub CoreRefused : Call → Store → ℕ → Type 0
CoreRefused (enter x) st = RowRefused (rows_of st.directory) x
CoreRefused (move w a s q day) st = MoveRefused (rows_on day st.directory) st.positions w a s q
CoreRefused (pay w a m) st = PayRefused (rows_of st.directory) st.cash w a m
CoreRefused (settle hs day lent) st = SettleRefused (rows_on day st.directory) st.positions st.cash hs
CoreRefused (derive hs day lent) st = DeriveRefused (rows_on day st.directory) hs

-- the number n applies to the call
pub data Applies (c : Call) (st : Store) : ℕ → Type 0 where
  lists : Misfits st c → Applies c st 3
  directory : (Sound st.directory → ⊥) → Applies c st 4
  core : {n : ℕ} → CoreRefused c st n → Applies c st n

-- the total of a security
pub data UnitsTotalRefused (d : Directory) (p : List ℤ) (s : ℕ) : ℕ → Type 0 where
  total_positions : length p ≢ position_count → UnitsTotalRefused d p s 3
  total_directory : (Sound d → ⊥) → UnitsTotalRefused d p s 4
  total_security : NoRow (rows_of d).securities s → UnitsTotalRefused d p s 6
  -- "Totals over a lent number beyond ±10^15 are refused 22."
  total_beyond : (a : ℕ) (y : Account) → a < account_limit → Is (rows_of d).accounts a y → y.kind ≡ 0 → Beyond (held_in p s a) → UnitsTotalRefused d p s 22

-- the total of cash
pub data CashTotalRefused (c : List ℤ) : ℕ → Type 0 where
  total_cash : length c ≢ cash_count → CashTotalRefused c 3
  cash_beyond : (a : ℕ) → a < cash_count → Beyond (cash_on c a) → CashTotalRefused c 22
