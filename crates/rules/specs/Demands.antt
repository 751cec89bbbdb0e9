-- The customer's three demands as claims about the definitions. Each is proved in proofs/; a reader holds them against his words.
use Rattle.std.specs.Prelude.{◌≡◌, ◌≢◌, Bool, true, false, cond, ℕ, ◌≤◌, ◌<◌, ℤ, pos, neg_ℤ, ◌+ℤ◌, ◌-ℤ◌, ◌≤ℤ◌, eqb, length}
use mathlib.Core.List.{List, [], ◌∷◌, ◌++◌, Memᴰ}
use Rattle.rules.specs.Types.{Account, Pair, Directory, Half, Step, Answer, Accepted, Booked, Chained, Refused}
use Rattle.rules.specs.Booking.{SumUnits, SumCents}
use Rattle.rules.specs.Directory.{Rows, rows_of, on_day, rows_on, is_kind, in_books, no_account, account_limit, security_limit}
use Rattle.rules.specs.Entries.{Row, csd_row, security_row, account_row, pair_row, link_row, add_row, Sized}
use Rattle.rules.specs.Lookups.{home_of}
use Rattle.rules.specs.Chain.{step_limit}
use Rattle.rules.specs.Booking.{Way, incoming, outgoing, limit, cash_count, held_in, cash_on, sum, every_account, participants, participant_sum, cash_sum, move_step, payment}
use Rattle.rules.specs.Calls.{Halves, Store, Call, enter, move, pay, settle, derive, Outcome, Item, item, run, desk, core, desk_security_total, desk_cash_total, success, written, lent_steps, is_accepted, number_of, units_number, cents_number, empty_store}
use Rattle.rules.specs.Relations.{Is, ChainIs}
use Rattle.rules.specs.Refusals.{before_chain, places, NoneApplies, First, ParticipantOrOmnibus, Beyond, Sound, Misfits, ContraOf, Delivers, Applies, UnitsTotalRefused, CashTotalRefused}

-- ---- Demand 1: "What it can't accept it refuses by the documents' number; directory, positions, cash and step list are then as before."

-- a number of the documents, or none
abbrev pub Numbered : ℕ → Type 0
Numbered n = n ≢ 0 → Memᴰ n places

-- of one call with its outcome: a refusal is a number of the documents, and leaves everything as it was
pub record Refuses (c : Call) (st : Store) (o : Outcome) : Type 0 where
  pub by_number : is_accepted o.answer ≡ false → Memᴰ (number_of o.answer) places
  pub store_as_before : is_accepted o.answer ≡ false → o.store ≡ st
  pub steps_as_before : is_accepted o.answer ≡ false → o.steps ≡ lent_steps c

-- on every store and operands, with and without the tests 3 and 4. A total is handed nothing that it could change.
pub record Demand1 : Type 0 where
  pub desks : (c : Call) (st : Store) → Refuses c st (desk c st)
  pub cores : (c : Call) (st : Store) → Refuses c st (core c st)
  pub units_totals : (d : Directory) (p : List ℤ) (s : ℕ) → Numbered (units_number (desk_security_total d p s))
  pub cash_totals : (c : List ℤ) → Numbered (cents_number (desk_cash_total c))

-- ---- Demand 2, the chain: "For two halves that nothing before 14 turns away, a derivation returns a chain exactly when document 01's T2S
-- rules give one and its account pairs are entered, and it is that chain"

-- the steps are the chain of the half h, which delivers, and g, which receives, on a day
abbrev pub ChainOfHalves : Store → ℕ → Half → Half → List Step → Type 0
ChainOfHalves st day h g steps = ChainIs (rows_on day st.directory) h.security h.account g.account steps

-- "nothing before 14 turns away"
abbrev pub Admitted : Store → Halves → ℕ → List Step → Type 0
Admitted st hs day lent = (n : ℕ) → Memᴰ n before_chain → Applies (derive hs day lent) st n → ⊥

-- a call has answered this chain, and written it to the step list that it was lent
pub record Returns (o : Outcome) (answer : Answer) (steps lent : List Step) : Type 0 where
  pub answers : o.answer ≡ answer
  pub writes : o.steps ≡ written steps lent
  pub few : length steps ≤ step_limit

-- a chain is answered exactly when the relation gives one, and it is that one; one of the halves delivers and the other receives
pub record Derives (st : Store) (hs : Halves) (day : ℕ) (lent : List Step) : Type 0 where
  pub delivering : Half
  pub receiving : Half
  pub sides : Delivers hs delivering receiving
  pub when_given : (steps : List Step) → ChainOfHalves st day delivering receiving steps → Returns (desk (derive hs day lent) st) (Chained (length steps)) steps lent
  pub only_then : (k : ℕ) → (desk (derive hs day lent) st).answer ≡ Chained k
      → (steps : List Step) × ChainOfHalves st day delivering receiving steps × (k ≡ length steps) × Returns (desk (derive hs day lent) st) (Chained k) steps lent
  pub one : (xs ys : List Step) → ChainOfHalves st day delivering receiving xs → ChainOfHalves st day delivering receiving ys → xs ≡ ys

-- ---- Demand 2, booking: "A pair is booked exactly when its halves agree on two participant accounts, it has a chain with every account
-- pair entered, and holdings, cash and limits allow; all accounts then hold what the rules say."

-- an account that a chain debits or credits
pub data Touched (a : ℕ) : List Step → Type 0 where
  debited : {x : Step} {xs : List Step} → a ≡ x.debited → Touched a (x ∷ xs)
  credited : {x : Step} {xs : List Step} → a ≡ x.credited → Touched a (x ∷ xs)
  later : {x : Step} {xs : List Step} → Touched a xs → Touched a (x ∷ xs)

-- the chain took q units of s from each account that it debits, gave as many to each that it credits, and moved nothing else
pub record MovedUnits (steps : List Step) (s q : ℕ) (before after : List ℤ) : Type 0 where
  pub size : length after ≡ length before
  pub debits : (x : Step) → Memᴰ x steps → held_in after s x.debited ≡ held_in before s x.debited -ℤ pos q
  pub credits : (x : Step) → Memᴰ x steps → held_in after s x.credited ≡ held_in before s x.credited +ℤ pos q
  pub others : (a : ℕ) → (Touched a steps → ⊥) → held_in after s a ≡ held_in before s a
  pub other_securities : (a t : ℕ) → t < security_limit → t ≢ s → held_in after t a ≡ held_in before t a

-- "Receiving cash pays delivering cash", and no other balance moved
pub record MovedCents (payer payee m : ℕ) (before after : List ℤ) : Type 0 where
  pub size : length after ≡ length before
  pub pays : cash_on after payer ≡ cash_on before payer -ℤ pos m
  pub paid : cash_on after payee ≡ cash_on before payee +ℤ pos m
  pub others : (a : ℕ) → a ≢ payer → a ≢ payee → cash_on after a ≡ cash_on before a

-- within ±10^15
abbrev pub Within : ℤ → Type 0
Within z = Beyond z → ⊥

-- "its halves agree on two participant accounts"
pub record Agree (r : Rows) (h g : Half) : Type 0 where
  pub deliverer : (x : Account) × Is r.accounts h.account x × (x.kind ≡ 0)
  pub receiver : (x : Account) × Is r.accounts g.account x × (x.kind ≡ 0)
  pub two : h.account ≢ g.account
  pub receiver_csd : (x : Account) × Is r.accounts g.account x × (x.csd ≡ h.counterpart)
  pub deliverer_csd : (x : Account) × Is r.accounts h.account x × (x.csd ≡ g.counterpart)
  pub security : h.security < length r.securities
  pub same_security : h.security ≡ g.security
  pub quantity : (1 ≤ h.quantity) × (h.quantity ≤ limit)
  pub same_quantity : h.quantity ≡ g.quantity
  pub amount : h.amount ≤ limit
  pub same_amount : h.amount ≡ g.amount

-- "holdings, cash and limits allow"
pub record Allowed (st : Store) (h g : Half) (steps : List Step) : Type 0 where
  pub holdings : (x : Step) → Memᴰ x steps → ParticipantOrOmnibus (rows_of st.directory).accounts x.debited
      → pos h.quantity ≤ℤ held_in st.positions h.security x.debited
  pub cash : h.amount ≢ 0 → pos h.amount ≤ℤ cash_on st.cash g.account
  pub debit_limits : (x : Step) → Memᴰ x steps → Within (held_in st.positions h.security x.debited -ℤ pos h.quantity)
  pub credit_limits : (x : Step) → Memᴰ x steps → Within (held_in st.positions h.security x.credited +ℤ pos h.quantity)
  pub payer_limit : h.amount ≢ 0 → Within (cash_on st.cash g.account -ℤ pos h.amount)
  pub payee_limit : h.amount ≢ 0 → Within (cash_on st.cash h.account +ℤ pos h.amount)

-- everything that a booking needs; h delivers, g receives
pub record Bookable (st : Store) (hs : Halves) (day : ℕ) (lent : List Step) (h g : Half) (steps : List Step) : Type 0 where
  pub fits : Misfits st (settle hs day lent) → ⊥
  pub sound_books : Sound st.directory
  pub sides : Delivers hs h g
  pub agree : Agree (rows_of st.directory) h g
  pub chain : ChainOfHalves st day h g steps
  pub allowed : Allowed st h g steps

-- a booked pair: its answer, its own chain, and every position and balance
pub record BookedPair (st : Store) (hs : Halves) (day : ℕ) (lent : List Step) (h g : Half) (steps : List Step) : Type 0 where
  pub returns : Returns (desk (settle hs day lent) st) (Booked (length steps)) steps lent
  pub directory : (desk (settle hs day lent) st).store.directory ≡ st.directory
  pub positions : MovedUnits steps h.security h.quantity st.positions (desk (settle hs day lent) st).store.positions
  pub cash : MovedCents g.account h.account h.amount st.cash (desk (settle hs day lent) st).store.cash

-- booked exactly when bookable
pub record Books (st : Store) (hs : Halves) (day : ℕ) (lent : List Step) : Type 0 where
  pub when_bookable : (h g : Half) (steps : List Step) → Bookable st hs day lent h g steps → BookedPair st hs day lent h g steps
  pub only_then : (k : ℕ) → (desk (settle hs day lent) st).answer ≡ Booked k
      → (h g : Half) × (steps : List Step) × Bookable st hs day lent h g steps × (k ≡ length steps) × BookedPair st hs day lent h g steps

-- ---- Demand 2, every call: "accepted exactly when no number applies, and then changes what the document says and no more"

-- the number answered, 0 for none: 0 exactly when no number applies, else the first in the order of places that does
pub record Decides (applies : ℕ → Type 0) (number : ℕ) : Type 0 where
  pub when_clear : NoneApplies applies → number ≡ 0
  pub only_then : number ≡ 0 → NoneApplies applies
  pub when_first : (n : ℕ) → First applies n places → number ≡ n
  pub is_first : number ≢ 0 → First applies number places

-- a call goes by its number alone
pub record Ruled (c : Call) (st : Store) : Type 0 where
  pub number : Decides (Applies c st) (number_of (desk c st).answer)
  pub accepted : number_of (desk c st).answer ≡ 0 → (desk c st).answer ≡ success c st

-- so does a total: the sum, or the refusal
pub record Totalled : Type 0 where
  pub units : (d : Directory) (p : List ℤ) (s : ℕ) → Decides (UnitsTotalRefused d p s) (units_number (desk_security_total d p s))
  pub units_sum : (d : Directory) (p : List ℤ) (s : ℕ) → units_number (desk_security_total d p s) ≡ 0
      → desk_security_total d p s ≡ SumUnits (participant_sum (is_kind (rows_of d).accounts) p s)
  pub cents : (c : List ℤ) → Decides (CashTotalRefused c) (cents_number (desk_cash_total c))
  pub cents_sum : (c : List ℤ) → cents_number (desk_cash_total c) ≡ 0 → desk_cash_total c ≡ SumCents (cash_sum c)

-- no row in any table
abbrev pub no_rows : Rows
no_rows = record { csds = []; securities = []; accounts = []; pairs = []; links = [] }

-- the rows with one more, numbered by entry
abbrev pub with_row : Row → Rows → Rows
with_row (csd_row x) r = record { csds = r.csds ++ (x ∷ []); securities = r.securities; accounts = r.accounts; pairs = r.pairs; links = r.links }
with_row (security_row x) r = record { csds = r.csds; securities = r.securities ++ (x ∷ []); accounts = r.accounts; pairs = r.pairs; links = r.links }
with_row (account_row x) r = record { csds = r.csds; securities = r.securities; accounts = r.accounts ++ (x ∷ []); pairs = r.pairs; links = r.links }
with_row (pair_row x) r = record { csds = r.csds; securities = r.securities; accounts = r.accounts; pairs = r.pairs ++ (x ∷ []); links = r.links }
with_row (link_row x) r = record { csds = r.csds; securities = r.securities; accounts = r.accounts; pairs = r.pairs; links = r.links ++ (x ∷ []) }

-- what document 01 says that an accepted call changes. An entry adds its row behind the rows in use, where the arrays are as long as their
-- types say; a derivation changes nothing
abbrev pub Changes : Call → Store → Store → Type 0
Changes (enter x) st st' =
    (st'.directory ≡ add_row x st.directory)
    × (Sized st.directory → rows_of st'.directory ≡ with_row x (rows_of st.directory))
    × (st'.positions ≡ st.positions)
    × (st'.cash ≡ st.cash)
Changes (move w a s q day) st st' =
    (st'.directory ≡ st.directory)
    × ((other : ℕ)
    × ContraOf (rows_on day st.directory) s (home_of (rows_of st.directory).accounts a) a other
    × MovedUnits (move_step w (home_of (rows_of st.directory).accounts a) a other ∷ []) s q st.positions st'.positions)
    × (st'.cash ≡ st.cash)
Changes (pay w a m) st st' =
    (st'.directory ≡ st.directory)
    × (st'.positions ≡ st.positions)
    × (cash_on st'.cash a ≡ cash_on st.cash a +ℤ (payment w m).0)
    × ((b : ℕ) → b ≢ a → cash_on st'.cash b ≡ cash_on st.cash b)
Changes (settle hs day lent) st st' = (h g : Half) × (steps : List Step) × Delivers hs h g × BookedPair st hs day lent h g steps
Changes (derive hs day lent) st st' = st' ≡ st

-- for every store, halves, step list and call
pub record Demand2 : Type 0 where
  pub derives : (st : Store) (hs : Halves) (day : ℕ) (lent : List Step) → Admitted st hs day lent → Derives st hs day lent
  pub books : (st : Store) (hs : Halves) (day : ℕ) (lent : List Step) → Books st hs day lent
  pub ruled : (c : Call) (st : Store) → Ruled c st
  pub changes : (c : Call) (st : Store) → is_accepted (desk c st).answer ≡ true → Changes c st (desk c st).store
  pub totals : Totalled

-- ---- Demand 3: "For every list of calls from an empty store, refused ones included, at its end". What positions and balances are
-- compared with "goes by the calls' operands and answers alone".

-- the rows after an accepted call
abbrev pub grown : Call → Rows → Rows
grown (enter x) r = with_row x r
grown (move w a s q day) r = r
grown (pay w a m) r = r
grown (settle hs day lent) r = r
grown (derive hs day lent) r = r

-- "the directory that the accepted calls before it make by the rules"; the newest item stands first. An account's number is the count
-- of account entries accepted before it
unfoldable pub made : List Item → Rows
made [] = no_rows
made (i ∷ h) = cond (is_accepted i.answer) (grown i.call (made h)) (made h)

-- what came in, and what went out as its negative
abbrev pub signed : Way → ℕ → ℤ
signed incoming n = pos n
signed outgoing n = neg_ℤ (pos n)

-- "per security, the quantities of accepted bring-ins less those of accepted take-outs, on whatever account"
abbrev pub brings : Call → ℕ → ℤ
brings (enter x) s = pos 0
brings (move w a t q day) s = cond (eqb t s) (signed w q) (pos 0)
brings (pay w a m) s = pos 0
brings (settle hs day lent) s = pos 0
brings (derive hs day lent) s = pos 0

-- brought in less taken out, over a list of items
unfoldable pub brought : List Item → ℕ → ℤ
brought [] s = pos 0
brought (i ∷ h) s = brought h s +ℤ cond (is_accepted i.answer) (brings i.call s) (pos 0)

-- "for pay-ins and pay-outs likewise with amounts, over all accounts"
abbrev pub pays : Call → ℤ
pays (enter x) = pos 0
pays (move w a t q day) = pos 0
pays (pay w a m) = signed w m
pays (settle hs day lent) = pos 0
pays (derive hs day lent) = pos 0

-- paid in less paid out, over a list of items
unfoldable pub paid_in : List Item → ℤ
paid_in [] = pos 0
paid_in (i ∷ h) = paid_in h +ℤ cond (is_accepted i.answer) (pays i.call) (pos 0)

-- "A mirror and its omnibus are the two that one accepted pair entry names." (01) They are a duo, however many entries name them (02)
pub data PairEntered (p : Pair) : List Item → Type 0 where
  now : {i : Item} {h : List Item} → i.call ≡ enter (pair_row p) → is_accepted i.answer ≡ true → PairEntered p (i ∷ h)
  before : {i : Item} {h : List Item} → PairEntered p h → PairEntered p (i ∷ h)

-- "changed nothing"
pub record Unchanged (i : Item) : Type 0 where
  pub positions : i.positions_left ≡ i.positions
  pub cash : i.cash_left ≡ i.cash

-- "each booked settlement moved exactly its chain and its amount and nothing else": the chain is the one that document 01 gives over the
-- rows r, those of its day
pub record Settled (r : Rows) (hs : Halves) (i : Item) : Type 0 where
  pub delivering : Half
  pub receiving : Half
  pub sides : Delivers hs delivering receiving
  pub steps : List Step
  pub chain : ChainIs r delivering.security delivering.account receiving.account steps
  pub units : MovedUnits steps delivering.security delivering.quantity i.positions i.positions_left
  pub cents : MovedCents receiving.account delivering.account delivering.amount i.cash i.cash_left

-- a settlement moved its chain where it was booked, and nothing otherwise
abbrev pub settled_by : Answer → Rows → Halves → Item → Type 0
settled_by (Booked k) r hs i = Settled r hs i
settled_by Accepted r hs i = Unchanged i
settled_by (Chained k) r hs i = Unchanged i
settled_by (Refused n) r hs i = Unchanged i

-- an accepted bring-in, take-out, pay-in or pay-out is bound by the balances below
abbrev pub unless_accepted : Bool → Item → Type 0
unless_accepted true i = Unit {0}
unless_accepted false i = Unchanged i

-- "every other settlement, derivation or refused call changed nothing"; an entry changes the directory alone
abbrev pub Changed : Call → Rows → Item → Type 0
Changed (enter x) r i = Unchanged i
Changed (move w a s q day) r i = unless_accepted (is_accepted i.answer) i
Changed (pay w a m) r i = unless_accepted (is_accepted i.answer) i
Changed (settle hs day lent) r i = settled_by i.answer (on_day day r) hs i
Changed (derive hs day lent) r i = Unchanged i

-- of every item, over the directory that the items before it make
abbrev pub EachChanged : List Item → Type 0
EachChanged [] = Unit {0}
EachChanged (i ∷ h) = Changed i.call (made h) i × EachChanged h

-- at the end of a list of calls
pub record Balanced (items : List Item) (st : Store) : Type 0 where
  -- "in each CSD's books the positions in each security sum to zero"
  pub books : (c s : ℕ) → s < security_limit → sum (λ a. in_books (made items).accounts a c) (held_in st.positions s) account_limit ≡ pos 0
  -- "each mirror plus its omnibus is zero" (01); "Mirror plus omnibus is zero for each duo." (02)
  pub mirrors : (p : Pair) (s : ℕ) → PairEntered p items → p.omnibus ≢ no_account → s < security_limit
      → held_in st.positions s p.mirror +ℤ held_in st.positions s p.omnibus ≡ pos 0
  -- "no participant or omnibus position and no cash balance is negative"
  pub none_negative : (a s : ℕ) → a < account_limit → s < security_limit → ParticipantOrOmnibus (made items).accounts a → pos 0 ≤ℤ held_in st.positions s a
  pub no_cash_negative : (a : ℕ) → a < cash_count → pos 0 ≤ℤ cash_on st.cash a
  -- "per security participant positions sum to what was brought in less taken out, cash to paid in less paid out"
  pub supply : (s : ℕ) → s < security_limit → sum (participants (is_kind (made items).accounts)) (held_in st.positions s) account_limit ≡ brought items s
  pub money : sum every_account (cash_on st.cash) cash_count ≡ paid_in items
  -- "each booked settlement moved exactly its chain and its amount and nothing else; every other settlement, derivation or refused call
  -- changed nothing"
  pub each : EachChanged items

-- a log of calls whose answers and stores equal the definitions, as the functions' contracts give them
pub data Log : List Item → Store → Type 0 where
  begins : {st : Store} → st ≡ empty_store → Log [] st
  calls : {items : List Item} {st : Store} (c : Call) (x : Answer) (left : Store) → Log items st → x ≡ (desk c st).answer → left ≡ (desk c st).store
      → Log (item c x st left ∷ items) left

-- "One claim about the whole list, proved whole."
pub record Demand3 : Type 0 where
  pub lists : (cs : List Call) → Balanced (run cs).items (run cs).store
  pub logs : (items : List Item) (st : Store) → Log items st → Balanced items st
