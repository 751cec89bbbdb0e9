-- The calls of documents 01 and 02: what refuses them, what they answer and leave, and a list of them run from the empty store.
use Rattle.std.specs.Prelude.{ℕ, zero, suc, Bool, true, false, not, ◌||◌, cond, List, [], ◌∷◌, ◌++◌, ℤ, pos, ltb, eqb, length, drop}
use Rattle.rules.specs.Types.{Directory, Half, SidedHalf, Step, Answer, Accepted, Booked, Chained, Refused}
use Rattle.rules.specs.Booking.{SecurityTotal, SumUnits, NoUnits, CashTotal, SumCents, NoCents}
use Rattle.rules.specs.Tests.{Condition, ◌when◌, first_of}
use Rattle.rules.specs.Directory.{rows_of, rows_on}
use Rattle.rules.specs.Entries.{Row, row_conditions, add_row, empty_directory, sound}
use Rattle.rules.specs.Lookups.{Lookups, ask}
use Rattle.rules.specs.Chain.{Chain, chain, steps_of, chain_conditions, step_limit}
use Rattle.rules.specs.Booking
use Rattle.rules.specs.Booking.{Way, position_count, cash_count, booked, paid, add_cents, payment, move_chain, move_conditions, pay_conditions}

-- The desk's store: directory, positions and cash.
pub record Store : Type 0 where
  pub directory : Directory
  pub positions : List ℤ
  pub cash : List ℤ

-- Two halves as a call is given them: "delivering first" (01), or each with its side, "in either order" (02).
pub data Halves : Type 0 where
  ordered : Half → Half → Halves
  sided : SidedHalf → SidedHalf → Halves

-- A call with its operands: an entry; a bring-in or take-out of an account, a security and a quantity on a day; a pay-in or pay-out of an
-- account and an amount; a settlement or derivation of two halves on a day with the step list that it is lent. "Derive, settle, bring in and take out
-- carry a day .., and only links valid on it are seen." (02)
pub data Call : Type 0 where
  enter : Row → Call
  move : Way → ℕ → ℕ → ℕ → ℕ → Call
  pay : Way → ℕ → ℕ → Call
  settle : Halves → ℕ → List Step → Call
  derive : Halves → ℕ → List Step → Call

-- ---- what an answer says

-- this paper's number for each answer: the refusal, and 0 for an accepted call
abbrev pub number_of : Answer → ℕ
number_of Accepted = 0
number_of (Booked k) = 0
number_of (Chained k) = 0
number_of (Refused n) = n

-- K, where the answer is `booked` or `chain`
abbrev pub count_of : Answer → ℕ
count_of Accepted = 0
count_of (Booked k) = k
count_of (Chained k) = k
count_of (Refused n) = 0

-- "Accepted is a call answered without a refusal number."
abbrev pub is_accepted : Answer → Bool
is_accepted Accepted = true
is_accepted (Booked k) = true
is_accepted (Chained k) = true
is_accepted (Refused n) = false

-- this paper's number for the answer of a total: the refusal, and 0 for a sum
abbrev pub units_number : SecurityTotal → ℕ
units_number (SumUnits z) = 0
units_number (NoUnits n) = n

-- of cash
abbrev pub cents_number : CashTotal → ℕ
cents_number (SumCents z) = 0
cents_number (NoCents n) = n

-- ---- two halves

-- "0 delivering"
abbrev pub delivering_side : ℕ
delivering_side = 0

-- "1 receiving"
abbrev pub receiving_side : ℕ
receiving_side = 1

-- the half that delivers: "two halves, delivering first" (01); "Desks export the two halves in either order, so the side that place implied is to be
-- written out" (02)
abbrev pub delivering : Halves → Half
delivering (ordered h g) = h
delivering (sided x y) = cond (eqb x.side delivering_side) x.half y.half

-- the other one
abbrev pub receiving : Halves → Half
receiving (ordered h g) = g
receiving (sided x y) = cond (eqb x.side delivering_side) y.half x.half

-- 7 of the sides: "another byte value is 7"
abbrev pub side_unknown : Halves → Bool
side_unknown (ordered h g) = false
side_unknown (sided x y) = ltb receiving_side x.side || ltb receiving_side y.side

-- 23: "two halves of the same side"
abbrev pub same_side : Halves → Bool
same_side (ordered h g) = false
same_side (sided x y) = eqb x.side y.side

-- 6 of a half: its account, counterpart CSD or security "names no row"
abbrev pub half_unknown : Lookups → Half → Bool
half_unknown k h = not (k.account h.account) || (not (k.csd h.counterpart) || not (k.security h.security))

-- 7 of a half
abbrev pub half_out_of_range : Half → Bool
half_out_of_range h = Booking.out_of_range h.quantity || Booking.amount_out_of_range h.amount

-- 12: "security, quantity, amount differ, or a counterpart isn't the other's CSD"
abbrev pub halves_differ : Lookups → Half → Half → Bool
halves_differ k h g =
    not (eqb h.security g.security)
    || (not (eqb h.quantity g.quantity)
    || (not (eqb h.amount g.amount)
    || (not (k.books g.account h.counterpart) || not (k.books h.account g.counterpart))))

-- 6, 7, 10, 23, 12, 13, each over both halves: h delivers, g receives. 7 and 23 are asked of their sides too; 23 comes "just before 12"
abbrev pub both_conditions : Lookups → Half → Half → Bool → Bool → List Condition
both_conditions k h g unknown same =
    6 when (half_unknown k h || half_unknown k g)
    ∷ 7 when ((half_out_of_range h || half_out_of_range g) || unknown)
    ∷ 10 when (not (k.kind h.account 0) || not (k.kind g.account 0))
    ∷ 23 when same
    ∷ 12 when halves_differ k h g
    ∷ 13 when eqb h.account g.account
    ∷ []

-- of two halves as they are given
abbrev pub halves_conditions : Lookups → Halves → List Condition
halves_conditions k hs = both_conditions k (delivering hs) (receiving hs) (side_unknown hs) (same_side hs)

-- the chain of two halves
abbrev pub halves_chain : Lookups → Halves → Chain
halves_chain k hs = chain k (delivering hs).security (delivering hs).account (receiving hs).account

-- then 14 to 18
abbrev pub derive_conditions : Lookups → Halves → List Condition
derive_conditions k hs = halves_conditions k hs ++ chain_conditions (halves_chain k hs)

-- 20 over all steps, 21, then 22 over all changed numbers, "judged on the store before the call"
abbrev pub book_conditions : Lookups → List ℤ → List ℤ → Half → Half → List Step → List Condition
book_conditions k p c h g steps =
    20 when Booking.units_short k.kind p h.security h.quantity steps
    ∷ 21 when Booking.cash_short c g.account h.amount
    ∷ 22 when (Booking.units_beyond p h.security h.quantity steps || Booking.payment_beyond c g.account h.account h.amount)
    ∷ []

-- then 20 to 22
abbrev pub settle_conditions : Lookups → List ℤ → List ℤ → Halves → List Condition
settle_conditions k p c hs = derive_conditions k hs ++ book_conditions k p c (delivering hs) (receiving hs) (steps_of (halves_chain k hs))

-- ---- the conditions of a call

-- 3: "positions not 4,096, cash not 256, steps below 16", for the lists that a call is lent
unfoldable pub misfit : Call → Store → Bool
misfit (enter x) st = false
misfit (move w a s q day) st = not (eqb (length st.positions) position_count)
misfit (pay w a m) st = not (eqb (length st.cash) cash_count)
misfit (settle hs day lent) st =
    not (eqb (length st.positions) position_count) || (not (eqb (length st.cash) cash_count) || ltb (length lent) step_limit)
misfit (derive hs day lent) st = ltb (length lent) step_limit

-- from 5 on
abbrev pub core_conditions : Call → Store → List Condition
core_conditions (enter x) st = row_conditions (rows_of st.directory) x
core_conditions (move w a s q day) st = move_conditions (ask (rows_on day st.directory)) st.positions w a s q
core_conditions (pay w a m) st = pay_conditions (ask (rows_of st.directory)) st.cash w a m
core_conditions (settle hs day lent) st = settle_conditions (ask (rows_on day st.directory)) st.positions st.cash hs
core_conditions (derive hs day lent) st = derive_conditions (ask (rows_on day st.directory)) hs

-- 3, 4, which is "not sound", and from 5 on
abbrev pub desk_conditions : Call → Store → List Condition
desk_conditions c st = 3 when misfit c st ∷ 4 when not (sound st.directory) ∷ core_conditions c st

-- ---- what a call answers and leaves

-- the answer, the store and the lent step list after a call
pub record Outcome : Type 0 where
  pub answer : Answer
  pub store : Store
  pub steps : List Step

-- the step list that a call is lent
abbrev pub lent_steps : Call → List Step
lent_steps (enter x) = []
lent_steps (move w a s q day) = []
lent_steps (pay w a m) = []
lent_steps (settle hs day lent) = lent
lent_steps (derive hs day lent) = lent

-- the chain that a call books or derives
abbrev pub chain_for : Call → Store → List Step
chain_for (enter x) st = []
chain_for (move w a s q day) st = steps_of (move_chain (ask (rows_on day st.directory)) w a s)
chain_for (pay w a m) st = []
chain_for (settle hs day lent) st = steps_of (halves_chain (ask (rows_on day st.directory)) hs)
chain_for (derive hs day lent) st = steps_of (halves_chain (ask (rows_on day st.directory)) hs)

-- what an accepted call answers: K is the chain's length
abbrev pub success : Call → Store → Answer
success (enter x) st = Accepted
success (move w a s q day) st = Accepted
success (pay w a m) st = Accepted
success (settle hs day lent) st = Booked (length (chain_for (settle hs day lent) st))
success (derive hs day lent) st = Chained (length (chain_for (derive hs day lent) st))

-- the store that an accepted call leaves
abbrev pub changed : Call → Store → Store
changed (enter x) st = record { directory = add_row x st.directory; positions = st.positions; cash = st.cash }
changed (move w a s q day) st =
    record { directory = st.directory; positions = booked (chain_for (move w a s q day) st) s q st.positions; cash = st.cash }
changed (pay w a m) st = record { directory = st.directory; positions = st.positions; cash = add_cents st.cash a (payment w m) }
changed (settle hs day lent) st =
    record {
      directory = st.directory;
      positions = booked (chain_for (settle hs day lent) st) (delivering hs).security (delivering hs).quantity st.positions;
      cash = paid st.cash (receiving hs).account (delivering hs).account (delivering hs).amount;
    }
changed (derive hs day lent) st = st

-- "steps go into a lent list of at least 16 steps, the rest untouched"
abbrev pub written : List Step → List Step → List Step
written steps lent = steps ++ drop (length steps) lent

-- the lent step list after an accepted call
abbrev pub written_for : Call → Store → List Step
written_for (enter x) st = []
written_for (move w a s q day) st = []
written_for (pay w a m) st = []
written_for (settle hs day lent) st = written (chain_for (settle hs day lent) st) lent
written_for (derive hs day lent) st = written (chain_for (derive hs day lent) st) lent

-- by the refusal's number: "nothing lent or handed in changes"
abbrev pub outcome : ℕ → Call → Store → Outcome
outcome zero c st = record { answer = success c st; store = changed c st; steps = written_for c st }
outcome (suc n) c st = record { answer = Refused (suc n); store = st; steps = lent_steps c }

-- the call without the tests 3 and 4, for whoever knows that lists fit and the directory is sound
unfoldable pub core : Call → Store → Outcome
core c st = outcome (first_of (core_conditions c st)) c st

-- the call as the desk's software makes it, on any store
unfoldable pub desk : Call → Store → Outcome
desk c st = outcome (first_of (desk_conditions c st)) c st

-- ---- the totals, which change nothing

-- the total of a security as the desk's software asks for it: 3, 4, then 6 and 22
unfoldable pub desk_security_total : Directory → List ℤ → ℕ → SecurityTotal
desk_security_total d p s =
    Booking.security_total_by
    (first_of (3 when not (eqb (length p) position_count) ∷ 4 when not (sound d) ∷ Booking.security_total_conditions (ask (rows_of d)) p s))
    (Booking.participant_sum (ask (rows_of d)).kind p s)

-- the total of cash: 3, then 22
unfoldable pub desk_cash_total : List ℤ → CashTotal
desk_cash_total c =
    Booking.cash_total_by (first_of (3 when not (eqb (length c) cash_count) ∷ Booking.cash_total_conditions c)) (Booking.cash_sum c)

-- ---- a list of calls

-- n zeros
unfoldable pub zeros : ℕ → List ℤ
zeros zero = []
zeros (suc n) = pos 0 ∷ zeros n

-- "An empty store has no row, and 0 in every position and balance."
unfoldable pub empty_store : Store
empty_store = record { directory = empty_directory; positions = zeros position_count; cash = zeros cash_count }

-- A call of the list, its answer, and "the positions and cash handed to it and those it left".
pub record Item : Type 0 where
  pub call : Call
  pub answer : Answer
  pub positions : List ℤ
  pub cash : List ℤ
  pub positions_left : List ℤ
  pub cash_left : List ℤ

-- an item from the call, its answer, and the stores before and after it
abbrev pub item : Call → Answer → Store → Store → Item
item c x st left =
    record { call = c; answer = x; positions = st.positions; cash = st.cash; positions_left = left.positions; cash_left = left.cash }

-- what was called so far, newest first, and the store that it left
pub record Run : Type 0 where
  pub items : List Item
  pub store : Store

-- "Each call is handed the directory that the last one returned and the positions and cash that it left"
abbrev pub next : Call → Run → Run
next c r = record { items = item c (desk c r.store).answer r.store (desk c r.store).store ∷ r.items; store = (desk c r.store).store }

-- the calls one after another
abbrev pub run_from : List Call → Run → Run
run_from [] r = r
run_from (c ∷ cs) r = run_from cs (next c r)

-- "The list starts from the empty store"
abbrev pub run : List Call → Run
run cs = run_from cs (record { items = []; store = empty_store })
