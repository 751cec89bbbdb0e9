-- What each export answers and leaves, by the buffers that it is handed. Assumes nothing.
use Rattle.std.specs.Prelude.{ℕ, ◌/◌, ◌≡◌, Bool, true, ◌&&◌, ◌||◌, not, cond, List, [], ◌++◌, ℤ, eqb, length, set, take}
use Rattle.rules.specs.declared.Step.{Step}
use Rattle.rules.specs.declared.Entered.{Entered}
use Rattle.rules.specs.Booking.{SecurityTotal, SumUnits, NoUnits, CashTotal, SumCents, NoCents}
use Rattle.rules.specs.Tests.{first_of}
use Rattle.rules.specs.Calls.{Store, Call, enter, move, pay, settle, derive, Outcome, outcome, desk_conditions, is_accepted, count_of}
use Rattle.rules.specs.Calls.{desk_security_total, desk_cash_total}
use Rattle.rules.specs.Stream.{call_of}
use Rattle.rules.specs.Outcomes.{holding, blanks}
use Rattle.layout.specs.Layout.{counts_length, rows_length, step_width, directory_in, counts_of, bytes_of, with_steps}
use Rattle.codes.specs.Codes.{misfit, code_of, units_code, cents_code}
use Rattle.codes.specs.Read.{is_entry, is_move, width, read_conditions}

-- ---- what is handed in

-- five counts and 6,592 bytes stand for a directory
abbrev pub fits : List ℕ → List ℕ → Bool
fits counts rows = eqb (length counts) counts_length && eqb (length rows) rows_length

-- and there is a place for the sum
abbrev pub fits_sum : List ℕ → List ℕ → List ℤ → Bool
fits_sum counts rows sum = fits counts rows && not (eqb (length sum) 0)

-- 0A and 0C settle
abbrev pub is_settlement : ℕ → Bool
is_settlement tag = eqb tag 10 || eqb tag 12

-- 0B and 0D derive
abbrev pub is_derivation : ℕ → Bool
is_derivation tag = eqb tag 11 || eqb tag 13

-- the call of a command byte; its operands are the first of the bytes
abbrev pub call_in : ℕ → List ℕ → Call
call_in tag o = call_of tag (take (width tag) o)

-- the call with the step list that it is lent
abbrev pub lending : List Step → Call → Call
lending xs (enter x) = enter x
lending xs (move w a s q day) = move w a s q day
lending xs (pay w a m) = pay w a m
lending xs (settle hs day lent) = settle hs day xs
lending xs (derive hs day lent) = derive hs day xs

-- a step for each five bytes lent; what they hold counts for nothing
abbrev pub steps_lent : List ℕ → List Step
steps_lent steps = blanks (length steps / step_width)

-- ---- what a call on a store answers and leaves

-- 1 and 2, then the call's own from 3 on
unfoldable pub obeyed : Bool → ℕ → List ℕ → Call → Store → Outcome
obeyed known tag o k st = outcome (first_of (read_conditions known tag o ++ desk_conditions k st)) k st

-- an entry's outcome: its answer, and the directory after it
abbrev pub entered_by : Outcome → Entered
entered_by x = record { answer = x.answer; directory = x.store.directory }

-- an entry into the directory that the buffers stand for
unfoldable pub enters : List ℕ → List ℕ → ℕ → List ℕ → Outcome
enters counts rows tag o = obeyed (is_entry tag) tag o (call_in tag o) (holding (directory_in counts rows) [] [])

-- a bring-in, take-out, pay-in or pay-out
unfoldable pub moves : List ℕ → List ℕ → List ℤ → List ℤ → ℕ → List ℕ → Outcome
moves counts rows p c tag o = obeyed (is_move tag) tag o (call_in tag o) (holding (directory_in counts rows) p c)

-- a settlement, by its byte
unfoldable pub settles : ℕ → List ℕ → List ℕ → List ℤ → List ℤ → List ℕ → List ℕ → Outcome
settles tag counts rows p c o steps = obeyed true tag o (lending (steps_lent steps) (call_in tag o)) (holding (directory_in counts rows) p c)

-- a derivation, by its byte
unfoldable pub derives : ℕ → List ℕ → List ℕ → List ℕ → List ℕ → Outcome
derives tag counts rows o steps = obeyed true tag o (lending (steps_lent steps) (call_in tag o)) (holding (directory_in counts rows) [] [])

-- the chain's K steps; a refusal has none
abbrev pub chain_of : Outcome → List Step
chain_of x = take (count_of x.answer) x.steps

-- the list whose first place takes the total of a security; a refusal leaves it
abbrev pub units_left : SecurityTotal → List ℤ → List ℤ
units_left (SumUnits x) sum = set sum 0 x.0
units_left (NoUnits n) sum = sum

-- the same for cash
abbrev pub cents_left : CashTotal → List ℤ → List ℤ
cents_left (SumCents x) sum = set sum 0 x.0
cents_left (NoCents n) sum = sum

-- ---- what each export promises: its number r, and each buffer after it

-- counts and rows are written where the entry is accepted
abbrev pub Enters : List ℕ → List ℕ → ℕ → List ℕ → ℕ → List ℕ → List ℕ → Type 0
Enters counts rows tag o r counts' rows' =
    (r ≡ cond (fits counts rows) (code_of (enters counts rows tag o).answer) misfit)
    × (counts' ≡ cond (fits counts rows && is_accepted (enters counts rows tag o).answer) (counts_of (enters counts rows tag o).store.directory) counts)
    × (rows' ≡ cond (fits counts rows && is_accepted (enters counts rows tag o).answer) (bytes_of (enters counts rows tag o).store.directory) rows)

-- positions and cash are those of the store after the call
abbrev pub Moves : List ℕ → List ℕ → List ℤ → List ℤ → ℕ → List ℕ → ℕ → List ℤ → List ℤ → Type 0
Moves counts rows p c tag o r p' c' =
    (r ≡ cond (fits counts rows) (code_of (moves counts rows p c tag o).answer) misfit)
    × (p' ≡ cond (fits counts rows) (moves counts rows p c tag o).store.positions p)
    × (c' ≡ cond (fits counts rows) (moves counts rows p c tag o).store.cash c)

-- likewise, and the K steps stand at the front of the bytes lent for them, "the rest untouched"
abbrev pub Settles : ℕ → List ℕ → List ℕ → List ℤ → List ℤ → List ℕ → List ℕ → ℕ → List ℤ → List ℤ → List ℕ → Type 0
Settles tag counts rows p c o steps r p' c' steps' =
    (r ≡ cond (fits counts rows) (code_of (settles tag counts rows p c o steps).answer) misfit)
    × (p' ≡ cond (fits counts rows) (settles tag counts rows p c o steps).store.positions p)
    × (c' ≡ cond (fits counts rows) (settles tag counts rows p c o steps).store.cash c)
    × (steps' ≡ cond (fits counts rows) (with_steps (chain_of (settles tag counts rows p c o steps)) steps) steps)

-- the steps alone
abbrev pub Derives : ℕ → List ℕ → List ℕ → List ℕ → List ℕ → ℕ → List ℕ → Type 0
Derives tag counts rows o steps r steps' =
    (r ≡ cond (fits counts rows) (code_of (derives tag counts rows o steps).answer) misfit)
    × (steps' ≡ cond (fits counts rows) (with_steps (chain_of (derives tag counts rows o steps)) steps) steps)

-- the total of a security
abbrev pub TotalsUnits : List ℕ → List ℕ → List ℤ → ℕ → List ℤ → ℕ → List ℤ → Type 0
TotalsUnits counts rows p s sum r sum' =
    (r ≡ cond (fits_sum counts rows sum) (units_code (desk_security_total (directory_in counts rows) p s)) misfit)
    × (sum' ≡ cond (fits_sum counts rows sum) (units_left (desk_security_total (directory_in counts rows) p s) sum) sum)

-- the total of cash
abbrev pub TotalsCents : List ℤ → List ℤ → ℕ → List ℤ → Type 0
TotalsCents c sum r sum' =
    (r ≡ cond (not (eqb (length sum) 0)) (cents_code (desk_cash_total c)) misfit)
    × (sum' ≡ cond (not (eqb (length sum) 0)) (cents_left (desk_cash_total c) sum) sum)
