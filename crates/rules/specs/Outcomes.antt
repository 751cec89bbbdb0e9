-- What each of the desk's functions answers and leaves: the outcome of the rules' call on what the function is handed. A list that a
-- function is not handed is empty here; proofs/Logs.antt says that it counts for nothing. Assumes nothing.
use Rattle.std.specs.Prelude.{ℕ, List, [], ℤ, length, replicate, take}
use Rattle.rules.specs.Types.{Directory, Step, Table, Reply, Entered}
use Rattle.rules.specs.Entries.{Row}
use Rattle.rules.specs.Chain.{step, step_limit}
use Rattle.rules.specs.Booking.{Way}
use Rattle.rules.specs.Calls.{Halves, Store, Outcome, enter, move, pay, settle, derive, desk, count_of, written}

-- the store that a function is handed
abbrev pub holding : Directory → List ℤ → List ℤ → Store
holding d p c = record { directory = d; positions = p; cash = c }

-- an entry of a row
abbrev pub entry_on : Directory → Row → Outcome
entry_on d x = desk (enter x) (holding d [] [])

-- a bring-in or take-out: the way, the account, the security, the quantity and the day
abbrev pub movement_on : Directory → List ℤ → Way → ℕ → ℕ → ℕ → ℕ → Outcome
movement_on d p w a s q day = desk (move w a s q day) (holding d p [])

-- a pay-in or pay-out: the way, the account and the amount
abbrev pub payment_on : Directory → List ℤ → Way → ℕ → ℕ → Outcome
payment_on d c w a m = desk (pay w a m) (holding d [] c)

-- a settlement of two halves on a day that is lent positions, cash and steps
abbrev pub settlement_on : Directory → List ℤ → List ℤ → List Step → Halves → ℕ → Outcome
settlement_on d p c lent hs day = desk (settle hs day lent) (holding d p c)

-- a derivation on a day that is lent steps
abbrev pub derivation_on : Directory → List Step → Halves → ℕ → Outcome
derivation_on d lent hs day = desk (derive hs day lent) (holding d [] [])

-- what an entry answers, and the directory after it
abbrev pub entered_on : Directory → Row → Entered
entered_on d x = record { answer = (entry_on d x).answer; directory = (entry_on d x).store.directory }

-- ---- steps by value

-- a step list of which the length alone counts
abbrev pub blanks : ℕ → List Step
blanks n = replicate n (step 0 0 0)

-- steps by value: at most as many as a chain has
abbrev pub Steps : Type 0
Steps = Table Step step_limit

-- steps by value: their number, and their rows on 16 blank ones
abbrev pub by_value : List Step → Steps
by_value xs = record { count = length xs; rows = written xs (blanks step_limit) }

-- the steps of such a value
abbrev pub step_rows : Steps → List Step
step_rows x = take x.count x.rows

-- an outcome by value: its answer, and the K steps that a lent list then starts with
abbrev pub reply_of : Outcome → Reply
reply_of o = record { answer = o.answer; steps = by_value (take (count_of o.answer) o.steps) }
