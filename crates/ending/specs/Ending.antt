-- What stands at the end, by what a stream holds; and that no total of a store is refused. Assumes nothing.
use Rattle.std.specs.Prelude.{◌≡◌, ℕ, zero, suc, ◌<◌, min, List, [], ◌++◌, ℤ, length}
use Rattle.rules.specs.declared.Units.{Units}
use Rattle.rules.specs.declared.Cents.{Cents}
use Rattle.rules.specs.Directory.{rows_of, security_limit}
use Rattle.rules.specs.Lookups.{ask}
use Rattle.rules.specs.Booking.{SecurityTotal, SumUnits, NoUnits, CashTotal, SumCents, NoCents, units, cents, participant_sum, cash_sum}
use Rattle.rules.specs.Calls.{Store}
use Rattle.rules.specs.Stream.{total_line, cash_line}
use Rattle.index.specs.Index.{security_count}
use Rattle.index.specs.Asked.{read, asked}
use Rattle.identifiers.specs.Names.{isin_of}
use Rattle.refusals.specs.declared.kept.Kept.{Kept}
use Rattle.holdings.specs.Sums.{security_total, cash_total}

-- ---- by what is held

-- the sum of a total, 0 where it is refused
unfoldable pub units_in : SecurityTotal → Units
units_in (SumUnits z) = z
units_in (NoUnits n) = units 0

-- of cash
unfoldable pub cents_in : CashTotal → Cents
cents_in (SumCents z) = z
cents_in (NoCents n) = cents 0

-- the line of the security s
abbrev pub total_in : Kept → List ℤ → ℕ → List ℕ
total_in k p s = total_line (isin_of k.names s) (units_in (security_total (asked k.numbers) p s))

-- the lines of the first n securities
unfoldable pub totals_in : Kept → List ℤ → ℕ → List ℕ
totals_in k p zero = []
totals_in k p (suc n) = totals_in k p n ++ total_in k p n

-- how many are entered, by the numbers l
unfoldable pub securities_in : List ℕ → ℕ
securities_in l = min (read l security_count) security_limit

-- what stands "At the end"
unfoldable pub ending_in : Kept → List ℤ → List ℤ → List ℕ
ending_in k p c = totals_in k p (securities_in k.numbers) ++ cash_line (cents_in (cash_total c))

-- ---- of a store

-- No total is refused, since no number is beyond ±10^15.
pub record Totalled (st : Store) : Type 0 where
  pub units : (s : ℕ) → s < length (rows_of st.directory).securities
      → security_total (ask (rows_of st.directory)) st.positions s ≡ SumUnits (participant_sum (ask (rows_of st.directory)).kind st.positions s)
  pub cents : cash_total st.cash ≡ SumCents (cash_sum st.cash)
