-- A total by its parts, as the code adds it up.
use Rattle.std.specs.Prelude.{ℕ, ◌≡◌, Bool, true, false, cond, List, [], ◌∷◌, ℤ, pos, Result, Ok, Err}
use Rattle.rules.specs.declared.refusal.Refusal.{Refusal}
use Rattle.rules.specs.declared.refusal.Refusal.TheVariants.{Beyond}
use Rattle.rules.specs.Tests.{◌when◌, first_of}
use Rattle.rules.specs.Directory.{account_limit}
use Rattle.rules.specs.Lookups.{Lookups}
use Rattle.rules.specs.Booking.{SecurityTotal, CashTotal, sum, sum_beyond, held_in, participants, participant_sum, cash_sum, security_total_by, security_total_conditions, cash_total_by, cash_total_conditions}

-- what an account counts for in the sum of f over the accounts that w picks
abbrev pub picked : (ℕ → Bool) → (ℕ → ℤ) → ℕ → ℤ
picked w f a = cond (w a) (f a) (pos 0)

-- what an account counts for: a participant's position, else nothing
abbrev pub counted : (ℕ → ℕ → Bool) → List ℤ → ℕ → ℕ → ℤ
counted kind p s a = picked (participants kind) (held_in p s) a

-- the sum over all accounts, or 22
abbrev pub SumFound : {N : Type 0} → (N → ℤ) → (ℕ → Bool) → (ℕ → ℤ) → Result N Refusal → Type 0
SumFound number w f (Ok z) = (sum_beyond w f account_limit ≡ false) × (number z ≡ sum w f account_limit)
SumFound number w f (Err e) = (sum_beyond w f account_limit ≡ true) × (e ≡ Beyond)

-- the total of a security that is entered
abbrev pub participant_total : (ℕ → ℕ → Bool) → List ℤ → ℕ → SecurityTotal
participant_total kind p s =
    security_total_by (first_of (22 when sum_beyond (participants kind) (held_in p s) account_limit ∷ [])) (participant_sum kind p s)

-- the total of a security over a directory, sound or not
unfoldable pub security_total : Lookups → List ℤ → ℕ → SecurityTotal
security_total k p s = security_total_by (first_of (security_total_conditions k p s)) (participant_sum k.kind p s)

-- the total of cash over any list of balances
unfoldable pub cash_total : List ℤ → CashTotal
cash_total c = cash_total_by (first_of (cash_total_conditions c)) (cash_sum c)
