-- What the decoders read, on a part of any length. On a part that has all of a command's operands it is what the rules' definitions read
-- (proofs/Decoded). Assumes nothing.
use Rattle.std.specs.Prelude.{ℕ, zero, suc, ◌+◌, cond, List, [], ◌∷◌, ◌++◌, ltb, get_or}
use Rattle.rules.specs.declared.Csd.{Csd}
use Rattle.rules.specs.declared.Security.{Security}
use Rattle.rules.specs.declared.Account.{Account}
use Rattle.rules.specs.declared.Pair.{Pair}
use Rattle.rules.specs.declared.Link.{Link}
use Rattle.rules.specs.Calls.{Halves}
use Rattle.rules.specs.Stream.{number_at, day_width, ordered_at, sided_at, ordered_day_at, sided_day_at}
use Rattle.wire.specs.declared.operands.Move.{Move}
use Rattle.wire.specs.declared.operands.Payment.{Payment}

-- the first n of what h gives
unfoldable pub listed : {A : Type 0} → (ℕ → A) → ℕ → List A
listed h zero = []
listed h (suc n) = listed h n ++ (h n ∷ [])

-- the w bytes from index at on, 0 for a byte that is not there
unfoldable pub padded_at : List ℕ → ℕ → ℕ → List ℕ
padded_at o at zero = []
padded_at o at (suc w) = padded_at o at w ++ (get_or o (at + w) 0 ∷ [])

-- "01 type 1, BIC 11"
abbrev pub csd_in : List ℕ → Csd
csd_in o = record { external = number_at o 0 1; bic = padded_at o 1 11 }

-- "02 ISIN 12"
abbrev pub security_in : List ℕ → Security
security_in o = record { isin = padded_at o 0 12 }

-- "03 CSD 1, kind 1"
abbrev pub account_in : List ℕ → Account
account_in o = record { csd = number_at o 0 1; kind = number_at o 1 1 }

-- "investor 1, technical 1, accounts 2 and 2" (01), "served account last (2 bytes)" (02)
abbrev pub pair_in : List ℕ → Pair
pair_in o =
    record {
      investor = number_at o 0 1;
      technical = number_at o 1 1;
      mirror = number_at o 2 2;
      omnibus = number_at o 4 2;
      served = number_at o 6 2;
    }

-- "05 security 1, kind 1, CSD 1, technical 1, flag 1, account 2" (01), and the first and last day (02)
abbrev pub link_in : List ℕ → Link
link_in o =
    record {
      security = number_at o 0 1;
      kind = number_at o 1 1;
      csd = number_at o 2 1;
      technical = number_at o 3 1;
      flag = number_at o 4 1;
      account = number_at o 5 2;
      first = number_at o 7 2;
      last = number_at o 9 2;
    }

-- "06 in, 07 out: account 2, security 1, quantity 8" (01); they "carry a day as their last 2 bytes" (02)
abbrev pub move_in : List ℕ → Move
move_in o = record { account = number_at o 0 2; security = number_at o 2 1; quantity = number_at o 3 8; day = number_at o 11 day_width }

-- "08 in, 09 out: account 2, amount 8"
abbrev pub payment_in : List ℕ → Payment
payment_in o = record { account = number_at o 0 2; amount = number_at o 2 8 }

-- two halves as the byte has them: "delivering first" below 0C, with their sides from there on
abbrev pub halves_in : ℕ → List ℕ → Halves
halves_in tag o = cond (ltb tag 12) (ordered_at o) (sided_at o)

-- the day that stands behind them: "Derive, settle, .. carry a day as their last 2 bytes" (02)
abbrev pub day_in : ℕ → List ℕ → ℕ
day_in tag o = cond (ltb tag 12) (ordered_day_at o) (sided_day_at o)
