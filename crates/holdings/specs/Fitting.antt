-- Steps that fit: within the list, and neither short (20) nor beyond (22), as the code finds it before it judges in full. Assumes nothing.
use Rattle.std.specs.Prelude.{ℕ, ◌+◌, ◌*◌, ◌<◌, Bool, not, ◌&&◌, ◌||◌, List, eqb, leb, ltb, ℤ, pos, neg_ℤ, ◌+ℤ◌, length, get_or}
use Rattle.std.specs.Int.Signed.{lt_z}
use Rattle.rules.specs.declared.Step.{Step}
use Rattle.rules.specs.Tests.{any}
use Rattle.rules.specs.Chain.{step_limit}
use Rattle.rules.specs.Booking.{limit, beyond, place, floored, held_in, step_short, step_beyond}
use Rattle.chain.specs.StepList.{step_numbers, steps_in}

-- the position of the account a in s stands in the list
abbrev pub stands : List ℤ → ℕ → ℕ → Bool
stands p s a = ltb (place s a) (length p)

-- the account a can give q units of s
abbrev pub debit_fits : (ℕ → ℕ → Bool) → List ℤ → ℕ → ℕ → ℕ → Bool
debit_fits kind p s q a = stands p s a && not ((floored kind a && lt_z (held_in p s a) (pos q)) || beyond (held_in p s a +ℤ neg_ℤ (pos q)))

-- the account a can take them
abbrev pub credit_fits : List ℤ → ℕ → ℕ → ℕ → Bool
credit_fits p s q a = stands p s a && not (beyond (held_in p s a +ℤ pos q))

-- one of the step's two positions does not stand in the list, or the step is short, or it ends beyond ±10^15
abbrev pub unfit : (ℕ → ℕ → Bool) → List ℤ → ℕ → ℕ → Step → Bool
unfit kind p s q x = not (stands p s x.debited && stands p s x.credited) || (step_short kind p s q x || step_beyond p s q x)

-- none of the steps is such
abbrev pub none_unfit : (ℕ → ℕ → Bool) → List ℤ → ℕ → ℕ → List Step → Bool
none_unfit kind p s q xs = not (any (unfit kind p s q) xs)

-- the same of the first n steps of the list l, where the quantity is in range and the list has such steps
unfoldable pub steps_fit : (ℕ → ℕ → Bool) → List ℤ → ℕ → ℕ → List ℕ → ℕ → Bool
steps_fit kind p s q l n = leb q limit && (eqb (length l) step_numbers && (leb n step_limit && none_unfit kind p s q (steps_in l n)))

-- the positions of the first n steps of the list l stand in p
abbrev pub Standing : List ℤ → ℕ → List ℕ → ℕ → Type 0
Standing p s l n = (i : ℕ) → i < n → (place s (get_or l (3 * i + 1) 0) < length p) × (place s (get_or l (3 * i + 2) 0) < length p)
