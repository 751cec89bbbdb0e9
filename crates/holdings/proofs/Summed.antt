-- A sum built up account by account: nothing beyond ±10^15 so far.
use mathlib.Core.Path.{◌≡◌, refl, sym, ap, ◌∙◌}
use mathlib.Core.Bool.{Bool, true, false, ◌&&◌, ◌||◌}
use Prim.Native.Nat.{ℕ, zero, suc, ◌+◌, ◌<◌}
use native.Mathlib.Omega.{arith}
use native.Mathlib.Numerals.{add-one}
use native.Mathlib.Decide.{dec_lt}
use lib.IntN.{ℤ, pos, ◌+ℤ◌}
use Rattle.std.proofs.Common.{List, Result, Ok, Err}
use Rattle.rules.specs.declared.Units.{Units}
use Rattle.rules.specs.declared.Cents.{Cents}
use Rattle.rules.specs.declared.refusal.Refusal.{Refusal}
use Rattle.rules.specs.Booking.{beyond, sum, sum_beyond, participants, held_in, every_account, cash_on, units_found, cents_found}
use Rattle.holdings.specs.Sums.{picked, SumFound, participant_total, cash_total}
use Rattle.rules.proofs.Basics.{or_left, or_right}
use Rattle.rules.proofs.Sums.{pick}

pick_beyond : (b : Bool) (z : ℤ) → (b && beyond z) ≡ beyond (pick b z)
unfolding beyond
pick_beyond true z = refl
pick_beyond false z = refl

module _ (w : ℕ → Bool) (f : ℕ → ℤ) where
  -- z is the sum over the accounts below n, none of whose numbers is beyond
  pub record Summed (n : ℕ) (z : ℤ) : Type 0 where
    pub within : sum_beyond w f n ≡ false
    pub is : z ≡ sum w f n

  pub summed_none : (z : ℤ) → z ≡ pos 0 → Summed 0 z
  unfolding sum sum_beyond
  summed_none z e = record { within = refl; is = e }

  pub summed_next : (n : ℕ) (z y x : ℤ) → Summed n z → y ≡ picked w f n → beyond y ≡ false → x ≡ z +ℤ y → Summed (n + 1) x
  unfolding sum sum_beyond
  summed_next n z y x s e b a =
      record {
        within = rw (add-one, s.within) (pick_beyond (w n) (f n) ∙ ap beyond (sym e) ∙ b);
        is = rw (add-one, a, s.is, e);
      }

  pub beyond_at : (n i : ℕ) → i < n → beyond (picked w f i) ≡ true → sum_beyond w f n ≡ true
  unfolding sum_beyond
  beyond_at zero i h e = absurd (omega arith)
  beyond_at (suc n) i h e = go (dec_lt i n) (λ k. beyond_at n i k e)
    where
      go : Dec (i < n) → (i < n → sum_beyond w f n ≡ true) → (sum_beyond w f n || (w n && beyond (f n))) ≡ true
      go (yes k) before = or_left (sum_beyond w f n) (w n && beyond (f n)) (before k)
      go (no k) before =
          let last : n ≡ i = omega arith in
          or_right (sum_beyond w f n) (w n && beyond (f n)) (rw last (pick_beyond (w i) (f i) ∙ e))

-- the totals
pub units_total : (kind : ℕ → ℕ → Bool) (p : List ℤ) (s : ℕ) (r : Result Units Refusal)
    → SumFound (λ z. z.0) (participants kind) (held_in p s) r → units_found r ≡ participant_total kind p s
units_total kind p s (Ok z) h = rw (h.0, ← h.1)
units_total kind p s (Err e) h = rw (h.0, h.1)

pub cents_total : (c : List ℤ) (r : Result Cents Refusal) → SumFound (λ z. z.0) every_account (cash_on c) r → cents_found r ≡ cash_total c
unfolding cash_total
cents_total c (Ok z) h = rw (h.0, ← h.1)
cents_total c (Err e) h = rw (h.0, h.1)
