-- What a call changes: as judged before it a number is within 2 times 10^15, and each change adds 1, so that no sum leaves 64 bits.
use mathlib.Core.Path.{◌≡◌}
use mathlib.Core.Bool.{false}
use mathlib.Core.List.{List}
use Prim.Native.Nat.{ℕ, ◌+◌, ◌≤◌, ◌<◌}
use native.Mathlib.Omega.{arith}
use native.Mathlib.Decide.{dec_lt, ℕ_discrete}
use lib.ListN.{length, get_or, set}
use lib.Seq.{get_or-set_same, get_or-set_other, set_out}
use lib.IntN.{ℤ, pos, neg_ℤ, ◌+ℤ◌}
use Rattle.rules.specs.Booking.{limit, beyond}
use Rattle.amounts.proofs.Integers.{add_law, neg_up, neg_dn}
use Rattle.holdings.proofs.Bounds.{Within, within_one, within_plus}

pub within_pos : (q : ℕ) → q ≤ limit → Within 1 (pos q)
within_pos q h = record { most = omega arith; least = omega arith }

pub within_neg : (q : ℕ) → q ≤ limit → Within 1 (neg_ℤ (pos q))
within_neg q h = record { most = omega (arith, neg_up (pos q), neg_dn (pos q)); least = omega (arith, neg_up (pos q), neg_dn (pos q)) }

within_more : (m n : ℕ) (z : ℤ) → Within m z → Within (m + n) z
within_more m n z h = record { most = omega arith; least = omega arith }

-- what a change within 10^15 leaves within 10^15 was within twice that
pub within_two : (x z : ℤ) → Within 1 z → beyond (x +ℤ z) ≡ false → Within 2 x
within_two x z h e =
    let k = within_one (x +ℤ z) e in
    record { most = omega (arith, add_law x z); least = omega (arith, add_law x z) }

-- a number of a list in which one number changes
pub within_added : (m n : ℕ) (l : List ℤ) (k : ℕ) (z : ℤ) (j : ℕ) → Within n z → Within m (get_or l j (pos 0))
    → Within (m + n) (get_or (set l k (get_or l k (pos 0) +ℤ z)) j (pos 0))
within_added m n l k z j h w = go (ℕ_discrete j k) (dec_lt k (length l))
  where
    go : Dec (j ≡ k) → Dec (k < length l) → Within (m + n) (get_or (set l k (get_or l k (pos 0) +ℤ z)) j (pos 0))
    go (no other) b = rw (get_or-set_other l k j (get_or l k (pos 0) +ℤ z) (pos 0) other) (within_more m n (get_or l j (pos 0)) w)
    go (yes e) (yes h') =
        rw (e, get_or-set_same l k (get_or l k (pos 0) +ℤ z) (pos 0) h') (within_plus m n (get_or l k (pos 0)) z (rw e at w) h)
    go (yes e) (no h') =
        let out : length l ≤ k = omega arith in
        rw (set_out l k (get_or l k (pos 0) +ℤ z) out) (within_more m n (get_or l j (pos 0)) w)
