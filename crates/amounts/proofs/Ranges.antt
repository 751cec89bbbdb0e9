-- Numbers that end within ±10^15 once a count of 10^15 at most is added or taken: the range that they must be in before, whose ends fit 64 bits.
use mathlib.Core.Path.{◌≡◌, ap, ◌∙◌}
use mathlib.Core.Bool.{true, false, not}
use Prim.Native.Nat.{ℕ, ◌≤◌}
use native.Mathlib.Omega.{arith}
use borrow.Author.Tests.{ltb-true, lt-ltb}
use lib.IntN.{ℤ, pos, neg_ℤ, nat_abs, ◌+ℤ◌, ◌-ℤ◌}
use lib.Signed.{lt_z, le_z}
use mir.Facts.{to_z_pos}
use mir.Syntax.{w64}
use mir.Val.{SFits, to_z}
use Rattle.rules.specs.Booking.{limit, beyond}
use Rattle.rules.proofs.Basics.{equal_tests}
use Rattle.amounts.proofs.Integers.{integers, add_law, sub_law, neg_up, neg_dn, size, to_lt_true, le_is, to_fits}

-- -10^15
abbrev pub lowest : ℤ
lowest = neg_ℤ (pos limit)

module _ (n : ℕ) (small : n ≤ limit) where
  -- the count as a signed number
  pub as_signed : to_z w64 n ≡ pos n
  as_signed = to_z_pos w64 (omega arith)

  -- ---- the ends of the ranges
  pub given_least : SFits w64 (pos n -ℤ pos limit)
  given_least = to_fits (pos n -ℤ pos limit) (omega (integers, sub_law (pos n) (pos limit))) (omega (integers, sub_law (pos n) (pos limit)))

  pub given_most : SFits w64 (pos limit +ℤ pos n)
  given_most = to_fits (pos limit +ℤ pos n) (omega (integers, add_law (pos limit) (pos n))) (omega (integers, add_law (pos limit) (pos n)))

  pub taken_least : SFits w64 (lowest -ℤ pos n)
  taken_least = to_fits (lowest -ℤ pos n) (omega (integers, sub_law lowest (pos n))) (omega (integers, sub_law lowest (pos n)))

  pub taken_most : SFits w64 (pos limit -ℤ pos n)
  taken_most = to_fits (pos limit -ℤ pos n) (omega (integers, sub_law (pos limit) (pos n))) (omega (integers, sub_law (pos limit) (pos n)))

  module _ (x : ℤ) where
    -- ---- n less
    abbrev less : ℤ
    less = x +ℤ neg_ℤ (pos n)

    pub within_below : lt_z x (pos n) ≡ true → le_z (pos n -ℤ pos limit) x ≡ not (beyond less)
    unfolding beyond
    within_below h =
        let e = add_law x (neg_ℤ (pos n)) in
        let a = sub_law (pos n) (pos limit) in
        le_is (pos n -ℤ pos limit) x ∙ ap not (equal_tests (lt_z x (pos n -ℤ pos limit)) (beyond less)
        (λ t. lt-ltb limit (nat_abs less) (omega (integers, e, a, neg_up (pos n), neg_dn (pos n), size less)))
        (λ t. to_lt_true x (pos n -ℤ pos limit) (omega (integers, ltb-true limit (nat_abs less) t, e, a, neg_up (pos n), neg_dn (pos n), size less))))

    pub within_above : lt_z x (pos n) ≡ false → le_z x (pos limit +ℤ pos n) ≡ not (beyond less)
    unfolding beyond
    within_above h =
        let e = add_law x (neg_ℤ (pos n)) in
        let a = add_law (pos limit) (pos n) in
        le_is x (pos limit +ℤ pos n) ∙ ap not (equal_tests (lt_z (pos limit +ℤ pos n) x) (beyond less)
        (λ t. lt-ltb limit (nat_abs less) (omega (integers, e, a, neg_up (pos n), neg_dn (pos n), size less)))
        (λ t. to_lt_true (pos limit +ℤ pos n) x (omega (integers, ltb-true limit (nat_abs less) t, e, a, neg_up (pos n), neg_dn (pos n), size less))))

    -- ---- n more
    abbrev more : ℤ
    more = x +ℤ pos n

    pub beyond_low : lt_z x (lowest -ℤ pos n) ≡ true → beyond more ≡ true
    unfolding beyond
    beyond_low h = lt-ltb limit (nat_abs more) (omega (integers, add_law x (pos n), sub_law lowest (pos n), size more))

    pub within_high : lt_z x (lowest -ℤ pos n) ≡ false → le_z x (pos limit -ℤ pos n) ≡ not (beyond more)
    unfolding beyond
    within_high h =
        let e = add_law x (pos n) in
        let a = sub_law (pos limit) (pos n) in
        let b = sub_law lowest (pos n) in
        le_is x (pos limit -ℤ pos n) ∙ ap not (equal_tests (lt_z (pos limit -ℤ pos n) x) (beyond more)
        (λ t. lt-ltb limit (nat_abs more) (omega (integers, e, a, b, size more)))
        (λ t. to_lt_true (pos limit -ℤ pos n) x (omega (integers, ltb-true limit (nat_abs more) t, e, a, b, size more))))
