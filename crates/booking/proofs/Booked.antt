-- Steps that 22 lets pass can be booked one after the other: every number that they touch stays within 64 bits, however often it is touched.
use mathlib.Core.Path.{◌≡◌}
use mathlib.Core.Bool.{false}
use mathlib.Core.List.{List, [], ◌∷◌}
use Prim.Native.Nat.{ℕ, ◌+◌, ◌≤◌}
use native.Mathlib.Omega.{arith}
use lib.IntN.{ℤ, pos, neg_ℤ, ◌+ℤ◌}
use Rattle.rules.specs.declared.Step.{Step}
use Rattle.rules.specs.declared.Units.{Units}
use Rattle.rules.specs.Tests.{any}
use Rattle.rules.specs.Booking.{limit, beyond, position, place, add_units, less_units, units, held_in, moved, step_beyond, units_beyond}
use Rattle.rules.proofs.Basics.{or_none}
use Rattle.holdings.proofs.Bounds.{Within, within_plus, within_fits}
use Rattle.booking.specs.Room.{Room}
use Rattle.booking.proofs.Bounds.{within_two, within_pos, within_neg, within_added}

-- the two numbers that a step touches
pub record Touch (m : ℕ) (p : List ℤ) (s : ℕ) (x : Step) : Type 0 where
  pub from : Within m (held_in p s x.debited)
  pub to : Within m (held_in p s x.credited)

unfoldable pub Touches : ℕ → List ℤ → ℕ → List Step → Type 0
Touches m p s [] = Unit {0}
Touches m p s (x ∷ xs) = Touch m p s x × Touches m p s xs

pub touched : (xs : List Step) (s q : ℕ) (p : List ℤ) → q ≤ limit → units_beyond p s q xs ≡ false → Touches 2 p s xs
unfolding Touches units_beyond
touched [] s q p h e = tt
touched (x ∷ xs) s q p h e =
    let o = or_none (step_beyond p s q x) (any (step_beyond p s q) xs) e in
    let low = beyond (held_in p s x.debited +ℤ neg_ℤ (pos q)) in
    let high = beyond (held_in p s x.credited +ℤ pos q) in
    let u = or_none low high o.0 in (
      record {
        from = within_two (held_in p s x.debited) (neg_ℤ (pos q)) (within_neg q h) u.0;
        to = within_two (held_in p s x.credited) (pos q) (within_pos q h) u.1;
      },
      touched xs s q p h o.1,
    )

-- a position once another, or the same, is changed
held_added : (m n : ℕ) (p : List ℤ) (s a b : ℕ) (z : Units) → Within n z.0 → Within m (held_in p s b) → Within (m + n) (held_in (add_units p s a z) s b)
unfolding position add_units
held_added m n p s a b z h w = within_added m n p (place s a) z.0 (place s b) h w

module _ (m s q : ℕ) (p : List ℤ) (small : q ≤ limit) (x : Step) where
  pub room : m + 2 ≤ 9000 → Touch m p s x → Room p s q x
  room h t =
      let between = add_units p s x.debited (less_units (units q)) in
      record {
        debit = within_fits (m + 1) (held_in p s x.debited +ℤ neg_ℤ (pos q)) (omega arith)
            (within_plus m 1 (held_in p s x.debited) (neg_ℤ (pos q)) t.from (within_neg q small));
        credit = within_fits (m + 1 + 1) (held_in between s x.credited +ℤ pos q) (omega arith)
            (within_plus (m + 1) 1 (held_in between s x.credited) (pos q)
            (held_added m 1 p s x.debited x.credited (less_units (units q)) (within_neg q small) t.to) (within_pos q small));
      }

  held_moved : (b : ℕ) → Within m (held_in p s b) → Within (m + 1 + 1) (held_in (moved x s q p) s b)
  unfolding moved
  held_moved b w =
      held_added (m + 1) 1 (add_units p s x.debited (less_units (units q))) s x.credited b (units q) (within_pos q small)
      (held_added m 1 p s x.debited b (less_units (units q)) (within_neg q small) w)

  pub touches_moved : (xs : List Step) → Touches m p s xs → Touches (m + 1 + 1) (moved x s q p) s xs
  unfolding Touches
  touches_moved [] t = tt
  touches_moved (y ∷ xs) t = (record { from = held_moved y.debited t.0.from; to = held_moved y.credited t.0.to }, touches_moved xs t.1)
