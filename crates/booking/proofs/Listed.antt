-- Steps that stand as numbers in a list: one more of them booked.
use mathlib.Core.Path.{◌≡◌, refl}
use mathlib.Core.Logic.{⊎_elim}
use mathlib.Core.Bool.{false}
use mathlib.Core.List.{List, [], ◌∷◌, ◌++◌}
use Prim.Native.Nat.{ℕ, zero, suc, ◌+◌, ◌*◌, ◌%◌, ◌≤◌, ◌<◌}
use native.Mathlib.Omega.{arith}
use native.Mathlib.Nat.{eq-or-lt_of_le, le_of_suc-le-suc}
use lib.ListN.{length, get_or, set}
use lib.IntN.{ℤ, pos, neg_ℤ, ◌+ℤ◌}
use mir.Syntax.{w64}
use mir.Val.{SFits}
use Rattle.rules.specs.declared.Step.{Step}
use Rattle.rules.specs.Tests.{any}
use Rattle.rules.specs.Chain.{step}
use Rattle.rules.specs.Booking.{limit, position, place, add_units, moved, booked, step_beyond, units_beyond}
use Rattle.rules.proofs.Basics.{or_none}
use Rattle.chain.specs.StepList.{step_at, steps_in}
use Rattle.chain.proofs.StepList.{step_here, steps_counted}
use Rattle.holdings.proofs.Listed.{steps_more, any_more}
use Rattle.booking.specs.Room.{Room, Bookable}
use Rattle.booking.proofs.Booked.{Touch, Touches, touched, room, touches_moved}

-- what 22 lets pass it lets pass in part
beyond_part : (b : List ℕ) (p : List ℤ) (s q n i : ℕ) → i ≤ n → units_beyond p s q (steps_in b n) ≡ false → units_beyond p s q (steps_in b i) ≡ false
unfolding units_beyond steps_in
beyond_part b p s q zero i h e = let z : i ≡ 0 = omega arith in rw z
beyond_part b p s q (suc n) i h e =
    let o = or_none (any (step_beyond p s q) (steps_in b n)) (step_beyond p s q (step_at b n)) (rw (any_more (step_beyond p s q) (steps_in b n) (step_at b n)) at e) in
    ⊎_elim (λ z. rw z e) (λ l. beyond_part b p s q n i (le_of_suc-le-suc l) o.0) (eq-or-lt_of_le h)

-- ---- booked
booked_last : (xs : List Step) (x : Step) (s q : ℕ) (p : List ℤ) → booked (xs ++ (x ∷ [])) s q p ≡ moved x s q (booked xs s q p)
unfolding booked
booked_last [] x s q p = refl
booked_last (y ∷ xs) x s q p = booked_last xs x s q (moved y s q p)

touch_last : (xs : List Step) (x : Step) (m s q : ℕ) (p : List ℤ) → q ≤ limit → Touches m p s (xs ++ (x ∷ [])) → Touch (m + 2 * length xs) (booked xs s q p) s x
unfolding Touches booked
touch_last [] x m s q p h t = let e : m + 2 * 0 ≡ m = omega arith in rw e t.0
touch_last (y ∷ xs) x m s q p h t =
    let e : m + 2 * suc (length xs) ≡ m + 1 + 1 + 2 * length xs = omega arith in
    rw e (touch_last xs x (m + 1 + 1) s q (moved y s q p) h (touches_moved m s q p h y (xs ++ (x ∷ [])) t.1))

pub booked_none : (b : List ℕ) (s q : ℕ) (p : List ℤ) → p ≡ booked (steps_in b 0) s q p
unfolding booked steps_in
booked_none b s q p = refl

-- ---- the first n steps can be booked, those before the step i are: the step i has room, and is booked next
module _ (b : List ℕ) (i s q : ℕ) (p : List ℤ) (n : ℕ) (can : Bookable p s q b n) (here : i < n) (p' : List ℤ) (is : p' ≡ booked (steps_in b i) s q p) where
  pub next_room : Room p' s q (step_at b i)
  next_room =
      let passed = rw (steps_more b i) at (beyond_part b p s q n (i + 1) (omega arith) can.passes) in
      let touches = touched (steps_in b i ++ (step_at b i ∷ [])) s q p can.small passed in
      rw is
      (room (2 + 2 * length (steps_in b i)) s q (booked (steps_in b i) s q p) can.small (step_at b i) (omega (arith, steps_counted b i))
      (touch_last (steps_in b i) (step_at b i) 2 s q p can.small touches))

  pub next_booked : moved (step_at b i) s q p' ≡ booked (steps_in b (i + 1)) s q p
  next_booked = rw (is, steps_more b i, booked_last (steps_in b i) (step_at b i) s q p)

  -- the same by its numbers in the list, and the places of its two positions
  next_is : step_at b i ≡ step (get_or b (3 * i) 0 % 256) (get_or b (3 * i + 1) 0) (get_or b (3 * i + 2) 0)
  next_is = step_here b i can.size (omega arith)

  module _ (from to : ℕ) (from_is : from ≡ place s (get_or b (3 * i + 1) 0)) (to_is : to ≡ place s (get_or b (3 * i + 2) 0)) where
    pub debit_room : SFits w64 (get_or p' from (pos 0) +ℤ neg_ℤ (pos q))
    unfolding position
    debit_room = rw from_is (rw next_is at next_room).debit

    module _ (between : List ℤ) (gave : between ≡ set p' from (get_or p' from (pos 0) +ℤ neg_ℤ (pos q))) where
      pub credit_room : SFits w64 (get_or between to (pos 0) +ℤ pos q)
      unfolding position add_units
      credit_room = rw (gave, from_is, to_is) (rw next_is at next_room).credit

      pub both_booked : set between to (get_or between to (pos 0) +ℤ pos q) ≡ booked (steps_in b (i + 1)) s q p
      unfolding position add_units moved
      both_booked = rw (gave, from_is, to_is) (rw next_is at next_booked)
