-- The calls of the commands by kind and by byte, and the widths of their operands.
use mathlib.Core.Path.{◌≡◌, refl, sym, ap, ◌∙◌}
use mathlib.Core.Logic.{◌≢◌}
use mathlib.Core.Bool.{Bool, true, false, ◌&&◌, cond}
use mathlib.Core.List.{List}
use mathlib.Core.Option.{Option, none, some}
use Prim.Native.Nat.{ℕ, zero, suc, ◌≤◌, ◌<◌}
use native.Mathlib.Decide.{ℕ_discrete}
use native.Mathlib.Omega.{arith}
use lib.Dec.{eqb, leb}
use lib.ListN.{length}
use Rattle.rules.specs.Entries.{Row}
use Rattle.rules.specs.Booking.{Way, position_count, cash_count}
use Rattle.rules.specs.Calls.{Halves, Store, Call, enter, move, pay, settle, derive, misfit}
use Rattle.rules.specs.Stream.{widths, width_of, call_of, program_steps}
use Rattle.rules.proofs.Basics.{and_both, eqb_is, eqb-true, leb_is}
use Rattle.rules.proofs.Running.{Ready}
use Rattle.wire.proofs.Decoded.{known_tag}

-- ---- kinds

-- 0A to 0D
abbrev pub TwoHalves : ℕ → Type 0
TwoHalves tag = (10 ≤ tag) × (tag < 14)

-- what holds of each of them
each_of_two : (P : ℕ → Type 0) (tag : ℕ) → TwoHalves tag → P 10 → P 11 → P 12 → P 13 → P tag
each_of_two P tag h a b c d = go (ℕ_discrete tag 10) (ℕ_discrete tag 11) (ℕ_discrete tag 12)
  where
    go : Dec (tag ≡ 10) → Dec (tag ≡ 11) → Dec (tag ≡ 12) → P tag
    go (yes k) y z = rw k a
    go (no x) (yes k) z = rw k b
    go (no x) (no y) (yes k) = rw k c
    go (no x) (no y) (no z) = let k : tag ≡ 13 = omega (arith, x, y, z) in rw k d

-- the byte is n, or another
next : (P : Call → Type 0) (n tag : ℕ) {x y : Call} → (tag ≡ n → P x) → P y → P (cond (eqb tag n) x y)
next P n tag {x} {y} here other = go (eqb tag n) refl
  where
    go : (b : Bool) → eqb tag n ≡ b → P (cond b x y)
    go true e = here (eqb_is tag n e)
    go false e = other

-- what holds of each kind of call holds of every command's
pub by_kind : (P : Call → Type 0) (tag : ℕ) (o : List ℕ) → ((x : Row) → P (enter x)) → ((w : Way) (a s q day : ℕ) → P (move w a s q day))
    → ((w : Way) (a m : ℕ) → P (pay w a m)) → (TwoHalves tag → (hs : Halves) (day : ℕ) → P (settle hs day program_steps))
    → (TwoHalves tag → (hs : Halves) (day : ℕ) → P (derive hs day program_steps)) → P (call_of tag o)
unfolding call_of
by_kind P tag o entered moved paid settled derived =
    next P 1 tag (λ e. entered _) (next P 2 tag (λ e. entered _) (next P 3 tag (λ e. entered _) (next P 5 tag (λ e. entered _)
    (next P 6 tag (λ e. moved _ _ _ _ _) (next P 7 tag (λ e. moved _ _ _ _ _) (next P 8 tag (λ e. paid _ _ _) (next P 9 tag (λ e. paid _ _ _)
    (next P 10 tag (λ e. settled (omega arith, omega arith) _ _) (next P 11 tag (λ e. derived (omega arith, omega arith) _ _)
    (next P 12 tag (λ e. settled (omega arith, omega arith) _ _) (next P 13 tag (λ e. derived (omega arith, omega arith) _ _) (entered _))))))))))))

-- a ready store's lists, and the program's step list, fit
pub fits : (st : Store) → Ready st → (tag : ℕ) (o : List ℕ) → misfit (call_of tag o) st ≡ false
unfolding misfit
fits st ready tag o =
    by_kind (λ (c : Call). misfit c st ≡ false) tag o (λ x. refl) (λ w a s q day. rw held) (λ w a m. rw paid) (λ k hs day. rw (held, paid)) (λ k hs day. refl)
  where
    held : eqb (length st.positions) position_count ≡ true
    held = eqb-true (length st.positions) position_count ready.positions

    paid : eqb (length st.cash) cash_count ≡ true
    paid = eqb-true (length st.cash) cash_count ready.cash

-- ---- widths

-- two or more, or none at all
is_wide : Option ℕ → Bool
is_wide none = true
is_wide (some w) = leb 2 w

-- those of the bytes 1 to n
each_wide : ℕ → Bool
each_wide zero = true
each_wide (suc n) = is_wide (width_of (suc n)) && each_wide n

wide_at : (n tag : ℕ) → 1 ≤ tag → tag ≤ n → each_wide n ≡ true → is_wide (width_of tag) ≡ true
unfolding each_wide
wide_at zero tag l h e = absurd (omega arith)
wide_at (suc n) tag l h e =
    let both = and_both (is_wide (width_of (suc n))) (each_wide n) e in
    here_or_below both.0 (λ k. wide_at n tag l (omega (arith, k)) both.1) (ℕ_discrete tag (suc n))
  where
    here_or_below : is_wide (width_of (suc n)) ≡ true → (tag ≢ suc n → is_wide (width_of tag) ≡ true) → Dec (tag ≡ suc n) → is_wide (width_of tag) ≡ true
    here_or_below here below (yes k) = rw k here
    here_or_below here below (no k) = below k

-- no command has less than two bytes of operands
pub wide : (tag w : ℕ) → width_of tag ≡ some w → 2 ≤ w
unfolding is_wide each_wide
wide tag w e = let known = known_tag tag w e in leb_is 2 w (sym (ap is_wide e) ∙ wide_at (length widths) tag known.0 known.1 refl)

-- two halves and their day have 42 or more
pub pair_wide : (tag w : ℕ) → width_of tag ≡ some w → TwoHalves tag → 42 ≤ w
pair_wide tag w e h = each_of_two (λ t. width_of t ≡ some w → 42 ≤ w) tag h (at 42 (omega arith)) (at 42 (omega arith)) (at 44 (omega arith)) (at 44 (omega arith)) e
  where
    at : (x : ℕ) → 42 ≤ x → some x ≡ some w → 42 ≤ w
    at x m same = let is : x ≡ w = cc in omega arith
