-- Steps of a list that fit, one after the other: out at the first that does not.
use mathlib.Core.Path.{◌≡◌, refl, sym, ◌∙◌}
use mathlib.Core.Logic.{⊎_elim}
use mathlib.Core.Bool.{Bool, true, false, not, ◌&&◌, ◌||◌, and-false}
use mathlib.Core.List.{List, [], ◌∷◌}
use Prim.Native.Nat.{ℕ, zero, suc, ◌+◌, ◌*◌, ◌≤◌, ◌<◌}
use native.Mathlib.Omega.{arith}
use native.Mathlib.Nat.{eq-or-lt_of_le, le_of_suc-le-suc}
use borrow.Author.Tests.{le-leb, eq-eqb, leb-true, ltb-true, eqb-true, lt-ltb, le-ltb}
use lib.Dec.{eqb, leb}
use lib.IntN.{ℤ, pos, neg_ℤ, ◌+ℤ◌, ◌-ℤ◌}
use lib.ListN.{length, get_or}
use lib.Signed.{lt_z, le_z}
use mir.Facts.{to_z-of_z}
use mir.Syntax.{w64}
use mir.Val.{SFits, to_z, of_z}
use Rattle.rules.specs.declared.Step.{Step}
use Rattle.rules.specs.Tests.{any}
use Rattle.rules.specs.Chain.{step_limit}
use Rattle.rules.specs.Booking.{limit, position, place, beyond, floored, held_in, step_short, units_short, step_beyond, units_beyond}
use Rattle.rules.proofs.Basics.{clash, and_both, or_left, or_right, or_none, unnot, unnot_false, untrue}
use Rattle.amounts.proofs.Ranges.{lowest, as_signed, given_least, given_most, taken_least, taken_most, within_below, within_above, beyond_low, within_high}
use Rattle.chain.specs.StepList.{step_numbers, step_at, steps_in}
use Rattle.chain.proofs.StepList.{step_here}
use Rattle.holdings.specs.Fitting.{stands, debit_fits, credit_fits, unfit, none_unfit, steps_fit, Standing}
use Rattle.holdings.proofs.Listed.{steps_more, any_more}

-- ---- a position by its place
pub behind : (p : List ℤ) (s a at : ℕ) → at ≡ place s a → length p ≤ at → stands p s a ≡ false
behind p s a at is h = le-ltb (place s a) (length p) (omega arith)

-- z is read where the position of a in s stands
pub record Reads (p : List ℤ) (s a : ℕ) (z : ℤ) : Type 0 where
  pub standing : stands p s a ≡ true
  pub held : z ≡ held_in p s a
  pub fits : SFits w64 z

pub reads : (p : List ℤ) (s a at : ℕ) (z : ℤ) → at ≡ place s a → at < length p → z ≡ get_or p at (pos 0) → SFits w64 z → Reads p s a z
unfolding position
reads p s a at z is h e f = record { standing = lt-ltb (place s a) (length p) (omega arith); held = rw (← is) e; fits = f }

-- ---- what is held, against q units: the code compares signed numbers of 64 bits
module _ {p : List ℤ} {s a : ℕ} {z : ℤ} (r : Reads p s a z) (q : ℕ) (small : q ≤ limit) where
  abbrev signed : ℤ → ℤ
  signed x = to_z w64 (of_z w64 x)

  abbrev count : ℤ
  count = to_z w64 q

  below : (b : Bool) → lt_z (signed z) count ≡ b → lt_z (held_in p s a) (pos q) ≡ b
  below b e = rw (← r.held, ← to_z-of_z r.fits, ← as_signed q small) e

  module _ (kind : ℕ → ℕ → Bool) where
    pub debit_short : lt_z (signed z) count ≡ true → floored kind a ≡ true → false ≡ debit_fits kind p s q a
    debit_short e f = rw (r.standing, f, below true e)

    pub debit_low : lt_z (signed z) count ≡ true → floored kind a ≡ false → le_z (signed (count -ℤ pos limit)) (signed z) ≡ debit_fits kind p s q a
    debit_low e f =
        rw (r.standing, f, as_signed q small, to_z-of_z (given_least q small), to_z-of_z r.fits, r.held)
        (within_below q small (held_in p s a) (below true e))

    pub debit_high : lt_z (signed z) count ≡ false → le_z (signed z) (signed (pos limit +ℤ count)) ≡ debit_fits kind p s q a
    debit_high e =
        rw (r.standing, below false e, and-false (floored kind a), as_signed q small, to_z-of_z (given_most q small), to_z-of_z r.fits, r.held)
        (within_above q small (held_in p s a) (below false e))

  lowest_is : (b : Bool) → lt_z (signed z) (signed (lowest -ℤ count)) ≡ b → lt_z (held_in p s a) (lowest -ℤ pos q) ≡ b
  lowest_is b e = rw (← r.held) (rw (as_signed q small, to_z-of_z (taken_least q small), to_z-of_z r.fits) at e)

  pub credit_low : lt_z (signed z) (signed (lowest -ℤ count)) ≡ true → false ≡ credit_fits p s q a
  credit_low e = rw (r.standing, beyond_low q small (held_in p s a) (lowest_is true e))

  pub credit_high : lt_z (signed z) (signed (lowest -ℤ count)) ≡ false → le_z (signed z) (signed (pos limit -ℤ count)) ≡ credit_fits p s q a
  credit_high e =
      rw (r.standing, as_signed q small, to_z-of_z (taken_most q small), to_z-of_z r.fits, r.held)
      (within_high q small (held_in p s a) (lowest_is false e))

-- ---- five tests of a step: a, s and l of the debit, b and h of the credit
unfit_is : (a b s l h : Bool) → (not (a && b) || (s || (l || h))) ≡ not ((a && not (s || l)) && (b && not h))
unfit_is false b s l h = refl
unfit_is true false s l h = rw (and-false (not (s || l)))
unfit_is true true true l h = refl
unfit_is true true false true h = refl
unfit_is true true false false true = refl
unfit_is true true false false false = refl

-- ---- one test of all steps
any_at : (f : Step → Bool) (b : List ℕ) (n i : ℕ) → i < n → f (step_at b i) ≡ true → any f (steps_in b n) ≡ true
unfolding steps_in
any_at f b zero i h e = absurd (omega arith)
any_at f b (suc n) i h e =
    any_more f (steps_in b n) (step_at b n)
    ∙ ⊎_elim (λ z. or_right (any f (steps_in b n)) (f (step_at b n)) (rw (← z) e)) (λ l. or_left (any f (steps_in b n)) (f (step_at b n)) (any_at f b n i l e))
    (eq-or-lt_of_le (le_of_suc-le-suc h))

-- what passes no step passes none by a test that passes fewer
none_fewer : {A : Type 0} (f g : A → Bool) → ((x : A) → f x ≡ false → g x ≡ false) → (xs : List A) → any f xs ≡ false → any g xs ≡ false
none_fewer f g fewer [] e = refl
none_fewer f g fewer (x ∷ xs) e =
    let o = or_none (f x) (any f xs) e in
    rw (fewer x o.0) (none_fewer f g fewer xs o.1)

-- the first n steps of b fit: none is short, none ends beyond, and their positions stand in the list
pub record AllFit (kind : ℕ → ℕ → Bool) (p : List ℤ) (s q : ℕ) (b : List ℕ) (n : ℕ) : Type 0 where
  pub short : units_short kind p s q (steps_in b n) ≡ false
  pub beyond : units_beyond p s q (steps_in b n) ≡ false
  pub standing : Standing p s b n

module _ (kind : ℕ → ℕ → Bool) (p : List ℤ) (s q : ℕ) (b : List ℕ) where
  -- the step i, by its two accounts
  module _ (size : length b ≡ step_numbers) (i : ℕ) (room : i < step_limit) where
    abbrev from : ℕ
    from = get_or b (3 * i + 1) 0

    abbrev to : ℕ
    to = get_or b (3 * i + 2) 0

    here : unfit kind p s q (step_at b i) ≡ not (debit_fits kind p s q from && credit_fits p s q to)
    here =
        let short = floored kind from && lt_z (held_in p s from) (pos q) in
        let low = beyond (held_in p s from +ℤ neg_ℤ (pos q)) in
        rw (step_here b i size room) (unfit_is (stands p s from) (stands p s to) short low (beyond (held_in p s to +ℤ pos q)))

    -- both accounts fit
    abbrev pub fits_here : Bool
    fits_here = debit_fits kind p s q from && credit_fits p s q to

    pub fit_more : none_unfit kind p s q (steps_in b i) ≡ true → fits_here ≡ true → none_unfit kind p s q (steps_in b (i + 1)) ≡ true
    fit_more e f =
        let before = unnot (any (unfit kind p s q) (steps_in b i)) e in
        let now : unfit kind p s q (step_at b i) ≡ false = here ∙ rw f in
        rw (steps_more b i, any_more (unfit kind p s q) (steps_in b i) (step_at b i), before, now)

    -- one that does not decides over those after it
    pub unfit_at : (n : ℕ) → i < n → fits_here ≡ false → false ≡ none_unfit kind p s q (steps_in b n)
    unfit_at n h e = rw (any_at (unfit kind p s q) b n i h (here ∙ rw e))

    module _ (n : ℕ) (h : i < n) where
      fit_stands : any (unfit kind p s q) (steps_in b n) ≡ false → (place s from < length p) × (place s to < length p)
      fit_stands e =
          let fits = untrue (unfit kind p s q (step_at b i)) (λ t. clash (any (unfit kind p s q) (steps_in b n)) (any_at (unfit kind p s q) b n i h t) e) in
          let both = and_both (debit_fits kind p s q from) (credit_fits p s q to) (unnot_false _ (sym here ∙ fits)) in
          let debit = and_both (stands p s from) _ both.0 in
          let credit = and_both (stands p s to) _ both.1 in
          (ltb-true (place s from) (length p) debit.0, ltb-true (place s to) (length p) credit.0)

  fit_apart : (x : Step) → unfit kind p s q x ≡ false → (step_short kind p s q x ≡ false) × (step_beyond p s q x ≡ false)
  fit_apart x e =
      let short = step_short kind p s q x in
      or_none short (step_beyond p s q x) (or_none (not (stands p s x.debited && stands p s x.credited)) (short || step_beyond p s q x) e).1

  -- a quantity, a list and a count in range leave it to the steps
  pub steps_tried : length b ≡ step_numbers → q ≤ limit → (n : ℕ) → n ≤ step_limit → {r : Bool} → r ≡ none_unfit kind p s q (steps_in b n) → r ≡ steps_fit kind p s q b n
  unfolding steps_fit
  steps_tried size small n few e = rw (le-leb q limit small, eq-eqb (length b) step_numbers size, le-leb n step_limit few) e

  -- what fits is neither short nor beyond, and stands in the list
  pub fit_open : (n : ℕ) → steps_fit kind p s q b n ≡ true → AllFit kind p s q b n
  unfolding steps_fit units_short units_beyond
  fit_open n e =
      let none = none_unfit kind p s q (steps_in b n) in
      let ranged = and_both (leb q limit) _ e in
      let sized = and_both (eqb (length b) step_numbers) (leb n step_limit && none) ranged.1 in
      let few = and_both (leb n step_limit) none sized.1 in
      let all = unnot _ few.1 in
      record {
        short = none_fewer (unfit kind p s q) (step_short kind p s q) (λ x u. (fit_apart x u).0) (steps_in b n) all;
        beyond = none_fewer (unfit kind p s q) (step_beyond p s q) (λ x u. (fit_apart x u).1) (steps_in b n) all;
        standing = λ i h. fit_stands (eqb-true (length b) step_numbers sized.0) i (omega (arith, leb-true n step_limit few.0)) n h all;
      }
