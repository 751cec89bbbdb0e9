-- Demand 2, every call: the conditions of a call render its relation, so that the number answered is the first that applies.
use mathlib.Core.Path.{◌≡◌, refl, sym, ◌∙◌}
use mathlib.Core.Logic.{◌≢◌, ◌⊎◌, inl, inr}
use mathlib.Core.Bool.{Bool, true, false, not, ◌&&◌, true≢false}
use mathlib.Core.List.{List, Memᴰ}
use Prim.Native.Nat.{ℕ, zero, suc, ◌<◌}
use native.Mathlib.Omega.{arith}
use lib.IntN.{ℤ}
use lib.Dec.{eqb}
use lib.ListN.{length}
use Rattle.rules.specs.Types.{Account, Directory, Units, Cents}
use Rattle.rules.specs.Booking.{SumUnits, SumCents}
use Rattle.rules.specs.Tests.{is_row, Condition, first_of}
use Rattle.rules.specs.Directory.{Rows, rows_of, rows_on, account_limit, is_kind}
use Rattle.rules.specs.Entries.{Row, csd_row, security_row, account_row, pair_row, link_row, sound}
use Rattle.rules.specs.Booking.{position_count, cash_count, held_in, cash_on, beyond, participants, every_account, sum_beyond, participant_sum, cash_sum, security_total_by, cash_total_by}
use Rattle.rules.specs.Calls.{Halves, Store, Call, enter, move, pay, settle, derive, misfit, core_conditions, desk_conditions, outcome, desk, success, number_of, units_number, cents_number, desk_security_total, desk_cash_total}
use Rattle.rules.specs.Demands.{Decides, Ruled, Totalled}
use Rattle.rules.specs.Relations.{Is}
use Rattle.rules.specs.Refusals
use Rattle.rules.specs.Refusals.{places, NoRow, Beyond, RowRefused, DeriveRefused, SettleRefused, CoreRefused, Applies, UnitsTotalRefused, CashTotalRefused}
use Rattle.rules.proofs.Basics.{unnot_false, eqb_is, eqb_not}
use Rattle.rules.proofs.Reflection.{Says, says_as, says_not, says_or, says_and, says_ne}
use Rattle.rules.proofs.Places.{Renders, end, skip, test, none_applies, none_holds, given_first, first_given, renders_as, entry_places, entry_range}
use Rattle.rules.proofs.RowTests.{says_no_row, says_kind_is}
use Rattle.rules.proofs.AmountRelation.{says_beyond}
use Rattle.rules.proofs.SoundRelation.{row_renders, says_sound}
use Rattle.rules.proofs.LentRelation.{says_misfit}
use Rattle.rules.proofs.SideRelation.{no_side_number}
use Rattle.rules.proofs.MoveRelation.{move_renders, pay_renders}
use Rattle.rules.proofs.SettleRelation.{derive_renders, settle_renders}
use Rattle.rules.proofs.Refusals.{units_conditions, cash_conditions}
use Rattle.rules.proofs.Facts.{Facts}
use Rattle.rules.proofs.Soundness.{sound_gives}

-- a number by which conditions that render the propositions decide
pub decides : {P : ℕ → Type 0} {cs : List Condition} (number : ℕ) → first_of cs ≡ number → Renders P cs places → Decides P number
decides {P} {cs} number e R =
    record {
      when_clear = λ clear. sym e ∙ none_holds R clear;
      only_then = λ z. none_applies R (e ∙ z);
      when_first = λ n f. sym e ∙ first_given R n f;
      is_first = λ ne. go number e ne;
    }
  where
    go : (n : ℕ) → first_of cs ≡ n → n ≢ 0 → Refusals.First P n places
    go zero f ne = absurd (ne refl)
    go (suc n) f ne = given_first R n f

-- ---- the calls

-- 5 to 22 over a sound directory
core_renders : (c : Call) (st : Store) → ((day : ℕ) → Facts (rows_on day st.directory)) → Renders (CoreRefused c st) (core_conditions c st) entry_places
core_renders (enter x) st F = row_renders (rows_of st.directory) x
core_renders (move w a s q day) st F = move_renders (rows_on day st.directory) (F day) st.positions w a s q
core_renders (pay w a m) st F = pay_renders (rows_of st.directory) st.cash w a m
core_renders (settle hs day lent) st F = settle_renders (rows_on day st.directory) (F day) hs st.positions st.cash
core_renders (derive hs day lent) st F = derive_renders (rows_on day st.directory) (F day) hs

-- 3 and 4 are no numbers of a row or of halves
row_early : (r : Rows) (x : Row) → (RowRefused r x 3 → ⊥) × (RowRefused r x 4 → ⊥)
row_early r (csd_row x) = ((λ p. elim p [ ]), (λ p. elim p [ ]))
row_early r (security_row x) = ((λ p. elim p [ ]), (λ p. elim p [ ]))
row_early r (account_row x) = ((λ p. elim p [ ]), (λ p. elim p [ ]))
row_early r (pair_row x) = ((λ p. elim p [ ]), (λ p. elim p [ ]))
row_early r (link_row x) = ((λ p. elim p [ ]), (λ p. elim p [ ]))

module _ (r : Rows) (hs : Halves) where
  derive_three : DeriveRefused r hs 3 → ⊥
  derive_three (Refusals.halves (Refusals.each h a x)) = elim x [ ]
  derive_three (Refusals.halves (Refusals.sides x)) = no_side_number hs 3 (omega arith) (omega arith) x
  derive_three (Refusals.halves (Refusals.both h g d x)) = elim x [ ]
  derive_three (Refusals.chain h g d c) = elim c [ ]

  derive_four : DeriveRefused r hs 4 → ⊥
  derive_four (Refusals.halves (Refusals.each h a x)) = elim x [ ]
  derive_four (Refusals.halves (Refusals.sides x)) = no_side_number hs 4 (omega arith) (omega arith) x
  derive_four (Refusals.halves (Refusals.both h g d x)) = elim x [ ]
  derive_four (Refusals.chain h g d c) = elim c [ ]

  settle_three : (p c : List ℤ) → SettleRefused r p c hs 3 → ⊥
  settle_three p c (Refusals.derivation d) = derive_three d
  settle_three p c (Refusals.booking h g d x) = elim x [ ]

  settle_four : (p c : List ℤ) → SettleRefused r p c hs 4 → ⊥
  settle_four p c (Refusals.derivation d) = derive_four d
  settle_four p c (Refusals.booking h g d x) = elim x [ ]

core_early : (c : Call) (st : Store) → (CoreRefused c st 3 → ⊥) × (CoreRefused c st 4 → ⊥)
core_early (enter x) st = row_early (rows_of st.directory) x
core_early (move w a s q day) st = ((λ p. elim p [ ]), (λ p. elim p [ ]))
core_early (pay w a m) st = ((λ p. elim p [ ]), (λ p. elim p [ ]))
core_early (settle hs day lent) st =
    (settle_three (rows_on day st.directory) hs st.positions st.cash, settle_four (rows_on day st.directory) hs st.positions st.cash)
core_early (derive hs day lent) st = (derive_three (rows_on day st.directory) hs, derive_four (rows_on day st.directory) hs)

success_number : (c : Call) (st : Store) → number_of (success c st) ≡ 0
success_number (enter x) st = refl
success_number (move w a s q day) st = refl
success_number (pay w a m) st = refl
success_number (settle hs day lent) st = refl
success_number (derive hs day lent) st = refl

module _ (c : Call) (st : Store) where
  lent : Says (Applies c st 3) (misfit c st)
  lent = says_as (says_misfit st c) Refusals.lists from
    where
      from : Applies c st 3 → Refusals.Misfits st c
      from (Refusals.lists m) = m
      from (Refusals.core p) = absurd ((core_early c st).0 p)

  unsound : Says (Applies c st 4) (not (sound st.directory))
  unsound = says_as (says_not (sound st.directory) (says_sound st.directory)) Refusals.directory from
    where
      from : Applies c st 4 → Refusals.Sound st.directory → ⊥
      from (Refusals.directory n) = n
      from (Refusals.core p) = absurd ((core_early c st).1 p)

  -- behind 4 the core decides
  from_core : (n : ℕ) → Memᴰ n entry_places → Applies c st n → CoreRefused c st n
  from_core n i (Refusals.lists m) = absurd (omega (arith, (entry_range 3 i).0))
  from_core n i (Refusals.directory d) = absurd (omega (arith, (entry_range 4 i).0))
  from_core n i (Refusals.core p) = p

  call_renders : Renders (Applies c st) (desk_conditions c st) places
  call_renders =
      test lent (λ e3. test unsound (λ e4.
      renders_as (λ n i p. Refusals.core p) from_core (core_renders c st (sound_gives st.directory (unnot_false (sound st.directory) e4)))))

  outcome_number : (n : ℕ) → number_of (outcome n c st).answer ≡ n
  outcome_number zero = success_number c st
  outcome_number (suc n) = refl

  outcome_success : (n : ℕ) → number_of (outcome n c st).answer ≡ 0 → (outcome n c st).answer ≡ success c st
  outcome_success zero e = refl
  outcome_success (suc n) e = absurd (omega arith)

  pub ruled : Ruled c st
  unfolding desk
  ruled =
      record {
        number = decides (number_of (desk c st).answer) (sym (outcome_number (first_of (desk_conditions c st)))) call_renders;
        accepted = outcome_success (first_of (desk_conditions c st));
      }

-- ---- the totals

-- a number that the sum adds up and that is beyond ±10^15
says_sum_beyond : {W : ℕ → Type 0} (w : ℕ → Bool) (f : ℕ → ℤ) → ((a : ℕ) → Says (W a) (w a)) → (n : ℕ) → Says ((a : ℕ) × (a < n) × (W a × Beyond (f a))) (sum_beyond w f n)
unfolding sum_beyond
says_sum_beyond {W} w f S zero = record { holds = λ e. absurd (true≢false (sym e)); tests = λ h. let l : h.0 < 0 = h.1 in absurd (omega arith) }
says_sum_beyond {W} w f S (suc n) =
    says_as (says_or (sum_beyond w f n) (w n && beyond (f n)) (says_sum_beyond w f S n) (says_and (w n) (beyond (f n)) (S n) (says_beyond (f n)))) to from
  where
    to : ((a : ℕ) × (a < n) × (W a × Beyond (f a))) ⊎ (W n × Beyond (f n)) → (a : ℕ) × (a < suc n) × (W a × Beyond (f a))
    to (inl h) = let l : h.0 < n = h.1 in (h.0, omega arith, h.2)
    to (inr h) = (n, omega arith, h)

    from : (a : ℕ) × (a < suc n) × (W a × Beyond (f a)) → ((a : ℕ) × (a < n) × (W a × Beyond (f a))) ⊎ (W n × Beyond (f n))
    from h = go (eqb h.0 n) refl
      where
        go : (b : Bool) → eqb h.0 n ≡ b → ((a : ℕ) × (a < n) × (W a × Beyond (f a))) ⊎ (W n × Beyond (f n))
        go true e = let same : h.0 ≡ n = eqb_is h.0 n e in inr (rw same at h.2)
        go false e = let ne : h.0 ≢ n = eqb_not h.0 n e in let l : h.0 < suc n = h.1 in inl (h.0, omega arith, h.2)

module _ (d : Directory) (p : List ℤ) (s : ℕ) where
  abbrev UnitsRefused : ℕ → Type 0
  UnitsRefused = UnitsTotalRefused d p s

  units_lent : Says (UnitsRefused 3) (not (eqb (length p) position_count))
  units_lent = says_as (says_ne (length p) position_count) Refusals.total_positions from
    where
      from : UnitsRefused 3 → length p ≢ position_count
      from (Refusals.total_positions e) = e

  units_unsound : Says (UnitsRefused 4) (not (sound d))
  units_unsound = says_as (says_not (sound d) (says_sound d)) Refusals.total_directory from
    where
      from : UnitsRefused 4 → Refusals.Sound d → ⊥
      from (Refusals.total_directory n) = n

  units_unknown : Says (UnitsRefused 6) (not (is_row (rows_of d).securities s))
  units_unknown = says_as (says_no_row (rows_of d).securities s) Refusals.total_security from
    where
      from : UnitsRefused 6 → NoRow (rows_of d).securities s
      from (Refusals.total_security n) = n

  units_beyond_lem : Says (UnitsRefused 22) (sum_beyond (participants (is_kind (rows_of d).accounts)) (held_in p s) account_limit)
  units_beyond_lem =
      says_as (says_sum_beyond (participants (is_kind (rows_of d).accounts)) (held_in p s) (λ a. says_kind_is (rows_of d).accounts a 0) account_limit)
      (λ h. Refusals.total_beyond h.0 h.2.0.0 h.1 h.2.0.1 h.2.0.2 h.2.1) from
    where
      from : UnitsRefused 22 → (a : ℕ) × (a < account_limit) × (((y : Account) × Is (rows_of d).accounts a y × (y.kind ≡ 0)) × Beyond (held_in p s a))
      from (Refusals.total_beyond a y l i k b) = (a, l, ((y, i, k), b))

  units_renders : Renders UnitsRefused (units_conditions d p s) places
  units_renders =
      test units_lent (λ e3. test units_unsound (λ e4. skip {m = 5} (λ x. elim x [ ]) (test units_unknown (λ e6.
      skip {m = 7} (λ x. elim x [ ]) (skip {m = 8} (λ x. elim x [ ]) (skip {m = 9} (λ x. elim x [ ]) (skip {m = 10} (λ x. elim x [ ])
      (skip {m = 24} (λ x. elim x [ ]) (skip {m = 11} (λ x. elim x [ ]) (skip {m = 23} (λ x. elim x [ ]) (skip {m = 12} (λ x. elim x [ ]) (skip {m = 13} (λ x. elim x [ ]) (skip {m = 14} (λ x. elim x [ ])
      (skip {m = 15} (λ x. elim x [ ]) (skip {m = 16} (λ x. elim x [ ]) (skip {m = 17} (λ x. elim x [ ]) (skip {m = 18} (λ x. elim x [ ])
      (skip {m = 19} (λ x. elim x [ ]) (skip {m = 20} (λ x. elim x [ ]) (skip {m = 21} (λ x. elim x [ ]) (test units_beyond_lem (λ e22. end))))))))))))))))))))))

module _ (c : List ℤ) where
  cash_lent : Says (CashTotalRefused c 3) (not (eqb (length c) cash_count))
  cash_lent = says_as (says_ne (length c) cash_count) Refusals.total_cash from
    where
      from : CashTotalRefused c 3 → length c ≢ cash_count
      from (Refusals.total_cash e) = e

  cash_beyond_lem : Says (CashTotalRefused c 22) (sum_beyond every_account (cash_on c) cash_count)
  cash_beyond_lem =
      says_as (says_sum_beyond every_account (cash_on c) (λ a. record { holds = λ (e : true ≡ true). tt; tests = λ (u : Unit {0}). refl }) cash_count)
      (λ h. Refusals.cash_beyond h.0 h.1 h.2.1) from
    where
      from : CashTotalRefused c 22 → (a : ℕ) × (a < cash_count) × (Unit {0} × Beyond (cash_on c a))
      from (Refusals.cash_beyond a l b) = (a, l, (tt, b))

  cash_renders : Renders (CashTotalRefused c) (cash_conditions c) places
  cash_renders =
      test cash_lent (λ e3. skip {m = 4} (λ x. elim x [ ]) (skip {m = 5} (λ x. elim x [ ]) (skip {m = 6} (λ x. elim x [ ])
      (skip {m = 7} (λ x. elim x [ ]) (skip {m = 8} (λ x. elim x [ ]) (skip {m = 9} (λ x. elim x [ ]) (skip {m = 10} (λ x. elim x [ ])
      (skip {m = 24} (λ x. elim x [ ]) (skip {m = 11} (λ x. elim x [ ]) (skip {m = 23} (λ x. elim x [ ]) (skip {m = 12} (λ x. elim x [ ]) (skip {m = 13} (λ x. elim x [ ]) (skip {m = 14} (λ x. elim x [ ])
      (skip {m = 15} (λ x. elim x [ ]) (skip {m = 16} (λ x. elim x [ ]) (skip {m = 17} (λ x. elim x [ ]) (skip {m = 18} (λ x. elim x [ ])
      (skip {m = 19} (λ x. elim x [ ]) (skip {m = 20} (λ x. elim x [ ]) (skip {m = 21} (λ x. elim x [ ]) (test cash_beyond_lem (λ e22. end))))))))))))))))))))))

units_number_lem : (n : ℕ) (z : Units) → units_number (security_total_by n z) ≡ n
units_number_lem zero z = refl
units_number_lem (suc n) z = refl

cents_number_lem : (n : ℕ) (z : Cents) → cents_number (cash_total_by n z) ≡ n
cents_number_lem zero z = refl
cents_number_lem (suc n) z = refl

units_sum_lem : (n : ℕ) (z : Units) → units_number (security_total_by n z) ≡ 0 → security_total_by n z ≡ SumUnits z
units_sum_lem zero z e = refl
units_sum_lem (suc n) z e = absurd (omega arith)

cents_sum_lem : (n : ℕ) (z : Cents) → cents_number (cash_total_by n z) ≡ 0 → cash_total_by n z ≡ SumCents z
cents_sum_lem zero z e = refl
cents_sum_lem (suc n) z e = absurd (omega arith)

pub totalled : Totalled
unfolding desk_security_total desk_cash_total
totalled =
    record {
      units = λ d p s. decides _ (sym (units_number_lem (first_of (units_conditions d p s)) (participant_sum (is_kind (rows_of d).accounts) p s))) (units_renders d p s);
      units_sum = λ d p s. units_sum_lem (first_of (units_conditions d p s)) (participant_sum (is_kind (rows_of d).accounts) p s);
      cents = λ c. decides _ (sym (cents_number_lem (first_of (cash_conditions c)) (cash_sum c))) (cash_renders c);
      cents_sum = λ c. cents_sum_lem (first_of (cash_conditions c)) (cash_sum c);
    }
