-- Demand 1: the numbers of the conditions of every call and of the totals are those of the places, 3 to 24.
use mathlib.Core.Path.{◌≡◌, refl, sym, ap, ◌∙◌}
use mathlib.Core.Logic.{◌⊎◌, inl, inr}
use mathlib.Core.Bool.{true, not, true≢false}
use mathlib.Core.List.{List, ◌∷◌}
use mathlib.Core.Option.{Option, none, some}
use Prim.Native.Nat.{ℕ, zero, suc, ◌≤◌}
use native.Mathlib.Omega.{arith}
use Rattle.rules.specs.Types.{Directory, Units, Cents}
use lib.IntN.{ℤ}
use lib.Dec.{eqb}
use lib.ListN.{length}
use Rattle.rules.specs.Tests.{Condition, ◌when◌, first_of}
use Rattle.rules.specs.Directory.{Rows, rows_of}
use Rattle.rules.specs.Entries.{Row, csd_row, security_row, account_row, pair_row, link_row, row_conditions, sound}
use Rattle.rules.specs.Lookups.{home_of, ask}
use Rattle.rules.specs.Chain.{unchained, steps_of, chain_conditions}
use Rattle.rules.specs.Booking.{Way, contra, move_by, move_chain, move_conditions, position_count, cash_count, security_total_by, security_total_conditions, cash_total_by, cash_total_conditions}
use Rattle.rules.specs.Calls.{Halves, Store, Call, enter, move, pay, settle, derive, desk, core, outcome, success, core_conditions, desk_conditions, delivering, receiving, halves_conditions, halves_chain, derive_conditions, book_conditions, settle_conditions, is_accepted, units_number, cents_number, desk_security_total, desk_cash_total}
use Rattle.rules.specs.Demands.{Numbered, Refuses}
use Rattle.rules.proofs.Basics.{impossible, Quiet, quiet}
use Rattle.rules.proofs.Places.{in_places}
use Rattle.rules.proofs.ChainSize.{chain_number}
use Rattle.rules.proofs.Conditions.{ranging, ranging_append, ranging_numbered, first_range, chain_ranges}

-- ---- the numbers of the calls' conditions
move_number : (r : Rows) (w : Way) (a s n : ℕ) → move_chain (ask r) w a s ≡ unchained n → n ≡ 19
unfolding move_chain
move_number r w a s n e = go (contra (ask r) s (home_of r.accounts a) a) e
  where
    go : (o : Option ℕ) → move_by w (home_of r.accounts a) a o ≡ unchained n → n ≡ 19
    go none f = cc
    go (some u) f = impossible (cc)

-- they lie from 3 to 24
abbrev Ranging : List Condition → Type 0
Ranging cs = ranging 3 24 cs ≡ true

row_ranges : (r : Rows) (x : Row) → Ranging (row_conditions r x)
row_ranges r (csd_row x) = refl
row_ranges r (security_row x) = refl
row_ranges r (account_row x) = refl
row_ranges r (pair_row x) = refl
row_ranges r (link_row x) = refl

derive_ranges : (r : Rows) (hs : Halves) → Ranging (derive_conditions (ask r) hs)
derive_ranges r hs =
    ranging_append 3 24 (halves_conditions (ask r) hs) (chain_conditions (halves_chain (ask r) hs)) refl
    (chain_ranges 3 24 (halves_chain (ask r) hs)
    (λ n e. let k : (14 ≤ n) × (n ≤ 18) = chain_number r _ _ _ n e in (omega (arith, k.0), omega (arith, k.1))))

move_ranges : (r : Rows) (p : List ℤ) (w : Way) (a s q : ℕ) → Ranging (move_conditions (ask r) p w a s q)
move_ranges r p w a s q =
    ranging_append 3 24 (chain_conditions (move_chain (ask r) w a s)) _
    (chain_ranges 3 24 (move_chain (ask r) w a s) (λ n e. let f : n ≡ 19 = move_number r w a s n e in (omega arith, omega arith)))
    refl

settle_ranges : (r : Rows) (p c : List ℤ) (hs : Halves) → Ranging (settle_conditions (ask r) p c hs)
settle_ranges r p c hs =
    ranging_append 3 24 (derive_conditions (ask r) hs) (book_conditions (ask r) p c (delivering hs) (receiving hs) (steps_of (halves_chain (ask r) hs))) (derive_ranges r hs) refl

core_ranges : (c : Call) (st : Store) → Ranging (core_conditions c st)
core_ranges (enter x) st = row_ranges (rows_of st.directory) x
core_ranges (move w a s q day) st = move_ranges _ st.positions w a s q
core_ranges (pay w a m) st = refl
core_ranges (settle hs day lent) st = settle_ranges _ st.positions st.cash hs
core_ranges (derive hs day lent) st = derive_ranges _ hs

desk_ranges : (c : Call) (st : Store) → Ranging (desk_conditions c st)
desk_ranges c st = core_ranges c st

pub desk_quiet : (c : Call) (st : Store) → first_of (desk_conditions c st) ≡ 0 → Quiet (desk_conditions c st)
desk_quiet c st e = quiet (desk_conditions c st) (ranging_numbered 3 24 (desk_conditions c st) (omega arith) (desk_ranges c st)) e

-- ---- what an outcome says of its number
pub success_accepted : (c : Call) (st : Store) → is_accepted (success c st) ≡ true
success_accepted (enter x) st = refl
success_accepted (move w a s q day) st = refl
success_accepted (pay w a m) st = refl
success_accepted (settle hs day lent) st = refl
success_accepted (derive hs day lent) st = refl

accepted_zero : (n : ℕ) (c : Call) (st : Store) → is_accepted (outcome n c st).answer ≡ true → n ≡ 0
accepted_zero zero c st e = refl
accepted_zero (suc n) c st e = absurd (true≢false (sym e))

-- a call that nothing refuses; the converse is in `accepted_free`
pub desk_clear : (c : Call) (st : Store) → first_of (desk_conditions c st) ≡ 0 → desk c st ≡ outcome 0 c st
unfolding desk
desk_clear c st e = ap (λ (n : ℕ). outcome n c st) e

pub accepted_free : (c : Call) (st : Store) → is_accepted (desk c st).answer ≡ true → first_of (desk_conditions c st) ≡ 0
unfolding desk
accepted_free c st e = accepted_zero (first_of (desk_conditions c st)) c st e

-- ---- Demand 1
outcome_refuses : (n : ℕ) (c : Call) (st : Store) → (n ≡ 0) ⊎ ((3 ≤ n) × (n ≤ 24)) → Refuses c st (outcome n c st)
outcome_refuses zero c st h =
    record {
      by_number = λ e. absurd (true≢false (sym (success_accepted c st) ∙ e));
      store_as_before = λ e. absurd (true≢false (sym (success_accepted c st) ∙ e));
      steps_as_before = λ e. absurd (true≢false (sym (success_accepted c st) ∙ e));
    }
outcome_refuses (suc n) c st (inl e) = absurd (omega arith)
outcome_refuses (suc n) c st (inr h) = record { by_number = λ e. in_places (suc n) h.0 h.1; store_as_before = λ e. refl; steps_as_before = λ e. refl }

pub desk_refuses : (c : Call) (st : Store) → Refuses c st (desk c st)
unfolding desk
desk_refuses c st = outcome_refuses (first_of (desk_conditions c st)) c st (first_range 3 24 (desk_conditions c st) (desk_ranges c st))

pub core_refuses : (c : Call) (st : Store) → Refuses c st (core c st)
unfolding core
core_refuses c st =
    outcome_refuses (first_of (core_conditions c st)) c st (first_range 3 24 (core_conditions c st) (core_ranges c st))

-- ---- the totals

-- the conditions of the total of a security, and of cash
abbrev pub units_conditions : Directory → List ℤ → ℕ → List Condition
units_conditions d p s = 3 when not (eqb (length p) position_count) ∷ 4 when not (sound d) ∷ security_total_conditions (ask (rows_of d)) p s

abbrev pub cash_conditions : List ℤ → List Condition
cash_conditions c = 3 when not (eqb (length c) cash_count) ∷ cash_total_conditions c

units_by : (n : ℕ) (z : Units) → (n ≡ 0) ⊎ ((3 ≤ n) × (n ≤ 24)) → Numbered (units_number (security_total_by n z))
units_by zero z h = λ ne. absurd (ne refl)
units_by (suc n) z (inl e) = absurd (omega arith)
units_by (suc n) z (inr h) = λ ne. in_places (suc n) h.0 h.1

pub units_numbered : (d : Directory) (p : List ℤ) (s : ℕ) → Numbered (units_number (desk_security_total d p s))
unfolding desk_security_total
units_numbered d p s =
    units_by (first_of (units_conditions d p s)) _ (first_range 3 24 (units_conditions d p s) refl)

cents_by : (n : ℕ) (z : Cents) → (n ≡ 0) ⊎ ((3 ≤ n) × (n ≤ 24)) → Numbered (cents_number (cash_total_by n z))
cents_by zero z h = λ ne. absurd (ne refl)
cents_by (suc n) z (inl e) = absurd (omega arith)
cents_by (suc n) z (inr h) = λ ne. in_places (suc n) h.0 h.1

pub cents_numbered : (c : List ℤ) → Numbered (cents_number (desk_cash_total c))
unfolding desk_cash_total
cents_numbered c = cents_by (first_of (cash_conditions c)) _ (first_range 3 24 (cash_conditions c) refl)
