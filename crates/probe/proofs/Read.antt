-- 1 and 2 come before all other numbers: where one of them applies nothing changes, and where none does, the byte is known, its operands are there, and
-- the call is the desk's.
use Prim.Native.Nat.{ℕ, zero, suc, ◌-◌, ◌≤◌, ◌<◌}
use native.Mathlib.Omega.{arith}
use mathlib.Core.Path.{◌≡◌, refl, sym, ap, ◌∙◌}
use mathlib.Core.Logic.{◌≢◌, ◌⊎◌, inl, inr}
use mathlib.Core.Bool.{Bool, true, false, ◌&&◌, ◌||◌, not}
use mathlib.Core.List.{List, [], ◌∷◌}
use mathlib.Core.Option.{some}
use lib.Dec.{eqb, leb, ltb}
use lib.ListN.{length, take}
use lib.Seq.{length-take-le}
use Rattle.rules.specs.declared.answer.Answer.TheVariants.{Refused}
use Rattle.rules.specs.declared.Step.{Step}
use Rattle.rules.specs.Tests.{Condition, ◌when◌, first_of}
use Rattle.rules.specs.Calls.{Store, Call, settle, derive, outcome, lent_steps, desk_conditions, desk}
use Rattle.rules.specs.Stream.{widths, former_tag, width_of, call_of}
use Rattle.rules.proofs.Basics.{and_both, or_cases, eqb_is, leb_is, ltb_not, quiet}
use Rattle.rules.proofs.Conditions.{first_before, first_after}
use Rattle.wire.proofs.Widths.{width_is}
use Rattle.wire.specs.Operands.{halves_in, day_in}
use Rattle.codes.specs.Read.{is_entry, is_move, asked, width, read_conditions}
use Rattle.probe.specs.Exports.{is_settlement, is_derivation, lending, obeyed}

-- ---- the two numbers

abbrev two : Bool → Bool → List Condition
two b s = 1 when b ∷ 2 when s ∷ []

clear : (known s : Bool) → first_of (1 when not known ∷ 2 when s ∷ []) ≡ 0 → (known ≡ true) × (s ≡ false)
clear false s e = let z : ⊥ = omega arith in absurd z
clear true true e = let z : ⊥ = omega arith in absurd z
clear true false e = (refl, refl)

refused_by : (k : Call) (st : Store) (n : ℕ) → n ≢ 0 → outcome n k st ≡ record { answer = Refused n; store = st; steps = lent_steps k }
refused_by k st zero ne = absurd (ne refl)
refused_by k st (suc n) ne = refl

module _ (known : Bool) (tag : ℕ) (o : List ℕ) (n : ℕ) (e : n ≡ first_of (read_conditions known tag o)) where
  pub known_is : n ≡ 0 → known ≡ true
  known_is z = (clear known (ltb (length o) (width tag)) (sym e ∙ z)).0

  pub whole_is : n ≡ 0 → width tag ≤ length o
  whole_is z = ltb_not (length o) (width tag) (clear known (ltb (length o) (width tag)) (sym e ∙ z)).1

  module _ (k : Call) (st : Store) where
    pub read_refused : n ≢ 0 → obeyed known tag o k st ≡ record { answer = Refused n; store = st; steps = lent_steps k }
    unfolding obeyed
    read_refused ne =
        ap (λ (m : ℕ). outcome m k st) (first_before (two (not known) (ltb (length o) (width tag))) (desk_conditions k st) (λ z. ne (e ∙ z)) ∙ sym e) ∙ refused_by k st n ne

    pub read_passed : n ≡ 0 → obeyed known tag o k st ≡ desk k st
    unfolding obeyed desk
    read_passed z = ap (λ (m : ℕ). outcome m k st) (first_after (two (not known) (ltb (length o) (width tag))) (desk_conditions k st) (quiet (two (not known) (ltb (length o) (width tag))) refl (sym e ∙ z)))

-- ---- the bytes that an export knows

-- 01 to 03, 05 or 0E
pub entry_tag : (tag : ℕ) → is_entry tag ≡ true → {P : Type 0} → (1 ≤ tag → tag ≤ 3 → P) → (tag ≡ 5 → P) → (tag ≡ 14 → P) → P
entry_tag tag e {P} low link pair = go (or_cases (leb 1 tag && leb tag 3) (eqb tag 5 || eqb tag 14) e)
  where
    above : (eqb tag 5 ≡ true) ⊎ (eqb tag 14 ≡ true) → P
    above (inl k) = link (eqb_is tag 5 k)
    above (inr k) = pair (eqb_is tag 14 k)

    go : ((leb 1 tag && leb tag 3) ≡ true) ⊎ ((eqb tag 5 || eqb tag 14) ≡ true) → P
    go (inl k) = let b = and_both (leb 1 tag) (leb tag 3) k in low (leb_is 1 tag b.0) (leb_is tag 3 b.1)
    go (inr k) = above (or_cases (eqb tag 5) (eqb tag 14) k)

pub move_tag : (tag : ℕ) → is_move tag ≡ true → (6 ≤ tag) × (tag ≤ 9)
move_tag tag e = let b = and_both (leb 6 tag) (leb tag 9) e in (leb_is 6 tag b.0, leb_is tag 9 b.1)

-- a known byte with as many operands as it asks for
pub whole : (tag : ℕ) (o : List ℕ) → is_entry tag ≡ true → width tag ≤ length o → width_of tag ≡ some (length (take (width tag) o))
whole tag o e h =
    entry_tag tag e
    (λ l k. is (λ z. omega arith) (λ f. omega arith) (omega arith))
    (λ k. is (λ z. omega arith) (λ f. omega arith) (omega arith))
    (λ k. is (λ z. omega arith) (λ f. omega arith) (omega arith))
  where
    is : tag ≢ 0 → tag ≢ former_tag → tag - 1 < length widths → width_of tag ≡ some (length (take (width tag) o))
    is z f k = let w = width_is tag z f k in w ∙ ap some (sym (ap asked w) ∙ sym (length-take-le (width tag) o h))

-- ---- the calls of two halves
settlement_tag : (tag : ℕ) → is_settlement tag ≡ true → (tag ≡ 10) ⊎ (tag ≡ 12)
settlement_tag tag e = go (or_cases (eqb tag 10) (eqb tag 12) e)
  where
    go : (eqb tag 10 ≡ true) ⊎ (eqb tag 12 ≡ true) → (tag ≡ 10) ⊎ (tag ≡ 12)
    go (inl k) = inl (eqb_is tag 10 k)
    go (inr k) = inr (eqb_is tag 12 k)

derivation_tag : (tag : ℕ) → is_derivation tag ≡ true → (tag ≡ 11) ⊎ (tag ≡ 13)
derivation_tag tag e = go (or_cases (eqb tag 11) (eqb tag 13) e)
  where
    go : (eqb tag 11 ≡ true) ⊎ (eqb tag 13 ≡ true) → (tag ≡ 11) ⊎ (tag ≡ 13)
    go (inl k) = inl (eqb_is tag 11 k)
    go (inr k) = inr (eqb_is tag 13 k)

pub settlement_call : (tag : ℕ) (o : List ℕ) (xs : List Step) → is_settlement tag ≡ true → lending xs (call_of tag o) ≡ settle (halves_in tag o) (day_in tag o) xs
unfolding call_of
settlement_call tag o xs e = go (settlement_tag tag e)
  where
    go : (tag ≡ 10) ⊎ (tag ≡ 12) → lending xs (call_of tag o) ≡ settle (halves_in tag o) (day_in tag o) xs
    go (inl k) = rw k
    go (inr k) = rw k

pub derivation_call : (tag : ℕ) (o : List ℕ) (xs : List Step) → is_derivation tag ≡ true → lending xs (call_of tag o) ≡ derive (halves_in tag o) (day_in tag o) xs
unfolding call_of
derivation_call tag o xs e = go (derivation_tag tag e)
  where
    go : (tag ≡ 11) ⊎ (tag ≡ 13) → lending xs (call_of tag o) ≡ derive (halves_in tag o) (day_in tag o) xs
    go (inl k) = rw k
    go (inr k) = rw k
