-- The derivation by its refusal: that of the lent list, of the halves, of the chain, else the chain's steps. It is the call of the rules.
use Prim.Native.Nat.{ℕ, zero, suc}
use mathlib.Core.Path.{◌≡◌, refl, sym, ap, ◌∙◌}
use mathlib.Core.Bool.{Bool}
use mathlib.Core.List.{List, []}
use lib.ListN.{length}
use borrow.Author.Tests.{eq-eqb, ne_eqb}
use Rattle.std.specs.Prelude.{Result, Ok, Err}
use Rattle.rules.specs.declared.Half.{Half}
use Rattle.rules.specs.declared.Step.{Step}
use Rattle.rules.specs.declared.refusal.Refusal.{Refusal}
use Rattle.rules.specs.declared.answer.Answer.{Answer}
use Rattle.rules.specs.declared.answer.Answer.TheVariants.{Chained, Refused}
use Rattle.rules.specs.Numbers.{number, chained_by}
use Rattle.rules.specs.Tests.{first_of}
use Rattle.rules.specs.Directory.{rows_on}
use Rattle.rules.specs.Lookups.{Lookups, ask}
use Rattle.rules.specs.Chain.{chained, unchained, chain, steps_of, chain_conditions}
use Rattle.rules.specs.Calls.{Halves, Store, Outcome, derive, outcome, core, written, delivering, receiving, side_unknown, same_side, both_conditions, halves_chain, derive_conditions}
use Rattle.rules.proofs.Basics.{quiet, impossible}
use Rattle.rules.proofs.Numbered.{number_ne0}
use Rattle.rules.proofs.Conditions.{first_before, first_after}
use Rattle.chain.specs.StepList.{step_numbers, steps_in, noted}
use Rattle.chain.specs.Derivation.{chain_into, chain_between, deriving_conditions, Finds, Derived, derived_by, derived, derived_into, DerivedIn, Derives}
use Rattle.halves.specs.Halves.{in_order, Handed}
use Rattle.halves.specs.declared.InOrder.{InOrder}
use Rattle.chain.proofs.StepList.{steps_none, steps_counted, noted_none}
use Rattle.chain.proofs.Linking.{found_refused, found_chained}

-- ---- the chain and the derivation by the length of the lent list
module _ (l : List ℕ) (k : Lookups) (s a b : ℕ) where
  pub chain_misfit : (length l ≡ step_numbers → ⊥) → chain_into l k s a b ≡ unchained 3
  unfolding chain_into
  chain_misfit z = rw (ne_eqb (length l) step_numbers z)

  pub chain_fits : length l ≡ step_numbers → chain_into l k s a b ≡ chain k s a b
  unfolding chain_into
  chain_fits e = rw (eq-eqb (length l) step_numbers e)

module _ (l : List ℕ) (k : Lookups) (h g : Half) (u s : Bool) where
  pub derived_misfit : (length l ≡ step_numbers → ⊥) → derived_into l k h g u s ≡ derived_by 3 []
  unfolding derived_into
  derived_misfit z = rw (ne_eqb (length l) step_numbers z)

  pub derived_fits : length l ≡ step_numbers → derived_into l k h g u s ≡ derived k h g u s
  unfolding derived_into
  derived_fits e = rw (eq-eqb (length l) step_numbers e)

-- ---- the derivation by its number
module _ (k : Lookups) (h g : Half) (u s : Bool) where
  by_number_lem : (n : ℕ) → first_of (deriving_conditions k h g u s) ≡ n → derived k h g u s ≡ derived_by n (steps_of (chain_between k h g))
  unfolding derived
  by_number_lem n e = ap (λ (i : ℕ). derived_by i (steps_of (chain_between k h g))) e

  refused_with : (n : ℕ) → first_of (deriving_conditions k h g u s) ≡ n → (n ≡ 0 → ⊥) → derived k h g u s ≡ derived_by n []
  refused_with zero e z = absurd (z refl)
  refused_with (suc n) e z = by_number_lem (suc n) e

  refused_by_halves : (n : ℕ) → n ≡ first_of (both_conditions k h g u s) → (n ≡ 0 → ⊥) → derived k h g u s ≡ derived_by n []
  refused_by_halves n e z = refused_with n (first_before (both_conditions k h g u s) (chain_conditions (chain_between k h g)) (λ w. z (e ∙ w)) ∙ sym e) z

  module _ (passed : first_of (both_conditions k h g u s) ≡ 0) where
    then_chain : first_of (deriving_conditions k h g u s) ≡ first_of (chain_conditions (chain_between k h g))
    then_chain = first_after (both_conditions k h g u s) (chain_conditions (chain_between k h g)) (quiet (both_conditions k h g u s) refl passed)

    refused_by_chain : (n : ℕ) → chain_between k h g ≡ unchained n → (n ≡ 0 → ⊥) → derived k h g u s ≡ derived_by n []
    refused_by_chain n e z = refused_with n (then_chain ∙ rw e) z

    accepted : (xs : List Step) → chain_between k h g ≡ chained xs → derived k h g u s ≡ derived_by 0 xs
    accepted xs e = by_number_lem 0 (then_chain ∙ rw e) ∙ rw e

-- ---- what a function that derives promises, case by case
derived_none : (l m : List ℕ) (x : Derived) (n : ℕ) → (n ≡ 0 → ⊥) → x ≡ derived_by n [] → m ≡ l → DerivedIn l m x (Refused n)
derived_none l m x zero z e same = absurd (z refl)
derived_none l m x (suc n) z e same = rw e (record { answer = refl; steps = steps_none m; list = same ∙ sym (noted_none l) })

module _ (l : List ℕ) (k : Lookups) (h g : Half) (u s : Bool) where
  pub derives_misfit : (length l ≡ step_numbers → ⊥) → Derives l l k h g u s (Refused 3)
  derives_misfit z = derived_none l l (derived_into l k h g u s) 3 (λ e. impossible (cc)) (derived_misfit l k h g u s z) refl

  module _ (fits : length l ≡ step_numbers) where
    pub derives_halves : (n : ℕ) → n ≡ first_of (both_conditions k h g u s) → (n ≡ 0 → ⊥) → Derives l l k h g u s (Refused n)
    derives_halves n e z = derived_none l l (derived_into l k h g u s) n z (derived_fits l k h g u s fits ∙ refused_by_halves k h g u s n e z) refl

    module _ (passed : first_of (both_conditions k h g u s) ≡ 0) (m : List ℕ) where
      chain_is : chain_between k h g ≡ chain_into l k h.security h.account g.account
      chain_is = sym (chain_fits l k h.security h.account g.account fits)

      pub derives_found : (r : Result ℕ Refusal) → Finds l m k h.security h.account g.account r → Derives l m k h g u s (chained_by r)
      derives_found (Err e) f =
          let t = found_refused f in
          derived_none l m (derived_into l k h g u s) (number e) (number_ne0 e)
          (derived_fits l k h g u s fits ∙ refused_by_chain k h g u s passed (number e) (chain_is ∙ t.0) (number_ne0 e))
          t.1
      derives_found (Ok n) f =
          let xs = steps_in m n in
          rw (derived_fits l k h g u s fits ∙ accepted k h g u s passed xs (chain_is ∙ found_chained f))
          (record {
            answer = ap Chained (steps_counted m n);
            steps = refl;
            list = f.list ∙ ap (λ (ys : List Step). noted ys l) (sym f.steps);
          })

-- ---- two halves as a function is handed them
pub handed : (hs : Halves) → Handed hs (delivering hs) (receiving hs) (side_unknown hs) (same_side hs)
handed hs = record { delivers = refl; receives = refl; unknown_side = refl; one_side = refl }

pub handed_in_order : (hs : Halves) (x : InOrder) → x ≡ in_order hs → Handed hs x.delivering x.receiving x.unknown x.same
handed_in_order hs x e = rw e (handed hs)

pub handed_derives : {hs : Halves} {h g : Half} {unknown same : Bool} → Handed hs h g unknown same → (l m : List ℕ) (k : Lookups) (r : Answer)
    → Derives l m k h g unknown same r → Derives l m k (delivering hs) (receiving hs) (side_unknown hs) (same_side hs) r
handed_derives x l m k r o = rw (x.delivers, x.receives, x.unknown_side, x.one_side) o

-- ---- the rules' call is the derivation over what its directory answers on the day
-- a derivation's outcome on a store, with the step list that the call is lent
abbrev pub outcome_of : Store → List Step → Derived → Outcome
outcome_of st lent x = record { answer = x.answer; store = st; steps = written x.steps lent }

module _ (st : Store) (hs : Halves) (day : ℕ) (lent : List Step) where
  -- the derivation of two halves as they are given
  abbrev pub of_halves : Lookups → Derived
  of_halves k = derived k (delivering hs) (receiving hs) (side_unknown hs) (same_side hs)

  by_cases : (n : ℕ) → outcome n (derive hs day lent) st ≡ outcome_of st lent (derived_by n (steps_of (halves_chain (ask (rows_on day st.directory)) hs)))
  by_cases zero = refl
  by_cases (suc n) = refl

  pub core_derives : core (derive hs day lent) st ≡ outcome_of st lent (of_halves (ask (rows_on day st.directory)))
  unfolding core derived
  core_derives = by_cases (first_of (derive_conditions (ask (rows_on day st.directory)) hs))
