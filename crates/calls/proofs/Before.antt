-- 3 and 4 come before all other numbers: where one of them applies it is the call's, and where none does, the call is its core.
use Prim.Native.Nat.{ℕ, zero, suc}
use mathlib.Core.Path.{◌≡◌, refl, sym, ap, ◌∙◌}
use mathlib.Core.Logic.{◌≢◌}
use mathlib.Core.Bool.{Bool, true, false, not}
use mathlib.Core.List.{List, [], ◌∷◌}
use Rattle.rules.specs.declared.answer.Answer.TheVariants.{Refused}
use Rattle.rules.specs.declared.Directory.{Directory}
use Rattle.rules.specs.Tests.{Condition, ◌when◌, first_of}
use Rattle.rules.specs.Entries.{sound}
use Rattle.rules.specs.Calls.{Store, Call, outcome, lent_steps, misfit, core_conditions, core, desk}
use Rattle.rules.proofs.Basics.{quiet}
use Rattle.rules.proofs.Conditions.{first_before, first_after}
use Rattle.calls.specs.Early.{early}

-- the first two conditions
abbrev two : Bool → Bool → List Condition
two b s = 3 when b ∷ 4 when s ∷ []

pub first_early : (b s : Bool) (cs : List Condition) → first_of (two b s) ≢ 0 → first_of (3 when b ∷ 4 when s ∷ cs) ≡ first_of (two b s)
first_early b s cs ne = first_before (two b s) cs ne

pub first_later : (b s : Bool) (cs : List Condition) → first_of (two b s) ≡ 0 → first_of (3 when b ∷ 4 when s ∷ cs) ≡ first_of cs
first_later b s cs e = first_after (two b s) cs (quiet (two b s) refl e)

pub early_unsound : (b : Bool) (d : Directory) → b ≡ false → sound d ≡ false → 4 ≡ early b d
early_unsound b d e f = rw (e, f)

pub early_none : (b : Bool) (d : Directory) → b ≡ false → sound d ≡ true → 0 ≡ early b d
early_none b d e f = rw (e, f)

refused_by : (c : Call) (st : Store) (n : ℕ) → n ≢ 0 → outcome n c st ≡ record { answer = Refused n; store = st; steps = lent_steps c }
refused_by c st zero ne = absurd (ne refl)
refused_by c st (suc n) ne = refl

module _ (c : Call) (st : Store) (n : ℕ) (e : n ≡ early (misfit c st) st.directory) where
  -- 3 or 4: nothing changes
  pub early_refused : n ≢ 0 → desk c st ≡ record { answer = Refused n; store = st; steps = lent_steps c }
  unfolding desk
  early_refused ne =
      ap (λ (m : ℕ). outcome m c st) (first_early (misfit c st) (not (sound st.directory)) (core_conditions c st) (λ z. ne (e ∙ z)) ∙ sym e)
      ∙ refused_by c st n ne

  pub early_passed : n ≡ 0 → desk c st ≡ core c st
  unfolding desk core
  early_passed z = ap (λ (m : ℕ). outcome m c st) (first_later (misfit c st) (not (sound st.directory)) (core_conditions c st) (sym e ∙ z))
