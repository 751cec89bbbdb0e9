-- What an outcome answers, by the number that refuses it.
use Prim.Native.Nat.{ℕ}
use mathlib.Core.Path.{◌≡◌, refl, ap, sym, ◌∙◌}
use Rattle.std.specs.Prelude.{Result, Ok, Err}
use Rattle.rules.specs.declared.refusal.Refusal.{Refusal}
use Rattle.rules.specs.Numbers.{refused_by, accepted_by}
use Rattle.rules.proofs.Numbered.{number_suc}
use Rattle.rules.specs.declared.answer.Answer.TheVariants.{Refused}
use Rattle.entries.specs.Entered.{answered}

pub accepted_is : {A : Type 0} (r : Result A Refusal) (n : ℕ) → refused_by r ≡ n → accepted_by r ≡ answered n
accepted_is (Ok x) n e = ap answered e
accepted_is (Err r) n e =
    let s = number_suc r in
    ap Refused (sym refl) ∙ (ap Refused s.1 ∙ (ap answered (sym s.1) ∙ ap answered e))
