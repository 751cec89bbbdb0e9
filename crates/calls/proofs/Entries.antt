-- An entry by what is kept of its directory: 4 on an unsound one; else its row's refusal, or the row is added.
use Prim.Native.Nat.{ℕ, zero, suc}
use mathlib.Core.Path.{◌≡◌, refl, sym, ap, ◌∙◌}
use mathlib.Core.Logic.{◌≢◌}
use mathlib.Core.Bool.{false}
use mathlib.Core.List.{[]}
use Rattle.rules.specs.declared.answer.Answer.TheVariants.{Accepted, Refused}
use Rattle.rules.specs.declared.Directory.{Directory}
use Rattle.rules.specs.declared.Entered.{Entered}
use Rattle.rules.specs.Tests.{first_of}
use Rattle.rules.specs.Directory.{rows_of}
use Rattle.rules.specs.Entries.{Row, csd_row, security_row, account_row, pair_row, link_row, row_conditions, add_row}
use Rattle.calls.specs.Rooms.{HasRoom}
use Rattle.rules.specs.declared.answer.Answer.{Answer}
use Rattle.rules.specs.Calls.{Store, Outcome, enter, outcome, misfit, core}
use Rattle.rules.proofs.Tables.{Room, room}
use Rattle.refusals.specs.declared.kept.Kept.{Kept}
use Rattle.refusals.specs.Kept.{refusal_in}
use Rattle.refusals.proofs.Refusing.{refusal_is}
use Rattle.rules.specs.Outcomes.{holding, entered_on}
use Rattle.calls.proofs.Admitted.{Admits}
use Rattle.calls.proofs.Before.{early_refused, early_passed}

abbrev pub answer_of : Entered → Answer
answer_of r = r.answer

abbrev pub directory_of : Entered → Directory
directory_of r = r.directory

-- what the room of the rules is for the row's table
pub has_room : (x : Row) (d : Directory) → Room x d → HasRoom x d
has_room (csd_row x) d r = r
has_room (security_row x) d r = r
has_room (account_row x) d r = r
has_room (pair_row x) d r = r
has_room (link_row x) d r = r

module _ (d : Directory) (x : Row) where
  abbrev said : Outcome → Entered
  said o = record { answer = o.answer; directory = o.store.directory }

  abbrev handed : Store
  handed = holding d [] []

  refused_by : (m : ℕ) → m ≢ 0 → record { answer = Refused m; directory = d } ≡ said (outcome m (enter x) handed)
  refused_by zero ne = absurd (ne refl)
  refused_by (suc m) ne = refl

  module _ (n : ℕ) (k : Kept) (admits : Admits false d n k) where
    pub unsound : n ≢ 0 → record { answer = Refused n; directory = d } ≡ entered_on d x
    unfolding misfit
    unsound ne = sym (ap said (early_refused (enter x) handed n admits.number ne))

    module _ (z : n ≡ 0) (m : ℕ) (judged : m ≡ refusal_in k x) where
      number : m ≡ first_of (row_conditions (rows_of d) x)
      number = judged ∙ refusal_is k d x (admits.keeps z)

      passed : said (outcome m (enter x) handed) ≡ entered_on d x
      unfolding misfit core
      passed = ap (λ (i : ℕ). said (outcome i (enter x) handed)) number ∙ sym (ap said (early_passed (enter x) handed n admits.number z))

      pub refuses : m ≢ 0 → record { answer = Refused m; directory = d } ≡ entered_on d x
      refuses ne = refused_by m ne ∙ passed

      pub roomy : m ≡ 0 → Room x d
      roomy e =
          let w = (admits.keeps z).indexed.whole in
          room x d (record { csds = w.csds; securities = w.securities; accounts = w.accounts; pairs = w.pairs; links = w.links }) (sym number ∙ e)

      pub accepts : m ≡ 0 → record { answer = Accepted; directory = add_row x d } ≡ entered_on d x
      accepts e = rw (← passed, e)
