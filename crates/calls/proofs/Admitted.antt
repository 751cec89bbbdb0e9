-- 3 and 4 with the directory read: where it is read to its end it is sound, and what was read is kept of it.
use Prim.Native.Nat.{ℕ}
use mathlib.Core.Path.{◌≡◌, sym, ◌∙◌}
use mathlib.Core.Bool.{Bool, true, false}
use Rattle.rules.specs.declared.Directory.{Directory}
use Rattle.rules.specs.declared.refusal.Refusal.{Refusal}
use Rattle.rules.specs.Entries.{sound}
use Rattle.rules.specs.Numbers.{number}
use Rattle.rules.proofs.Numbered.{number_ne0}
use Rattle.index.specs.Index.{WholeTables}
use Rattle.refusals.specs.declared.kept.Kept.{Kept}
use Rattle.refusals.specs.Kept.{nothing_kept, Keeps}
use Rattle.reading.specs.Read.{Reads, read_directory}
use Rattle.reading.proofs.Sounds.{reading_sounds}
use Rattle.calls.specs.Early.{early}
use Rattle.calls.proofs.Before.{early_unsound, early_none}

-- n is the number that 3 and 4 give; where it is 0, k is kept of the directory
pub record Admits (misfit : Bool) (d : Directory) (n : ℕ) (k : Kept) : Type 0 where
  pub number : n ≡ early misfit d
  pub keeps : n ≡ 0 → Keeps k d

pub admits : {b : Bool} {d : Directory} {k : Kept} → 0 ≡ early b d → Keeps k d → Admits b d 0 k
admits e h = record { number = e; keeps = λ z. h }

pub refuses : {b : Bool} {d : Directory} (e : Refusal) → number e ≡ early b d → Admits b d (number e) nothing_kept
refuses e h = record { number = h; keeps = λ z. absurd (number_ne0 e z) }

module _ (b : Bool) (d : Directory) (whole : WholeTables d) (fits : b ≡ false) (k : Kept) (r : Bool) (reads : Reads (read_directory d nothing_kept) r k) where
  says : r ≡ sound d
  says = reads.answer ∙ reading_sounds.sounds d whole

  pub unsound : r ≡ false → 4 ≡ early b d
  unsound f = early_unsound b d fits (sym says ∙ f)

  pub admitted : r ≡ true → 0 ≡ early b d
  admitted t = early_none b d fits (sym says ∙ t)

  pub kept_so : r ≡ true → Keeps k d
  kept_so t = rw reads.left (reading_sounds.keeps d whole (sym says ∙ t))
