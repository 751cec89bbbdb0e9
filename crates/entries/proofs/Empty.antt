-- What is kept of the empty directory: a 0 everywhere.
use Prim.Native.Nat.{ℕ, zero, suc, ◌+◌, ◌*◌}
use mathlib.Core.Path.{◌≡◌, refl, sym, ap, ◌∙◌}
use mathlib.Core.Bool.{Bool, true, false, cond}
use mathlib.Core.List.{[]}
use mathlib.Core.Option.{Option, none}
use lib.Dec.{eqb}
use lib.ListN.{get_or, replicate, length-replicate}
use Rattle.rules.specs.Directory.{no_account}
use Rattle.rules.specs.Entries.{empty_directory}
use Rattle.rules.specs.Demands.{no_rows}
use Rattle.rules.proofs.Tables.{empty_sized, empty_rows, empty_sound}
use Rattle.rules.specs.declared.Pair.{Pair}
use Rattle.index.specs.Index.{Place, index_of, place_of, index_size, Indexed, duo_of, served_row, mirror_code, omnibus_code, investor_code, technical_code}
use Rattle.identifiers.specs.Names.{Named, bic_size, isin_size, isins, names_size}
use Rattle.refusals.specs.Kept.{Keeps}
use Rattle.entries.proofs.ByTable.{every_place}
use Rattle.entries.proofs.Growing.{whole}

-- the index of no rows
no_duo : (a : ℕ) → duo_of [] a ≡ none
unfolding duo_of
no_duo a = go (eqb a no_account)
  where
    go : (b : Bool) → cond {A = Option Pair} b none none ≡ none
    go true = refl
    go false = refl

nothing : (p : Place) → index_of no_rows p ≡ 0
unfolding served_row
nothing =
    every_place (λ p. index_of no_rows p ≡ 0)
    (record { count = refl; type = λ c. refl })
    refl
    (record { count = refl; home = λ a. refl; kind = λ a. refl })
    (record {
      count = refl;
      mirror = λ a. ap mirror_code (no_duo a);
      omnibus = λ a. ap omnibus_code (no_duo a);
      investor = λ a. ap investor_code (no_duo a);
      technical = λ a. ap technical_code (no_duo a);
      served = λ t a. refl;
    })
    (record { count = refl; newest = λ s c. refl; target = λ s t. refl; link = λ n f. refl })

zeros : (n k : ℕ) → ◌≡◌ {A = ℕ} (get_or (replicate n 0) k 0) 0
zeros zero k = refl
zeros (suc n) zero = refl
zeros (suc n) (suc k) = zeros n k

empty_indexed : Indexed (replicate index_size 0) empty_directory
empty_indexed =
    record {
      sound_books = empty_sound;
      whole = whole empty_directory empty_sized;
      size = length-replicate {A = ℕ} index_size 0;
      at = λ p i. zeros index_size (place_of p) ∙ rw empty_rows (sym (nothing p));
    }

empty_named : Named (replicate names_size 0) no_rows
empty_named = record { size = length-replicate {A = ℕ} names_size 0; bics = λ c k g h. zeros names_size (bic_size * c + k); isins = λ s k g h. zeros names_size (isins + isin_size * s + k) }

pub keeps_empty : Keeps (record { numbers = replicate index_size 0; names = replicate names_size 0 }) empty_directory
keeps_empty = record { indexed = empty_indexed; named = rw empty_rows empty_named }
