-- Laws that proofs share: the length of a table, and its rows in use.
use Prim.Native.Nat.{ℕ, zero, suc, ◌+◌, ◌≤◌, ◌<◌, min}
use mathlib.Core.Path.{◌≡◌, refl, sym, ap, ◌∙◌}
use mathlib.Core.Logic.{◌≢◌}
use mathlib.Core.List.{List, [], ◌∷◌, ◌++◌, map}
use mathlib.Core.Option.{none, some}
use lib.ListN.{length, get_or, take, drop, get_elem?, length-map, length-take, length-append, drop_of_length-le}
use lib.Seq.{drop-cons, get_or-take}
use native.Mathlib.Omega.{arith}
use native.Mathlib.Numerals.{add-one}

-- ---- a table of structs has the length of its array
pub length_mapped : {X Y : Type 0} (f : X → Y) (l : List X) (n : ℕ) → length (map f l) ≡ n → length l ≡ n
length_mapped f l n p = sym (length-map l f) ∙ p

-- ---- rows by number
pub unknown : {A : Type 0} (l : List A) (i : ℕ) → length l ≤ i → get_elem? l i ≡ none
unknown [] i h = refl
unknown (x ∷ l) zero h = absurd (omega arith)
unknown (x ∷ l) (suc i) h = unknown l i (omega arith)

-- with one row more behind
module _ {A : Type 0} where
  pub one_more_row : (l : List A) (x : A) → length (l ++ (x ∷ [])) ≡ length l + 1
  one_more_row l x = length-append l (x ∷ [])

  pub row_new : (l : List A) (x : A) → get_elem? (l ++ (x ∷ [])) (length l) ≡ some x
  row_new [] x = refl
  row_new (y ∷ l) x = row_new l x

  pub row_old : (l : List A) (x : A) (i : ℕ) → i ≢ length l → get_elem? (l ++ (x ∷ [])) i ≡ get_elem? l i
  row_old [] x zero h = absurd (h refl)
  row_old [] x (suc i) h = refl
  row_old (y ∷ l) x zero h = refl
  row_old (y ∷ l) x (suc i) h = row_old l x i (λ e. h (ap suc e))

-- ---- the first n rows of a table, of which i are passed
module _ {A : Type 0} (l : List A) (n i : ℕ) where
  within : i < n → i < length l → i < length (take n l)
  within g h = rw length-take (omega arith)

  -- the next row
  pub ahead : (d : A) → i < n → i < length l → drop i (take n l) ≡ get_or l i d ∷ drop (i + 1) (take n l)
  ahead d g h = rw (add-one, drop-cons (take n l) i d (within g h), get_or-take n l i d g)

  -- the rows end, or the table ends
  pub over : min n (length l) ≤ i → drop i (take n l) ≡ []
  over h = drop_of_length-le (take n l) {i = i} (rw length-take h)
