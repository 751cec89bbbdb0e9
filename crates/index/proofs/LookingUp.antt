-- What a number of the index tells of CSDs, accounts and targets, and that a sound directory has no CSD and no account beyond the index's places.
use Prim.Native.Nat.{ℕ, zero, suc, ◌+◌, ◌<◌}
use mathlib.Core.Path.{◌≡◌, refl}
use mathlib.Core.Bool.{Bool, true, false, not, cond}
use mathlib.Core.List.{List, [], ◌∷◌}
use mathlib.Core.Option.{Option, none, some}
use native.Mathlib.Omega.{arith}
use native.Mathlib.Decide.{dec_lt}
use lib.Dec.{eqb, ltb}
use lib.ListN.{length, get_elem?}
use Rattle.rules.specs.declared.Csd.{Csd}
use Rattle.rules.specs.declared.Account.{Account}
use Rattle.rules.specs.declared.Link.{Link}
use Rattle.rules.specs.declared.Directory.{Directory}
use Rattle.rules.specs.Tests.{any, is_row}
use Rattle.rules.specs.Directory.{Rows, rows_on, csd_limit, type_is, kind_is, csd_is, in_books, points_to}
use Rattle.rules.proofs.Basics.{equal_tests, eqb_is, eqb-true, eqb_false, ltb_is, ltb-true, ltb-false}
use Rattle.rules.proofs.Reflection.{Says, says_and, says_eq}
use Rattle.rules.proofs.RowTests.{says_points}
use Rattle.rules.proofs.Facts.{Facts}
use Rattle.rules.proofs.Soundness.{sound_gives}
use Rattle.index.proofs.Laws.{unknown}
use Rattle.index.specs.Index.{Indexed, type_code, home_code, kind_code, makes_target, target_code}

-- the facts of the directory whose index the list is; but for links they are the same on every day
pub facts : {ix : List ℕ} {d : Directory} → Indexed ix d → Facts (rows_on 0 d)
facts {d = d} h = sound_gives d h.sound_books 0

-- ---- rows by number
there : {A : Type 0} (l : List A) (i : ℕ) → i < length l → (x : A) × (get_elem? l i ≡ some x)
there [] i h = absurd (omega arith)
there (x ∷ l) zero h = (x, refl)
there (x ∷ l) (suc i) h = there l i (omega arith)

-- a code that is 0 without a row alone tells whether there is one
pub row_coded : {A : Type 0} (code : Option A → ℕ) → code none ≡ 0 → ((x : A) → 0 < code (some x)) → (l : List A) (i : ℕ)
    → not (eqb (code (get_elem? l i)) 0) ≡ is_row l i
unfolding is_row
row_coded code z p l i = go (dec_lt i (length l))
  where
    go : Dec (i < length l) → not (eqb (code (get_elem? l i)) 0) ≡ ltb i (length l)
    go (yes h) =
        let x = there l i h in
        rw (x.1, eqb_false (code (some x.0)) 0 (omega (arith, p x.0)), ltb-true i (length l) h)
    go (no n) = rw (unknown l i (omega arith), z, ltb-false i (length l) (omega arith))

-- ---- codes
pub next_tests : (a b : ℕ) → eqb (a + 1) (b + 1) ≡ eqb a b
next_tests a b =
    equal_tests (eqb (a + 1) (b + 1)) (eqb a b)
    (λ e. eqb-true a b (omega (arith, eqb_is (a + 1) (b + 1) e)))
    (λ e. eqb-true (a + 1) (b + 1) (omega (arith, eqb_is a b e)))

pub type_told : (o : Option Csd) → eqb (type_code o) 2 ≡ type_is 1 o
type_told none = refl
type_told (some x) = next_tests x.external 1

pub books_told : (c : ℕ) (o : Option Account) → eqb (home_code o) (c + 1) ≡ csd_is c o
books_told c none = eqb_false 0 (c + 1) (omega arith)
books_told c (some x) = next_tests x.csd c

pub kind_told : (k : ℕ) (o : Option Account) → eqb (kind_code o) (k + 1) ≡ kind_is k o
kind_told k none = eqb_false 0 (k + 1) (omega arith)
kind_told k (some x) = next_tests x.kind k

module _ (r : Rows) (F : Facts r) where
  pub csd_small : (c : ℕ) → is_row r.csds c ≡ true → c < csd_limit
  unfolding is_row
  csd_small c e = omega (arith, F.few_csds, ltb_is c (length r.csds) e)

  pub home_small : (a : ℕ) (x : Account) → get_elem? r.accounts a ≡ some x → x.csd < csd_limit
  unfolding in_books
  home_small a x e = csd_small x.csd (F.home_row a x.csd (rw e (eqb-true x.csd x.csd refl)))

-- ---- targets
pub says_target : (s t : ℕ) (x : Link) → Says ((x.security ≡ s) × ((x.kind ≡ 1) × (x.technical ≡ t))) (makes_target s t x)
says_target s t x = says_and (eqb x.security s) (points_to t x) (says_eq x.security s) (says_points t x)

pub target_coded : (s t : ℕ) (ls : List Link) → not (eqb (target_code s t ls) 0) ≡ any (makes_target s t) ls
target_coded s t ls = go (any (makes_target s t) ls)
  where
    go : (b : Bool) → not (eqb (cond b 1 0) 0) ≡ b
    go true = refl
    go false = refl
