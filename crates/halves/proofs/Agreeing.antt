-- Halves that agree are refused by nothing but their sides.
use Prim.Native.Nat.{ℕ, ◌+◌}
use mathlib.Core.Path.{◌≡◌, refl}
use mathlib.Core.Bool.{true, false}
use mathlib.Core.List.{List}
use native.Mathlib.Omega.{arith}
use lib.Dec.{eqb}
use borrow.Author.Tests.{eq-eqb, ne_eqb}
use Rattle.rules.specs.declared.Half.{Half}
use Rattle.rules.specs.Tests.{first_of}
use Rattle.rules.specs.Calls.{both_conditions}
use Rattle.rules.proofs.Basics.{eqb_is}
use Rattle.index.specs.Index.{home_at}
use Rattle.index.specs.Asked.{asked_by, asked, read}
use Rattle.halves.specs.Halves.{Faces, TermsAgree}

-- an account that stands in the books of a CSD is one
in_books_known : (l : List ℕ) (a c : ℕ) → (asked l).books a c ≡ true → (asked l).account a ≡ true
unfolding asked_by
in_books_known l a c e = rw (eqb_is (read l (home_at a)) (c + 1) e, ne_eqb (c + 1) 0 (λ z. omega arith))

pub agreed : (l : List ℕ) (h g : Half) → Faces (asked l) h g.account → Faces (asked l) g h.account → TermsAgree (asked l) h g
    → eqb h.account g.account ≡ false → first_of (both_conditions (asked l) h g false false) ≡ 0
agreed l h g x y t differ =
    rw (
      ← t.security,
      ← t.quantity,
      ← t.amount,
      in_books_known l h.account g.counterpart y.opposite,
      in_books_known l g.account h.counterpart x.opposite,
      x.known,
      y.known,
      t.known,
      t.range,
      x.participant,
      y.participant,
      x.opposite,
      y.opposite,
      eq-eqb h.security h.security refl,
      eq-eqb h.quantity h.quantity refl,
      eq-eqb h.amount h.amount refl,
      differ,
    )
