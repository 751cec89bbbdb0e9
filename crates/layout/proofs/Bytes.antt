-- Bytes written one after the other: a byte more, a row more, all of a table, the five tables, and steps; and the counts likewise.
use Prim.Native.Nat.{ℕ, zero, suc, ◌+◌, ◌*◌, ◌-◌, ◌/◌, ◌%◌, ◌≤◌, ◌<◌}
use native.Mathlib.Nat.{add-zero, add-suc, add-mul, one-mul, div-eq_of_lt, mod-eq_of_lt, mul-add-div_right, mul-add-mod_self_right, mul-le-mul_right}
use native.Mathlib.Omega.{arith}
use mathlib.Core.Path.{◌≡◌, refl, sym, ap, ◌∙◌}
use mathlib.Core.Logic.{◌≢◌}
use mathlib.Core.List.{List, [], ◌∷◌, ◌++◌, append_assoc, append-nil}
use lib.ListN.{length, get_or, take, drop, length-append, length-drop, take-append-drop}
use lib.Seq.{take_all, take-suc, length-take-le, drop-drop}
use lib.Dec.{leb}
use Rattle.std.proofs.lemmas.Slice.{take-put_mid, drop-put_mid}
use borrow.Rule.Slice.PartMut.{put_mid}
use borrow.Author.Tests.{le-leb, lt-leb}
use Rattle.rules.specs.declared.Step.{Step}
use Rattle.rules.specs.Chain.{step}
use Rattle.rules.specs.Outcomes.{Steps, step_rows}
use Rattle.rules.proofs.Basics.{eqb-true, eqb_false, and-true, and_untrue}
use Rattle.layout.specs.Layout.{bytes_in, step_bytes, bytes_of_steps, filled, with_steps, steps_put, Put}

-- bytes put behind others that are put
put_both : (start mid end w : ℕ) (xs ys before between after : List ℕ) → end ≡ mid + w → Put start mid xs before between → Put mid end ys between after
    → Put start end (xs ++ ys) before after
put_both start mid end w xs ys before between after e p q = (
  q.0 ∙ p.0,
  q.1 ∙ rw p.1 (append_assoc (take start before) xs ys),
  q.2 ∙ rw e (sym (drop-drop w mid between) ∙ ap (drop w) p.2 ∙ drop-drop w mid before),
)

-- a row more, for which there is room
pub row_more : (i w : ℕ) → (i + 1) * w ≡ i * w + w
row_more i w = add-mul i 1 w ∙ ap (λ (n : ℕ). i * w + n) (one-mul w)

pub room : (i n w : ℕ) → i < n → i * w + w ≤ n * w
room i n w h = rw (← row_more i w) (mul-le-mul_right w (omega arith))

-- a part of a buffer written
pub put_part : (at w : ℕ) (xs ys before : List ℕ) → ys ≡ xs → length ys ≡ w → at + w ≤ length before → Put at (at + w) xs before (put_mid at (at + w - at) before ys)
put_part at w xs ys before e l h =
    let k : at + w - at ≡ w = omega arith in
    rw (k, ← e) (
      omega (arith, length-append (take at before) (ys ++ drop w (drop at before)), length-append ys (drop w (drop at before)), length-take-le at before, length-drop w (drop at before), length-drop at before),
      take-put_mid at w before ys (at + w) (omega arith) (omega arith),
      drop-put_mid at w before ys (at + w) (omega arith) (omega arith) l,
    )

module _ {A : Type 0} (bytes : A → List ℕ) (blank : A) (w : ℕ) (rows : List A) where
  -- so many bytes of row i behind those of the rows before it
  bytes_of_row : (i k : ℕ) → length (bytes (get_or rows i blank)) ≡ w → k ≤ w
      → bytes_in bytes blank w rows (i * w + k) ≡ bytes_in bytes blank w rows (i * w) ++ take k (bytes (get_or rows i blank))
  unfolding bytes_in
  bytes_of_row i zero l h = rw (add-zero (i * w)) (sym (append-nil (bytes_in bytes blank w rows (i * w))))
  bytes_of_row i (suc k) l h =
      let z : 0 < w = omega arith in
      let d : (i * w + k) / w ≡ i = mul-add-div_right z i k ∙ ap (λ (n : ℕ). i + n) (div-eq_of_lt h) ∙ add-zero i in
      let m : (i * w + k) % w ≡ k = mul-add-mod_self_right i w k ∙ mod-eq_of_lt h in
      rw (add-suc (i * w) k, d, m, bytes_of_row i k l (omega arith), take-suc (bytes (get_or rows i blank)) k 0 (omega arith)) (append_assoc (bytes_in bytes blank w rows (i * w)) _ _)

module _ {A : Type 0} (bytes : A → List ℕ) (blank : A) (w : ℕ) (rows : List A) (start : ℕ) (before : List ℕ) where
  pub put_none : (at j : ℕ) → at ≡ start → j ≡ 0 → Put start at (bytes_in bytes blank w rows j) before before
  unfolding bytes_in
  put_none at j e z = (refl, rw (e, z) (sym (append-nil (take start before))), refl)

  pub put_row : (at next i : ℕ) (between after : List ℕ) → length (bytes (get_or rows i blank)) ≡ w → next ≡ at + w
      → Put start at (bytes_in bytes blank w rows (i * w)) before between → Put at (at + w) (bytes (get_or rows i blank)) between after
      → Put start next (bytes_in bytes blank w rows ((i + 1) * w)) before after
  put_row at next i between after l e p q =
      rw (e, row_more i w, bytes_of_row bytes blank w rows i w l (omega arith), take_all w (bytes (get_or rows i blank)) (omega arith))
      (put_both start at (at + w) w (bytes_in bytes blank w rows (i * w)) (bytes (get_or rows i blank)) before between after refl p q)

module _ (n₁ n₂ n₃ n₄ n₅ : ℕ) (b₀ b₁ b₂ b₃ b₄ b₅ x₁ x₂ x₃ x₄ x₅ : List ℕ) where
  pub five : length b₀ ≡ n₅ → Put 0 n₁ x₁ b₀ b₁ → Put n₁ n₂ x₂ b₁ b₂ → Put n₂ n₃ x₃ b₂ b₃ → Put n₃ n₄ x₄ b₃ b₄ → Put n₄ n₅ x₅ b₄ b₅
      → b₅ ≡ x₁ ++ (x₂ ++ (x₃ ++ (x₄ ++ x₅)))
  five l p₁ p₂ p₃ p₄ p₅ =
      sym (take_all n₅ b₅ (omega (arith, p₁.0, p₂.0, p₃.0, p₄.0, p₅.0))) ∙ p₅.1 ∙ rw (p₄.1, p₃.1, p₂.1, p₁.1) (simp append_assoc)

-- ---- steps

pub steps_done : (xs : List Step) (before after : List ℕ) → Put 0 (0 + length xs * 5) (bytes_in step_bytes (step 0 0 0) 5 xs (length xs * 5)) before after
    → after ≡ with_steps xs before
unfolding bytes_of_steps
steps_done xs before after p =
    let z : 0 + length xs * 5 ≡ length xs * 5 = omega arith in
    sym (take-append-drop (0 + length xs * 5) after) ∙ rw (p.1, p.2, z)

module _ (t : Steps) (old : List ℕ) where
  pub steps_fit_lem : t.count ≤ 16 → t.count * 5 ≤ length old → with_steps (step_rows t) old ≡ steps_put t old
  steps_fit_lem h k = rw (and-true _ _ (le-leb t.count 16 h) (le-leb (t.count * 5) (length old) k))

  pub too_many : 16 < t.count → old ≡ steps_put t old
  too_many h = rw (lt-leb t.count 16 h)

  pub no_room : length old < t.count * 5 → old ≡ steps_put t old
  no_room h = rw (and_untrue (leb t.count 16) (leb (t.count * 5) (length old)) (λ _. lt-leb (t.count * 5) (length old) h))

-- ---- numbers of two bytes

pub two_bytes : (x : ℕ) (b : List ℕ) → x < 65536 → b ≡ (x / 256 % 256 ∷ x % 256 ∷ []) → (get_or b 0 0 ≡ x / 256) × (get_or b 1 0 ≡ x % 256)
two_bytes x b h e = rw e (omega arith, refl)

-- ---- buffers of any length

pub fills : (n : ℕ) (new old : List ℕ) → length old ≡ n → new ≡ filled n new old
fills n new old e = rw (eqb-true (length old) n e)

pub keeps : (n : ℕ) (new old : List ℕ) → length old ≢ n → old ≡ filled n new old
keeps n new old e = rw (eqb_false (length old) n e)
