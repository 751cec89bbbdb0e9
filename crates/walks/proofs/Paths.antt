-- The last CSD of a path, and the CSDs that two paths have in common at their ends.
use Prim.Native.Nat.{ℕ, zero, suc, ◌+◌, ◌≤◌, ◌<◌, ◌-◌}
use mathlib.Core.Path.{◌≡◌, refl, sym, ap, ◌∙◌}
use mathlib.Core.List.{List, [], ◌∷◌}
use native.Mathlib.Omega.{arith}
use lib.ListN.{length, drop, get_or}
use lib.Seq.{drop-cons, drop-length}
use Rattle.rules.specs.Directory.{no_csd}
use Rattle.rules.specs.Chain.{last_of}
use Rattle.walks.specs.Routes.{CommonEnd}

-- ---- the last CSD
pub last_none : (p : List ℕ) → length p ≡ 0 → no_csd ≡ last_of p
unfolding last_of
last_none [] e = refl
last_none (c ∷ p) e = absurd (omega arith)

pub last_some : (p : List ℕ) (n : ℕ) → length p ≡ suc n → get_or p n 0 ≡ last_of p
unfolding last_of
last_some [] n e = absurd (omega arith)
last_some (c ∷ []) zero e = refl
last_some (c ∷ []) (suc n) e = absurd (omega arith)
last_some (c ∷ d ∷ p) zero e = absurd (omega arith)
last_some (c ∷ d ∷ p) (suc n) e = last_some (d ∷ p) n (omega arith)

-- ---- the last k CSDs are the same
module _ (p q : List ℕ) (k : ℕ) where
  abbrev pub Agree : Type 0
  Agree = (k ≤ length p) × (k ≤ length q) × (drop (length p - k) p ≡ drop (length q - k) q)

  pub no_more : Agree → (k < length p → k < length q → get_or p (length p - k - 1) 0 ≡ get_or q (length q - k - 1) 0 → ⊥) → CommonEnd p q k
  no_more a n = record { few = a.0; few' = a.1; same = a.2; most = n }

pub none_agree : (p q : List ℕ) → Agree p q 0
none_agree p q =
    let m : length p - 0 ≡ length p = omega arith in
    let n : length q - 0 ≡ length q = omega arith in
    (omega arith, omega arith, rw (m, n, drop-length p, drop-length q))

pub one_more_lem : (p q : List ℕ) (k : ℕ) → k < length p → k < length q → get_or p (length p - k - 1) 0 ≡ get_or q (length q - k - 1) 0 → Agree p q k → Agree p q (k + 1)
one_more_lem p q k l m e a = (omega arith, omega arith, front p l ∙ (ap (λ (c : ℕ). c ∷ drop (length p - k) p) e ∙ ap (λ (r : List ℕ). get_or q (length q - k - 1) 0 ∷ r) a.2) ∙ sym (front q m))
  where
    front : (r : List ℕ) → k < length r → drop (length r - (k + 1)) r ≡ get_or r (length r - k - 1) 0 ∷ drop (length r - k) r
    front r h =
        let i : length r - (k + 1) < length r = omega arith in
        let j : length r - (k + 1) ≡ length r - k - 1 = omega arith in
        let s : suc (length r - (k + 1)) ≡ length r - k = omega arith in
        drop-cons r (length r - (k + 1)) 0 i ∙ (ap (λ (x : ℕ). get_or r x 0 ∷ drop (suc (length r - (k + 1))) r) j ∙ ap (λ (x : ℕ). get_or r (length r - k - 1) 0 ∷ drop x r) s)
