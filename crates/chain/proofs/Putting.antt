-- Steps put into a list of numbers one behind the other, and a side turned step by step.
use Prim.Native.Nat.{ℕ, ◌+◌, ◌<◌}
use mathlib.Core.Path.{◌≡◌}
use mathlib.Core.List.{List, [], ◌∷◌, ◌++◌, append-nil, append_assoc, reverse-append, map-append}
use native.Mathlib.Omega.{arith}
use lib.ListN.{length}
use Rattle.rules.specs.declared.Step.{Step}
use Rattle.rules.specs.Chain.{step_limit, flip, turned}
use Rattle.chain.specs.StepList.{with_step}
use Rattle.chain.specs.Steps.{Adds}
use Rattle.chain.proofs.StepList.{holds_more}

pub adds_none : (k : List ℕ) (n : ℕ) → Adds k n [] k n
adds_none k n l xs size h = rw append-nil h

-- one more behind, and one more in front
pub adds_more : (k m m' : List ℕ) (n i : ℕ) (ys : List Step) (x : Step) → i < step_limit → x.csd < 256 → m' ≡ with_step m i x
    → Adds k n ys m i → Adds k n (ys ++ (x ∷ [])) m' (i + 1)
adds_more k m m' n i ys x room small e a l xs size h = rw (e, ← append_assoc) (holds_more size room x small (a l xs size h))

adds_first : (k k' m : List ℕ) (n i : ℕ) (ys : List Step) (x : Step) → n < step_limit → x.csd < 256 → k' ≡ with_step k n x
    → Adds k' (n + 1) ys m i → Adds k n (x ∷ ys) m i
adds_first k k' m n i ys x room small e a l xs size h =
    rw append_assoc at (a l (xs ++ (x ∷ [])) size (rw e (holds_more size room x small h)))

turned_last : (xs : List Step) (x : Step) → turned (xs ++ (x ∷ [])) ≡ flip x ∷ turned xs
unfolding turned
turned_last xs x = rw (map-append, reverse-append)

-- ---- the steps of a side from its top down, put behind the first n of k: those left are to be put where m holds j steps
module _ (side : List Step) (k : List ℕ) (n : ℕ) where
  abbrev pub Turning : List Step → List ℕ → ℕ → Type 0
  Turning left m j = (end : List ℕ) (e : ℕ) → Adds m j (turned left) end e → Adds k n (turned side) end e

  pub turns_one : (left : List Step) (j : ℕ) (m m' : List ℕ) (x : Step) → j < step_limit → x.csd < 256 → m' ≡ with_step m j (flip x)
      → Turning (left ++ (x ∷ [])) m j → Turning left m' (j + 1)
  turns_one left j m m' x room small z inv = λ end f a. inv end f (rw turned_last (adds_first m m' end j f (turned left) (flip x) room small z a))

  pub turns_none : (left : List Step) (j : ℕ) (m : List ℕ) → length left ≡ 0 → Turning left m j → Adds k n (turned side) m j
  unfolding turned
  turns_none [] j m e inv = inv m j (adds_none m j)
  turns_none (x ∷ left) j m e inv = absurd (omega arith)
