-- A chain along a route whose sides are climbed, a chain inside one CSD, and what a chain's being found says of a lent list.
use Prim.Native.Nat.{ℕ, zero, suc, ◌≤◌}
use mathlib.Core.Path.{◌≡◌, refl, sym, ap, ◌∙◌}
use mathlib.Core.List.{List, [], ◌∷◌, ◌++◌, append_assoc}
use native.Mathlib.Omega.{arith}
use Rattle.std.specs.Prelude.{Ok, Err}
use Rattle.rules.specs.declared.Step.{Step}
use Rattle.rules.specs.declared.Join.{Join}
use Rattle.rules.specs.declared.refusal.Refusal.{Refusal}
use Rattle.rules.specs.Numbers.{number}
use Rattle.rules.specs.Lookups.{Lookups}
use Rattle.rules.specs.Chain.{Chain, chained, unchained, climbed, unpaired, climb, top_steps, last_of, turned, along, sides, chain, step, step_limit}
use Rattle.rules.proofs.Numbered.{number_ne0}
use Rattle.walks.proofs.Routing.{same_csd_lem}
use Rattle.chain.specs.StepList.{steps_in, Holds}
use Rattle.chain.specs.Steps.{FoundIn, chain_by}
use Rattle.chain.proofs.StepList.{steps_none, noted_none}

-- ---- a chain found, by its number
by_refused : (n : ℕ) (ss : List Step) → (n ≡ 0 → ⊥) → chain_by n ss ≡ unchained n
by_refused zero ss z = absurd (z refl)
by_refused (suc n) ss z = refl

pub found_none : (l : List ℕ) (x : Chain) (e : Refusal) → x ≡ unchained (number e) → FoundIn l l x (Err e)
found_none l x e z =
    rw z (record { chain = by_refused (number e) (steps_in l 0) (number_ne0 e); steps = steps_none l; list = sym (noted_none l); few = omega arith })

pub found_steps : {l k : List ℕ} (x : Chain) (n : ℕ) (xs : List Step) → n ≤ step_limit → x ≡ chained xs → Holds l xs k n → FoundIn l k x (Ok n)
found_steps x n xs few e h = rw e (record { chain = ap chained h.read; steps = h.read; list = h.list; few = few })

-- a refusal leaves the list as it was
pub found_refused : {l m : List ℕ} {x : Chain} {e : Refusal} → FoundIn l m x (Err e) → (x ≡ unchained (number e)) × (m ≡ l)
found_refused {l} {m} {x} {e} f =
    let z : x ≡ unchained (number e) = sym f.chain ∙ by_refused (number e) (steps_in m 0) (number_ne0 e) in
    (z, f.list ∙ rw z (noted_none l))

pub found_chained : {l m : List ℕ} {x : Chain} {n : ℕ} → FoundIn l m x (Ok n) → x ≡ chained (steps_in m n)
found_chained f = sym f.chain

-- ---- along a route whose sides are climbed
module _ (K : Lookups) (s a b : ℕ) (j : Join) (p q : List ℕ) where
  -- a pair of the delivering side is missing
  pub along_unpaired : unpaired ≡ climb K p a → along K s a b (sides j p q) ≡ unchained 18
  along_unpaired up = rw (← up)

  module _ (xs : List Step) (g : ℕ) (up : climbed xs g ≡ climb K p a) where
    -- or one of the receiving side
    pub along_unpaired_down : unpaired ≡ climb K q b → along K s a b (sides j p q) ≡ unchained 18
    along_unpaired_down down = rw (← up, ← down)

    -- none is: the steps by the sides' last CSDs m and n
    pub along_paired : (ys : List Step) (h m n : ℕ) → climbed ys h ≡ climb K q b → m ≡ last_of p → n ≡ last_of q
        → along K s a b (sides j p q) ≡ chained ((xs ++ top_steps K s j m n g h) ++ turned ys)
    along_paired ys h m n down e f = rw (← up, ← down, e, f, append_assoc)

-- ---- inside one CSD: no link is read, and neither side has a step
pub chain_inside : (K : Lookups) (s a b c : ℕ) → c ≡ K.home a → c ≡ K.home b → chain K s a b ≡ chained (step c a b ∷ [])
unfolding chain climb last_of turned
chain_inside K s a b c e f = rw (← e, ← f, ← same_csd_lem K s c c refl)
