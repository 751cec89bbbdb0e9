-- A walk call by call: each names one CSD more behind those named before, and ends or goes on as its hop says.
use Prim.Native.Nat.{ℕ, suc, ◌+◌, ◌-◌, ◌<◌}
use mathlib.Core.Path.{◌≡◌, refl, sym, ap, ◌∙◌}
use mathlib.Core.List.{List, [], ◌∷◌, ◌++◌, append-nil, append_assoc}
use native.Mathlib.Numerals.{add-one}
use native.Mathlib.Omega.{arith}
use lib.ListN.{length, take, set}
use lib.Seq.{take-suc-set}
use Rattle.rules.specs.Walks.{walk}
use Rattle.rules.specs.declared.Hop.{Hop}
use Rattle.rules.specs.declared.Hop.TheVariants.{Ends, On}
use Rattle.rules.specs.declared.WalkEnd.{WalkEnd}
use Rattle.rules.specs.declared.WalkEnd.TheVariants.{TooLong}
use Rattle.walks.specs.Walks.{WalksOn}

-- one CSD more is named
pub one_more_lem : (l : List ℕ) (n c : ℕ) → n < length l → take (n + 1) (set l n c) ≡ take n l ++ (c ∷ [])
one_more_lem l n c h = rw (add-one, take-suc-set l n c h)

-- the walk from c by the hops h, which may still name `left` CSDs behind those in l
module _ (h : ℕ → Hop) (l : List ℕ) (left c : ℕ) where
  pub none_left : left ≡ 0 → WalksOn l (walk h left c) TooLong l
  unfolding walk
  none_left e = rw e (record { end = refl; path = sym (append-nil l) })

  module _ (g : left ≡ 0 → ⊥) where
    less : left ≡ suc (left - 1)
    less = omega (arith, g)

    pub ends_here : {e : WalkEnd} → h c ≡ Ends e → WalksOn l (walk h left c) e (l ++ (c ∷ []))
    unfolding walk
    ends_here {e} q =
        let w : walk h left c ≡ record { end = e; path = c ∷ [] } = ap (λ k. walk h k c) less ∙ ended (left - 1) in
        rw w (record { end = refl; path = refl })
      where
        ended : (k : ℕ) → walk h (suc k) c ≡ record { end = e; path = c ∷ [] }
        ended k = rw q

    pub goes_on_lem : {m : ℕ} (e : WalkEnd) (x : List ℕ) → h c ≡ On m → WalksOn (l ++ (c ∷ [])) (walk h (left - 1) m) e x → WalksOn l (walk h left c) e x
    unfolding walk
    goes_on_lem {m} e x q o =
        let w : walk h left c ≡ record { end = (walk h (left - 1) m).end; path = c ∷ (walk h (left - 1) m).path } = ap (λ k. walk h k c) less ∙ on (left - 1) in
        rw w (record { end = o.end; path = rw append_assoc at o.path })
      where
        on : (k : ℕ) → walk h (suc k) c ≡ record { end = (walk h k m).end; path = c ∷ (walk h k m).path }
        on k = rw q
