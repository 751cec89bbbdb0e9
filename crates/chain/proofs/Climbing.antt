-- A side climbed step by step.
use Prim.Native.Nat.{ℕ, ◌<◌, ◌≤◌}
use mathlib.Core.Path.{◌≡◌, refl, ◌∙◌, sym}
use mathlib.Core.List.{List, [], ◌∷◌, ◌++◌, append-nil, append_assoc}
use mathlib.Core.Option.{none, some}
use native.Mathlib.Omega.{arith}
use lib.ListN.{length, take, drop, get_or}
use Rattle.rules.specs.declared.Pair.{Pair}
use Rattle.rules.specs.declared.Step.{Step}
use Rattle.rules.specs.Lookups.{Lookups}
use Rattle.rules.specs.Chain.{Climb, climbed, unpaired, climb, step_up, step}

-- steps before a climb
abbrev pub behind : List Step → Climb → Climb
behind xs (climbed ys a) = climbed (xs ++ ys) a
behind xs unpaired = unpaired

behind_none : (k : Climb) → k ≡ behind [] k
behind_none (climbed ys a) = refl
behind_none unpaired = refl

behind_step : (xs : List Step) (x : Step) (k : Climb) → behind xs (step_up x k) ≡ behind (xs ++ (x ∷ [])) k
behind_step xs x (climbed ys a) = rw append_assoc
behind_step xs x unpaired = refl

-- ---- the path climbed from the account a: with the steps xs passed up to the account b, the CSDs `rest` are ahead
module _ (K : Lookups) (path : List ℕ) (a : ℕ) where
  abbrev pub Climbs : List Step → List ℕ → ℕ → Type 0
  Climbs xs rest b = climb K path a ≡ behind xs (climb K rest b)

  pub climb_starts : (xs : List Step) → xs ≡ [] → Climbs xs path a
  climb_starts xs e = rw e (behind_none (climb K path a))

  -- at most one CSD is ahead
  pub climb_ends : (xs : List Step) (rest : List ℕ) (b : ℕ) → Climbs xs rest b → length rest < 2 → climbed xs b ≡ climb K path a
  unfolding climb
  climb_ends xs [] b inv h = sym (inv ∙ rw append-nil)
  climb_ends xs (c ∷ []) b inv h = sym (inv ∙ rw append-nil)
  climb_ends xs (c ∷ n ∷ more) b inv h = absurd (omega arith)

  -- two are, and their pair is not entered
  pub climb_fails : (xs : List Step) (rest w : List ℕ) (b : ℕ) → Climbs xs rest b → 2 ≤ length rest → w ≡ take 2 rest
      → K.pair (get_or w 0 0) (get_or w 1 0) b ≡ none → unpaired ≡ climb K path a
  unfolding climb
  climb_fails xs [] w b inv h e f = absurd (omega arith)
  climb_fails xs (c ∷ []) w b inv h e f = absurd (omega arith)
  climb_fails xs (c ∷ n ∷ more) w b inv h e f =
      let missing : K.pair c n b ≡ none = rw e at f in
      sym (inv ∙ rw missing)

  -- or it is, and there is one step more
  pub climb_goes_on : (xs ys : List Step) (rest w : List ℕ) (b : ℕ) (p : Pair) → Climbs xs rest b → 2 ≤ length rest → w ≡ take 2 rest
      → K.pair (get_or w 0 0) (get_or w 1 0) b ≡ some p → ys ≡ xs ++ (step (get_or w 0 0) b p.mirror ∷ []) → Climbs ys (drop 1 rest) p.omnibus
  unfolding climb
  climb_goes_on xs ys [] w b p inv h e f z = absurd (omega arith)
  climb_goes_on xs ys (c ∷ []) w b p inv h e f z = absurd (omega arith)
  climb_goes_on xs ys (c ∷ n ∷ more) w b p inv h e f z =
      let found : K.pair c n b ≡ some p = rw e at f in
      inv ∙ rw (found, z, e) (behind_step xs (step c b p.mirror) (climb K (n ∷ more) p.omnibus))
