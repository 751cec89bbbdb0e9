-- Where no CSD of a default walk is the target or has a link to it, the directed walk is the default walk, and does not reach.
use Prim.Native.Nat.{ℕ, zero, suc}
use mathlib.Core.Path.{◌≡◌, refl, ap, ◌∙◌}
use mathlib.Core.Bool.{Bool, true, false, not, cond, and-false}
use mathlib.Core.List.{List, [], Memᴰ}
use mathlib.Core.Option.{Option, none, some}
use lib.Dec.{eqb}
use Rattle.rules.specs.declared.Hop.{Hop}
use Rattle.rules.specs.declared.Hop.TheVariants.{Ends, On}
use Rattle.rules.specs.declared.WalkEnd.{WalkEnd}
use Rattle.rules.specs.declared.WalkEnd.TheVariants.{Inside, Outside, NoLink, TooLong}
use Rattle.rules.specs.Tests.{any}
use Rattle.rules.specs.Lookups.{Lookups}
use Rattle.rules.specs.Walks.{side_limit, follow, default_hop, directed_hop, hopped, walk, default_walk, directed_walk, reached}
use Rattle.rules.proofs.Basics.{impossible, clash, untrue, or_none, any_none}
use Rattle.rules.proofs.Runs.{Runs, ends, goes, walk_runs}
use Rattle.walks.specs.Routes.{turns}

module _ (k : Lookups) (s t : ℕ) where
  same_hop : (c : ℕ) → turns k s t c ≡ false → directed_hop k s t c ≡ default_hop k s c
  unfolding directed_hop
  same_hop c e = let h = or_none (eqb c t) (k.linked s c t) e in rw (h.0, h.1, and-false (not (k.outside c)))

  pub same_walk : (n c : ℕ) → any (turns k s t) (walk (default_hop k s) n c).path ≡ false → walk (default_hop k s) n c ≡ walk (directed_hop k s t) n c
  unfolding walk
  same_walk zero c e = refl
  same_walk (suc n) c e = go (default_hop k s c) refl e (λ m h. same_walk n m h)
    where
      go : (h : Hop) → default_hop k s c ≡ h → any (turns k s t) (hopped c h (λ m. walk (default_hop k s) n m)).path ≡ false
          → ((m : ℕ) → any (turns k s t) (walk (default_hop k s) n m).path ≡ false → walk (default_hop k s) n m ≡ walk (directed_hop k s t) n m)
          → hopped c h (λ m. walk (default_hop k s) n m) ≡ hopped c (directed_hop k s t c) (λ m. walk (directed_hop k s t) n m)
      go (Ends e) q a below = rw (same_hop c (or_none (turns k s t c) (any (turns k s t) []) a).0 ∙ q)
      go (On m) q a below =
          let h = or_none (turns k s t c) (any (turns k s t) (walk (default_hop k s) n m).path) a in
          rw (same_hop c h.0 ∙ q, below m h.1)

  -- ---- a walk that does not turn does not reach
  inside_here : (c x : ℕ) → default_hop k s c ≡ Ends (Inside x) → x ≡ c
  unfolding default_hop
  inside_here c x e = go (k.outside c) (k.issuer s c) (k.onward s c) e
    where
      go : (o i : Bool) (f : Option ℕ) → cond o (Ends (Outside c)) (cond i (Ends (Inside c)) (follow f)) ≡ Ends (Inside x) → x ≡ c
      go true i f e = impossible (cc)
      go false true f e = cc
      go false false none e = impossible (cc)
      go false false (some n) e = impossible (cc)

  inside_named : (c x : ℕ) (p : List ℕ) (e : WalkEnd) → Runs (default_hop k s) c p e → e ≡ Inside x → Memᴰ x p
  inside_named c x p e (ends q) f = Memᴰ.head (inside_here c x (q ∙ ap Ends f))
  inside_named c x p e (goes q w) f = Memᴰ.tail (inside_named _ x _ e w f)

  pub unreached : (c : ℕ) → any (turns k s t) (default_walk k s c).path ≡ false → reached t (directed_walk k s t c).end ≡ false
  unreached c a = rw (← same_walk side_limit c a) (go (default_walk k s c).end refl)
    where
      go : (e : WalkEnd) → (default_walk k s c).end ≡ e → reached t e ≡ false
      go (Inside x) f = untrue (eqb x t) (λ q.
          let m = inside_named c x (default_walk k s c).path (default_walk k s c).end (walk_runs (default_hop k s) side_limit c (λ u. impossible (cc))) f in
          let n = any_none (turns k s t) (default_walk k s c).path a x m in
          clash (eqb x t) q (or_none (eqb x t) (k.linked s x t) n).0)
      go (Outside x) f = refl
      go NoLink f = refl
      go TooLong f = refl
