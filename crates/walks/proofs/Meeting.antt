-- Two default walks that share a CSD go the same way from there on: what they share is what they have in common at their ends.
use Prim.Native.Nat.{ℕ, zero, suc, ◌+◌, ◌-◌, ◌≤◌, ◌<◌}
use mathlib.Core.Path.{◌≡◌, refl, sym, ap, ◌∙◌}
use mathlib.Core.Logic.{⊎_elim}
use mathlib.Core.Bool.{Bool, true, false, not, cond}
use mathlib.Core.List.{List, [], ◌∷◌, ◌++◌, Memᴰ}
use mathlib.Core.Option.{Option, none, some}
use native.Mathlib.Omega.{arith}
use native.Mathlib.Nat.{eq-or-lt_of_le}
use lib.Dec.{eqb}
use lib.ListN.{length, take, drop, get_or, length-take, length-drop}
use lib.Seq.{take-suc, drop-cons, split_at, get_or-take, get_or-drop}
use Rattle.rules.specs.declared.Hop.{Hop}
use Rattle.rules.specs.declared.Hop.TheVariants.{Ends}
use Rattle.rules.specs.declared.WalkEnd.{WalkEnd}
use Rattle.rules.specs.declared.WalkEnd.TheVariants.{Inside, Outside}
use Rattle.rules.specs.Tests.{find}
use Rattle.rules.specs.Lookups.{Lookups}
use Rattle.rules.specs.Walks.{Walk, side_limit, follow, default_hop, default_walk, arrived}
use Rattle.rules.specs.Chain.{is_named, first_shared, shared, up_to}
use Rattle.rules.proofs.Basics.{impossible, clash, unnot, untrue, unfalse, and_both, and-true, any_true, eqb-true}
use Rattle.rules.proofs.FirstRow.{none_found, first_found}
use Rattle.rules.proofs.MeetingRelation.{is_shared, named_in, up_to_first}
use Rattle.rules.proofs.Runs.{Runs, ends, goes, walk_runs, one_path}
use Rattle.walks.specs.Routes.{CommonEnd, MeetAt}

-- ---- a CSD's place in a path
place : (l : List ℕ) (x : ℕ) → Memᴰ x l → (i : ℕ) × (i < length l) × (get_or l i 0 ≡ x)
place [] x m = elim m [ ]
place (y ∷ l) x (Memᴰ.head f) = (0, omega arith, sym f)
place (y ∷ l) x (Memᴰ.tail m) = let r = place l x m in (suc r.0, omega (arith, r.1), r.2)

at_place : (l : List ℕ) (i : ℕ) → i < length l → Memᴰ (get_or l i 0) l
at_place [] i h = absurd (omega arith)
at_place (y ∷ l) zero h = Memᴰ.head refl
at_place (y ∷ l) (suc i) h = Memᴰ.tail (at_place l i (omega arith))

-- ---- places as far from the ends of two paths of m and of k CSDs
ahead : (m n i : ℕ) → i + n < m → m - n - 1 ≡ i + (m - i - n - 1)
ahead m n i l = omega arith

behind : (m k n i j : ℕ) → i + n < m → m + j ≡ k + i → j + (m - i - n - 1) ≡ k - n - 1
behind m k n i j l e = omega arith

further : (m k n i j : ℕ) → i + n < m → j < k → m + j ≡ k + i → n < k
further m k n i j l b e = omega arith

-- ---- walks by one hop
module _ (h : ℕ → Hop) where
  -- a walk goes on from each CSD that it names
  runs_from : (c : ℕ) (p : List ℕ) (e : WalkEnd) (i : ℕ) → Runs h c p e → i < length p → Runs h (get_or p i 0) (drop i p) e
  runs_from c p e zero (ends x) b = ends x
  runs_from c p e zero (goes x u) b = goes x u
  runs_from c p e (suc i) (ends x) b = absurd (omega arith)
  runs_from c p e (suc i) (goes {n = n} {path = p'} x u) b = runs_from n p' e i u (omega arith)

  -- it names where it starts
  first_named : (c : ℕ) (p : List ℕ) (e : WalkEnd) → Runs h c p e → (0 < length p) × (get_or p 0 0 ≡ c)
  first_named c p e (ends x) = (omega arith, refl)
  first_named c p e (goes x u) = (omega arith, refl)

  module _ (a b : ℕ) (p q : List ℕ) (d e : WalkEnd) (u : Runs h a p d) (v : Runs h b q e) where
    -- two walks that name one CSD go on alike
    level : (i j : ℕ) → i < length p → j < length q → get_or p i 0 ≡ get_or q j 0 → drop i p ≡ drop j q
    level i j l m x = one_path h (get_or p i 0) (drop i p) (drop j q) d e (runs_from a p d i u l) (rw x (runs_from b q e j v m))

    -- as far from their ends
    as_far : (i j : ℕ) → i < length p → j < length q → get_or p i 0 ≡ get_or q j 0 → length p + j ≡ length q + i
    as_far i j l m x =
        let f : length p - i ≡ length q - j = sym (length-drop i p) ∙ (ap length (level i j l m x) ∙ length-drop j q) in
        omega arith

    -- before their common end they name no CSD both
    early : (n : ℕ) → CommonEnd p q n → (i j : ℕ) → i + n < length p → j < length q → get_or p i 0 ≡ get_or q j 0 → ⊥
    early n k i j l m x =
        let g : i < length p = omega arith in
        let t = length p - i - n - 1 in
        let f = level i j g m x in
        k.most (omega arith) (further (length p) (length q) n i j l m (as_far i j g m x)) (
        ap (λ (r : ℕ). get_or p r 0) (ahead (length p) n i l)
        ∙ (sym (get_or-drop i p t 0) ∙ (ap (λ (r : List ℕ). get_or r t 0) f ∙ (get_or-drop j q t 0 ∙ ap (λ (r : ℕ). get_or q r 0) (behind (length p) (length q) n i j l (as_far i j g m x)))))
        )

    -- with nothing in common at their ends the one does not name where the other starts
    starts_unnamed : CommonEnd p q 0 → Memᴰ b p → ⊥
    starts_unnamed k m = let x = place p b m in let f = first_named b q e v in early 0 k x.0 0 (omega (arith, x.1)) f.0 (x.2 ∙ sym f.1)

-- the same from the other side
pub common_turned : (p q : List ℕ) (n : ℕ) → CommonEnd p q n → CommonEnd q p n
common_turned p q n k = record { few = k.few'; few' = k.few; same = sym k.same; most = λ l m e. k.most m l (sym e) }

-- ---- default walks
module _ (K : Lookups) (s : ℕ) where
  outside_ends : (c : ℕ) → K.outside c ≡ true → default_hop K s c ≡ Ends (Outside c)
  unfolding default_hop
  outside_ends c o = rw o

  inside_hops : (c y : ℕ) → K.outside c ≡ false → default_hop K s c ≡ Ends (Outside y) → ⊥
  unfolding default_hop
  inside_hops c y o e = go (K.issuer s c) (K.onward s c) (rw o at e)
    where
      go : (b : Bool) (f : Option ℕ) → cond b (Ends (Inside c)) (follow f) ≡ Ends (Outside y) → ⊥
      go true f x = impossible (cc)
      go false none x = impossible (cc)
      go false (some t) x = impossible (cc)

  -- a walk is in T2S where it goes on, and where it ends inside
  in_T2_s : (c : ℕ) (p : List ℕ) (e : WalkEnd) → Runs (default_hop K s) c p e → (length p ≡ 1 → (y : ℕ) → e ≡ Outside y → ⊥) → K.outside c ≡ false
  in_T2_s c p e (ends x) f = untrue (K.outside c) (λ o. let g : default_hop K s c ≡ Ends (Outside c) = outside_ends c o in f refl c (cc))
  in_T2_s c p e (goes x u) f = untrue (K.outside c) (λ o. let g : default_hop K s c ≡ Ends (Outside c) = outside_ends c o in impossible (cc))

  -- where it ends outside, its last CSD is external
  out_of_T2_s : (c y : ℕ) (p : List ℕ) (e : WalkEnd) → Runs (default_hop K s) c p e → length p ≡ 1 → e ≡ Outside y → K.outside c ≡ true
  out_of_T2_s c y p e (ends x) l f = unfalse (K.outside c) (λ o. inside_hops c y o (cc))
  out_of_T2_s c y p e (goes x (ends z)) l f = absurd (omega arith)
  out_of_T2_s c y p e (goes x (goes z u)) l f = absurd (omega arith)

  -- ---- two of them
  module _ (a b : ℕ) (p q : List ℕ) (d e : WalkEnd) (u : Runs (default_hop K s) a p d) (v : Runs (default_hop K s) b q e) where
    named_both : (c : ℕ) → is_shared K q c ≡ true → (not (K.outside c) ≡ true) × ((j : ℕ) × (j < length q) × (get_or q j 0 ≡ c))
    named_both c t =
        let r = and_both (not (K.outside c)) (is_named q c) t in
        (r.0, place q c (named_in q c r.1))

    not_early : (n : ℕ) → CommonEnd p q n → (c i : ℕ) → i + n < length p → get_or p i 0 ≡ c → is_shared K q c ≡ true → ⊥
    not_early n k c i l x t =
        let y = (named_both c t).1 in
        early (default_hop K s) a b p q d e u v n k i y.0 l y.1 (x ∙ sym y.2)

    nothing_shared : CommonEnd p q 0 → first_shared K p q ≡ none
    unfolding first_shared
    nothing_shared k = none_found (is_shared K q) p (λ c i t. let x = place p c i in not_early 0 k c x.0 (omega (arith, x.1)) x.2 t)

    -- the first CSD of the common end, m more behind it
    module _ (m : ℕ) (k : CommonEnd p q (suc m)) where
      abbrev first : ℕ
      first = get_or p (length p - suc m) 0

      starts : length p - suc m < length p
      starts = omega (arith, k.few)

      starts' : length q - suc m < length q
      starts' = omega (arith, k.few')

      both : first ≡ get_or q (length q - suc m) 0
      both =
          let f = drop-cons p (length p - suc m) 0 starts in
          let g = drop-cons q (length q - suc m) 0 starts' in
          let h = k.same in
          cc

      earlier : (c : ℕ) → Memᴰ c (take (length p - suc m) p) → is_shared K q c ≡ false
      earlier c i =
          let x = place (take (length p - suc m) p) c i in
          let l : x.0 < length p - suc m = omega (arith, x.1, length-take (length p - suc m) p) in
          untrue (is_shared K q c) (not_early (suc m) k c x.0 (omega arith) (sym (get_or-take (length p - suc m) p x.0 0 l) ∙ x.2))

      found : K.outside first ≡ false → first_shared K p q ≡ some first
      unfolding first_shared is_named
      found o =
          let x : is_named q first ≡ true = any_true (eqb first) q first (rw both (at_place q (length q - suc m) starts')) (eqb-true first first refl) in
          let y : not (K.outside first) ≡ true = ap not o in
          ap (find (is_shared K q)) (split_at p (length p - suc m) 0 starts)
          ∙ first_found (is_shared K q) (take (length p - suc m) p) (drop (suc (length p - suc m)) p) first (and-true (not (K.outside first)) (is_named q first) y x) earlier

      -- a path that names it m CSDs before its end names it nowhere else
      cut : (r : List ℕ) → suc m ≤ length r → first ≡ get_or r (length r - suc m) 0 → ((i : ℕ) → i < length r → get_or r i 0 ≡ first → i + suc m ≡ length r)
          → up_to first r ≡ take (length r - m) r
      cut r l x once =
          let n : length r - suc m < length r = omega (arith, l) in
          let z : suc (length r - suc m) ≡ length r - m = omega (arith, l) in
          ap (λ (t : List ℕ). up_to first t) (split_at r (length r - suc m) 0 n)
          ∙ (ap (λ (c : ℕ). up_to first (take (length r - suc m) r ++ (c ∷ drop (suc (length r - suc m)) r))) (sym x)
          ∙ (up_to_first first (take (length r - suc m) r) (drop (suc (length r - suc m)) r) fresh
          ∙ (ap (λ (c : ℕ). take (length r - suc m) r ++ (c ∷ [])) x ∙ (sym (take-suc r (length r - suc m) 0 n) ∙ ap (λ (k : ℕ). take k r) z))))
        where
          fresh : Memᴰ first (take (length r - suc m) r) → ⊥
          fresh i =
              let y = place (take (length r - suc m) r) first i in
              let b : y.0 < length r - suc m = omega (arith, y.1, length-take (length r - suc m) r) in
              let g : y.0 + suc m ≡ length r = once y.0 (omega (arith, b)) (sym (get_or-take (length r - suc m) r y.0 0 b) ∙ y.2) in
              omega (arith, b, g)

      upward : up_to first p ≡ take (length p - m) p
      upward = cut p k.few refl (λ i l x.
          let f : length p + (length q - suc m) ≡ length q + i = as_far (default_hop K s) a b p q d e u v i (length q - suc m) l starts' (x ∙ both) in
          omega (arith, f, k.few'))

      downward : up_to first q ≡ take (length q - m) q
      downward = cut q k.few' both (λ j l x.
          let f : length p + j ≡ length q + (length p - suc m) = as_far (default_hop K s) a b p q d e u v (length p - suc m) j starts l (sym x) in
          omega (arith, f, k.few))

    -- one external CSD is no meeting
    external_shared : (k : CommonEnd p q 1) → K.outside (first 0 k) ≡ true → first_shared K p q ≡ none
    unfolding first_shared
    external_shared k o = none_found (is_shared K q) p (λ c i t.
        let x = place p c i in
        ⊎_elim (λ f. clash (K.outside c) (ap (λ (n : ℕ). K.outside n) (sym x.2 ∙ ap (λ (j : ℕ). get_or p j 0) f) ∙ o) (unnot (K.outside c) (named_both c t).0)) (λ l. not_early 1 k c x.0 (omega (arith, l)) x.2 t)
        (eq-or-lt_of_le (last x.0 x.1)))
      where
        last : (i : ℕ) → i < length p → i ≤ length p - 1
        last i l = omega arith

  -- ---- as walks
  runs : (c : ℕ) → arrived (default_walk K s c).end ≡ true → Runs (default_hop K s) c (default_walk K s c).path (default_walk K s c).end
  runs c t = walk_runs (default_hop K s) side_limit c (λ u. clash (arrived (default_walk K s c).end) t (ap arrived u))

  module _ (a b : ℕ) (w v : Walk) (ew : w ≡ default_walk K s a) (ev : v ≡ default_walk K s b) (aw : arrived w.end ≡ true) (av : arrived v.end ≡ true) where
    runs_w : Runs (default_hop K s) a w.path w.end
    runs_w = rw ew (runs a (rw ew at aw))

    runs_v : Runs (default_hop K s) b v.path v.end
    runs_v = rw ev (runs b (rw ev at av))

    pub meet : (n : ℕ) → CommonEnd w.path v.path n → (n ≡ 1 → (y : ℕ) → w.end ≡ Outside y → ⊥) → MeetAt n K w v
    meet zero k f = rw (aw, av) (nothing_shared a b w.path v.path w.end v.end runs_w runs_v k)
    meet (suc m) k f = (
      first a b w.path v.path w.end v.end runs_w runs_v m k,
      rw (aw, av) (found a b w.path v.path w.end v.end runs_w runs_v m k inside),
      upward a b w.path v.path w.end v.end runs_w runs_v m k,
      downward a b w.path v.path w.end v.end runs_w runs_v m k,
    )
      where
        inside : K.outside (get_or w.path (length w.path - suc m) 0) ≡ false
        inside = in_T2_s (get_or w.path (length w.path - suc m) 0) (drop (length w.path - suc m) w.path) w.end
            (runs_from (default_hop K s) a w.path w.end (length w.path - suc m) runs_w (omega (arith, k.few)))
            (λ l. f (omega (arith, l, k.few, length-drop (length w.path - suc m) w.path)))

    pub unnamed : CommonEnd w.path v.path 0 → Memᴰ b w.path → ⊥
    unnamed = starts_unnamed (default_hop K s) a b w.path v.path w.end v.end runs_w runs_v

    pub meet_outside : (y : ℕ) → CommonEnd w.path v.path 1 → w.end ≡ Outside y → shared K w v ≡ none
    meet_outside y k f = rw (aw, av) (external_shared a b w.path v.path w.end v.end runs_w runs_v k outside)
      where
        outside : K.outside (get_or w.path (length w.path - 1) 0) ≡ true
        outside = out_of_T2_s (get_or w.path (length w.path - 1) 0) y (drop (length w.path - 1) w.path) w.end
            (runs_from (default_hop K s) a w.path w.end (length w.path - 1) runs_w (omega (arith, k.few)))
            (omega (arith, k.few, length-drop (length w.path - 1) w.path)) f
