-- Every step of a chain over a sound directory stands in the books of an entered CSD, between two entered accounts: a side names the account's
-- own CSD first, and then technical issuers of pairs. So the numbers of a step are small.
use mathlib.Core.Path.{◌≡◌, refl, sym}
use mathlib.Core.Logic.{◌≢◌, ◌⊎◌, inl, inr}
use mathlib.Core.Bool.{true}
use mathlib.Core.List.Memᴰ
use mathlib.Core.List.{List, [], ◌∷◌, ◌++◌, Memᴰ}
use Prim.Native.Nat.{ℕ, ◌<◌, ◌≤◌}
use native.Mathlib.Omega.{arith}
use lib.ListN.{length}
use Rattle.rules.specs.declared.Step.{Step}
use Rattle.rules.specs.declared.WalkEnd.{WalkEnd}
use Rattle.rules.specs.declared.Join.{Join}
use Rattle.rules.specs.Tests.{is_row}
use Rattle.rules.specs.Directory.{Rows, csd_limit, account_limit, is_kind}
use Rattle.rules.specs.Lookups.{home_of, ask}
use Rattle.rules.specs.Chain.{chained, turned, last_of, chain}
use Rattle.rules.specs.Relations.{Walks, ends_outside, ends_inside, ends_without_link, goes_on, Directs, arrives, takes, follows, Joins, same, meets, ahead, back, issuers, externals, Tops, one_step, issuance_steps, no_step, Climbs, stands, rises, ChainIs}
use Rattle.rules.proofs.Basics.{ltb_is}
use Rattle.rules.proofs.Bookings.{touched_debited, touched_credited}
use Rattle.rules.proofs.Facts.{Facts}
use Rattle.rules.proofs.Trail.{Trail}
use Rattle.rules.proofs.Accounts.{at_home}
use Rattle.rules.proofs.Turning.{turned_each}
use Rattle.rules.proofs.Chains.{chain_trail}
use Rattle.rules.proofs.ChainRelation.{chain_given_is}

-- the first CSD of a side
abbrev First : ℕ → List ℕ → Type 0
First c [] = ⊥
First c (x ∷ path) = x ≡ c

first_cut : (c m : ℕ) (before after : List ℕ) → First c (before ++ (m ∷ after)) → First c (before ++ (m ∷ []))
first_cut c m [] after h = h
first_cut c m (x ∷ before) after h = h

module _ (r : Rows) (F : Facts r) (s : ℕ) where
  walks_first : (c : ℕ) (path : List ℕ) (e : WalkEnd) → Walks r.csds r.links s c path e → First c path
  walks_first c path e (ends_outside x) = refl
  walks_first c path e (ends_inside l x i) = refl
  walks_first c path e (ends_without_link x n m) = refl
  walks_first c path e (goes_on l x n d w) = refl

  directs_first : (t c : ℕ) (path : List ℕ) → Directs r.csds r.links s t c path → First c path
  directs_first t c path arrives = refl
  directs_first t c path (takes l n x k) = refl
  directs_first t c path (follows l n x k i d w) = refl

  joins_first : (D R : ℕ) (j : Join) (up down : List ℕ) → Joins r.csds r.links s D R j up down → First D up × First R down
  joins_first D R j up down (same e) = (refl, refl)
  joins_first D R j up down (meets ne m) = (
    rw m.upward (first_cut D m.meeting m.before m.after (walks_first D _ _ m.delivering.walks)),
    rw m.downward (first_cut R m.meeting m.beneath m.above (walks_first R _ _ m.receiving.walks)),
  )
  joins_first D R j up down (ahead ne n d) = (directs_first R D up d.directs, refl)
  joins_first D R j up down (back ne n k d) = (refl, directs_first D R down d.directs)
  joins_first D R j up down (issuers ne n k h w v) = (walks_first D up _ w.walks, walks_first R down _ v.walks)
  joins_first D R j up down (externals ne n k h w v) = (walks_first D up _ w.walks, walks_first R down _ v.walks)

  -- the CSD is entered
  abbrev Known : ℕ → Type 0
  Known c = is_row r.csds c ≡ true

  abbrev InKnown : Step → Type 0
  InKnown x = Known x.csd

  climbs_known : {path : List ℕ} {a b : ℕ} {xs : List Step} → Climbs r.pairs path a xs b → (x : Step) → Memᴰ x xs → InKnown x
  climbs_known stands x i = elim i [ ]
  climbs_known (rises p m e f v k) x (Memᴰ.head g) = rw (g, ← e) (F.pairs p m).investor_row
  climbs_known (rises p m e f v k) x (Memᴰ.tail i) = climbs_known k x i

  last_known : (c : ℕ) {path : List ℕ} {a b : ℕ} {xs : List Step} → Climbs r.pairs path a xs b → First c path → Known c → Known (last_of path)
  unfolding last_of
  last_known c stands h k = rw h k
  last_known c (rises p m e f v g) h k = last_known p.technical g (sym f) (F.pairs p m).technical_row

  tops_known : {j : Join} {up down : List ℕ} {a b : ℕ} {xs : List Step} → Tops r.csds r.links s j up down a b xs → Known (last_of up) → Known (last_of down)
      → (x : Step) → Memᴰ x xs → InKnown x
  tops_known one_step u d x (Memᴰ.head e) = rw e u
  tops_known one_step u d x (Memᴰ.tail i) = elim i [ ]
  tops_known (issuance_steps l k h g) u d x (Memᴰ.head e) = rw e u
  tops_known (issuance_steps l k h g) u d x (Memᴰ.tail (Memᴰ.head e)) = rw e d
  tops_known (issuance_steps l k h g) u d x (Memᴰ.tail (Memᴰ.tail i)) = elim i [ ]
  tops_known no_step u d x i = elim i [ ]

  chain_known : (a b : ℕ) (steps : List Step) → Known (home_of r.accounts a) → Known (home_of r.accounts b) → ChainIs r s a b steps
      → (x : Step) → Memᴰ x steps → InKnown x
  chain_known a b steps ka kb is x i = go (Memᴰ.append_cases is.up_steps (rw is.whole at i))
    where
      firsts : First (home_of r.accounts a) is.up × First (home_of r.accounts b) is.down
      firsts = joins_first _ _ is.join is.up is.down is.joins

      above : (Memᴰ x is.top_steps) ⊎ (Memᴰ x (turned is.down_steps)) → InKnown x
      above (inl j) = tops_known is.tops (last_known _ is.climbs_up firsts.0 ka) (last_known _ is.climbs_down firsts.1 kb) x j
      above (inr j) = turned_each InKnown is.down_steps (λ z k. climbs_known is.climbs_down z k) x j

      go : (Memᴰ x is.up_steps) ⊎ (Memᴰ x (is.top_steps ++ turned is.down_steps)) → InKnown x
      go (inl j) = climbs_known is.climbs_up x j
      go (inr j) = above (Memᴰ.append_cases is.top_steps j)

-- a step's numbers
pub record Small (x : Step) : Type 0 where
  pub csd : x.csd < csd_limit
  pub debited : x.debited < account_limit
  pub credited : x.credited < account_limit

known_small : (r : Rows) → Facts r → (c : ℕ) → is_row r.csds c ≡ true → c < csd_limit
unfolding is_row
known_small r F c h = let l : c < length r.csds = ltb_is c (length r.csds) h in let m : length r.csds ≤ csd_limit = F.few_csds in omega arith

module _ (r : Rows) (F : Facts r) (s a b : ℕ) (steps : List Step) (ka : is_kind r.accounts a 0 ≡ true) (kb : is_kind r.accounts b 0 ≡ true) (ne : a ≢ b)
    (e : chain (ask r) s a b ≡ chained steps) where
  home_known : (c : ℕ) → is_kind r.accounts c 0 ≡ true → is_row r.csds (home_of r.accounts c) ≡ true
  home_known c k = F.home_row c (home_of r.accounts c) (at_home r.accounts c 0 k)

  pub steps_small : (x : Step) → Memᴰ x steps → Small x
  steps_small x i =
      let t : Trail r a steps b = chain_trail r F s a b steps ka kb ne e in
      let known = chain_known r F s a b steps (home_known a ka) (home_known b kb) (chain_given_is r F s a b steps e) x i in
      record { csd = known_small r F x.csd known; debited = t.small x.debited (touched_debited x steps i); credited = t.small x.credited (touched_credited x steps i) }
