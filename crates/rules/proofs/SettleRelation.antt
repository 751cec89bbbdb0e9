-- The conditions of derivations and settlements render the relations over a sound directory.
use mathlib.Core.Path.{◌≡◌, refl, sym, ap, subst, ◌∙◌}
use mathlib.Core.Logic.{◌≢◌, ◌⊎◌, inl, inr}
use mathlib.Core.Bool.{Bool, true, false, not, ◌||◌}
use mathlib.Core.List.{List, [], ◌∷◌, ◌++◌, append-nil, append_assoc, Memᴰ}
use Prim.Native.Nat.{ℕ, zero, suc, ◌+◌, ◌≤◌, ◌<◌}
use native.Mathlib.Omega.{arith}
use lib.IntN.{ℤ, pos, ◌+ℤ◌, ◌-ℤ◌}
use lib.Signed.{◌<ℤ◌, lt_z}
use lib.Dec.{eqb}
use Rattle.rules.specs.Types.{Half, Step}
use Rattle.rules.specs.Tests.{Condition, ◌when◌}
use Rattle.rules.specs.Directory.{Rows, is_kind}
use Rattle.rules.specs.Lookups.{home_of, ask}
use Rattle.rules.specs.Chain.{chain, Chain, chained, unchained, steps_of, chain_conditions}
use Rattle.rules.specs.Booking.{beyond, units_short, units_beyond, cash_short, cash_beyond, payment_beyond, cash_on}
use Rattle.rules.specs.Calls.{Halves, delivering, receiving, half_unknown, halves_differ, halves_conditions, halves_chain, derive_conditions, book_conditions, settle_conditions}
use Rattle.rules.specs.Relations.{ChainIs}
use Rattle.rules.specs.Refusals
use Rattle.rules.specs.Refusals.{Beyond, Short, Exceeds, Delivers, HalvesRefused, ChainRefused, DeriveRefused, BookRefused, SettleRefused}
use Rattle.rules.proofs.Basics.{impossible, eqb_is, eqb_not}
use Rattle.rules.proofs.Reflection.{Says, says_as, says_or, says_and, says_ne}
use Rattle.rules.proofs.Places.{Renders, end, skip, test, stop, up_from, entry_places}
use Rattle.rules.proofs.AmountRelation.{says_less, says_beyond, says_units_short, says_units_beyond}
use Rattle.rules.proofs.SideRelation.{delivers_is}
use Rattle.rules.proofs.SideRelation.{no_side_number}
use Rattle.rules.proofs.HalvesRelation.{halves_chain_is, Early, halves_unknown, halves_range, halves_kind, halves_side, two_sides, halves_differ_lem, halves_same, halves_else, halves_early}
use Rattle.rules.proofs.Facts.{Facts}
use Rattle.rules.proofs.ChainNumbers.{chain_apart, apart_chain}
use Rattle.rules.proofs.ChainRelation.{chain_is_given, chain_given_is}
use Rattle.rules.proofs.ChainSize.{chain_number}

-- ---- a derivation, and what a call asks behind it

-- a number of a derivation: its place is before 19
abbrev Unbooked : ℕ → Type 0
Unbooked n = (n ≤ 18) ⊎ (23 ≤ n)

module _ (r : Rows) (F : Facts r) (hs : Halves) where
  abbrev h : Half
  h = delivering hs

  abbrev g : Half
  g = receiving hs

  abbrev D : ℕ
  D = home_of r.accounts h.account

  abbrev R : ℕ
  R = home_of r.accounts g.account

  chain_from : (s a b n : ℕ) → ChainRefused r s (home_of r.accounts a) (home_of r.accounts b) a b n → 14 ≤ n
  chain_from s a b n c =
      let x = chain_apart r F s a b n c in
      let l : x.number ≤ n = x.least in
      let k : 14 ≤ x.number = (chain_number r s a b x.number x.unchained).0 in
      omega arith

  chain_to : (s c d a b n : ℕ) → ChainRefused r s c d a b n → n ≤ 18
  chain_to s c d a b n (Refusals.delivering_unlinked u path w) = omega arith
  chain_to s c d a b n (Refusals.receiving_unlinked u path w) = omega arith
  chain_to s c d a b n (Refusals.delivering_too_long u x) = omega arith
  chain_to s c d a b n (Refusals.receiving_too_long u x) = omega arith
  chain_to s c d a b n (Refusals.inside_outside u up down i y w v) = omega arith
  chain_to s c d a b n (Refusals.outside_inside u up down x j w v) = omega arith
  chain_to s c d a b n (Refusals.up_unpaired j up down w u) = omega arith
  chain_to s c d a b n (Refusals.down_unpaired j up down w u) = omega arith

  as_halves : (n : ℕ) → Early n → DeriveRefused r hs n → HalvesRefused r hs n
  as_halves n l (Refusals.halves x) = x
  as_halves n l (Refusals.chain k m d c) = go l (chain_from _ _ _ n c) (chain_to _ _ _ _ _ n c)
    where
      go : Early n → 14 ≤ n → n ≤ 18 → HalvesRefused r hs n
      go (inl a) lo hi = absurd (omega arith)
      go (inr a) lo hi = absurd (omega arith)

  as_chain : (n : ℕ) → 14 ≤ n → n ≤ 22 → DeriveRefused r hs n → ChainRefused r h.security D R h.account g.account n
  as_chain n lo hi (Refusals.halves x) = go (halves_early r hs n x)
    where
      go : Early n → ChainRefused r h.security D R h.account g.account n
      go (inl a) = absurd (omega arith)
      go (inr a) = absurd (omega arith)
  as_chain n lo hi (Refusals.chain k m d c) =
      let is = delivers_is hs k m d in
      subst (λ (x : Half). ChainRefused r h.security D (home_of r.accounts x.account) h.account x.account n) is.1
      (subst (λ (x : Half). ChainRefused r x.security (home_of r.accounts x.account) (home_of r.accounts m.account) x.account m.account n) is.0 c)

  abbrev called : Chain
  called = halves_chain (ask r) hs

  -- the halves' chain is that from the account that delivers to the one that receives
  called_is : called ≡ chain (ask r) h.security h.account g.account
  called_is = halves_chain_is (ask r) hs

  module _ {Q : ℕ → Type 0} (to : (n : ℕ) → DeriveRefused r hs n → Q n) (from : (n : ℕ) → Unbooked n → Q n → DeriveRefused r hs n) where
    unbooked : (n : ℕ) → Early n → Unbooked n
    unbooked n (inl l) = inl (omega arith)
    unbooked n (inr e) = inr e

    tested : (n : ℕ) → Early n → {b : Bool} → Says (HalvesRefused r hs n) b → Says (Q n) b
    tested n l S = says_as S (λ x. to n (Refusals.halves x)) (λ q. as_halves n l (from n (unbooked n l) q))

    passed : (n : ℕ) → Early n → (HalvesRefused r hs n → ⊥) → Q n → ⊥
    passed n l never q = never (as_halves n l (from n (unbooked n l) q))

    -- there is a chain: 14 to 18 do not apply
    none : (steps : List Step) → called ≡ chained steps → (n : ℕ) → 14 ≤ n → n ≤ 18 → Q n → ⊥
    none steps e n l k q =
        let a = chain_apart r F h.security h.account g.account n (as_chain n l (omega arith) (from n (inl k) q)) in
        let f : chained steps ≡ unchained a.number = sym e ∙ (called_is ∙ a.unchained) in
        impossible (cc)

    -- there is none: its number is the first that applies
    stops : Delivers hs h g → (k lo m : ℕ) → 14 ≤ lo → lo ≤ suc m → suc m < lo + k → lo + k ≤ 19 → called ≡ unchained (suc m) → (cs : List Condition) (ns : List ℕ)
        → Renders Q ((suc m when true) ∷ cs) (up_from lo k ns)
    stops s zero lo m a b c d e cs ns = absurd (omega arith)
    stops s (suc k) lo m a b c d e cs ns = go (eqb lo (suc m)) refl (λ ne. stops s k (suc lo) m (omega arith) (omega (arith, ne)) (omega arith) (omega arith) e cs ns)
      where
        go : (x : Bool) → eqb lo (suc m) ≡ x → (lo ≢ suc m → Renders Q ((suc m when true) ∷ cs) (up_from (suc lo) k ns)) → Renders Q ((suc m when true) ∷ cs) (lo ∷ up_from (suc lo) k ns)
        go true f below = rw (eqb_is lo (suc m) f) (stop (to (suc m) (Refusals.chain h g s (apart_chain r F h.security h.account g.account (suc m) (sym called_is ∙ e)))))
        go false f below =
            skip (λ q.
            let x = chain_apart r F h.security h.account g.account lo (as_chain lo a (omega arith) (from lo (inl (omega arith)) q)) in
            let l : x.number ≤ lo = x.least in
            let same : unchained (suc m) ≡ unchained x.number = sym e ∙ (called_is ∙ x.unchained) in
            let is : suc m ≡ x.number = cc in
            eqb_not lo (suc m) f (omega arith)) (below (eqb_not lo (suc m) f))

    by_chain : Delivers hs h g → (cs : List Condition) → ((steps : List Step) → called ≡ chained steps → Renders Q cs (up_from 19 4 [])) → (x : Chain) → called ≡ x
        → Renders Q (chain_conditions x ++ cs) (up_from 14 9 [])
    by_chain d cs rest (chained steps) e =
        skip (none steps e 14 (omega arith) (omega arith)) (skip (none steps e 15 (omega arith) (omega arith)) (skip (none steps e 16 (omega arith) (omega arith))
        (skip (none steps e 17 (omega arith) (omega arith)) (skip (none steps e 18 (omega arith) (omega arith)) (rest steps e)))))
    by_chain d cs rest (unchained zero) e = let k = (chain_number r h.security h.account g.account 0 (sym called_is ∙ e)).0 in absurd (omega (arith, k))
    by_chain d cs rest (unchained (suc m)) e =
        let k = chain_number r h.security h.account g.account (suc m) (sym called_is ∙ e) in
        stops d 5 14 m (omega arith) k.0 (omega (arith, k.1)) (omega arith) e cs (up_from 19 4 [])

    -- 12 and 13, once one half delivers and the other receives
    behind_sides : (half_unknown (ask r) h || half_unknown (ask r) g) ≡ false → Delivers hs h g → (cs : List Condition)
        → ((steps : List Step) → called ≡ chained steps → Renders Q cs (up_from 19 4 []))
        → Renders Q (12 when halves_differ (ask r) h g ∷ 13 when eqb h.account g.account ∷ (chain_conditions called ++ cs)) (up_from 12 11 [])
    behind_sides e6 d cs rest =
        test (tested 12 (inl (omega arith)) (halves_differ_lem r hs e6 d)) (λ e12. test (tested 13 (inl (omega arith)) (halves_same r hs d)) (λ e13. by_chain d cs rest called refl))

    pub renders_then : (cs : List Condition) → (Delivers hs h g → (steps : List Step) → called ≡ chained steps → Renders Q cs (up_from 19 4 []))
        → Renders Q (halves_conditions (ask r) hs ++ (chain_conditions called ++ cs)) entry_places
    renders_then cs rest =
        skip (passed 5 (inl (omega arith)) (halves_else r hs (λ p. elim p [ ]) (λ p. elim p [ ]) (no_side_number hs 5 (omega arith) (omega arith)) (λ p. elim p [ ])))
        (test (tested 6 (inl (omega arith)) (halves_unknown r hs)) (λ e6. test (tested 7 (inl (omega arith)) (halves_range r hs)) (λ e7.
        skip (passed 8 (inl (omega arith)) (halves_else r hs (λ p. elim p [ ]) (λ p. elim p [ ]) (no_side_number hs 8 (omega arith) (omega arith)) (λ p. elim p [ ])))
        (skip (passed 9 (inl (omega arith)) (halves_else r hs (λ p. elim p [ ]) (λ p. elim p [ ]) (no_side_number hs 9 (omega arith) (omega arith)) (λ p. elim p [ ])))
        (test (tested 10 (inl (omega arith)) (halves_kind r hs e6)) (λ e10.
        skip (passed 24 (inr (omega arith)) (halves_else r hs (λ p. elim p [ ]) (λ p. elim p [ ]) (no_side_number hs 24 (omega arith) (omega arith)) (λ p. elim p [ ])))
        (skip (passed 11 (inl (omega arith)) (halves_else r hs (λ p. elim p [ ]) (λ p. elim p [ ]) (no_side_number hs 11 (omega arith) (omega arith)) (λ p. elim p [ ])))
        (test (tested 23 (inr (omega arith)) (halves_side r hs)) (λ e23. let d = two_sides r hs e7 e23 in behind_sides e6 d cs (rest d))))))))))

  -- ---- 0B, 0D
  behind_derive : (n : ℕ) → 19 ≤ n → n ≤ 22 → DeriveRefused r hs n → ⊥
  behind_derive n l k d = let m : n ≤ 18 = chain_to _ _ _ _ _ n (as_chain n (omega arith) k d) in omega arith

  pub derive_renders : Renders (DeriveRefused r hs) (derive_conditions (ask r) hs) entry_places
  derive_renders =
      subst (λ (cs : List Condition). Renders (DeriveRefused r hs) (halves_conditions (ask r) hs ++ cs) entry_places) (append-nil (chain_conditions called))
      (renders_then (λ n d. d) (λ n l d. d) []
      (λ d steps e. skip (behind_derive 19 (omega arith) (omega arith)) (skip (behind_derive 20 (omega arith) (omega arith)) (skip (behind_derive 21 (omega arith) (omega arith)) (skip (behind_derive 22 (omega arith) (omega arith)) end)))))

  -- ---- 0A, 0C
  module _ (p c : List ℤ) where
    abbrev Refused : ℕ → Type 0
    Refused = SettleRefused r p c hs

    abbrev s : ℕ
    s = h.security

    abbrev q : ℕ
    q = h.quantity

    book_range : (k l : Half) (n : ℕ) → BookRefused r p c k l n → (20 ≤ n) × (n ≤ 22)
    book_range k l n (Refusals.securities_short steps x is m w) = (omega arith, omega arith)
    book_range k l n (Refusals.cash_short a w) = (omega arith, omega arith)
    book_range k l n (Refusals.securities_beyond steps x is m w) = (omega arith, omega arith)
    book_range k l n (Refusals.payer_beyond a w) = (omega arith, omega arith)
    book_range k l n (Refusals.payee_beyond a w) = (omega arith, omega arith)

    before : (n : ℕ) → Unbooked n → Refused n → DeriveRefused r hs n
    before n l (Refusals.derivation d) = d
    before n l (Refusals.booking k m d x) = go l (book_range k m n x).0 (book_range k m n x).1
      where
        go : Unbooked n → 20 ≤ n → n ≤ 22 → DeriveRefused r hs n
        go (inl a) lo hi = absurd (omega arith)
        go (inr a) lo hi = absurd (omega arith)

    as_booking : (n : ℕ) → 19 ≤ n → n ≤ 22 → Refused n → BookRefused r p c h g n
    as_booking n lo hi (Refusals.derivation d) = absurd (behind_derive n lo hi d)
    as_booking n lo hi (Refusals.booking k m d x) =
        let is = delivers_is hs k m d in
        subst (λ (y : Half). BookRefused r p c h y n) is.1 (subst (λ (y : Half). BookRefused r p c y m n) is.0 x)

    module _ (d : Delivers hs h g) (steps : List Step) (e : called ≡ chained steps) where
      same : (xs : List Step) → ChainIs r s h.account g.account xs → xs ≡ steps
      same xs is = let f : called ≡ chained xs = called_is ∙ chain_is_given r F s h.account g.account xs is in cc

      is : ChainIs r s h.account g.account steps
      is = chain_given_is r F s h.account g.account steps (sym called_is ∙ e)

      -- a test of the booking, said of both halves
      booked_by : (n : ℕ) → 19 ≤ n → n ≤ 22 → {b : Bool} → Says (BookRefused r p c h g n) b → Says (Refused n) b
      booked_by n lo hi S = says_as S (Refusals.booking h g d) (as_booking n lo hi)

      short : Says (BookRefused r p c h g 20) (units_short (is_kind r.accounts) p s q steps)
      short = says_as (says_units_short r.accounts p s q steps) (λ w. Refusals.securities_short steps w.0 is w.1 w.2) from
        where
          from : BookRefused r p c h g 20 → (x : Step) × Memᴰ x steps × Short r.accounts p s q x
          from (Refusals.securities_short xs x k m w) = (x, rw (same xs k) at m, w)

      cash_short_lem : Says (BookRefused r p c h g 21) (cash_short c g.account h.amount)
      unfolding cash_short
      cash_short_lem =
          says_as (says_and (not (eqb h.amount 0)) (lt_z (cash_on c g.account) (pos h.amount)) (says_ne h.amount 0) (says_less (cash_on c g.account) (pos h.amount)))
          (λ w. Refusals.cash_short w.0 w.1) from
        where
          from : BookRefused r p c h g 21 → (h.amount ≢ 0) × (cash_on c g.account <ℤ pos h.amount)
          from (Refusals.cash_short a w) = (a, w)

      abbrev Cash : Type 0
      Cash = (h.amount ≢ 0) × (Beyond (cash_on c g.account -ℤ pos h.amount) ⊎ Beyond (cash_on c h.account +ℤ pos h.amount))

      cash_said : Says Cash (payment_beyond c g.account h.account h.amount)
      unfolding payment_beyond cash_beyond
      cash_said =
          says_and (not (eqb h.amount 0)) _ (says_ne h.amount 0)
          (says_or (beyond (cash_on c g.account -ℤ pos h.amount)) (beyond (cash_on c h.account +ℤ pos h.amount)) (says_beyond _) (says_beyond _))

      beyond_limits : Says (BookRefused r p c h g 22) (units_beyond p s q steps || payment_beyond c g.account h.account h.amount)
      beyond_limits =
          says_as (says_or (units_beyond p s q steps) (payment_beyond c g.account h.account h.amount) (says_units_beyond p s q steps) cash_said) to from
        where
          pays : h.amount ≢ 0 → Beyond (cash_on c g.account -ℤ pos h.amount) ⊎ Beyond (cash_on c h.account +ℤ pos h.amount) → BookRefused r p c h g 22
          pays a (inl w) = Refusals.payer_beyond a w
          pays a (inr w) = Refusals.payee_beyond a w

          to : ((x : Step) × Memᴰ x steps × Exceeds p s q x) ⊎ Cash → BookRefused r p c h g 22
          to (inl w) = Refusals.securities_beyond steps w.0 is w.1 w.2
          to (inr w) = pays w.0 w.1

          from : BookRefused r p c h g 22 → ((x : Step) × Memᴰ x steps × Exceeds p s q x) ⊎ Cash
          from (Refusals.securities_beyond xs x k m w) = inl (x, rw (same xs k) at m, w)
          from (Refusals.payer_beyond a w) = inr (a, inl w)
          from (Refusals.payee_beyond a w) = inr (a, inr w)

      booked : Renders Refused (book_conditions (ask r) p c h g steps) (up_from 19 4 [])
      booked =
          skip {m = 19} (λ w. elim (as_booking 19 (omega arith) (omega arith) w) [ ])
          (test (booked_by 20 (omega arith) (omega arith) short) (λ e20. test (booked_by 21 (omega arith) (omega arith) cash_short_lem)
          (λ e21. test (booked_by 22 (omega arith) (omega arith) beyond_limits) (λ e22. end))))

    pub settle_renders : Renders Refused (settle_conditions (ask r) p c hs) entry_places
    settle_renders =
        rw (append_assoc (halves_conditions (ask r) hs) (chain_conditions called) (book_conditions (ask r) p c h g (steps_of called)))
        (renders_then (λ n d. Refusals.derivation d) before (book_conditions (ask r) p c h g (steps_of called))
        (λ d steps e. rw (ap steps_of e) (booked d steps e)))
