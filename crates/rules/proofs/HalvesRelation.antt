-- The conditions 6 to 13 of two halves render the relations.
use mathlib.Core.Path.{◌≡◌, refl, subst}
use mathlib.Core.Logic.{◌≢◌, ◌⊎◌, inl, inr}
use mathlib.Core.Bool.{Bool, false, not, ◌||◌}
use mathlib.Core.List.{Memᴰ}
use Prim.Native.Nat.{ℕ, ◌≤◌, ◌<◌}
use native.Mathlib.Omega.{arith}
use lib.Dec.{eqb}
use Rattle.rules.specs.Types.{Account, Half}
use Rattle.rules.specs.Tests.{is_row}
use Rattle.rules.specs.Directory.{Rows, is_kind, in_books}
use Rattle.rules.specs.Lookups.{Lookups, ask}
use Rattle.rules.specs.Chain.{chain}
use Rattle.rules.specs.Booking.{limit, out_of_range, amount_out_of_range}
use Rattle.rules.specs.Calls.{Halves, delivering, receiving, side_unknown, same_side, half_unknown, half_out_of_range, halves_differ, halves_conditions, halves_chain}
use Rattle.rules.specs.Relations.{Is}
use Rattle.rules.specs.Refusals
use Rattle.rules.specs.Refusals.{before_chain, NoRow, Delivers, HalfRefused, SidesRefused, BothRefused, HalvesRefused}
use Rattle.rules.proofs.Basics.{or_none, Quiet}
use Rattle.rules.proofs.Reflection.{Says, says_as, says_or, says_eq, says_ne, says_lt, denied}
use Rattle.rules.proofs.Places.{listed}
use Rattle.rules.proofs.RowTests.{says_no_row, known, says_other_kind, says_other_csd}
use Rattle.rules.proofs.AmountRelation.{says_out_of_range}
use Rattle.rules.proofs.SideRelation.{delivers_is, is_delivers, among_either, delivering_among, receiving_among, says_side_unknown, says_one_side, sides_number, no_side_number}

-- the halves' chain is that from the account that delivers to the one that receives
pub halves_chain_is : (k : Lookups) (hs : Halves) → halves_chain k hs ≡ chain k (delivering hs).security (delivering hs).account (receiving hs).account
halves_chain_is k hs = refl

-- ---- one half
module _ (r : Rows) (h : Half) where
  half_unknown_lem : Says (HalfRefused r h 6) (half_unknown (ask r) h)
  half_unknown_lem =
      says_as
      (says_or (not (is_row r.accounts h.account)) _ (says_no_row r.accounts h.account)
      (says_or (not (is_row r.csds h.counterpart)) (not (is_row r.securities h.security)) (says_no_row r.csds h.counterpart) (says_no_row r.securities h.security)))
      to from
    where
      to : NoRow r.accounts h.account ⊎ (NoRow r.csds h.counterpart ⊎ NoRow r.securities h.security) → HalfRefused r h 6
      to (inl x) = Refusals.half_account x
      to (inr (inl x)) = Refusals.half_counterpart x
      to (inr (inr x)) = Refusals.half_security x

      from : HalfRefused r h 6 → NoRow r.accounts h.account ⊎ (NoRow r.csds h.counterpart ⊎ NoRow r.securities h.security)
      from (Refusals.half_account x) = inl x
      from (Refusals.half_counterpart x) = inr (inl x)
      from (Refusals.half_security x) = inr (inr x)

  half_range : Says (HalfRefused r h 7) (half_out_of_range h)
  half_range = says_as (says_or (out_of_range h.quantity) (amount_out_of_range h.amount) (says_out_of_range h.quantity) (says_lt limit h.amount)) to from
    where
      to : ((h.quantity ≡ 0) ⊎ (limit < h.quantity)) ⊎ (limit < h.amount) → HalfRefused r h 7
      to (inl (inl x)) = Refusals.half_no_quantity x
      to (inl (inr x)) = Refusals.half_quantity x
      to (inr x) = Refusals.half_amount x

      from : HalfRefused r h 7 → ((h.quantity ≡ 0) ⊎ (limit < h.quantity)) ⊎ (limit < h.amount)
      from (Refusals.half_no_quantity x) = inl (inl x)
      from (Refusals.half_quantity x) = inl (inr x)
      from (Refusals.half_amount x) = inr x

  -- where nothing is unknown its account is a row
  half_row : half_unknown (ask r) h ≡ false → (y : Account) × Is r.accounts h.account y
  half_row e = known r.accounts h.account (or_none (not (is_row r.accounts h.account)) _ e).0

  half_kind_lem : half_unknown (ask r) h ≡ false → Says (HalfRefused r h 10) (not (is_kind r.accounts h.account 0))
  half_kind_lem e = says_as (says_other_kind r.accounts h.account 0 (half_row e).0 (half_row e).1) (λ x. Refusals.half_kind x.0 x.1 x.2) from
    where
      from : HalfRefused r h 10 → (z : Account) × Is r.accounts h.account z × (z.kind ≢ 0)
      from (Refusals.half_kind y i k) = (y, i, k)

  half_early : (n : ℕ) → HalfRefused r h n → n ≤ 13
  half_early n (Refusals.half_account x) = omega arith
  half_early n (Refusals.half_counterpart x) = omega arith
  half_early n (Refusals.half_security x) = omega arith
  half_early n (Refusals.half_no_quantity x) = omega arith
  half_early n (Refusals.half_quantity x) = omega arith
  half_early n (Refusals.half_amount x) = omega arith
  half_early n (Refusals.half_kind y i k) = omega arith

-- ---- two halves

-- a number of an entry or of the halves: its place is before 14
abbrev pub Early : ℕ → Type 0
Early n = (n ≤ 13) ⊎ (23 ≤ n)

module _ (r : Rows) (hs : Halves) where
  abbrev h : Half
  h = delivering hs

  abbrev g : Half
  g = receiving hs

  abbrev unknown : Bool
  unknown = half_unknown (ask r) h || half_unknown (ask r) g

  abbrev range : Bool
  range = half_out_of_range h || half_out_of_range g

  abbrev kinds : Bool
  kinds = not (is_kind r.accounts h.account 0) || not (is_kind r.accounts g.account 0)

  -- a refusal of the halves is one of a half, of their sides, or of both together
  abbrev Parts : ℕ → Type 0
  Parts n = (HalfRefused r h n ⊎ HalfRefused r g n) ⊎ (SidesRefused hs n ⊎ BothRefused r h g n)

  parts : (n : ℕ) → HalvesRefused r hs n → Parts n
  parts n (Refusals.each k a x) = inl (pick (among_either hs k a))
    where
      pick : (k ≡ h) ⊎ (k ≡ g) → HalfRefused r h n ⊎ HalfRefused r g n
      pick (inl e) = inl (subst (λ (m : Half). HalfRefused r m n) e x)
      pick (inr e) = inr (subst (λ (m : Half). HalfRefused r m n) e x)
  parts n (Refusals.sides x) = inr (inl x)
  parts n (Refusals.both k l d x) =
      let is = delivers_is hs k l d in
      inr (inr (subst (λ (m : Half). BothRefused r h m n) is.1 (subst (λ (m : Half). BothRefused r m l n) is.0 x)))

  either : {n : ℕ} → HalfRefused r h n ⊎ HalfRefused r g n → HalvesRefused r hs n
  either (inl x) = Refusals.each h (delivering_among hs) x
  either (inr x) = Refusals.each g (receiving_among hs) x

  pub halves_unknown : Says (HalvesRefused r hs 6) unknown
  halves_unknown = says_as (says_or (half_unknown (ask r) h) (half_unknown (ask r) g) (half_unknown_lem r h) (half_unknown_lem r g)) either (λ x. from (parts 6 x))
    where
      from : Parts 6 → HalfRefused r h 6 ⊎ HalfRefused r g 6
      from (inl x) = x
      from (inr (inl x)) = absurd (no_side_number hs 6 (omega arith) (omega arith) x)
      from (inr (inr x)) = elim x [ ]

  pub halves_range : Says (HalvesRefused r hs 7) (range || side_unknown hs)
  halves_range =
      says_as (says_or range (side_unknown hs) (says_or (half_out_of_range h) (half_out_of_range g) (half_range r h) (half_range r g)) (says_side_unknown hs)) to (λ x. from (parts 7 x))
    where
      to : (HalfRefused r h 7 ⊎ HalfRefused r g 7) ⊎ SidesRefused hs 7 → HalvesRefused r hs 7
      to (inl x) = either x
      to (inr x) = Refusals.sides x

      from : Parts 7 → (HalfRefused r h 7 ⊎ HalfRefused r g 7) ⊎ SidesRefused hs 7
      from (inl x) = inl x
      from (inr (inl x)) = inr x
      from (inr (inr x)) = elim x [ ]

  pub halves_kind : unknown ≡ false → Says (HalvesRefused r hs 10) kinds
  halves_kind e =
      let n = or_none (half_unknown (ask r) h) (half_unknown (ask r) g) e in
      says_as (says_or (not (is_kind r.accounts h.account 0)) (not (is_kind r.accounts g.account 0)) (half_kind_lem r h n.0) (half_kind_lem r g n.1)) either (λ x. from (parts 10 x))
    where
      from : Parts 10 → HalfRefused r h 10 ⊎ HalfRefused r g 10
      from (inl x) = x
      from (inr (inl x)) = absurd (no_side_number hs 10 (omega arith) (omega arith) x)
      from (inr (inr x)) = elim x [ ]

  pub halves_side : Says (HalvesRefused r hs 23) (same_side hs)
  halves_side = says_as (says_one_side hs) Refusals.sides (λ x. from (parts 23 x))
    where
      from : Parts 23 → SidesRefused hs 23
      from (inl (inl x)) = elim x [ ]
      from (inl (inr x)) = elim x [ ]
      from (inr (inl x)) = x
      from (inr (inr x)) = elim x [ ]

  -- where no test of the sides holds, one half delivers and the other receives
  pub two_sides : (range || side_unknown hs) ≡ false → same_side hs ≡ false → Delivers hs h g
  two_sides e f = is_delivers hs (or_none range (side_unknown hs) e).1 f

  -- what is left is asked of both
  as_both : {n : ℕ} → (HalfRefused r h n → ⊥) → (HalfRefused r g n → ⊥) → (SidesRefused hs n → ⊥) → Parts n → BothRefused r h g n
  as_both a b c (inl (inl x)) = absurd (a x)
  as_both a b c (inl (inr x)) = absurd (b x)
  as_both a b c (inr (inl x)) = absurd (c x)
  as_both a b c (inr (inr x)) = x

  abbrev Differ : Type 0
  Differ = (h.security ≢ g.security) ⊎ ((h.quantity ≢ g.quantity) ⊎ ((h.amount ≢ g.amount)
      ⊎ (((z : Account) × Is r.accounts g.account z × (z.csd ≢ h.counterpart)) ⊎ ((z : Account) × Is r.accounts h.account z × (z.csd ≢ g.counterpart)))))

  pub halves_differ_lem : unknown ≡ false → Delivers hs h g → Says (HalvesRefused r hs 12) (halves_differ (ask r) h g)
  halves_differ_lem e d =
      let n = or_none (half_unknown (ask r) h) (half_unknown (ask r) g) e in
      let y = half_row r h n.0 in
      let z = half_row r g n.1 in
      says_as
      (says_or (not (eqb h.security g.security)) _ (says_ne h.security g.security)
      (says_or (not (eqb h.quantity g.quantity)) _ (says_ne h.quantity g.quantity)
      (says_or (not (eqb h.amount g.amount)) _ (says_ne h.amount g.amount)
      (says_or (not (in_books r.accounts g.account h.counterpart)) (not (in_books r.accounts h.account g.counterpart))
      (says_other_csd r.accounts g.account h.counterpart z.0 z.1)
      (says_other_csd r.accounts h.account g.counterpart y.0 y.1)))))
      (λ x. Refusals.both h g d (to x)) (λ x. from (as_both (λ p. elim p [ ]) (λ p. elim p [ ]) (no_side_number hs 12 (omega arith) (omega arith)) (parts 12 x)))
    where
      to : Differ → BothRefused r h g 12
      to (inl x) = Refusals.securities x
      to (inr (inl x)) = Refusals.quantities x
      to (inr (inr (inl x))) = Refusals.amounts x
      to (inr (inr (inr (inl x)))) = Refusals.receiver_csd x.0 x.1 x.2
      to (inr (inr (inr (inr x)))) = Refusals.deliverer_csd x.0 x.1 x.2

      from : BothRefused r h g 12 → Differ
      from (Refusals.securities x) = inl x
      from (Refusals.quantities x) = inr (inl x)
      from (Refusals.amounts x) = inr (inr (inl x))
      from (Refusals.receiver_csd y i k) = inr (inr (inr (inl (y, i, k))))
      from (Refusals.deliverer_csd y i k) = inr (inr (inr (inr (y, i, k))))

  pub halves_same : Delivers hs h g → Says (HalvesRefused r hs 13) (eqb h.account g.account)
  halves_same d =
      says_as (says_eq h.account g.account) (λ x. Refusals.both h g d (Refusals.same_account x))
      (λ x. from (as_both (λ p. elim p [ ]) (λ p. elim p [ ]) (no_side_number hs 13 (omega arith) (omega arith)) (parts 13 x)))
    where
      from : BothRefused r h g 13 → h.account ≡ g.account
      from (Refusals.same_account x) = x

  -- 5, 8, 9, 11: a number that is none of a half, of the sides and of both
  pub halves_else : {n : ℕ} → (HalfRefused r h n → ⊥) → (HalfRefused r g n → ⊥) → (SidesRefused hs n → ⊥) → (BothRefused r h g n → ⊥) → HalvesRefused r hs n → ⊥
  halves_else {n} a b c d x = d (as_both a b c (parts n x))

  pub halves_early : (n : ℕ) → HalvesRefused r hs n → Early n
  halves_early n (Refusals.each k a x) = inl (half_early r k n x)
  halves_early n (Refusals.sides x) = go (sides_number hs n x)
    where
      go : (n ≡ 7) ⊎ (n ≡ 23) → Early n
      go (inl e) = inl (omega arith)
      go (inr e) = inr (omega arith)
  halves_early n (Refusals.both k l d (Refusals.securities x)) = inl (omega arith)
  halves_early n (Refusals.both k l d (Refusals.quantities x)) = inl (omega arith)
  halves_early n (Refusals.both k l d (Refusals.amounts x)) = inl (omega arith)
  halves_early n (Refusals.both k l d (Refusals.receiver_csd y i x)) = inl (omega arith)
  halves_early n (Refusals.both k l d (Refusals.deliverer_csd y i x)) = inl (omega arith)
  halves_early n (Refusals.both k l d (Refusals.same_account x)) = inl (omega arith)

  -- where no number applies to the halves, no condition does
  pub halves_quiet : ((n : ℕ) → Memᴰ n before_chain → HalvesRefused r hs n → ⊥) → Quiet (halves_conditions (ask r) hs)
  halves_quiet clear =
      let e6 = denied unknown halves_unknown (clear 6 (listed 6 before_chain refl)) in
      let e7 = denied (range || side_unknown hs) halves_range (clear 7 (listed 7 before_chain refl)) in
      let e23 = denied (same_side hs) halves_side (clear 23 (listed 23 before_chain refl)) in
      let d : Delivers hs h g = two_sides e7 e23 in (
        e6,
        (
          e7,
          (
            denied kinds (halves_kind e6) (clear 10 (listed 10 before_chain refl)),
            (
              e23,
              (
                denied (halves_differ (ask r) h g) (halves_differ_lem e6 d) (clear 12 (listed 12 before_chain refl)),
                (denied (eqb h.account g.account) (halves_same d) (clear 13 (listed 13 before_chain refl)), tt),
              ),
            ),
          ),
        ),
      )
