-- The conditions of bring-ins, take-outs, pay-ins and pay-outs render the relations over a sound directory.
use mathlib.Core.Path.{◌≡◌, refl, sym, ◌∙◌}
use mathlib.Core.Logic.{◌≢◌, ◌⊎◌, inl, inr}
use mathlib.Core.Bool.{Bool, true, false, not, ◌||◌, cond, true≢false}
use mathlib.Core.List.Memᴰ
use mathlib.Core.List.{List, [], ◌∷◌, ◌++◌, Memᴰ}
use mathlib.Core.Option.{Option, none, some}
use Prim.Native.Nat.{ℕ, ◌<◌}
use lib.IntN.{ℤ, pos, ◌+ℤ◌}
use lib.Signed.{◌<ℤ◌, lt_z}
use lib.Dec.{eqb}
use Rattle.rules.specs.Types.{Account, Pair, Link, Step}
use Rattle.rules.specs.Tests.{is_row, Condition, ◌when◌}
use Rattle.rules.specs.Directory.{Rows, external, is_kind, pair_of, has_issuer, issuer_link, default_link}
use Rattle.rules.specs.Lookups.{technical_of, account_of, issuance, home_of, ask}
use Rattle.rules.specs.Chain.{Chain, steps_of, chain_conditions}
use Rattle.rules.specs.Booking.{Way, incoming, outgoing, limit, mirror_of, inter_csd, contra, move_step, move_by, move_chain, move_conditions, units_short, units_beyond, out_of_range, payment, pay_short, pay_conditions, cash_short, cash_beyond, cash_on}
use Rattle.rules.specs.Relations.{Is, External, InT2S, DefaultOf, NoIssuer}
use Rattle.rules.specs.Refusals
use Rattle.rules.specs.Refusals.{NoRow, NoPair, Beyond, Short, Exceeds, ContraOf, MoveRefused, PayRefused}
use Rattle.rules.proofs.Basics.{impossible, clash, or_none}
use Rattle.rules.proofs.Reflection.{Says, says_as, says_or, says_and, says_ne, denies, denied}
use Rattle.rules.proofs.Places.{Renders, end, skip, test, stop, entry_places}
use Rattle.rules.proofs.RowTests.{says_no_row, known, says_external, says_other_kind}
use Rattle.rules.proofs.AmountRelation.{says_less, says_beyond, says_units_short, says_units_beyond, says_out_of_range}
use Rattle.rules.proofs.Facts.{Facts}
use Rattle.rules.proofs.Pairs.{found_pair, pair_found_lem, no_pair_lem, pair_none}
use Rattle.rules.proofs.Links.{issuer_has, has_issuer_lem, no_issuer_lem, issuer_found, default_found, found_default, default_none}

-- ---- the contra account
module _ (r : Rows) (F : Facts r) (s c a : ℕ) where
  -- no issuer link, and no default link to an external CSD with its pair
  pub data Missing : Type 0 where
    link : NoIssuer r.csds r.links s c → ((l : Link) → DefaultOf r.csds r.links s c l → InT2S r.csds l.technical) → Missing
    pair : NoIssuer r.csds r.links s c → (l : Link) → DefaultOf r.csds r.links s c l → External r.csds l.technical → NoPair r.pairs c l.technical a → Missing

  -- what the definitions find
  abbrev Found : Option ℕ → Type 0
  Found none = Missing
  Found (some u) = ContraOf r s c a u

  pub contra_found_lem : Found (contra (ask r) s c a)
  unfolding contra issuance
  contra_found_lem = go (has_issuer r.links s c) refl
    where
      unlinked : has_issuer r.links s c ≡ false → NoIssuer r.csds r.links s c
      unlinked e l i = clash (has_issuer r.links s c) (issuer_has r s c l i) e

      paired : NoIssuer r.csds r.links s c → (l : Link) → DefaultOf r.csds r.links s c l → External r.csds l.technical
          → (o : Option Pair) → pair_of r.pairs c l.technical a ≡ o → Found (mirror_of o)
      paired n l d x none e = pair n l d x (no_pair_lem r.pairs c l.technical a e)
      paired n l d x (some p) e = let f = found_pair r.pairs c l.technical a p e in Refusals.inter_csd l p n d x f.0 f.1 f.2 f.3

      outside : NoIssuer r.csds r.links s c → (l : Link) → default_link r.links s c ≡ some l → (b : Bool) → external r.csds l.technical ≡ b
          → Found (cond b (mirror_of (pair_of r.pairs c l.technical a)) none)
      outside n l d true x = paired n l (found_default r s c l d) ((says_external r.csds l.technical).holds x) (pair_of r.pairs c l.technical a) refl
      outside n l d false x =
          link n (λ k h. let same : k ≡ l = cc (default_found r s c F k h) in rw same (denies (external r.csds l.technical) (says_external r.csds l.technical) x))

      linked : NoIssuer r.csds r.links s c → (o : Option Link) → default_link r.links s c ≡ o → Found (inter_csd (ask r) c a (technical_of o))
      linked n none e = link n (λ l d. absurd (default_none r s c e l d))
      linked n (some l) e = outside n l e (external r.csds l.technical) refl

      go : (b : Bool) → has_issuer r.links s c ≡ b → Found (cond b (some (account_of (issuer_link r.links s c))) (inter_csd (ask r) c a (technical_of (default_link r.links s c))))
      go true e = let l = has_issuer_lem r s c e in rw (issuer_found r s c F l.0 l.1) (Refusals.issuance l.0 l.1)
      go false e = linked (unlinked e) (default_link r.links s c) refl

  pub contra_is : (u : ℕ) → ContraOf r s c a u → contra (ask r) s c a ≡ some u
  unfolding contra issuance
  contra_is u (Refusals.issuance l i) = rw (issuer_has r s c l i, issuer_found r s c F l i)
  contra_is u (Refusals.inter_csd l p n d x m e f g) =
      rw (no_issuer_lem r s c n, default_found r s c F l d, (says_external r.csds l.technical).tests x, pair_found_lem r F c l.technical a p m e f g)

  pub contra_none : Missing → contra (ask r) s c a ≡ none
  unfolding contra issuance
  contra_none (link n h) = rw (no_issuer_lem r s c n) (go (default_link r.links s c) refl)
    where
      go : (o : Option Link) → default_link r.links s c ≡ o → inter_csd (ask r) c a (technical_of o) ≡ none
      go none e = refl
      go (some l) e = rw (denied (external r.csds l.technical) (says_external r.csds l.technical) (h l (found_default r s c l e)))
  contra_none (pair n l d x h) =
      rw (no_issuer_lem r s c n, default_found r s c F l d, (says_external r.csds l.technical).tests x, pair_none r.pairs c l.technical a h)

-- ---- 06, 07
module _ (r : Rows) (F : Facts r) (p : List ℤ) (w : Way) (a s q : ℕ) where
  abbrev home : ℕ
  home = home_of r.accounts a

  abbrev Refused : ℕ → Type 0
  Refused = MoveRefused r p w a s q

  unknown : Says (Refused 6) (not (is_row r.accounts a) || not (is_row r.securities s))
  unknown = says_as (says_or (not (is_row r.accounts a)) (not (is_row r.securities s)) (says_no_row r.accounts a) (says_no_row r.securities s)) to from
    where
      to : NoRow r.accounts a ⊎ NoRow r.securities s → Refused 6
      to (inl h) = Refusals.move_account h
      to (inr h) = Refusals.move_security h

      from : Refused 6 → NoRow r.accounts a ⊎ NoRow r.securities s
      from (Refusals.move_account h) = inl h
      from (Refusals.move_security h) = inr h

  range : Says (Refused 7) (out_of_range q)
  range = says_as (says_out_of_range q) to from
    where
      to : (q ≡ 0) ⊎ (limit < q) → Refused 7
      to (inl h) = Refusals.no_quantity h
      to (inr h) = Refusals.quantity_beyond h

      from : Refused 7 → (q ≡ 0) ⊎ (limit < q)
      from (Refusals.no_quantity h) = inl h
      from (Refusals.quantity_beyond h) = inr h

  holder : (not (is_row r.accounts a) || not (is_row r.securities s)) ≡ false → Says (Refused 10) (not (is_kind r.accounts a 0))
  holder e =
      let y = known r.accounts a (or_none (not (is_row r.accounts a)) (not (is_row r.securities s)) e).0 in
      says_as (says_other_kind r.accounts a 0 y.0 y.1) (λ h. Refusals.move_kind h.0 h.1 h.2) from
    where
      from : Refused 10 → (z : Account) × Is r.accounts a z × (z.kind ≢ 0)
      from (Refusals.move_kind y i k) = (y, i, k)

  -- 20 and 22 along the one step to the contra account u
  abbrev steps : ℕ → List Step
  steps u = move_step w home a u ∷ []

  module _ (u : ℕ) (e : contra (ask r) s home a ≡ some u) where
    same : (v : ℕ) → ContraOf r s home a v → v ≡ u
    same v k = let f = contra_is r F s home a v k in cc

    given : ContraOf r s home a u
    given = rw e at (contra_found_lem r F s home a)

    short : Says (Refused 20) (units_short (is_kind r.accounts) p s q (steps u))
    short = says_as (says_units_short r.accounts p s q (steps u)) (λ h. Refusals.move_short u given (rw (Memᴰ.eq_of_singleton h.1) at h.2)) from
      where
        from : Refused 20 → (x : Step) × Memᴰ x (steps u) × Short r.accounts p s q x
        from (Refusals.move_short v k h) = (move_step w home a u, Memᴰ.head refl, rw (same v k) at h)

    exceeds : Says (Refused 22) (units_beyond p s q (steps u))
    exceeds = says_as (says_units_beyond p s q (steps u)) (λ h. Refusals.move_beyond u given (rw (Memᴰ.eq_of_singleton h.1) at h.2)) from
      where
        from : Refused 22 → (x : Step) × Memᴰ x (steps u) × Exceeds p s q x
        from (Refusals.move_beyond v k h) = (move_step w home a u, Memᴰ.head refl, rw (same v k) at h)

    found : Refused 19 → ⊥
    found (Refusals.no_link n h) = let f = contra_none r F s home a (link n h) in impossible (cc)
    found (Refusals.no_pair n l d x h) = let f = contra_none r F s home a (pair n l d x h) in impossible (cc)

  missing : contra (ask r) s home a ≡ none → Refused 19
  missing e = go (rw e at (contra_found_lem r F s home a))
    where
      go : Missing r F s home a → Refused 19
      go (link n h) = Refusals.no_link n h
      go (pair n l d x h) = Refusals.no_pair n l d x h

  -- the tests 20 and 22 of a chain
  abbrev booking : Chain → List Condition
  booking x = 20 when units_short (is_kind r.accounts) p s q (steps_of x) ∷ 22 when units_beyond p s q (steps_of x) ∷ []

  -- 19, or 20 and 22
  by_contra : (o : Option ℕ) → contra (ask r) s home a ≡ o
      → Renders Refused (chain_conditions (move_by w home a o) ++ booking (move_by w home a o)) (19 ∷ 20 ∷ 21 ∷ 22 ∷ [])
  by_contra none e = stop (missing e)
  by_contra (some u) e = skip {m = 19} (found u e) (test (short u e) (λ e20. skip {m = 21} (λ x. elim x [ ]) (test (exceeds u e) (λ e22. end))))

  pub move_renders : Renders Refused (move_conditions (ask r) p w a s q) entry_places
  unfolding move_chain
  move_renders =
      skip {m = 5} (λ x. elim x [ ]) (test unknown (λ e6. test range (λ e7. skip {m = 8} (λ x. elim x [ ]) (skip {m = 9} (λ x. elim x [ ]) (test (holder e6) (λ e10.
      skip {m = 24} (λ x. elim x [ ]) (skip {m = 11} (λ x. elim x [ ]) (skip {m = 23} (λ x. elim x [ ]) (skip {m = 12} (λ x. elim x [ ]) (skip {m = 13} (λ x. elim x [ ]) (skip {m = 14} (λ x. elim x [ ])
      (skip {m = 15} (λ x. elim x [ ]) (skip {m = 16} (λ x. elim x [ ]) (skip {m = 17} (λ x. elim x [ ]) (skip {m = 18} (λ x. elim x [ ])
      (by_contra (contra (ask r) s home a) refl))))))))))))))))

-- ---- 08, 09
module _ (r : Rows) (c : List ℤ) (w : Way) (a m : ℕ) where
  abbrev PayRefusal : ℕ → Type 0
  PayRefusal = PayRefused r c w a m

  pay_unknown : Says (PayRefusal 6) (not (is_row r.accounts a))
  pay_unknown = says_as (says_no_row r.accounts a) Refusals.pay_account from
    where
      from : PayRefusal 6 → NoRow r.accounts a
      from (Refusals.pay_account h) = h

  pay_range : Says (PayRefusal 7) (out_of_range m)
  pay_range = says_as (says_out_of_range m) to from
    where
      to : (m ≡ 0) ⊎ (limit < m) → PayRefusal 7
      to (inl h) = Refusals.no_amount h
      to (inr h) = Refusals.amount_beyond h

      from : PayRefusal 7 → (m ≡ 0) ⊎ (limit < m)
      from (Refusals.no_amount h) = inl h
      from (Refusals.amount_beyond h) = inr h

  pay_holder : not (is_row r.accounts a) ≡ false → Says (PayRefusal 10) (not (is_kind r.accounts a 0))
  pay_holder e =
      let y = known r.accounts a e in
      says_as (says_other_kind r.accounts a 0 y.0 y.1) (λ h. Refusals.pay_kind h.0 h.1 h.2) from
    where
      from : PayRefusal 10 → (z : Account) × Is r.accounts a z × (z.kind ≢ 0)
      from (Refusals.pay_kind y i k) = (y, i, k)

  pay_short_lem : m ≢ 0 → (v : Way) → w ≡ v → Says (PayRefusal 21) (pay_short v c a m)
  unfolding cash_short
  pay_short_lem n incoming e = record { holds = λ f. absurd (true≢false (sym f)); tests = λ h. absurd (never h) }
    where
      never : PayRefusal 21 → ⊥
      never (Refusals.pay_short f h) = let g : incoming ≡ outgoing = sym e ∙ f in impossible (cc)
  pay_short_lem n outgoing e =
      says_as (says_and (not (eqb m 0)) (lt_z (cash_on c a) (pos m)) (says_ne m 0) (says_less (cash_on c a) (pos m))) (λ h. Refusals.pay_short e h.1) from
    where
      from : PayRefusal 21 → (m ≢ 0) × (cash_on c a <ℤ pos m)
      from (Refusals.pay_short f h) = (n, h)

  pay_beyond_lem : Says (PayRefusal 22) (cash_beyond c a (payment w m))
  unfolding cash_beyond
  pay_beyond_lem = says_as (says_beyond (cash_on c a +ℤ (payment w m).0)) Refusals.pay_beyond from
    where
      from : PayRefusal 22 → Beyond (cash_on c a +ℤ (payment w m).0)
      from (Refusals.pay_beyond h) = h

  amount : out_of_range m ≡ false → m ≢ 0
  amount e f = denies (out_of_range m) (says_out_of_range m) e (inl f)

  pub pay_renders : Renders PayRefusal (pay_conditions (ask r) c w a m) entry_places
  pay_renders =
      skip {m = 5} (λ x. elim x [ ]) (test pay_unknown (λ e6. test pay_range (λ e7. skip {m = 8} (λ x. elim x [ ]) (skip {m = 9} (λ x. elim x [ ]) (test (pay_holder e6) (λ e10.
      skip {m = 24} (λ x. elim x [ ]) (skip {m = 11} (λ x. elim x [ ]) (skip {m = 23} (λ x. elim x [ ]) (skip {m = 12} (λ x. elim x [ ]) (skip {m = 13} (λ x. elim x [ ]) (skip {m = 14} (λ x. elim x [ ])
      (skip {m = 15} (λ x. elim x [ ]) (skip {m = 16} (λ x. elim x [ ]) (skip {m = 17} (λ x. elim x [ ]) (skip {m = 18} (λ x. elim x [ ])
      (skip {m = 19} (λ x. elim x [ ]) (skip {m = 20} (λ x. elim x [ ]) (test (pay_short_lem (amount e7) w refl) (λ e21. test pay_beyond_lem (λ e22. end))))))))))))))))))))
