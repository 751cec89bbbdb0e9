-- The conditions of a link's entry render the relation.
use mathlib.Core.Path.{◌≡◌, refl}
use mathlib.Core.Logic.{◌≢◌, ◌⊎◌, inl, inr}
use mathlib.Core.Bool.{Bool, true, false, not, ◌&&◌, ◌||◌, cond}
use mathlib.Core.List.{List, [], ◌∷◌, Memᴰ}
use Prim.Native.Nat.{ℕ, ◌≤◌, ◌<◌}
use native.Mathlib.Omega.{arith}
use lib.Dec.{eqb, ltb}
use lib.ListN.{length}
use Rattle.rules.specs.Types.{Csd, Security, Account, Pair, Link}
use Rattle.rules.specs.Tests.{is_row, is_full}
use Rattle.rules.specs.Directory.{Rows, link_limit, no_csd, no_account, external, is_kind, in_books, issues, defaults, points_to, links_for, covers}
use Rattle.rules.specs.Lookups.{ask}
use Rattle.rules.specs.Entries.{meets, any_link, day_count, default_each_day, technical_unknown, account_unknown, technical_entered, wrong_issuance, issuer_broken, flag_broken, alternative_outside, investor_broken, link_unknown, link_conditions}
use Rattle.rules.specs.Relations.{Is, External, InT2S, DefaultOf}
use Rattle.rules.specs.Refusals
use Rattle.rules.specs.Refusals.{NoRow, Linked, ValidOn, ShareDay, LinkRefused}
use Rattle.rules.proofs.Basics.{and_both, and-true, and_first, or_none, or_right, eqb_is, eqb-true, ltb_not}
use Rattle.rules.proofs.Several.{none_hold}
use Rattle.rules.proofs.Reflection.{Says, says_as, says_not, says_or, says_and, says_cond, says_eq, says_ne, says_lt}
use Rattle.rules.proofs.Places.{Renders, end, skip, test, up_from, entry_places}
use Rattle.rules.proofs.RowTests.{says_no_row, says_full, known, says_external, says_other_account, says_defaults, says_points}
use Rattle.rules.proofs.Days.{in_links, links_in_lem, says_valid, says_meets, Gap, says_gap}
use Rattle.rules.proofs.EntryRelation.{says_neither}

module _ (cs : List Csd) (ss : List Security) (acc : List Account) (ps : List Pair) (ls : List Link) (x : Link) where
  abbrev rows : Rows
  rows = record { csds = cs; securities = ss; accounts = acc; pairs = ps; links = ls }

  abbrev away : Bool
  away = external cs x.csd

  abbrev Refused : ℕ → Type 0
  Refused = LinkRefused cs ss acc ls x

  -- a link of its CSD for its security that shares a day with it
  abbrev Met : (Link → Type 0) → Type 0
  Met P = (l : Link) × Linked ls x.security x.csd l × ShareDay x l × P l

  met : (p : Link → Bool) (P : Link → Type 0) → ((l : Link) → Says (P l) (p l)) → Says (Met P) (meets (ask rows) x p)
  met = says_meets ls x.security x.csd x

  full : Says (Refused 5) (is_full link_limit ls)
  full = says_as (says_full link_limit ls) Refusals.links_full from
    where
      from : Refused 5 → link_limit ≤ length ls
      from (Refusals.links_full l) = l

  -- ---- 6
  abbrev Unknown : Type 0
  Unknown = NoRow ss x.security ⊎ (NoRow cs x.csd
      ⊎ ((NoRow cs x.technical × ((x.technical ≢ no_csd) ⊎ (x.kind ≡ 1)))
      ⊎ (NoRow acc x.account × ((x.account ≢ no_account) ⊎ ((x.kind ≡ 0) × InT2S cs x.csd)))))

  unknown : Says (Refused 6) (link_unknown (ask rows) x)
  unknown =
      says_as
      (says_or (not (is_row ss x.security)) _ (says_no_row ss x.security)
      (says_or (not (is_row cs x.csd)) _ (says_no_row cs x.csd)
      (says_or (technical_unknown (ask rows) x) (account_unknown (ask rows) x)
      (says_and (not (is_row cs x.technical)) _ (says_no_row cs x.technical)
      (says_or (not (eqb x.technical no_csd)) (eqb x.kind 1) (says_ne x.technical no_csd) (says_eq x.kind 1)))
      (says_and (not (is_row acc x.account)) _ (says_no_row acc x.account)
      (says_or (not (eqb x.account no_account)) _ (says_ne x.account no_account)
      (says_and (eqb x.kind 0) (not away) (says_eq x.kind 0) (says_not away (says_external cs x.csd))))))))
      to from
    where
      issuer : NoRow cs x.technical → (x.technical ≢ no_csd) ⊎ (x.kind ≡ 1) → Refused 6
      issuer n (inl h) = Refusals.issuer_unknown n h
      issuer n (inr h) = Refusals.issuer_due n h

      account : NoRow acc x.account → (x.account ≢ no_account) ⊎ ((x.kind ≡ 0) × InT2S cs x.csd) → Refused 6
      account n (inl h) = Refusals.account_unknown n h
      account n (inr h) = Refusals.account_due n h.0 h.1

      to : Unknown → Refused 6
      to (inl h) = Refusals.security_unknown h
      to (inr (inl h)) = Refusals.csd_unknown h
      to (inr (inr (inl h))) = issuer h.0 h.1
      to (inr (inr (inr h))) = account h.0 h.1

      from : Refused 6 → Unknown
      from (Refusals.security_unknown h) = inl h
      from (Refusals.csd_unknown h) = inr (inl h)
      from (Refusals.issuer_unknown n h) = inr (inr (inl (n, inl h)))
      from (Refusals.issuer_due n h) = inr (inr (inl (n, inr h)))
      from (Refusals.account_unknown n h) = inr (inr (inr (n, inl h)))
      from (Refusals.account_due n h t) = inr (inr (inr (n, inr (h, t))))

  -- ---- 7
  ranges : Says (Refused 7) (ltb 1 x.kind || ltb 1 x.flag)
  ranges = says_as (says_or (ltb 1 x.kind) (ltb 1 x.flag) (says_neither x.kind) (says_neither x.flag)) to from
    where
      to : ((x.kind ≢ 0) × (x.kind ≢ 1)) ⊎ ((x.flag ≢ 0) × (x.flag ≢ 1)) → Refused 7
      to (inl h) = Refusals.neither_kind h.0 h.1
      to (inr h) = Refusals.neither_flag h.0 h.1

      from : Refused 7 → ((x.kind ≢ 0) × (x.kind ≢ 1)) ⊎ ((x.flag ≢ 0) × (x.flag ≢ 1))
      from (Refusals.neither_kind a b) = inl (a, b)
      from (Refusals.neither_flag a b) = inr (a, b)

  -- ---- 9
  entered : Says (Refused 9) (technical_entered (ask rows) x)
  entered =
      says_as
      (says_and (not (eqb x.technical no_csd)) _ (says_ne x.technical no_csd) (met (points_to x.technical) (λ l. (l.kind ≡ 1) × (l.technical ≡ x.technical)) (says_points x.technical)))
      to from
    where
      to : (x.technical ≢ no_csd) × Met (λ l. (l.kind ≡ 1) × (l.technical ≡ x.technical)) → Refused 9
      to (n, (l, h, d, p)) = Refusals.issuer_entered l (record { entered = h.entered; security = h.security; csd = h.csd; kind = p.0; technical = p.1 }) d n

      from : Refused 9 → (x.technical ≢ no_csd) × Met (λ l. (l.kind ≡ 1) × (l.technical ≡ x.technical))
      from (Refusals.issuer_entered l t d n) = (n, (l, record { entered = t.entered; security = t.security; csd = t.csd }, d, (t.kind, t.technical)))

  -- ---- 10, where the account that is due is a row
  abbrev Other : Type 0
  Other = ((z : Account) × Is acc x.account z × (z.csd ≢ x.csd)) ⊎ ((z : Account) × Is acc x.account z × (z.kind ≢ 4))

  issuance : link_unknown (ask rows) x ≡ false → Says (Refused 10) (wrong_issuance (ask rows) x)
  issuance e = record { holds = holds; tests = tests }
    where
      parts : (not (is_row ss x.security) ≡ false) × ((not (is_row cs x.csd) ≡ false) × ((technical_unknown (ask rows) x ≡ false) × (account_unknown (ask rows) x ≡ false)))
      parts = none_hold (not (is_row ss x.security)) (not (is_row cs x.csd) ∷ technical_unknown (ask rows) x ∷ account_unknown (ask rows) x ∷ []) e

      account : x.kind ≡ 0 → InT2S cs x.csd → (y : Account) × Is acc x.account y
      account k t =
          known acc x.account
          (and_first (not (is_row acc x.account)) (not (eqb x.account no_account) || (eqb x.kind 0 && not away)) parts.1.1.1
          (or_right (not (eqb x.account no_account)) (eqb x.kind 0 && not away)
          ((says_and (eqb x.kind 0) (not away) (says_eq x.kind 0) (says_not away (says_external cs x.csd))).tests (k, t))))

      said : x.kind ≡ 0 → InT2S cs x.csd → Says Other (not (in_books acc x.account x.csd && is_kind acc x.account 4))
      said k t = let y = account k t in says_other_account acc x.account x.csd 4 y.0 y.1

      to : x.kind ≡ 0 → InT2S cs x.csd → Other → Refused 10
      to k t (inl o) = Refusals.account_of_other k t o.0 o.1 o.2
      to k t (inr o) = Refusals.no_issuance k t o.0 o.1 o.2

      holds : wrong_issuance (ask rows) x ≡ true → Refused 10
      holds f =
          let a = and_both (eqb x.kind 0) (not away && not (in_books acc x.account x.csd && is_kind acc x.account 4)) f in
          let b = and_both (not away) (not (in_books acc x.account x.csd && is_kind acc x.account 4)) a.1 in
          let k : x.kind ≡ 0 = eqb_is x.kind 0 a.0 in
          let t : InT2S cs x.csd = (says_not away (says_external cs x.csd)).holds b.0 in
          to k t ((said k t).holds b.1)

      all : x.kind ≡ 0 → InT2S cs x.csd → Other → wrong_issuance (ask rows) x ≡ true
      all k t o =
          and-true (eqb x.kind 0) _ (eqb-true x.kind 0 k)
          (and-true (not away) _ ((says_not away (says_external cs x.csd)).tests t) ((said k t).tests o))

      tests : Refused 10 → wrong_issuance (ask rows) x ≡ true
      tests (Refusals.account_of_other k t y i f) = all k t (inl (y, i, f))
      tests (Refusals.no_issuance k t y i f) = all k t (inr (y, i, f))

  -- ---- 24
  unordered : Says (Refused 24) (ltb x.last x.first)
  unordered = says_as (says_lt x.last x.first) Refusals.first_after_last from
    where
      from : Refused 24 → x.last < x.first
      from (Refusals.first_after_last l) = l

  -- ---- 11, where kind and flag are each 0 or 1
  abbrev Issuer : Type 0
  Issuer = (x.technical ≢ no_csd) ⊎ ((x.flag ≢ 1) ⊎ ((External cs x.csd × (x.account ≢ no_account)) ⊎ Met (λ l. Unit {0})))

  issuer_said : Says Issuer (issuer_broken (ask rows) x)
  issuer_said =
      says_or (not (eqb x.technical no_csd)) _ (says_ne x.technical no_csd)
      (says_or (not (eqb x.flag 1)) _ (says_ne x.flag 1)
      (says_or (away && not (eqb x.account no_account)) (meets (ask rows) x any_link)
      (says_and away (not (eqb x.account no_account)) (says_external cs x.csd) (says_ne x.account no_account))
      (met any_link (λ l. Unit {0}) (λ l. record { holds = λ e. tt; tests = λ u. refl }))))

  -- an alternative's day without a default
  abbrev Uncovered : Type 0
  Uncovered = (day : ℕ) × ValidOn day x × ((l : Link) → DefaultOf cs ls x.security x.csd l → ValidOn day l → ⊥)

  uncovered : Says Uncovered (not (default_each_day (ask rows) x))
  uncovered = says_as (says_gap (links_for ls x.security x.csd) x.last (day_count x) x.first (omega arith)) to from
    where
      to : Gap (links_for ls x.security x.csd) x.first x.last → Uncovered
      to g = (
        g.day,
        record { begun = g.begun; not_over = g.not_over },
        λ l d v.
            g.without l (links_in_lem ls x.security x.csd l (record { entered = d.entered; security = d.security; csd = d.csd }))
            ((says_defaults l).tests (d.kind, d.flag)) ((says_valid g.day l).tests v),
      )

      from : Uncovered → Gap (links_for ls x.security x.csd) x.first x.last
      from (day, v, none) = record { day = day; begun = v.begun; not_over = v.not_over; without = without }
        where
          without : (l : Link) → Memᴰ l (links_for ls x.security x.csd) → defaults l ≡ true → covers day l ≡ true → ⊥
          without l m d w =
              let h = in_links ls x.security x.csd l m in
              let p = (says_defaults l).holds d in
              none l (record { entered = h.entered; security = h.security; csd = h.csd; kind = p.0; flag = p.1 }) ((says_valid day l).holds w)

  abbrev Flag : Type 0
  Flag = ((x.flag ≡ 1) × Met (λ l. (l.kind ≡ 1) × (l.flag ≡ 1))) ⊎ ((x.flag ≡ 0) × Uncovered)

  abbrev Investor : Type 0
  Investor = (x.technical ≡ x.csd) ⊎ ((x.account ≢ no_account) ⊎ (Met (λ l. l.kind ≡ 0)
      ⊎ (Flag ⊎ ((x.flag ≡ 0) × (External cs x.csd ⊎ External cs x.technical)))))

  investor_said : Says Investor (investor_broken (ask rows) x)
  investor_said =
      says_or (eqb x.technical x.csd) _ (says_eq x.technical x.csd)
      (says_or (not (eqb x.account no_account)) _ (says_ne x.account no_account)
      (says_or (meets (ask rows) x issues) _ (met issues (λ l. l.kind ≡ 0) (λ l. says_eq l.kind 0))
      (says_or (flag_broken (ask rows) x) (alternative_outside (ask rows) x)
      (says_or (eqb x.flag 1 && meets (ask rows) x defaults) (eqb x.flag 0 && not (default_each_day (ask rows) x))
      (says_and (eqb x.flag 1) (meets (ask rows) x defaults) (says_eq x.flag 1) (met defaults (λ l. (l.kind ≡ 1) × (l.flag ≡ 1)) says_defaults))
      (says_and (eqb x.flag 0) (not (default_each_day (ask rows) x)) (says_eq x.flag 0) uncovered))
      (says_and (eqb x.flag 0) _ (says_eq x.flag 0)
      (says_or away (external cs x.technical) (says_external cs x.csd) (says_external cs x.technical))))))

  broken : (ltb 1 x.kind || ltb 1 x.flag) ≡ false → Says (Refused 11) (cond (eqb x.kind 0) (issuer_broken (ask rows) x) (investor_broken (ask rows) x))
  broken e = says_as (says_cond (eqb x.kind 0) (issuer_broken (ask rows) x) (investor_broken (ask rows) x) (says_eq x.kind 0) issuer_said investor_said) to from
    where
      small : (x.kind ≤ 1) × (x.flag ≤ 1)
      small = let h = or_none (ltb 1 x.kind) (ltb 1 x.flag) e in (ltb_not 1 x.kind h.0, ltb_not 1 x.flag h.1)

      as_issuer_lem : x.kind ≡ 0 → Issuer → Refused 11
      as_issuer_lem k (inl h) = Refusals.issuer_not_due k h
      as_issuer_lem k (inr (inl h)) = Refusals.issuer_flag k h
      as_issuer_lem k (inr (inr (inl h))) = Refusals.account_not_due k h.0 h.1
      as_issuer_lem k (inr (inr (inr h))) = Refusals.beside_link k h.0 h.1 h.2

      as_flag : x.kind ≡ 1 → Flag → Refused 11
      as_flag k (inl (f, (l, h, d, p))) = Refusals.two_defaults k f l (record { entered = h.entered; security = h.security; csd = h.csd; kind = p.0; flag = p.1 }) d
      as_flag k (inr (f, (day, v, none))) = Refusals.day_without_default k f day v none

      as_outside : x.kind ≡ 1 → x.flag ≡ 0 → External cs x.csd ⊎ External cs x.technical → Refused 11
      as_outside k f (inl h) = Refusals.from_external k f h
      as_outside k f (inr h) = Refusals.to_external k f h

      as_investor : x.kind ≡ 1 → Investor → Refused 11
      as_investor k (inl h) = Refusals.own_issuer k h
      as_investor k (inr (inl h)) = Refusals.account_given k h
      as_investor k (inr (inr (inl (l, h, d, z)))) = Refusals.beside_issuer k l (record { entered = h.entered; security = h.security; csd = h.csd; kind = z }) d
      as_investor k (inr (inr (inr (inl h)))) = as_flag k h
      as_investor k (inr (inr (inr (inr h)))) = as_outside k h.0 h.1

      to : ((x.kind ≡ 0) × Issuer) ⊎ ((x.kind ≡ 0 → ⊥) × Investor) → Refused 11
      to (inl h) = as_issuer_lem h.0 h.1
      to (inr h) = let n : x.kind ≢ 0 = h.0 in let l : x.kind ≤ 1 = small.0 in as_investor (omega arith) h.1

      other : x.kind ≡ 1 → x.kind ≡ 0 → ⊥
      other k z = omega arith

      from : Refused 11 → ((x.kind ≡ 0) × Issuer) ⊎ ((x.kind ≡ 0 → ⊥) × Investor)
      from (Refusals.issuer_not_due k h) = inl (k, inl h)
      from (Refusals.issuer_flag k h) = inl (k, inr (inl h))
      from (Refusals.account_not_due k h f) = inl (k, inr (inr (inl (h, f))))
      from (Refusals.beside_link k l h d) = inl (k, inr (inr (inr (l, h, d, tt))))
      from (Refusals.own_issuer k h) = inr (other k, inl h)
      from (Refusals.account_given k h) = inr (other k, inr (inl h))
      from (Refusals.beside_issuer k l h d) = inr (other k, inr (inr (inl (l, record { entered = h.entered; security = h.security; csd = h.csd }, d, h.kind))))
      from (Refusals.two_defaults k f l h d) =
          inr (other k, inr (inr (inr (inl (inl (f, (l, record { entered = h.entered; security = h.security; csd = h.csd }, d, (h.kind, h.flag))))))))
      from (Refusals.day_without_default k f day v none) = inr (other k, inr (inr (inr (inl (inr (f, (day, v, none)))))))
      from (Refusals.from_external k f h) = inr (other k, inr (inr (inr (inr (f, inl h)))))
      from (Refusals.to_external k f h) = inr (other k, inr (inr (inr (inr (f, inr h)))))

  -- the places behind those of a link
  behind_link : Renders (LinkRefused cs ss acc ls x) [] (23 ∷ up_from 12 11 [])
  behind_link =
      skip {m = 23} (λ p. elim p [ ]) (skip {m = 12} (λ p. elim p [ ]) (skip {m = 13} (λ p. elim p [ ]) (skip {m = 14} (λ p. elim p [ ]) (skip {m = 15} (λ p. elim p [ ])
      (skip {m = 16} (λ p. elim p [ ]) (skip {m = 17} (λ p. elim p [ ]) (skip {m = 18} (λ p. elim p [ ]) (skip {m = 19} (λ p. elim p [ ])
      (skip {m = 20} (λ p. elim p [ ]) (skip {m = 21} (λ p. elim p [ ]) (skip {m = 22} (λ p. elim p [ ]) end)))))))))))

  pub link_renders : Renders (LinkRefused cs ss acc ls x) (link_conditions (is_full link_limit ls) (ask rows) x) entry_places
  link_renders =
      test full (λ e5. test unknown (λ e6. test ranges (λ e7. skip {m = 8} (λ p. elim p [ ]) (test entered (λ e9. test (issuance e6) (λ e10.
      test unordered (λ e24. test (broken e7) (λ e11. behind_link))))))))
