-- The conditions of the five entries render the relations: each test says its number's proposition, once those before it fail.
use mathlib.Core.Path.{◌≡◌}
use mathlib.Core.Logic.{◌≢◌, ◌⊎◌, inl, inr}
use mathlib.Core.Bool.{false, not, ◌||◌}
use mathlib.Core.List.{List, [], ◌∷◌, Memᴰ}
use Prim.Native.Nat.{ℕ, suc, ◌+◌, ◌-◌, ◌≤◌, ◌<◌}
use native.Mathlib.Omega.{arith}
use lib.Dec.{ltb}
use lib.ListN.{length}
use Rattle.rules.specs.Types.{Csd, Security, Account, Pair, Link}
use Rattle.rules.specs.Tests.{is_row, is_full}
use Rattle.rules.specs.Identifiers.{byte_at, is_bic, is_isin, isin_checks}
use Rattle.rules.specs.Directory.{csd_limit, security_limit, account_limit, external, bic_entered, isin_entered}
use Rattle.rules.specs.Lookups.{ask}
use Rattle.rules.specs.Entries.{csd_conditions, security_conditions, account_conditions}
use Rattle.rules.specs.Relations.{External}
use Rattle.rules.specs.Refusals
use Rattle.rules.specs.Refusals.{NoRow, Capital, Digit, CapitalOrDigit, CsdRefused, SecurityRefused, AccountRefused}
use Rattle.rules.proofs.Basics.{unnot_false}
use Rattle.rules.proofs.Reflection.{Says, says_as, says_or, says_lt}
use Rattle.rules.proofs.Places.{Renders, end, skip, test, up_from, entry_places}
use Rattle.rules.proofs.RowTests.{says_no_row, says_full, says_external}
use Rattle.rules.proofs.IdentifierRelation.{says_no_bic, says_bic_entered, says_no_isin, says_isin_entered, Wrong, says_wrong}

-- the places behind those of an entry
abbrev late : ℕ → ℕ
late n = suc (suc (suc (suc (suc (suc (suc (suc (suc (suc (suc (suc n)))))))))))

pub behind : {P : ℕ → Type 0} → ((n : ℕ) → P (late n) → ⊥) → Renders P [] (23 ∷ up_from 12 11 [])
behind h =
    skip (h 11) (skip (h 0) (skip (h 1) (skip (h 2) (skip (h 3) (skip (h 4) (skip (h 5) (skip (h 6) (skip (h 7) (skip (h 8) (skip (h 9) (skip (h 10) end)))))))))))

-- a number that is neither 0 nor 1
pub says_neither : (n : ℕ) → Says ((n ≢ 0) × (n ≢ 1)) (ltb 1 n)
says_neither n = says_as (says_lt 1 n) (λ l. (λ e. omega arith, λ e. omega arith)) (λ h. let a : n ≢ 0 = h.0 in let b : n ≢ 1 = h.1 in omega arith)

-- ---- 01
module _ (cs : List Csd) (x : Csd) where
  form : Says (CsdRefused cs x 7) (ltb 1 x.external || not (is_bic x.bic))
  form = says_as (says_or (ltb 1 x.external) (not (is_bic x.bic)) (says_neither x.external) (says_no_bic x.bic)) to from
    where
      to : ((x.external ≢ 0) × (x.external ≢ 1)) ⊎ ((k : ℕ) × (k < 11) × (CapitalOrDigit (byte_at x.bic k) → ⊥)) → CsdRefused cs x 7
      to (inl h) = Refusals.neither_type h.0 h.1
      to (inr h) = Refusals.no_bic h.0 h.1 h.2

      from : CsdRefused cs x 7 → ((x.external ≢ 0) × (x.external ≢ 1)) ⊎ ((k : ℕ) × (k < 11) × (CapitalOrDigit (byte_at x.bic k) → ⊥))
      from (Refusals.neither_type a b) = inl (a, b)
      from (Refusals.no_bic k l f) = inr (k, l, f)

  full : Says (CsdRefused cs x 5) (is_full csd_limit cs)
  full = says_as (says_full csd_limit cs) Refusals.csds_full from
    where
      from : CsdRefused cs x 5 → csd_limit ≤ length cs
      from (Refusals.csds_full l) = l

  twice : Says (CsdRefused cs x 9) (bic_entered cs x.bic)
  twice = says_as (says_bic_entered cs x.bic) (λ h. Refusals.bic_entered h.0 h.1 h.2) from
    where
      from : CsdRefused cs x 9 → (y : Csd) × Memᴰ y cs × Refusals.Same 11 y.bic x.bic
      from (Refusals.bic_entered y m s) = (y, m, s)

  pub csd_renders : Renders (CsdRefused cs x) (csd_conditions (is_full csd_limit cs) (bic_entered cs) x) entry_places
  csd_renders =
      test full (λ e5. skip {m = 6} (λ p. elim p [ ]) (test form (λ e7. skip {m = 8} (λ p. elim p [ ]) (test twice (λ e9.
      skip {m = 10} (λ p. elim p [ ]) (skip {m = 24} (λ p. elim p [ ]) (skip {m = 11} (λ p. elim p [ ]) (behind (λ n p. elim p [ ])))))))))

-- ---- 02
module _ (ss : List Security) (x : Security) where
  security_full : Says (SecurityRefused ss x 5) (is_full security_limit ss)
  security_full = says_as (says_full security_limit ss) Refusals.securities_full from
    where
      from : SecurityRefused ss x 5 → security_limit ≤ length ss
      from (Refusals.securities_full l) = l

  -- the ways in which twelve bytes are no ISIN
  abbrev NoIsin : Type 0
  NoIsin = ((k : ℕ) × (k < 2) × (Capital (byte_at x.isin k) → ⊥)) ⊎ (((k : ℕ) × (k < 9) × (CapitalOrDigit (byte_at x.isin (2 + k)) → ⊥)) ⊎ (Digit (byte_at x.isin 11) → ⊥))

  isin_form : Says (SecurityRefused ss x 7) (not (is_isin x.isin))
  isin_form = says_as (says_no_isin x.isin) to from
    where
      to : NoIsin → SecurityRefused ss x 7
      to (inl h) = Refusals.no_capital h.0 h.1 h.2
      to (inr (inl h)) = let l : h.0 < 9 = h.1 in Refusals.no_capital_or_digit (2 + h.0) (omega arith) (omega arith) h.2
      to (inr (inr h)) = Refusals.no_check_digit h

      from : SecurityRefused ss x 7 → NoIsin
      from (Refusals.no_capital k l f) = inl (k, l, f)
      from (Refusals.no_capital_or_digit k l m f) = let e : k ≡ 2 + (k - 2) = omega arith in inr (inl (k - 2, omega arith, λ c. f (rw e c)))
      from (Refusals.no_check_digit f) = inr (inr f)

  check_digit : not (is_isin x.isin) ≡ false → Says (SecurityRefused ss x 8) (not (isin_checks x.isin))
  check_digit e =
      says_as (says_wrong x.isin (unnot_false (is_isin x.isin) e))
      (λ w. Refusals.wrong_check_digit w.digits w.sum w.check w.spells w.adds w.last w.never) from
    where
      from : SecurityRefused ss x 8 → Wrong x.isin
      from (Refusals.wrong_check_digit ds sum check s a l n) = record { digits = ds; sum = sum; check = check; spells = s; adds = a; last = l; never = n }

  isin_twice : Says (SecurityRefused ss x 9) (isin_entered ss x.isin)
  isin_twice = says_as (says_isin_entered ss x.isin) (λ h. Refusals.isin_entered h.0 h.1 h.2) from
    where
      from : SecurityRefused ss x 9 → (y : Security) × Memᴰ y ss × Refusals.Same 12 y.isin x.isin
      from (Refusals.isin_entered y m s) = (y, m, s)

  pub security_renders : Renders (SecurityRefused ss x) (security_conditions (is_full security_limit ss) (isin_entered ss) x) entry_places
  security_renders =
      test security_full (λ e5. skip {m = 6} (λ p. elim p [ ]) (test isin_form (λ e7. test (check_digit e7) (λ e8. test isin_twice (λ e9.
      skip {m = 10} (λ p. elim p [ ]) (skip {m = 24} (λ p. elim p [ ]) (skip {m = 11} (λ p. elim p [ ]) (behind (λ n p. elim p [ ])))))))))

-- ---- 03
module _ (cs : List Csd) (acc : List Account) (x : Account) where
  account_full : Says (AccountRefused cs acc x 5) (is_full account_limit acc)
  account_full = says_as (says_full account_limit acc) Refusals.accounts_full from
    where
      from : AccountRefused cs acc x 5 → account_limit ≤ length acc
      from (Refusals.accounts_full l) = l

  home_row_lem : Says (AccountRefused cs acc x 6) (not (is_row cs x.csd))
  home_row_lem = says_as (says_no_row cs x.csd) Refusals.home_unknown from
    where
      from : AccountRefused cs acc x 6 → NoRow cs x.csd
      from (Refusals.home_unknown l) = l

  kind_range : Says (AccountRefused cs acc x 7) (ltb 4 x.kind)
  kind_range = says_as (says_lt 4 x.kind) Refusals.no_kind from
    where
      from : AccountRefused cs acc x 7 → 4 < x.kind
      from (Refusals.no_kind l) = l

  home_outside : Says (AccountRefused cs acc x 10) (external cs x.csd)
  home_outside = says_as (says_external cs x.csd) Refusals.home_external from
    where
      from : AccountRefused cs acc x 10 → External cs x.csd
      from (Refusals.home_external h) = h

  pub account_renders : (ss : List Security) (ps : List Pair) (ls : List Link)
      → Renders (AccountRefused cs acc x) (account_conditions (ask (record { csds = cs; securities = ss; accounts = acc; pairs = ps; links = ls })) x) entry_places
  account_renders ss ps ls =
      test account_full (λ e5. test home_row_lem (λ e6. test kind_range (λ e7. skip {m = 8} (λ p. elim p [ ]) (skip {m = 9} (λ p. elim p [ ])
      (test home_outside (λ e10. skip {m = 24} (λ p. elim p [ ]) (skip {m = 11} (λ p. elim p [ ]) (behind (λ n p. elim p [ ])))))))))
