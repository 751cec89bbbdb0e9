-- What a call that nothing refuses has passed, under names: each condition that did not hold, and the transfer that it may book.
use mathlib.Core.Path.{◌≡◌, refl, sym, ap}
use mathlib.Core.Bool.{true, false, not}
use mathlib.Core.List.{List, [], ◌∷◌}
use mathlib.Core.Option.{Option, none, some}
use Prim.Native.Nat.{ℕ, ◌<◌}
use lib.Dec.{eqb, ltb}
use lib.ListN.{length}
use Rattle.rules.specs.Types.{Half, Step}
use Rattle.rules.specs.Tests.{is_row, ◌when◌, first_of}
use Rattle.rules.specs.Directory.{Rows, rows_of, rows_on, is_kind}
use Rattle.rules.specs.Entries.{sound}
use Rattle.rules.specs.Lookups.{home_of, ask}
use Rattle.rules.specs.Chain.{chained, steps_of, chain_conditions, step_limit}
use Rattle.rules.specs.Booking.{Way, position_count, cash_count, contra, move_by, move_chain, payment, pay_short, units_short, units_beyond, cash_beyond}
use Rattle.rules.specs.Calls.{Halves, Store, Call, move, pay, settle, misfit, core_conditions, desk_conditions, delivering, receiving, side_unknown, same_side, halves_conditions, halves_chain, derive_conditions, book_conditions}
use Rattle.rules.specs.Refusals.{Delivers}
use Rattle.rules.proofs.Basics.{impossible, unnot_false, or_none, eqb_is, Quiet, loud}
use Rattle.rules.proofs.Several.{none_hold}
use Rattle.rules.proofs.Facts.{Facts}
use Rattle.rules.proofs.Trail.{Contra, Transfer}
use Rattle.rules.proofs.Accounts.{kind_small, security_small}
use Rattle.rules.proofs.ContraAccount.{contra_gives}
use Rattle.rules.proofs.Soundness.{sound_gives}
use Rattle.rules.proofs.Chains.{chain_trail}
use Rattle.rules.proofs.Conditions.{quiet_both, quiet_chained}
use Rattle.rules.proofs.Refusals.{desk_quiet}
use Rattle.rules.proofs.SideRelation.{quiet_delivers}
use Rattle.rules.proofs.Agreement.{Agreed, named_security, quiet_agree}
use Rattle.rules.proofs.Permissions.{Permitted, units_held, quiet_allowed}
use Rattle.rules.proofs.Moves.{source, target, move_steps, holder_plain, source_plain, target_plain, move_trail}

pub books_sound : (c : Call) (st : Store) → first_of (desk_conditions c st) ≡ 0 → sound st.directory ≡ true
books_sound c st free = unnot_false (sound st.directory) (desk_quiet c st free).1.0

pub facts_of : (c : Call) (st : Store) → first_of (desk_conditions c st) ≡ 0 → (day : ℕ) → Facts (rows_on day st.directory)
facts_of c st free = sound_gives st.directory (books_sound c st free)

pub core_free : (c : Call) (st : Store) → first_of (desk_conditions c st) ≡ 0 → first_of (core_conditions c st) ≡ 0
core_free c st free = loud (core_conditions c st) (desk_quiet c st free).1.1

fitting : (n most : ℕ) → not (eqb n most) ≡ false → n ≡ most
fitting n most e = eqb_is n most (unnot_false (eqb n most) e)

-- ---- a bring-in or take-out
pub record MoveFacts (st : Store) (w : Way) (a s q day : ℕ) : Type 0 where
  pub size : length st.positions ≡ position_count
  pub holder : is_kind (rows_of st.directory).accounts a 0 ≡ true
  pub other : ℕ
  pub found : contra (ask (rows_on day st.directory)) s (home_of (rows_on day st.directory).accounts a) a ≡ some other
  pub against : Contra (rows_on day st.directory) a other
  pub chain : steps_of (move_chain (ask (rows_on day st.directory)) w a s) ≡ move_steps (rows_on day st.directory) w a other
  pub transfer : Transfer (rows_on day st.directory) st.positions (source w a other) (move_steps (rows_on day st.directory) w a other) (target w a other) s q
  pub limits : units_beyond st.positions s q (move_steps (rows_on day st.directory) w a other) ≡ false

-- its chain is one step against the contra account
move_chain_lem : (r : Rows) (w : Way) (a s : ℕ) (xs : List Step) → move_chain (ask r) w a s ≡ chained xs
    → (other : ℕ) × (contra (ask r) s (home_of r.accounts a) a ≡ some other) × (xs ≡ move_steps r w a other)
unfolding move_chain
move_chain_lem r w a s xs e = go (contra (ask r) s (home_of r.accounts a) a) refl e
  where
    go : (o : Option ℕ) → contra (ask r) s (home_of r.accounts a) a ≡ o → move_by w (home_of r.accounts a) a o ≡ chained xs
        → (other : ℕ) × (contra (ask r) s (home_of r.accounts a) a ≡ some other) × (xs ≡ move_steps r w a other)
    go none f c = impossible (cc)
    go (some u) f c = (u, f, sym (ap steps_of c))

pub move_facts : (st : Store) (w : Way) (a s q day : ℕ) → first_of (desk_conditions (move w a s q day) st) ≡ 0 → MoveFacts st w a s q day
unfolding misfit
move_facts st w a s q day free =
    record {
      size = fitting (length st.positions) position_count all.0;
      holder = holder;
      other = one.0;
      found = one.1;
      against = against;
      chain = one.2;
      transfer = record {
        trail = move_trail rows a one.0 holder against facts w;
        security = security_small rows facts s (unnot_false (is_row rows.securities s) (or_none (not (is_row rows.accounts a)) (not (is_row rows.securities s)) all.1.1.0).1);
        from = source_plain rows a one.0 holder against w;
        to = target_plain rows a one.0 holder against w;
        enough = units_held rows.accounts st.positions s q (move_steps rows w a one.0) (rw one.2 at parts.1.0);
      };
      limits = rw one.2 at parts.1.1.0;
    }
  where
    rows : Rows
    rows = rows_on day st.directory

    all : Quiet (desk_conditions (move w a s q day) st)
    all = desk_quiet (move w a s q day) st free

    facts : Facts rows
    facts = facts_of (move w a s q day) st free day

    holder : is_kind rows.accounts a 0 ≡ true
    holder = unnot_false (is_kind rows.accounts a 0) all.1.1.1.1.0

    steps : List Step
    steps = steps_of (move_chain (ask rows) w a s)

    parts : Quiet (chain_conditions (move_chain (ask rows) w a s)) × Quiet (20 when units_short (is_kind rows.accounts) st.positions s q steps ∷ 22 when units_beyond st.positions s q steps ∷ [])
    parts =
        quiet_both (chain_conditions (move_chain (ask rows) w a s)) (20 when units_short (is_kind rows.accounts) st.positions s q steps ∷ 22 when units_beyond st.positions s q steps ∷ [])
        all.1.1.1.1.1

    one : (other : ℕ) × (contra (ask rows) s (home_of rows.accounts a) a ≡ some other) × (steps ≡ move_steps rows w a other)
    one = move_chain_lem rows w a s steps (quiet_chained (move_chain (ask rows) w a s) parts.0)

    against : Contra rows a one.0
    against = contra_gives rows facts s a one.0 holder one.1

-- ---- a pay-in or pay-out
pub record PayFacts (st : Store) (w : Way) (a m : ℕ) : Type 0 where
  pub size : length st.cash ≡ cash_count
  pub account : a < cash_count
  pub covered : pay_short w st.cash a m ≡ false
  pub limit : cash_beyond st.cash a (payment w m) ≡ false

pub pay_facts : (st : Store) (w : Way) (a m : ℕ) → first_of (desk_conditions (pay w a m) st) ≡ 0 → PayFacts st w a m
unfolding misfit
pay_facts st w a m free =
    let rows : Rows = rows_of st.directory in
    let all : Quiet (desk_conditions (pay w a m) st) = desk_quiet (pay w a m) st free in
    record {
      size = fitting (length st.cash) cash_count all.0;
      account = kind_small (rows_on 0 st.directory) (facts_of (pay w a m) st free 0) a 0 (unnot_false (is_kind rows.accounts a 0) all.1.1.1.1.0);
      covered = all.1.1.1.1.1.0;
      limit = all.1.1.1.1.1.1.0;
    }

-- ---- a settlement
pub record SettleFacts (st : Store) (hs : Halves) (day : ℕ) (steps : List Step) : Type 0 where
  pub positions : length st.positions ≡ position_count
  pub cash : length st.cash ≡ cash_count
  pub sides : Delivers hs (delivering hs) (receiving hs)
  pub agree : Agreed (rows_of st.directory) (delivering hs) (receiving hs)
  pub chain : halves_chain (ask (rows_on day st.directory)) hs ≡ chained steps
  pub allowed : Permitted st (delivering hs) (receiving hs) steps
  pub transfer : Transfer (rows_on day st.directory) st.positions (delivering hs).account steps (receiving hs).account (delivering hs).security (delivering hs).quantity
  pub payer : (receiving hs).account < cash_count
  pub payee : (delivering hs).account < cash_count

pub settle_facts : (st : Store) (hs : Halves) (day : ℕ) (lent : List Step) → first_of (desk_conditions (settle hs day lent) st) ≡ 0
    → SettleFacts st hs day (steps_of (halves_chain (ask (rows_on day st.directory)) hs))
unfolding misfit
settle_facts st hs day lent free =
    record {
      positions = fitting (length st.positions) position_count lists.0;
      cash = fitting (length st.cash) cash_count lists.1.0;
      sides = quiet_delivers (ask rows) hs before.0;
      agree = agree;
      chain = is;
      allowed = allowed;
      transfer = record {
        trail = chain_trail rows facts h.security h.account g.account steps agree.deliverer agree.receiver agree.two is;
        security = security_small rows facts h.security (named_security rows h agree.deliverer_named);
        from = holder_plain rows h.account agree.deliverer;
        to = holder_plain rows g.account agree.receiver;
        enough = allowed.holdings;
      };
      payer = kind_small rows facts g.account 0 agree.receiver;
      payee = kind_small rows facts h.account 0 agree.deliverer;
    }
  where
    rows : Rows
    rows = rows_on day st.directory

    h : Half
    h = delivering hs

    g : Half
    g = receiving hs

    steps : List Step
    steps = steps_of (halves_chain (ask rows) hs)

    all : Quiet (desk_conditions (settle hs day lent) st)
    all = desk_quiet (settle hs day lent) st free

    facts : Facts rows
    facts = facts_of (settle hs day lent) st free day

    lists : (not (eqb (length st.positions) position_count) ≡ false) × ((not (eqb (length st.cash) cash_count) ≡ false) × (ltb (length lent) step_limit ≡ false))
    lists = none_hold (not (eqb (length st.positions) position_count)) (not (eqb (length st.cash) cash_count) ∷ ltb (length lent) step_limit ∷ []) all.0

    parts : Quiet (derive_conditions (ask rows) hs) × Quiet (book_conditions (ask rows) st.positions st.cash h g steps)
    parts = quiet_both (derive_conditions (ask rows) hs) (book_conditions (ask rows) st.positions st.cash h g steps) all.1.1

    before : Quiet (halves_conditions (ask rows) hs) × Quiet (chain_conditions (halves_chain (ask rows) hs))
    before = quiet_both (halves_conditions (ask rows) hs) (chain_conditions (halves_chain (ask rows) hs)) parts.0

    agree : Agreed (rows_of st.directory) h g
    agree = quiet_agree (rows_of st.directory) h g (side_unknown hs) (same_side hs) before.0

    allowed : Permitted st h g steps
    allowed = quiet_allowed st h g steps parts.1

    is : halves_chain (ask rows) hs ≡ chained steps
    is = quiet_chained (halves_chain (ask rows) hs) before.1
