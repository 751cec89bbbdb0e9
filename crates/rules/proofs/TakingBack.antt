-- Ask 6: a pair that is booked over a reached store can be taken back. Its chain turns round; what the opposite pair debits has just been credited, and
-- every number that it changes ends where it was, within ±10^15.
use mathlib.Core.Path.{◌≡◌, sym, ap, subst, ◌∙◌}
use mathlib.Core.Logic.{inl, inr}
use mathlib.Core.List.{List, Memᴰ}
use Prim.Native.Nat.{ℕ, ◌≤◌, ◌<◌}
use native.Mathlib.Omega.{arith}
use lib.IntN.{pos, ◌+ℤ◌, ◌-ℤ◌}
use lib.Signed.{◌≤ℤ◌}
use lib.ListN.{length}
use Rattle.rules.specs.Types.{Directory, Half, Step, Booked}
use Rattle.rules.specs.Directory.{Rows, rows_of, rows_on, security_limit, account_limit, is_kind}
use Rattle.rules.specs.Chain.{turned, step_limit}
use Rattle.rules.specs.Booking.{cash_count, held_in, cash_on}
use Rattle.rules.specs.Calls.{Halves, Store, settle, desk, run}
use Rattle.rules.specs.Refusals.{ParticipantOrOmnibus, Misfits, settle_positions, settle_cash, settle_steps, Delivers}
use Rattle.rules.specs.Demands.{Within, Agree, Allowed, Bookable, BookedPair}
use Rattle.rules.specs.Requests.{WantedOf, from_the_other_end, TakesBack, TakingBack}
use Rattle.rules.proofs.Basics.{or_cases}
use Rattle.rules.proofs.Int.{covers, out_in, in_out}
use Rattle.rules.proofs.RowTests.{says_kind_is}
use Rattle.rules.proofs.AmountRelation.{says_floored}
use Rattle.rules.proofs.SideRelation.{delivers_is}
use Rattle.rules.proofs.Facts.{Facts}
use Rattle.rules.proofs.Accounts.{kind_small}
use Rattle.rules.proofs.Soundness.{sound_gives}
use Rattle.rules.proofs.Turning.{turned_length, turned_each}
use Rattle.rules.proofs.TurnedChain.{chain_turned}
use Rattle.rules.proofs.Permissions.{within}
use Rattle.rules.proofs.Restoring.{units_back, cents_back}
use Rattle.rules.proofs.Settlements.{books}
use Rattle.rules.proofs.Reached.{Reached, run_reached}

-- ---- the pair, once it is booked
opposite_agree : (r : Rows) (h g : Half) → Agree r h g → Agree r g h
opposite_agree r h g A =
    record {
      deliverer = A.receiver;
      receiver = A.deliverer;
      two = λ e. A.two (sym e);
      receiver_csd = A.deliverer_csd;
      deliverer_csd = A.receiver_csd;
      security = rw A.same_security at A.security;
      same_security = sym A.same_security;
      quantity = rw A.same_quantity at A.quantity;
      same_quantity = sym A.same_quantity;
      amount = rw A.same_amount at A.amount;
      same_amount = sym A.same_amount;
    }

floored_small : (r : Rows) → Facts r → (a : ℕ) → ParticipantOrOmnibus r.accounts a → a < account_limit
floored_small r F a f = elim (or_cases (is_kind r.accounts a 0) (is_kind r.accounts a 1) ((says_floored r.accounts a).tests f)) [
  | inl e ↦ kind_small r F a 0 e
  | inr e ↦ kind_small r F a 1 e
]

module _ (st : Store) (C : Reached st) (hs : Halves) (day : ℕ) (lent : List Step) (h g : Half) (steps : List Step)
    (B : Bookable st hs day lent h g steps) (P : BookedPair st hs day lent h g steps) where
  -- the store that the pair leaves
  abbrev left : Store
  left = (desk (settle hs day lent) st).store

  F : Facts (rows_on day st.directory)
  F = sound_gives st.directory C.ready.sound_books day

  abbrev A : Agree (rows_of st.directory) h g
  A = B.agree

  security : h.security < security_limit
  security = omega (arith, A.security, F.few_securities)

  deliverer : h.account < cash_count
  deliverer = kind_small (rows_on day st.directory) F h.account 0 ((says_kind_is (rows_of st.directory).accounts h.account 0).tests A.deliverer)

  -- what is held by an account credited, or debited, by a step of the pair
  credited_left : (x : Step) → Memᴰ x steps → held_in left.positions g.security x.credited ≡ held_in st.positions h.security x.credited +ℤ pos g.quantity
  credited_left x m = rw (← A.same_security, ← A.same_quantity) (P.positions.credits x m)

  debited_left : (x : Step) → Memᴰ x steps → held_in left.positions g.security x.debited ≡ held_in st.positions h.security x.debited -ℤ pos g.quantity
  debited_left x m = rw (← A.same_security, ← A.same_quantity) (P.positions.debits x m)

  paid_left : cash_on left.cash h.account ≡ cash_on st.cash h.account +ℤ pos g.amount
  paid_left = rw (← A.same_amount) P.cash.paid

  pays_left : cash_on left.cash g.account ≡ cash_on st.cash g.account -ℤ pos g.amount
  pays_left = rw (← A.same_amount) P.cash.pays

  -- each position and balance of the store before the pair
  position_within : (a : ℕ) → Within (held_in st.positions h.security a)
  position_within a = within _ (C.bounded.positions h.security a security)

  balance_within : (a : ℕ) → Within (cash_on st.cash a)
  balance_within a = within _ (C.bounded.cash a)

  -- holdings, cash and limits allow the opposite pair
  opposite_allowed : Allowed left g h (turned steps)
  opposite_allowed =
      record {
        holdings = turned_each (λ x. ParticipantOrOmnibus (rows_of left.directory).accounts x.debited → pos g.quantity ≤ℤ held_in left.positions g.security x.debited) steps
            (λ x m f. let o = subst (λ (d : Directory). ParticipantOrOmnibus (rows_of d).accounts x.credited) P.directory f in
            rw (credited_left x m) (covers (held_in st.positions h.security x.credited) g.quantity (C.floor x.credited h.security (floored_small (rows_on day st.directory) F x.credited o) security o)));
        cash = λ n. rw paid_left (covers (cash_on st.cash h.account) g.amount (C.funded.floor h.account deliverer));
        debit_limits = turned_each (λ x. Within (held_in left.positions g.security x.debited -ℤ pos g.quantity)) steps
            (λ x m. rw (credited_left x m, in_out (held_in st.positions h.security x.credited) g.quantity) (position_within x.credited));
        credit_limits = turned_each (λ x. Within (held_in left.positions g.security x.credited +ℤ pos g.quantity)) steps
            (λ x m. rw (debited_left x m, out_in (held_in st.positions h.security x.debited) g.quantity) (position_within x.debited));
        payer_limit = λ n. rw (paid_left, in_out (cash_on st.cash h.account) g.amount) (balance_within h.account);
        payee_limit = λ n. rw (pays_left, out_in (cash_on st.cash g.account) g.amount) (balance_within g.account);
      }

  -- ---- the opposite pair
  module _ (w : WantedOf st day h g (length steps)) (opposite : Halves) (sides : Delivers opposite g h) (again : List Step) (enough : step_limit ≤ length again) where
    opposite_fits : Misfits left (settle opposite day again) → ⊥
    opposite_fits (settle_positions n) = n (P.positions.size ∙ C.ready.positions)
    opposite_fits (settle_cash n) = n (P.cash.size ∙ C.ready.cash)
    opposite_fits (settle_steps l) = omega arith

    opposite_bookable : Bookable left opposite day again g h (from_the_other_end steps)
    unfolding turned
    opposite_bookable =
        record {
          fits = opposite_fits;
          sound_books = rw P.directory B.sound_books;
          sides = sides;
          agree = rw P.directory (opposite_agree (rows_of st.directory) h g A);
          chain = rw (P.directory, ← A.same_security) (chain_turned (rows_on day st.directory) F h.security h.account g.account steps B.chain w);
          allowed = opposite_allowed;
        }

    abbrev pair : BookedPair left opposite day again g h (from_the_other_end steps)
    pair = (books left opposite day again).when_bookable g h (from_the_other_end steps) opposite_bookable

    abbrev end : Store
    end = (desk (settle opposite day again) left).store

    takes_back : TakesBack st day h g (length steps) again (desk (settle opposite day again) left)
    unfolding turned
    takes_back =
        let units : end.positions ≡ st.positions
        = units_back steps h.security h.quantity st.positions left.positions end.positions P.positions (rw (A.same_security, A.same_quantity) pair.positions) in
        let cents : end.cash ≡ st.cash
        = cents_back g.account h.account h.amount st.cash left.cash end.cash P.cash (rw A.same_amount pair.cash) in
        let same : end.directory ≡ st.directory = pair.directory ∙ P.directory in
        record {
          answer = pair.returns.answers ∙ ap Booked (turned_length steps);
          chain = steps;
          booked = B.chain;
          steps = pair.returns.writes;
          store = λ i. record { directory = same i; positions = units i; cash = cents i };
        }

-- ---- the claim

-- a booked pair, by the halves that deliver and receive
module _ (st : Store) (hs : Halves) (day : ℕ) (lent : List Step) where
  abbrev Pair : Half → Half → List Step → Type 0
  Pair h g steps = Bookable st hs day lent h g steps × BookedPair st hs day lent h g steps

  booked_by : (h g : Half) (K : ℕ) → Delivers hs h g → (desk (settle hs day lent) st).answer ≡ Booked K → (steps : List Step) × (K ≡ length steps) × Pair h g steps
  booked_by h g K sides e =
      let b = (books st hs day lent).only_then K e in
      let own = delivers_is hs b.0 b.1 b.3.sides in
      let given = delivers_is hs h g sides in
      (b.2, b.4, subst (λ (y : Half). Pair h y b.2) (own.1 ∙ sym given.1) (subst (λ (x : Half). Pair x b.1 b.2) (own.0 ∙ sym given.0) (b.3, b.5)))

pub taking_back : TakingBack
taking_back =
    record {
      restores = λ cs pair opposite h g day K lent again sides turned enough e wanted.
          let st : Store = (run cs).store in
          let b = booked_by st pair day lent h g K sides e in
          rw b.1 (takes_back st (run_reached cs) pair day lent h g b.0 b.2.0 b.2.1 (rw b.1 at wanted) opposite turned again enough);
    }
