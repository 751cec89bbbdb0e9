-- What the exports answer and leave, from what the functions that they call answer and leave.
use Prim.Native.Nat.{ℕ, ◌+◌, ◌/◌, ◌≤◌, ◌<◌}
use native.Mathlib.Omega.{arith}
use mathlib.Core.Path.{◌≡◌, refl, sym, ap, ◌∙◌}
use mathlib.Core.Logic.{◌≢◌}
use mathlib.Core.Bool.{Bool, true, false, not, ◌&&◌, cond}
use mathlib.Core.List.{List, []}
use lib.IntN.{ℤ}
use lib.Dec.{eqb}
use lib.ListN.{length, take, drop, set, length-replicate}
use lib.Seq.{take-append_seam}
use Rattle.rules.specs.declared.Directory.{Directory}
use Rattle.rules.specs.declared.Step.{Step}
use Rattle.rules.specs.declared.answer.Answer.{Answer}
use Rattle.rules.specs.declared.answer.Answer.TheVariants.{Refused}
use Rattle.rules.specs.declared.Entered.{Entered}
use Rattle.rules.specs.declared.Reply.{Reply}
use Rattle.rules.specs.declared.Units.{Units}
use Rattle.rules.specs.declared.Cents.{Cents}
use Rattle.rules.specs.Booking.{SecurityTotal, SumUnits, NoUnits, CashTotal, SumCents, NoCents}
use Rattle.rules.specs.Tests.{first_of}
use Rattle.rules.specs.Chain.{step}
use Rattle.rules.specs.Calls.{Halves, Outcome, desk, is_accepted, lent_steps, desk_security_total, desk_cash_total}
use Rattle.rules.specs.Stream.{call_of}
use Rattle.rules.specs.Outcomes.{holding, settlement_on, derivation_on, blanks, by_value, reply_of}
use Rattle.rules.proofs.Basics.{eqb-true, eqb_false, and-true, and_untrue}
use Rattle.desk.proofs.Serving as Serving
use Rattle.layout.specs.Layout.{counts_length, rows_length, directory_in, counts_of, bytes_of, bytes_in, bytes_of_steps, filled, with_steps, steps_put}
use Rattle.layout.proofs.Bytes.{fills, steps_fit_lem}
use Rattle.codes.specs.Codes.{misfit, code_of, units_code, cents_code}
use Rattle.wire.specs.Operands.{halves_in, day_in}
use Rattle.codes.specs.Read.{is_entry, is_move, width, read_conditions}
use Rattle.codes.proofs.Read.{cut_is, none_is}
use Rattle.probe.specs.Exports.{fits, fits_sum, is_settlement, is_derivation, call_in, lending, steps_lent, entered_by, chain_of}
use Rattle.probe.specs.Exports.{enters, moves, settles, derives, units_left, cents_left, Enters, Moves, Settles, Derives}
use Rattle.probe.proofs.Read.{read_refused, read_passed, settlement_call, derivation_call}
use Rattle.probe.proofs.Moves.{Leaves}

-- ---- tests

first_fails : (a b : Bool) → a ≡ false → (a && b) ≡ false
first_fails a b e = rw e

second_fails : (a b : Bool) → b ≡ false → (a && b) ≡ false
second_fails a b e = and_untrue a b (λ _. e)

pub empty : (sum : List ℤ) → length sum ≡ 0 → not (eqb (length sum) 0) ≡ false
empty sum h = rw (eqb-true (length sum) 0 h)

some_place : (sum : List ℤ) → length sum ≢ 0 → not (eqb (length sum) 0) ≡ true
some_place sum h = rw (eqb_false (length sum) 0 h)

-- ---- steps in a buffer

no_steps : (steps : List ℕ) → steps ≡ with_steps [] steps
unfolding bytes_of_steps bytes_in
no_steps steps = refl

all_steps : (xs : List Step) (steps : List ℕ) → length xs ≤ 16 → length xs ≤ length steps / 5 → steps_put (by_value xs) steps ≡ with_steps xs steps
all_steps xs steps h k =
    sym (steps_fit_lem (by_value xs) steps h (omega arith)) ∙ ap (λ (ys : List Step). with_steps ys steps) (take-append_seam xs (drop (length xs) (blanks 16)))

module _ (counts rows : List ℕ) where
  pub no_counts : length counts ≢ counts_length → fits counts rows ≡ false
  no_counts h = first_fails _ _ (eqb_false (length counts) counts_length h)

  pub no_rows : length rows ≢ rows_length → fits counts rows ≡ false
  no_rows h = second_fails (eqb (length counts) counts_length) (eqb (length rows) rows_length) (eqb_false (length rows) rows_length h)

  pub unfit_sum : (sum : List ℤ) → fits counts rows ≡ false → fits_sum counts rows sum ≡ false
  unfit_sum sum e = first_fails (fits counts rows) (not (eqb (length sum) 0)) e

  pub no_sum : (sum : List ℤ) → length sum ≡ 0 → fits_sum counts rows sum ≡ false
  no_sum sum h = second_fails (fits counts rows) (not (eqb (length sum) 0)) (empty sum h)

  module _ (h : length counts ≡ counts_length) (k : length rows ≡ rows_length) where
    fit : fits counts rows ≡ true
    fit = and-true _ _ (eqb-true (length counts) counts_length h) (eqb-true (length rows) rows_length k)

    -- ---- 1 and 2

    module _ (tag : ℕ) (o : List ℕ) (n : ℕ) (m : n ≡ first_of (read_conditions (is_entry tag) tag o)) where
      enters_unread : n ≢ 0 → enters counts rows tag o ≡ record { answer = Refused n; store = holding (directory_in counts rows) [] []; steps = lent_steps (call_in tag o) }
      unfolding enters
      enters_unread ne = read_refused (is_entry tag) tag o n m (call_in tag o) (holding (directory_in counts rows) [] []) ne

      pub entry_unread : n ≢ 0 → (code : ℕ) → code ≡ code_of (Refused n) → Enters counts rows tag o code counts rows
      entry_unread ne code q =
          let f : fits counts rows ≡ true = fit in
          let x = enters_unread ne in
          rw (f, x) (q, refl, refl)

    module _ (p c : List ℤ) (tag : ℕ) (o : List ℕ) (n : ℕ) (m : n ≡ first_of (read_conditions (is_move tag) tag o)) where
      moves_unread : n ≢ 0
          → moves counts rows p c tag o ≡ record { answer = Refused n; store = holding (directory_in counts rows) p c; steps = lent_steps (call_in tag o) }
      unfolding moves
      moves_unread ne = read_refused (is_move tag) tag o n m (call_in tag o) (holding (directory_in counts rows) p c) ne

      pub move_unread : n ≢ 0 → (code : ℕ) → code ≡ code_of (Refused n) → Moves counts rows p c tag o code p c
      move_unread ne code q =
          let f : fits counts rows ≡ true = fit in
          let x = moves_unread ne in
          rw (f, x) (q, refl, refl)

    module _ (tag : ℕ) (o steps : List ℕ) (s : length o < width tag) (code : ℕ) (q : code ≡ code_of (Refused 2)) where
      settles_cut : (p c : List ℤ)
          → settles tag counts rows p c o steps
          ≡ record { answer = Refused 2; store = holding (directory_in counts rows) p c; steps = lent_steps (lending (steps_lent steps) (call_in tag o)) }
      unfolding settles
      settles_cut p c = read_refused true tag o 2 (cut_is true tag o refl s) (lending (steps_lent steps) (call_in tag o)) (holding (directory_in counts rows) p c) (λ z. omega arith)

      derives_cut :
          derives tag counts rows o steps
          ≡ record { answer = Refused 2; store = holding (directory_in counts rows) [] []; steps = lent_steps (lending (steps_lent steps) (call_in tag o)) }
      unfolding derives
      derives_cut = read_refused true tag o 2 (cut_is true tag o refl s) (lending (steps_lent steps) (call_in tag o)) (holding (directory_in counts rows) [] []) (λ z. omega arith)

      pub settle_cut : (p c : List ℤ) → Settles tag counts rows p c o steps code p c steps
      settle_cut p c =
          let f : fits counts rows ≡ true = fit in
          let x = settles_cut p c in
          rw (f, x) (q, refl, refl, no_steps steps)

      pub derive_cut : Derives tag counts rows o steps code steps
      derive_cut =
          let f : fits counts rows ≡ true = fit in
          let x = derives_cut in
          rw (f, x) (q, no_steps steps)

    module _ (d : Directory) (e : d ≡ directory_in counts rows) where
      -- ---- an entry

      module _ (tag : ℕ) (o : List ℕ) (n : ℕ) (m : n ≡ first_of (read_conditions (is_entry tag) tag o)) (z : n ≡ 0) (part : List ℕ) (p : part ≡ take (width tag) o) (r : Entered)
          (s : r ≡ entered_by (desk (call_of tag part) (holding d [] []))) where
        entered_is : r ≡ entered_by (enters counts rows tag o)
        unfolding enters
        entered_is = s ∙ rw (e, p) (ap entered_by (sym (read_passed (is_entry tag) tag o n m (call_in tag o) (holding (directory_in counts rows) [] []) z)))

        answer_is : r.answer ≡ (enters counts rows tag o).answer
        answer_is = ap (λ (x : Entered). x.answer) entered_is

        directory_is : r.directory ≡ (enters counts rows tag o).store.directory
        directory_is = ap (λ (x : Entered). x.directory) entered_is

        pub entry_refused : is_accepted r.answer ≡ false → (code : ℕ) → code ≡ code_of r.answer → Enters counts rows tag o code counts rows
        entry_refused a code q =
            let f : fits counts rows ≡ true = fit in
            let b : is_accepted (enters counts rows tag o).answer ≡ false = sym (ap is_accepted answer_is) ∙ a in
            (rw f (q ∙ ap code_of answer_is), rw (f, b), rw (f, b))

        pub entry_accepted : is_accepted r.answer ≡ true → (code : ℕ) (left bytes : List ℕ) → code ≡ code_of r.answer
            → left ≡ filled counts_length (counts_of r.directory) counts → bytes ≡ filled rows_length (bytes_of r.directory) rows
            → Enters counts rows tag o code left bytes
        entry_accepted a code left bytes q l b =
            let f : fits counts rows ≡ true = fit in
            let y : is_accepted (enters counts rows tag o).answer ≡ true = sym (ap is_accepted answer_is) ∙ a in (
              rw f (q ∙ ap code_of answer_is),
              rw (f, y) (l ∙ sym (fills counts_length (counts_of r.directory) counts h) ∙ ap counts_of directory_is),
              rw (f, y) (b ∙ sym (fills rows_length (bytes_of r.directory) rows k) ∙ ap bytes_of directory_is),
            )

      -- ---- a move or payment

      module _ (positions cash : List ℤ) (tag : ℕ) (o : List ℕ) (n : ℕ) (m : n ≡ first_of (read_conditions (is_move tag) tag o)) where
        moves_is : n ≡ 0 → (part : List ℕ) → part ≡ take (width tag) o → desk (call_of tag part) (holding d positions cash) ≡ moves counts rows positions cash tag o
        unfolding moves
        moves_is z part p = rw (e, p) (sym (read_passed (is_move tag) tag o n m (call_in tag o) (holding (directory_in counts rows) positions cash) z))

        pub moved : n ≡ 0 → (part : List ℕ) → part ≡ take (width tag) o → (r : Answer) (code : ℕ) (p c : List ℤ)
            → Leaves (call_of tag part) (holding d positions cash) r p c → code ≡ code_of r → Moves counts rows positions cash tag o code p c
        moved z part g r code p c l q =
            let f : fits counts rows ≡ true = fit in
            let i = moves_is z part g in (
              rw f (q ∙ ap code_of l.0 ∙ ap (λ (x : Outcome). code_of x.answer) i),
              rw f (l.1 ∙ ap (λ (x : Outcome). x.store.positions) i),
              rw f (l.2 ∙ ap (λ (x : Outcome). x.store.cash) i),
            )

      -- ---- a settlement or derivation

      module _ (tag : ℕ) (o steps : List ℕ) (s : width tag ≤ length o) (part : List ℕ) (g : part ≡ take (width tag) o) (hs : Halves) (u : hs ≡ halves_in tag part)
          (day : ℕ) (v : day ≡ day_in tag part) (r : Reply) (code : ℕ) (bytes : List ℕ) (a : (code ≡ code_of r.answer) × (bytes ≡ steps_put r.steps steps)) where
        settles_is : is_settlement tag ≡ true → (p c : List ℤ) → settlement_on d p c (steps_lent steps) hs day ≡ settles tag counts rows p c o steps
        unfolding settles
        settles_is t p c =
            rw (e, u, v, g, ← settlement_call tag (take (width tag) o) (steps_lent steps) t)
            (sym (read_passed true tag o 0 (none_is true tag o refl s) (lending (steps_lent steps) (call_in tag o)) (holding (directory_in counts rows) p c) refl))

        derives_is : is_derivation tag ≡ true → derivation_on d (steps_lent steps) hs day ≡ derives tag counts rows o steps
        unfolding derives
        derives_is t =
            rw (e, u, v, g, ← derivation_call tag (take (width tag) o) (steps_lent steps) t)
            (sym (read_passed true tag o 0 (none_is true tag o refl s) (lending (steps_lent steps) (call_in tag o)) (holding (directory_in counts rows) [] []) refl))

        -- the bytes of the K steps, of which there are no more than were lent
        written : (x : Outcome) → r ≡ reply_of x → r.steps.count ≤ 16 → r.steps.count ≤ length (steps_lent steps) → bytes ≡ with_steps (chain_of x) steps
        written x i few room =
            let l : r.steps ≡ by_value (chain_of x) = ap (λ (y : Reply). y.steps) i in
            a.1 ∙ rw l (all_steps (chain_of x) steps (rw l at few) (rw (l, length-replicate (length steps / 5) (step 0 0 0)) at room))

        pub derived : is_derivation tag ≡ true → r ≡ reply_of (derivation_on d (steps_lent steps) hs day) → Derives tag counts rows o steps code bytes
        derived t i =
            let f : fits counts rows ≡ true = fit in
            let n = Serving.serves (holding d [] []) hs day Serving.derives (steps_lent steps) (steps_lent steps) refl r i in
            let w = written (derivation_on d (steps_lent steps) hs day) i n.few n.room in (
              rw f (a.0 ∙ ap (λ (y : Reply). code_of y.answer) i ∙ ap (λ (x : Outcome). code_of x.answer) (derives_is t)),
              rw f (w ∙ ap (λ (x : Outcome). with_steps (chain_of x) steps) (derives_is t)),
            )

        pub settled : is_settlement tag ≡ true → (positions cash p c : List ℤ)
            → (r ≡ reply_of (settlement_on d positions cash (steps_lent steps) hs day))
            × (p ≡ (settlement_on d positions cash (steps_lent steps) hs day).store.positions)
            × (c ≡ (settlement_on d positions cash (steps_lent steps) hs day).store.cash)
            → Settles tag counts rows positions cash o steps code p c bytes
        settled t positions cash p c i =
            let f : fits counts rows ≡ true = fit in
            let n = Serving.serves (holding d positions cash) hs day Serving.settles (steps_lent steps) (steps_lent steps) refl r i.0 in
            let w = written (settlement_on d positions cash (steps_lent steps) hs day) i.0 n.few n.room in
            let x = settles_is t positions cash in (
              rw f (a.0 ∙ ap (λ (y : Reply). code_of y.answer) i.0 ∙ ap (λ (y : Outcome). code_of y.answer) x),
              rw f (i.1 ∙ ap (λ (y : Outcome). y.store.positions) x),
              rw f (i.2 ∙ ap (λ (y : Outcome). y.store.cash) x),
              rw f (w ∙ ap (λ (y : Outcome). with_steps (chain_of y) steps) x),
            )

      -- ---- the total of a security

      module _ (positions : List ℤ) (security : ℕ) (sum : List ℤ) (m : length sum ≢ 0) (t : SecurityTotal) (q : t ≡ desk_security_total d positions security) where
        same : t ≡ desk_security_total (directory_in counts rows) positions security
        same = q ∙ ap (λ (x : Directory). desk_security_total x positions security) e

        all_fit_sum : fits_sum counts rows sum ≡ true
        all_fit_sum = and-true _ _ fit (some_place sum m)

        pub units_sum_lem : (x : Units) → t ≡ SumUnits x
            → (◌≡◌ {A = ℕ} 1024 (cond (fits_sum counts rows sum) (units_code (desk_security_total (directory_in counts rows) positions security)) misfit))
            × (set sum 0 x.0 ≡ cond (fits_sum counts rows sum) (units_left (desk_security_total (directory_in counts rows) positions security) sum) sum)
        units_sum_lem x p =
            let f : fits_sum counts rows sum ≡ true = all_fit_sum in
            let i : desk_security_total (directory_in counts rows) positions security ≡ SumUnits x = sym same ∙ p in
            (rw (f, i), rw (f, i))

        pub no_units : (n : ℕ) → t ≡ NoUnits n
            → (768 + n ≡ cond (fits_sum counts rows sum) (units_code (desk_security_total (directory_in counts rows) positions security)) misfit)
            × (sum ≡ cond (fits_sum counts rows sum) (units_left (desk_security_total (directory_in counts rows) positions security) sum) sum)
        no_units n p =
            let f : fits_sum counts rows sum ≡ true = all_fit_sum in
            let i : desk_security_total (directory_in counts rows) positions security ≡ NoUnits n = sym same ∙ p in
            (rw (f, i), rw (f, i))

-- ---- the total of cash

module _ (cash sum : List ℤ) (m : length sum ≢ 0) (t : CashTotal) (q : t ≡ desk_cash_total cash) where
  pub cents_sum_lem : (x : Cents) → t ≡ SumCents x
      → (◌≡◌ {A = ℕ} 1024 (cond (not (eqb (length sum) 0)) (cents_code (desk_cash_total cash)) misfit)) × (set sum 0 x.0 ≡ cond (not (eqb (length sum) 0)) (cents_left (desk_cash_total cash) sum) sum)
  cents_sum_lem x p =
      let i : desk_cash_total cash ≡ SumCents x = sym q ∙ p in
      (rw (eqb_false (length sum) 0 m, i), rw (eqb_false (length sum) 0 m, i))

  pub no_cents : (n : ℕ) → t ≡ NoCents n
      → (768 + n ≡ cond (not (eqb (length sum) 0)) (cents_code (desk_cash_total cash)) misfit) × (sum ≡ cond (not (eqb (length sum) 0)) (cents_left (desk_cash_total cash) sum) sum)
  no_cents n p =
      let i : desk_cash_total cash ≡ NoCents n = sym q ∙ p in
      (rw (eqb_false (length sum) 0 m, i), rw (eqb_false (length sum) 0 m, i))
