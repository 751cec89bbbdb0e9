-- How long a command's lines are: at most 6 bytes for each byte of the command. A line without steps has at most 16 bytes, and no command is
-- shorter than 3. A step's line has at most 13, and a command of 43 bytes gives at most 16 steps.
use mathlib.Core.Path.{◌≡◌, refl}
use mathlib.Core.Bool.{false}
use mathlib.Core.List.{List, [], Memᴰ}
use mathlib.Core.Option.{some}
use Prim.Native.Nat.{ℕ, zero, suc, ◌+◌, ◌*◌, ◌<◌, ◌≤◌}
use native.Mathlib.Omega.{arith}
use lib.ListN.{length, take, drop, length-take}
use lib.Seq.{take-append_seam}
use Rattle.rules.specs.declared.Step.{Step}
use Rattle.rules.specs.declared.Answer.{Answer}
use Rattle.rules.specs.declared.Answer.TheVariants.{Accepted, Booked, Chained, Refused}
use Rattle.rules.specs.Tests.{first_of}
use Rattle.rules.specs.Directory.{Rows, rows_on}
use Rattle.rules.specs.Lookups.{ask}
use Rattle.rules.specs.Chain.{chained, steps_of, chain_conditions, step_limit}
use Rattle.rules.specs.Calls.{Halves, Store, Call, enter, move, pay, settle, derive, outcome, desk, desk_conditions, derive_conditions, book_conditions, delivering, receiving, side_unknown, same_side, halves_conditions, halves_chain, success, lent_steps, written, written_for, count_of, number_of, is_accepted}
use Rattle.rules.specs.Stream.{step_line, said, width_of, call_of, program_steps}
use Rattle.rules.proofs.Basics.{Quiet}
use Rattle.rules.proofs.Facts.{Facts}
use Rattle.rules.proofs.Conditions.{quiet_both, quiet_chained}
use Rattle.rules.proofs.ChainSize.{chain_few}
use Rattle.rules.proofs.Places.{places_range}
use Rattle.rules.proofs.Agreement.{Agreed, quiet_agree}
use Rattle.rules.proofs.Refusals.{desk_quiet}
use Rattle.rules.proofs.Soundness.{sound_gives}
use Rattle.rules.proofs.Running.{Ready}
use Rattle.rules.proofs.Theorems.{demand1}
use Rattle.text.proofs.Lengths.{short_decimal, step_long, short_steps, short_answer, said_long}
use Rattle.stream.proofs.CallKinds.{TwoHalves, by_kind, wide, pair_wide}
use Rattle.stream.proofs.Entered.{Small, steps_small}

-- ---- one line

small_line : (x : Step) → Small x → length (step_line x) ≤ 13
small_line x h =
    omega (arith, step_long x, short_decimal 1 x.csd (omega (arith, h.csd)), short_decimal 2 x.debited (omega (arith, h.debited)), short_decimal 2 x.credited (omega (arith, h.credited)))

-- the number of any refusal
low : (a : Answer) → (is_accepted a ≡ false → (3 ≤ number_of a) × (number_of a ≤ 24)) → number_of a < 100
low Accepted h = omega arith
low (Booked k) h = omega arith
low (Chained k) h = omega arith
low (Refused n) h = omega (arith, (h refl).1)

-- few steps are told, with small numbers
record Brief (a : Answer) (xs : List Step) : Type 0 where
  few : count_of a ≤ step_limit
  small : (x : Step) → Memᴰ x (take (count_of a) xs) → Small x

brief_lines : (n : ℕ) (a : Answer) (xs : List Step) → n < 100_000 → number_of a < 100 → Brief a xs → length (said n a xs) ≤ 16 + 13 * count_of a
brief_lines n a xs h l b =
    let steps = short_steps 13 (take (count_of a) xs) (λ x i. small_line x (b.small x i)) in
    let f : count_of a ≤ step_limit = b.few in
    omega (arith, said_long n a xs, short_decimal 4 n h, short_answer a (omega arith) l, length-take (count_of a) xs)

-- no step is told
plain_brief : (a : Answer) (xs : List Step) → count_of a ≡ 0 → Brief a xs
plain_brief a xs e = record { few = omega arith; small = λ x i. let j : Memᴰ x [] = rw e at i in elim j [ ] }

-- 1 and 2
pub stop_short : (n refusal : ℕ) → n < 100_000 → refusal < 100 → length (said n (Refused refusal) []) ≤ 16
stop_short n refusal h l = brief_lines n (Refused refusal) [] h l (plain_brief (Refused refusal) [] refl)

-- ---- what a call tells

-- a refusal tells no step
refused_or : (c : Call) (st : Store) → (first_of (desk_conditions c st) ≡ 0 → Brief (success c st) (written_for c st)) → Brief (desk c st).answer (desk c st).steps
unfolding desk
refused_or c st h = go (first_of (desk_conditions c st)) refl
  where
    go : (n : ℕ) → first_of (desk_conditions c st) ≡ n → Brief (outcome n c st).answer (outcome n c st).steps
    go zero e = h e
    go (suc n) e = plain_brief (Refused (suc n)) (lent_steps c) refl

-- nor does a call without a chain
plain_told : (c : Call) (st : Store) → count_of (success c st) ≡ 0 → count_of (desk c st).answer ≡ 0
unfolding desk
plain_told c st e = go (first_of (desk_conditions c st))
  where
    go : (n : ℕ) → count_of (outcome n c st).answer ≡ 0
    go zero = e
    go (suc n) = refl

-- ---- a settlement or derivation

module _ (st : Store) (ready : Ready st) (hs : Halves) (day : ℕ) (lent : List Step) where
  abbrev rows : Rows
  rows = rows_on day st.directory

  abbrev xs : List Step
  xs = steps_of (halves_chain (ask rows) hs)

  -- K, and what is written to the lent list, which starts with the chain
  pair_brief : (a : Answer) → count_of a ≡ length xs → Quiet (derive_conditions (ask rows) hs) → Brief a (written xs lent)
  pair_brief a k q =
      let parts : Quiet (halves_conditions (ask rows) hs) × Quiet (chain_conditions (halves_chain (ask rows) hs)) = quiet_both (halves_conditions (ask rows) hs) (chain_conditions (halves_chain (ask rows) hs)) q in
      let is : halves_chain (ask rows) hs ≡ chained xs = quiet_chained (halves_chain (ask rows) hs) parts.1 in
      let agree : Agreed rows (delivering hs) (receiving hs) = quiet_agree rows (delivering hs) (receiving hs) (side_unknown hs) (same_side hs) parts.0 in
      let facts : Facts rows = sound_gives st.directory ready.sound_books day in
      let small = steps_small rows facts (delivering hs).security (delivering hs).account (receiving hs).account xs agree.deliverer agree.receiver agree.two is in
      record {
        few = rw k (chain_few rows (delivering hs).security (delivering hs).account (receiving hs).account xs is);
        small = λ x i. small x (rw (k, take-append_seam xs (drop (length xs) lent)) at i);
      }

  derive_brief : Brief (desk (derive hs day lent) st).answer (desk (derive hs day lent) st).steps
  derive_brief = refused_or (derive hs day lent) st (λ e. pair_brief (Chained (length xs)) refl (desk_quiet (derive hs day lent) st e).1.1)

  settle_brief : Brief (desk (settle hs day lent) st).answer (desk (settle hs day lent) st).steps
  settle_brief =
      refused_or (settle hs day lent) st
      (λ e. pair_brief (Booked (length xs)) refl
      (quiet_both (derive_conditions (ask rows) hs) (book_conditions (ask rows) st.positions st.cash (delivering hs) (receiving hs) xs) (desk_quiet (settle hs day lent) st e).1.1).0)

-- ---- a command

pub brief : (st : Store) → Ready st → (n tag w : ℕ) (o : List ℕ) → n < 100_000 → width_of tag ≡ some w
    → length (said n (desk (call_of tag o) st).answer (desk (call_of tag o) st).steps) ≤ 6 * (w + 1)
brief st ready n tag w o h k =
    by_kind (λ (c : Call). length (said n (desk c st).answer (desk c st).steps) ≤ 6 * (w + 1)) tag o
    (λ x. plain (enter x) refl)
    (λ way a s q day. plain (move way a s q day) refl)
    (λ way a m. plain (pay way a m) refl)
    (λ l hs day. paired (settle hs day program_steps) l (settle_brief st ready hs day program_steps))
    (λ l hs day. paired (derive hs day program_steps) l (derive_brief st ready hs day program_steps))
  where
    lower : (c : Call) → number_of (desk c st).answer < 100
    lower c = low (desk c st).answer (λ e. places_range (number_of (desk c st).answer) ((demand1.desks c st).by_number e))

    plain : (c : Call) → count_of (success c st) ≡ 0 → length (said n (desk c st).answer (desk c st).steps) ≤ 6 * (w + 1)
    plain c e =
        let none : count_of (desk c st).answer ≡ 0 = plain_told c st e in
        omega (arith, brief_lines n (desk c st).answer (desk c st).steps h (lower c) (plain_brief (desk c st).answer (desk c st).steps none), wide tag w k)

    paired : (c : Call) → TwoHalves tag → Brief (desk c st).answer (desk c st).steps → length (said n (desk c st).answer (desk c st).steps) ≤ 6 * (w + 1)
    paired c l b = omega (arith, brief_lines n (desk c st).answer (desk c st).steps h (lower c) b, b.few, pair_wide tag w k l)
