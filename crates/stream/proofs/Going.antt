-- The loop over a stream: the text so far, followed by the lines of the rest, is the whole text. There is room for it: at most 6 bytes of text
-- for each byte of input, 16 for a stop, and an end of at most 683, which together are less than 400,000.
use mathlib.Core.Path.{◌≡◌, refl, sym, ap, ◌∙◌}
use Prim.Native.Nat.{ℕ, suc, ◌+◌, ◌-◌, ◌*◌, ◌≤◌, ◌<◌}
use native.Mathlib.Nat.{mul-suc}
use native.Mathlib.Numerals.{add-one}
use native.Mathlib.Omega.{arith}
use mathlib.Core.List.{List, [], ◌∷◌, ◌++◌, append_assoc}
use lib.IntN.{ℤ}
use lib.ListN.{length, take, drop, length-append, length-take, length-replicate, take-append-drop}
use lib.Seq.{length-take-le}
use borrow.Author.Tests.{lt-ltb, le-ltb}
use Rattle.rules.specs.declared.Account.{Account}
use Rattle.rules.specs.declared.Security.{Security}
use Rattle.rules.specs.Directory.{rows_of, rows_on, security_limit, is_kind}
use Rattle.rules.specs.Booking.{position_count, cash_count, participant_sum, cash_sum}
use Rattle.rules.specs.Calls.{Store, empty_store}
use Rattle.rules.specs.Stream.{bytes, total_line, total_lines, cash_line, ending, lines_from, input_limit, transcript}
use Rattle.rules.proofs.Facts.{Facts}
use Rattle.rules.proofs.Soundness.{sound_gives}
use Rattle.rules.proofs.Running.{Ready, empty_ready}
use Rattle.text.specs.Appended.{Appended}
use Rattle.text.proofs.Appends.{Fitted, fits, further, named}
use Rattle.text.proofs.Lengths.{short_total, short_cash}
use Rattle.refusals.specs.Kept.{nothing_kept}
use Rattle.entries.proofs.Empty.{keeps_empty}
use Rattle.chain.specs.StepList.{step_numbers}
use Rattle.stream.specs.declared.turns.Turn.{Turn}
use Rattle.stream.specs.Obeyed.{Held, nothing_held, Holds}
use Rattle.stream.specs.Turns.{Told, told, Takes}
use Rattle.ending.specs.Ending.{ending_in}
use Rattle.rules.specs.Stream.{room, printed, printed_length, Printed}
use Rattle.rules.proofs.Limits.{Bounded, empty_bounded}
use Rattle.ending.proofs.Totals.{ending_is, totalled}
use Rattle.stream.proofs.Turned.{Turned, turned, lines_end}

-- ---- the end

totals_short : (acc : List Account) (p : List ℤ) (s : ℕ) (xs : List Security) → length (total_lines acc p s xs) ≤ 41 * length xs
unfolding total_lines
totals_short acc p s [] = omega arith
totals_short acc p s (x ∷ xs) =
    omega (arith, short_total x.isin (participant_sum (is_kind acc) p s), totals_short acc p (suc s) xs, length-append (total_line x.isin (participant_sum (is_kind acc) p s)) (total_lines acc p (suc s) xs), mul-suc 41 (length xs))

ending_short : (st : Store) → Ready st → length (ending st) ≤ 683
unfolding ending
ending_short st h =
    let F : Facts (rows_on 0 st.directory) = sound_gives st.directory h.sound_books 0 in
    let few : length (rows_of st.directory).securities ≤ security_limit = F.few_securities in
    let acc = (rows_of st.directory).accounts in
    let xs = (rows_of st.directory).securities in
    omega (arith, totals_short acc st.positions 0 xs, short_cash (cash_sum st.cash), length-append (total_lines acc st.positions 0 xs) (cash_line (cash_sum st.cash)))

-- ---- the loop

pub record Going (s before out : List ℕ) (st : Store) (at number end : ℕ) : Type 0 where
  -- a command takes a byte or more
  pub counted : number ≤ at
  pub inside : at ≤ length s
  pub roomy : at < length s → end ≤ 6 * at
  pub fits : end ≤ 6 * at + 16
  pub same : length out ≡ length before
  -- the bytes behind the text are as they were
  pub rest : drop end out ≡ drop end before
  pub ready : Ready st
  pub bounded : Bounded st
  pub whole : take end out ++ lines_from (length s - number) (number + 1) (drop at s) st ≡ lines_from (length s) 1 s empty_store

going_start : (s out : List ℕ) → Going s out out empty_store 0 0 0
going_start s out =
    record {
      counted = omega arith;
      inside = omega arith;
      roomy = λ h. omega arith;
      fits = omega arith;
      same = refl;
      rest = refl;
      ready = empty_ready;
      bounded = empty_bounded;
      whole = let z : length s - 0 ≡ length s = omega arith in rw z;
    }

module _ (s before out : List ℕ) (st : Store) (at number end : ℕ) (g : Going s before out st at number end) (short : length s ≤ input_limit) (large : room ≤ length before) where
  -- the text ends inside the output
  ends_inside_lem : end ≤ length out
  ends_inside_lem = omega (arith, g.fits, g.inside, g.same)

  module _ (h : at < length s) where
    abbrev here : Told
    here = told s (number + 1) at st

    turn : Turned s (number + 1) at st here
    turn = turned s (number + 1) at st (omega (arith, g.counted)) h g.ready g.bounded

    goes_on_lem : (after : List ℕ) (t : Turn) (h' : Held) → Takes here out end after t h' → Going s before after here.left t.at (number + 1) t.end
    goes_on_lem after t h' k =
        let m = turn in
        let on : t.at ≡ here.at = k.on in
        let text : Fitted out end after t.end here.text = fits k.lines (omega (arith, g.roomy h, g.same, m.fits, m.within)) in
        let fuel : length s - number ≡ suc (length s - (number + 1)) = omega (arith, g.counted) in
        record {
          counted = omega (arith, g.counted, m.on);
          inside = omega (arith, m.within);
          roomy = λ l. omega (arith, g.roomy h, text.ends, m.short (omega arith));
          fits = omega (arith, g.roomy h, text.ends, m.fits);
          same = text.same ∙ g.same;
          rest = text.rest ∙ further out before end t.end (omega (arith, text.ends)) g.rest;
          ready = m.ready;
          bounded = m.bounded;
          whole = rw (on, text.front, append_assoc, add-one (number + 1), ← m.lines (length s - (number + 1)), ← fuel) g.whole;
        }

  -- what stands there once the end is told
  all_told : (after : List ℕ) (r : ℕ) → length s ≤ at → Appended out end after r (ending st) → Fitted before 0 after r (lines_from (length s) 1 s empty_store)
  all_told after r h a =
      let text : Fitted out end after r (ending st) = fits a (omega (arith, g.fits, g.inside, g.same, ending_short st g.ready)) in
      let w : take end out ++ ending st ≡ lines_from (length s) 1 s empty_store = rw (lines_end (length s - number) (number + 1) s at st h) at g.whole in
      record {
        ends = omega (arith, text.ends, ap length w, length-append (take end out) (ending st), length-take-le end out ends_inside_lem);
        front = text.front ∙ w;
        rest = text.rest ∙ further out before end r (omega (arith, text.ends)) g.rest;
        same = text.same ∙ g.same;
      }

-- ---- what a run prints

module _ (s before after : List ℕ) (r : ℕ) where
  prints : (text : List ℕ) → room ≤ length before → Fitted before 0 after r text → Printed text before after r
  unfolding printed printed_length
  prints text m f =
      let long : r ≡ length text = omega (arith, f.ends) in
      let behind : drop r after ≡ drop (length text) before = f.rest ∙ ap (λ (n : ℕ). drop n before) long in
      let all : after ≡ text ++ drop (length text) before = sym (take-append-drop r after) ∙ rw (f.front, behind) in
      let large = le-ltb (length before) room m in
      let whole : r ≡ length (take r after) = long ∙ sym (ap length f.front) in
      record { answers = rw large long; leaves = rw large all; inside = omega (arith, length-take r after); whole = whole }

  prints_lines : length s ≤ input_limit → room ≤ length before → Fitted before 0 after r (lines_from (length s) 1 s empty_store)
      → Printed (transcript s) before after r
  unfolding transcript
  prints_lines h m f = rw (le-ltb input_limit (length s) h) (prints (lines_from (length s) 1 s empty_store) m f)

  pub prints_long : input_limit < length s → room ≤ length before → Appended before 0 after r (bytes "too long\n") → Printed (transcript s) before after r
  unfolding transcript
  prints_long h m a = rw (lt-ltb input_limit (length s) h) (prints (bytes "too long\n") m (fits a (omega arith)))

pub refuses_short : (s before : List ℕ) → length before < room → Printed (transcript s) before before 0
unfolding printed printed_length
refuses_short s before h =
    let short = lt-ltb (length before) room h in
    record { answers = rw short; leaves = rw short; inside = omega arith; whole = refl }

-- ---- what the code holds in the loop

-- it holds a store, on which the stream goes on
pub record Running (s before out : List ℕ) (h : Held) (at number end : ℕ) : Type 0 where
  pub store : Store
  pub holds : Holds h store
  pub going : Going s before out store at number end

pub running_start : (s out : List ℕ) → Running s out out nothing_held 0 0 0
unfolding empty_store nothing_held nothing_kept
running_start s out =
    record {
      store = empty_store;
      holds = record { kept = keeps_empty; positions = refl; cash = refl; long = length-replicate {A = ℕ} step_numbers 0 };
      going = going_start s out;
    }

module _ (s before out : List ℕ) (h : Held) (at number end : ℕ) (r : Running s before out h at number end) where
  -- as many positions and balances as document 01 has
  pub positions_long : position_count ≡ length h.positions
  positions_long = sym (ap length r.holds.positions ∙ r.going.ready.positions)

  pub cash_long : cash_count ≡ length h.cash
  cash_long = sym (ap length r.holds.cash ∙ r.going.ready.cash)

  module _ (short : length s ≤ input_limit) (large : room ≤ length before) where
    -- a turn's number is small, and there is room for its lines
    pub turn_fits : at < length s → (number + 1 < 1_000_000) × (end + 400 ≤ length out)
    turn_fits l = let g = r.going in (omega (arith, g.counted), omega (arith, g.roomy l, g.same))

    module _ (l : at < length s) (after : List ℕ) (t : Turn) (h' : Held) (k : Takes (told s (number + 1) at r.store) out end after t h') where
      pub runs_on : Running s before after h' t.at (number + 1) t.end
      runs_on =
          record {
            store = (told s (number + 1) at r.store).left;
            holds = k.left;
            going = goes_on_lem s before out r.store at number end r.going short large l after t h' k;
          }

      pub less_left : length s - t.at < length s - at
      less_left =
          let m = turn s before out r.store at number end r.going short large l in
          omega (arith, m.on, m.within, k.on)

    pub prints_all : length s ≤ at → (after : List ℕ) (n : ℕ) → Appended out end after n (ending_in h.kept h.positions h.cash) → Printed (transcript s) before after n
    prints_all l after n a =
        let st = r.store in
        let g = r.going in
        prints_lines s before after n short large
        (all_told s before out st at number end g short large after n l (named (ending_is h.kept h.positions h.cash st r.holds.kept r.holds.positions r.holds.cash (totalled st g.ready g.bounded)) a))
