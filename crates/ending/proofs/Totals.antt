-- The end of a stream: what is held gives the lines of its store, security by security; and no total is refused, since no number is beyond ±10^15.
use mathlib.Core.Path.{◌≡◌, refl, sym, ap, ◌∙◌}
use Prim.Native.Nat.{ℕ, zero, suc, ◌+◌, ◌<◌, ◌≤◌, min}
use native.Mathlib.Nat.{min-eq_left}
use native.Mathlib.Numerals.{add-one}
use native.Mathlib.Omega.{arith}
use mathlib.Core.Bool.{Bool, true, false, ◌&&◌}
use mathlib.Core.List.{List, [], ◌∷◌, ◌++◌, append_assoc, append-nil}
use mathlib.Core.Option.{some}
use lib.IntN.{ℤ}
use lib.ListN.{length, take, get_or, get_elem?}
use lib.Seq.{take-suc, take_all, length-take-le}
use Rattle.rules.specs.declared.Account.{Account}
use Rattle.rules.specs.declared.Security.{Security}
use Rattle.std.proofs.Common.{Result, Ok, Err}
use Rattle.std.specs.Result.{result_unwrap_or}
use Rattle.rules.specs.declared.refusal.Refusal.{Refusal}
use Rattle.rules.specs.declared.Units.{Units}
use Rattle.rules.specs.declared.Cents.{Cents}
use Rattle.rules.specs.Tests.{is_row}
use Rattle.rules.specs.Directory.{Rows, rows_of, security_limit, account_limit, is_kind}
use Rattle.rules.specs.Booking.{SecurityTotal, CashTotal, units, cents, units_found, cents_found, beyond, held_in, cash_on, sum_beyond, participants, every_account, cash_count, participant_sum}
use Rattle.rules.specs.Calls.{Store}
use Rattle.rules.proofs.Permissions.{NotBeyond}
use Rattle.rules.specs.Stream.{total_line, total_lines, ending}
use Rattle.rules.proofs.Basics.{or-false, ltb-true}
use Rattle.rules.proofs.Soundness.{sound_gives}
use Rattle.rules.proofs.Running.{Ready}
use Rattle.rules.proofs.Limits.{Bounded}
use Rattle.index.specs.Index.{security_count, place_of, number_at}
use Rattle.index.specs.Asked.{read, asked}
use Rattle.index.proofs.Answers.{answers}
use Rattle.identifiers.specs.Names.{isin_of}
use Rattle.refusals.specs.declared.kept.Kept.{Kept}
use Rattle.refusals.specs.Kept.{Keeps}
use Rattle.identifiers.proofs.Identified.{isin_shown}
use Rattle.ending.specs.Ending.{units_in, cents_in, total_in, totals_in, securities_in, ending_in, Totalled}
use Rattle.holdings.specs.Sums.{security_total, cash_total}

-- ---- the lines of a directory's securities

module _ (acc : List Account) (p : List ℤ) where
  abbrev line : ℕ → Security → List ℕ
  line s x = total_line x.isin (participant_sum (is_kind acc) p s)

  lines_append : (s : ℕ) (xs ys : List Security) → total_lines acc p s (xs ++ ys) ≡ total_lines acc p s xs ++ total_lines acc p (s + length xs) ys
  unfolding total_lines
  lines_append s [] ys = let e : s ≡ s + 0 = omega arith in ap (λ (n : ℕ). total_lines acc p n ys) e
  lines_append s (x ∷ xs) ys =
      let e : suc s + length xs ≡ s + suc (length xs) = omega arith in
      ap (λ (l : List ℕ). line s x ++ l) (lines_append (suc s) xs ys ∙ ap (λ (n : ℕ). total_lines acc p (suc s) xs ++ total_lines acc p n ys) e)
      ∙ sym (append_assoc (line s x) (total_lines acc p (suc s) xs) (total_lines acc p (s + suc (length xs)) ys))

  -- one security more
  total_more : (xs : List Security) (i : ℕ) (d : Security) → i < length xs
      → total_lines acc p 0 (take i xs) ++ line i (get_or xs i d) ≡ total_lines acc p 0 (take (suc i) xs)
  unfolding total_lines
  total_more xs i d h =
      let e : 0 + length (take i xs) ≡ i = omega (arith, length-take-le i xs (omega arith)) in
      rw (take-suc xs i d h, lines_append 0 (take i xs) (get_or xs i d ∷ []), e, append-nil)

-- the security at a place in use
row_at : (xs : List Security) (i : ℕ) (d : Security) → i < length xs → get_elem? xs i ≡ some (get_or xs i d)
row_at [] i d h = absurd (omega arith)
row_at (x ∷ xs) zero d h = refl
row_at (x ∷ xs) (suc i) d h = row_at xs i d (omega arith)

-- ---- the lines of what is held

-- the loop counts as far
pub counted : (l : List ℕ) → securities_in l ≡ min (number_at l (place_of security_count)) security_limit
unfolding securities_in read
counted l = refl

-- a total, 0 where it is refused
pub units_or : (r : Result Units Refusal) (z : SecurityTotal) → units_found r ≡ z → result_unwrap_or r (units 0) ≡ units_in z
unfolding units_in
units_or (Ok x) z e = ap units_in e
units_or (Err n) z e = ap units_in e

pub cents_or : (r : Result Cents Refusal) (z : CashTotal) → cents_found r ≡ z → result_unwrap_or r (cents 0) ≡ cents_in z
unfolding cents_in
cents_or (Ok x) z e = ap cents_in e
cents_or (Err n) z e = ap cents_in e

-- one security more
pub total_told : (k : Kept) (p : List ℤ) (i : ℕ) (isin : List ℕ) (z : Units) → isin ≡ isin_of k.names i → z ≡ units_in (security_total (asked k.numbers) p i)
    → totals_in k p i ++ total_line isin z ≡ totals_in k p (i + 1)
unfolding totals_in
total_told k p i isin z e f = rw (add-one i, e, f)

module _ (k : Kept) (st : Store) (h : Keeps k st.directory) (t : Totalled st) where
  abbrev rows : Rows
  rows = rows_of st.directory

  -- a total that is not refused is its sum
  sum_is : (s : ℕ) → s < length rows.securities → units_in (security_total (asked k.numbers) st.positions s) ≡ participant_sum (is_kind rows.accounts) st.positions s
  unfolding units_in
  sum_is s l = rw (answers.ever k.numbers st.directory h.indexed, t.units s l)

  line_is : (s : ℕ) (d : Security) → s < length rows.securities → total_in k st.positions s ≡ line rows.accounts st.positions s (get_or rows.securities s d)
  unfolding total_line
  line_is s d l = rw (isin_shown h.indexed h.named s (get_or rows.securities s d) (row_at rows.securities s d l), sum_is s l)

  lines_are : (n : ℕ) → n ≤ length rows.securities → totals_in k st.positions n ≡ total_lines rows.accounts st.positions 0 (take n rows.securities)
  unfolding totals_in total_lines
  lines_are zero l = refl
  lines_are (suc n) l =
      let d : Security = record { isin = [] } in
      rw (lines_are n (omega arith), line_is n d (omega arith)) (total_more rows.accounts st.positions rows.securities n d (omega arith))

  all_are : securities_in k.numbers ≡ length rows.securities
  unfolding securities_in read number_at
  all_are = rw (h.indexed.at security_count tt) (min-eq_left (sound_gives st.directory h.indexed.sound_books 0).few_securities)

-- what stands at the end
pub ending_is : (k : Kept) (p c : List ℤ) (st : Store) → Keeps k st.directory → p ≡ st.positions → c ≡ st.cash → Totalled st → ending_in k p c ≡ ending st
unfolding ending_in ending cents_in
ending_is k p c st h e f t =
    let xs = (rows_of st.directory).securities in
    rw (e, f, all_are k st h t, lines_are k st h t (length xs) (omega arith), take_all (length xs) xs (omega arith), t.cents)

-- ---- no total is refused

none_beyond : (w : ℕ → Bool) (f : ℕ → ℤ) (n : ℕ) → ((a : ℕ) → NotBeyond (f a)) → sum_beyond w f n ≡ false
unfolding sum_beyond
none_beyond w f zero h = refl
none_beyond w f (suc n) h = or-false (sum_beyond w f n) (w n && beyond (f n)) (none_beyond w f n h) (rw (h n) (go (w n)))
  where
    go : (x : Bool) → (x && false) ≡ false
    go true = refl
    go false = refl

pub totalled : (st : Store) → Ready st → Bounded st → Totalled st
unfolding security_total cash_total is_row
totalled st h b =
    let rows = rows_of st.directory in
    let few : length rows.securities ≤ security_limit = (sound_gives st.directory h.sound_books 0).few_securities in
    record {
      units = λ s l.
          rw (
            ltb-true s (length rows.securities) l,
            none_beyond (participants (is_kind rows.accounts)) (held_in st.positions s) account_limit (λ a. b.positions s a (omega arith)),
          );
      cents = rw (none_beyond every_account (cash_on st.cash) cash_count b.cash);
    }
