-- Commands and program, as document 01 has them: operands, commands, and the whole text that `realign` prints. Assumes nothing.
use Rattle.std.specs.Prelude.{ℕ, zero, suc, ◌+◌, ◌*◌, ◌/◌, ◌%◌, ◌≤◌, ◌≡◌, cond, List, [], ◌∷◌, ◌++◌, ℤ, pos, negsuc, ltb, eqb, length, get_or, take, drop, replicate}
use Prim.Native.Char.{code}
use Prim.Native.String.{String, [] as none', ◌∷◌ as ◌then◌}
use Rattle.std.proofs.Math.Option.{Option, none, some}
use Rattle.std.proofs.Math.ListN.{get_elem?}
use Rattle.rules.specs.Types.{Account, Security, Half, SidedHalf, Step, Units, Cents, Answer, Accepted, Booked, Chained, Refused}
use Rattle.rules.specs.Directory.{rows_of, is_kind}
use Rattle.rules.specs.Entries.{Row, csd_row, security_row, account_row, pair_row, link_row}
use Rattle.rules.specs.Chain.{step_limit}
use Rattle.rules.specs.Booking.{Way, incoming, outgoing, participant_sum, cash_sum}
use Rattle.rules.specs.Calls.{Halves, ordered, sided, Store, Call, enter, move, pay, settle, derive, Outcome, desk, count_of, empty_store}

-- ---- operands

-- "operands big-endian of fixed widths": the number of the w bytes from index at on
unfoldable pub number_at : List ℕ → ℕ → ℕ → ℕ
number_at o at zero = 0
number_at o at (suc w) = number_at o at w * 256 + get_or o (at + w) 0

-- the w bytes from index at on
abbrev pub bytes_at : List ℕ → ℕ → ℕ → List ℕ
bytes_at o at w = take w (drop at o)

-- "01 type 1, BIC 11"
abbrev pub csd_at : List ℕ → Row
csd_at o = csd_row (record { external = number_at o 0 1; bic = bytes_at o 1 11 })

-- "02 ISIN 12"
abbrev pub security_at : List ℕ → Row
security_at o = security_row (record { isin = bytes_at o 0 12 })

-- "03 CSD 1, kind 1"
abbrev pub account_at : List ℕ → Row
account_at o = account_row (record { csd = number_at o 0 1; kind = number_at o 1 1 })

-- "investor 1, technical 1, accounts 2 and 2" (01); "Command 0E enters the longer row, served account last (2 bytes)" (02)
abbrev pub pair_at : List ℕ → Row
pair_at o =
    pair_row (record {
      investor = number_at o 0 1;
      technical = number_at o 1 1;
      mirror = number_at o 2 2;
      omnibus = number_at o 4 2;
      served = number_at o 6 2;
    })

-- "05 security 1, kind 1, CSD 1, technical 1, flag 1, account 2" (01); "a first and last day .. stand last in 05, 2 bytes each" (02)
abbrev pub link_at : List ℕ → Row
link_at o =
    link_row (record {
      security = number_at o 0 1;
      kind = number_at o 1 1;
      csd = number_at o 2 1;
      technical = number_at o 3 1;
      flag = number_at o 4 1;
      account = number_at o 5 2;
      first = number_at o 7 2;
      last = number_at o 9 2;
    })

-- bytes of a day: "as their last 2 bytes" (02)
abbrev pub day_width : ℕ
day_width = 2

-- "06 in, 07 out: account 2, security 1, quantity 8" (01), and the day (02)
abbrev pub move_at : Way → List ℕ → Call
move_at w o = move w (number_at o 0 2) (number_at o 2 1) (number_at o 3 8) (number_at o 11 day_width)

-- "08 in, 09 out: account 2, amount 8"
abbrev pub pay_at : Way → List ℕ → Call
pay_at w o = pay w (number_at o 0 2) (number_at o 2 8)

-- "each account 2, counterpart CSD 1, security 1, quantity 8, amount 8"
abbrev pub half_at : List ℕ → ℕ → Half
half_at o at =
    record {
      account = number_at o at 2;
      counterpart = number_at o (at + 2) 1;
      security = number_at o (at + 3) 1;
      quantity = number_at o (at + 4) 8;
      amount = number_at o (at + 12) 8;
    }

-- bytes of a half
abbrev pub half_width : ℕ
half_width = 20

-- "0A settle, 0B derive: two halves, delivering first"
abbrev pub ordered_at : List ℕ → Halves
ordered_at o = ordered (half_at o 0) (half_at o half_width)

-- "one byte before each half"
abbrev pub sided_half_at : List ℕ → ℕ → SidedHalf
sided_half_at o at = record { side = number_at o at 1; half = half_at o (at + 1) }

-- "0C (settle) and 0D (derive) are 0A and 0B with one byte before each half" (02)
abbrev pub sided_at : List ℕ → Halves
sided_at o = sided (sided_half_at o 0) (sided_half_at o (half_width + 1))

-- the day of two halves, which stands once behind them, and of two with their sides
abbrev pub ordered_day_at : List ℕ → ℕ
ordered_day_at o = number_at o (half_width + half_width) day_width

abbrev pub sided_day_at : List ℕ → ℕ
sided_day_at o = number_at o (half_width + 1 + (half_width + 1)) day_width

-- the step list that the program lends
abbrev pub blank_step : Step
blank_step = record { csd = 0; debited = 0; credited = 0 }

-- 16 of them
abbrev pub program_steps : List Step
program_steps = replicate step_limit blank_step

-- ---- commands

-- the operands' widths of the commands 01 to 0E; that of 04 is not read
abbrev pub widths : List ℕ
widths = 12 ∷ 12 ∷ 2 ∷ 0 ∷ 11 ∷ 13 ∷ 13 ∷ 10 ∷ 10 ∷ 42 ∷ 42 ∷ 44 ∷ 44 ∷ 8 ∷ []

-- "04 becomes an unknown byte" (02)
abbrev pub former_tag : ℕ
former_tag = 4

-- how many operand bytes follow a command byte; none for an unknown byte
abbrev pub width_of : ℕ → Option ℕ
width_of zero = none
width_of (suc n) = cond (eqb (suc n) former_tag) none (get_elem? widths n)

-- the call of a command byte with its operands
unfoldable pub call_of : ℕ → List ℕ → Call
call_of tag o =
    cond (eqb tag 1) (enter (csd_at o))
    (cond (eqb tag 2) (enter (security_at o))
    (cond (eqb tag 3) (enter (account_at o))
    (cond (eqb tag 5) (enter (link_at o))
    (cond (eqb tag 6) (move_at incoming o)
    (cond (eqb tag 7) (move_at outgoing o)
    (cond (eqb tag 8) (pay_at incoming o)
    (cond (eqb tag 9) (pay_at outgoing o)
    (cond (eqb tag 10) (settle (ordered_at o) (ordered_day_at o) program_steps)
    (cond (eqb tag 11) (derive (ordered_at o) (ordered_day_at o) program_steps)
    (cond (eqb tag 12) (settle (sided_at o) (sided_day_at o) program_steps)
    (cond (eqb tag 13) (derive (sided_at o) (sided_day_at o) program_steps)
    (enter (pair_at o)))))))))))))

-- What the reader finds at its place: the end, an unknown byte (1), operands cut short (2), or a command with its operands and the
-- bytes behind it.
pub data Next : Type 0 where
  ended : Next
  unknown : Next
  cut : Next
  command : ℕ → List ℕ → List ℕ → Next

-- by the width of the operands that a command byte asks for
abbrev pub by_width : ℕ → List ℕ → Option ℕ → Next
by_width tag rest none = unknown
by_width tag rest (some w) = cond (ltb (length rest) w) cut (command tag (take w rest) (drop w rest))

-- "the operands are the bytes from there to the command's end"
unfoldable pub next_of : List ℕ → Next
next_of [] = ended
next_of (tag ∷ rest) = by_width tag rest (width_of tag)

-- ---- text

-- the bytes of a word
abbrev pub bytes : String → List ℕ
bytes none' = []
bytes (c then s) = code c ∷ bytes s

-- the decimal digits of n, at most k of them
unfoldable pub digits : ℕ → ℕ → List ℕ
digits zero n = []
digits (suc k) n = cond (ltb n 10) ((n % 10 + 48) ∷ []) (digits k (n / 10) ++ ((n % 10 + 48) ∷ []))

-- a number of 64 bits has at most 20 digits
abbrev pub decimal : ℕ → List ℕ
decimal n = digits 20 n

-- a number with its sign
unfoldable pub signed : ℤ → List ℕ
signed (pos n) = decimal n
signed (negsuc n) = bytes "-" ++ decimal (suc n)

-- "a line per step: `-`, CSD, debited, credited"
unfoldable pub step_line : Step → List ℕ
step_line x = bytes "- " ++ (decimal x.csd ++ (bytes " " ++ (decimal x.debited ++ (bytes " " ++ (decimal x.credited ++ bytes "\n")))))

-- the steps' lines
unfoldable pub step_lines : List Step → List ℕ
step_lines [] = []
step_lines (x ∷ xs) = step_line x ++ step_lines xs

-- "`ok`, `no` and the refusal, or `booked` / `chain` and K"
unfoldable pub answer_text : Answer → List ℕ
answer_text Accepted = bytes "ok"
answer_text (Booked k) = bytes "booked " ++ decimal k
answer_text (Chained k) = bytes "chain " ++ decimal k
answer_text (Refused n) = bytes "no " ++ decimal n

-- "Per command a line: its number from 1, then" the answer, "followed by a line per step"
unfoldable pub said : ℕ → Answer → List Step → List ℕ
said n a xs = decimal n ++ (bytes " " ++ (answer_text a ++ (bytes "\n" ++ step_lines (take (count_of a) xs))))

-- "per security `total`, ISIN, sum of participant positions"
unfoldable pub total_line : List ℕ → Units → List ℕ
total_line isin z = bytes "total " ++ (take 12 isin ++ (bytes " " ++ (signed z.0 ++ bytes "\n")))

-- a line for each entered security, from number s on
unfoldable pub total_lines : List Account → List ℤ → ℕ → List Security → List ℕ
total_lines acc p s [] = []
total_lines acc p s (x ∷ xs) = total_line x.isin (participant_sum (is_kind acc) p s) ++ total_lines acc p (suc s) xs

-- "then `cash` and its sum"
unfoldable pub cash_line : Cents → List ℕ
cash_line z = bytes "cash " ++ (signed z.0 ++ bytes "\n")

-- what stands "At the end"
unfoldable pub ending : Store → List ℕ
ending st =
    total_lines (rows_of st.directory).accounts st.positions 0 (rows_of st.directory).securities ++ cash_line (cash_sum st.cash)

-- ---- the whole text

-- the lines of one command, and those after it
abbrev pub then_lines : ℕ → Outcome → (Store → List ℕ) → List ℕ
then_lines n o after = said n o.answer o.steps ++ after o.store

-- the lines by what the reader finds; 1 and 2 print their line before the end
abbrev pub lines_by : ℕ → Store → Next → (List ℕ → Store → List ℕ) → List ℕ
lines_by n st ended after = ending st
lines_by n st unknown after = said n (Refused 1) [] ++ ending st
lines_by n st cut after = said n (Refused 2) [] ++ ending st
lines_by n st (command tag o rest) after = then_lines n (desk (call_of tag o) st) (after rest)

-- the lines from command n on, over the bytes left, by at most k commands; "1 and 2 stop the reading"
unfoldable pub lines_from : ℕ → ℕ → List ℕ → Store → List ℕ
lines_from zero n s st = ending st
lines_from (suc k) n s st = lines_by n st (next_of s) (λ rest after. lines_from k (suc n) rest after)

-- "above 65,536 bytes"
abbrev pub input_limit : ℕ
input_limit = 65_536

-- "`realign` reads standard input; above 65,536 bytes it prints `too long` only"; a command takes a byte or more, so that there are
-- no more commands than bytes
unfoldable pub transcript : List ℕ → List ℕ
transcript s = cond (ltb input_limit (length s)) (bytes "too long\n") (lines_from (length s) 1 s empty_store)

-- ---- what a run leaves in its output

-- bytes that hold any transcript: at most 6 for a byte of input, a stop and the end
abbrev pub room : ℕ
room = 400_000

-- the output after a run: the text at its front, the rest untouched; an output of less than `room` bytes stays as it was
unfoldable pub printed : List ℕ → List ℕ → List ℕ
printed text out = cond (ltb (length out) room) out (text ++ drop (length text) out)

-- what a run answers: the text's length, 0 for an output that is too short
unfoldable pub printed_length : List ℕ → List ℕ → ℕ
printed_length text out = cond (ltb (length out) room) 0 (length text)

-- What a run of the program promises of its answer r and of the output that it was lent.
pub record Printed (text before after : List ℕ) (r : ℕ) : Type 0 where
  pub answers : r ≡ printed_length text before
  pub leaves : after ≡ printed text before
  -- the text is a part of the output that can be lent on
  pub inside : r ≤ length after
  pub whole : r ≡ length (take r after)
