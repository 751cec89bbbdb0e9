-- How long the lines are: by their parts, and at most so many bytes where the numbers in them are small.
use mathlib.Core.Path.{◌≡◌, refl, ap}
use Prim.Native.Nat.{ℕ, suc, ◌+◌, ◌*◌, ◌^◌, ◌≤◌, ◌<◌}
use native.Mathlib.Nat.{mul-suc}
use native.Mathlib.Omega.{arith}
use mathlib.Core.List.{List, [], ◌∷◌, Memᴰ}
use lib.IntN.{ℤ, pos, negsuc}
use lib.ListN.{length, take, length-append, length-take}
use lib.Seq.{take-nil}
use Rattle.rules.specs.declared.Step.{Step}
use Rattle.rules.specs.declared.Units.{Units}
use Rattle.rules.specs.declared.Cents.{Cents}
use Rattle.rules.specs.declared.Answer.{Answer}
use Rattle.rules.specs.declared.Answer.TheVariants.{Accepted, Booked, Chained, Refused}
use Rattle.rules.specs.Calls.{number_of, count_of}
use Rattle.rules.specs.Stream.{decimal, signed, step_line, step_lines, answer_text, said, total_line, cash_line}
use Rattle.text.proofs.Digits.{few_digits, digits_at_most}

-- ---- numbers

pub short_decimal : (m n : ℕ) → n < 10 ^ suc m → length (decimal n) ≤ suc m
short_decimal m n h = few_digits 20 m n h

pub signed_long : (z : ℤ) → length (signed z) ≤ 21
unfolding signed
signed_long (pos n) = omega (arith, digits_at_most 20 n)
signed_long (negsuc n) = omega (arith, digits_at_most 20 (suc n))

-- ---- steps

pub step_long : (x : Step)
    → length (step_line x) ≡ 2 + (length (decimal x.csd) + (1 + (length (decimal x.debited) + (1 + (length (decimal x.credited) + 1)))))
unfolding step_line
step_long x = simp length-append (omega arith)

pub short_steps : (b : ℕ) (xs : List Step) → ((x : Step) → Memᴰ x xs → length (step_line x) ≤ b) → length (step_lines xs) ≤ b * length xs
unfolding step_lines
short_steps b [] h = omega arith
short_steps b (x ∷ xs) h =
    omega (arith, h x (Memᴰ.head refl), short_steps b xs (λ y m. h y (Memᴰ.tail m)), length-append (step_line x) (step_lines xs), mul-suc b (length xs))

-- ---- a command

pub short_answer : (a : Answer) → count_of a < 100 → number_of a < 100 → length (answer_text a) ≤ 9
unfolding answer_text
short_answer Accepted k n = omega arith
short_answer (Booked i) k n = omega (arith, short_decimal 1 i (omega arith))
short_answer (Chained i) k n = omega (arith, short_decimal 1 i (omega arith))
short_answer (Refused i) k n = omega (arith, short_decimal 1 i (omega arith))

pub said_long : (n : ℕ) (a : Answer) (xs : List Step)
    → length (said n a xs) ≡ length (decimal n) + (1 + (length (answer_text a) + (1 + length (step_lines (take (count_of a) xs)))))
unfolding said
said_long n a xs = simp length-append (omega arith)

-- a line without steps, whatever its numbers
answer_long : (a : Answer) → length (answer_text a) ≤ 27
unfolding answer_text
answer_long Accepted = omega arith
answer_long (Booked i) = omega (arith, digits_at_most 20 i)
answer_long (Chained i) = omega (arith, digits_at_most 20 i)
answer_long (Refused i) = omega (arith, digits_at_most 20 i)

pub line_long : (n : ℕ) (a : Answer) → length (said n a []) ≤ 49
unfolding step_lines
line_long n a = omega (arith, said_long n a [], digits_at_most 20 n, answer_long a, ap (λ (xs : List Step). length (step_lines xs)) (take-nil (count_of a)))

-- ---- the end

pub short_total : (isin : List ℕ) (z : Units) → length (total_line isin z) ≤ 41
unfolding total_line
short_total isin z = simp length-append (omega (arith, length-take 12 isin, signed_long z.0))

pub short_cash : (z : Cents) → length (cash_line z) ≤ 27
unfolding cash_line
short_cash z = simp length-append (omega (arith, signed_long z.0))
