-- The numbers below 1,000 as words of four bytes, one after another, how many bytes of its word are a number's text, and what stands before a place of a
-- buffer. Assumes nothing.
use Rattle.std.specs.Prelude.{◌≡◌, ℕ, zero, suc, ◌+◌, ◌-◌, ◌/◌, ◌%◌, List, [], ◌∷◌, ◌++◌, length, take, drop}
use Rattle.rules.specs.Stream.{decimal}

-- three decimal digits and the byte b behind them
abbrev pub word_of : ℕ → ℕ → List ℕ
word_of b n = (n / 100 % 10 + 48) ∷ ((n / 10 % 10 + 48) ∷ ((n % 10 + 48) ∷ (b ∷ [])))

-- the words of the numbers below n
unfoldable pub words_to : ℕ → ℕ → List ℕ
words_to b zero = []
words_to b (suc n) = words_to b n ++ word_of b n

-- those of every number of at most three digits
unfoldable pub number_words : ℕ → List ℕ
number_words b = words_to b 1_000

-- the digits of a number and the byte behind them
abbrev pub size_of : ℕ → ℕ
size_of n = length (decimal n) + 1

-- of the numbers below n
unfoldable pub sizes_to : ℕ → List ℕ
sizes_to zero = []
sizes_to (suc n) = sizes_to n ++ (size_of n ∷ [])

-- of every number of at most three digits
unfoldable pub number_sizes : List ℕ
number_sizes = sizes_to 1_000

-- `out` has become `out'`: the text stands before the place `end`; the bytes from there on, and those that lie more than four before it, are as they were
pub record Before (out : List ℕ) (end : ℕ) (out' : List ℕ) (text : List ℕ) : Type 0 where
  pub front : take (end - 4) out' ≡ take (end - 4) out
  pub tail : drop (end - length text) out' ≡ text ++ drop end out
  pub same : length out' ≡ length out
