-- Text appended in a buffer: what stands there afterwards, and where it ends. Assumes nothing.
use Rattle.std.specs.Prelude.{◌≡◌, ℕ, List, ◌++◌, length, take, drop}

-- the text up to `at` and then the new text, as far as the buffer goes
abbrev pub shown : List ℕ → ℕ → List ℕ → List ℕ
shown out at text = take (length out) (take at out ++ text)

-- `out` has become `out'`: up to the place `end` it holds the text up to `at` and then the new text, as far as it goes; the bytes behind `end`
-- are as they were
pub record Appended (out : List ℕ) (at : ℕ) (out' : List ℕ) (end : ℕ) (text : List ℕ) : Type 0 where
  pub ends : end ≡ length (shown out at text)
  pub front : take end out' ≡ shown out at text
  pub rest : drop end out' ≡ drop end out
  pub same : length out' ≡ length out
