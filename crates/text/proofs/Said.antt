-- Laws of lines: a command's line and its steps.
use mathlib.Core.Path.{◌≡◌, refl, sym, ap}
use Prim.Native.Nat.{ℕ}
use mathlib.Core.List.{List, [], ◌∷◌, ◌++◌, append_assoc}
use lib.ListN.{take}
use lib.Seq.{take-nil}
use Rattle.rules.specs.declared.Step.{Step}
use Rattle.rules.specs.declared.Answer.{Answer}
use Rattle.rules.specs.Calls.{count_of}
use Rattle.rules.specs.Stream.{bytes, decimal, step_line, step_lines, answer_text, said}

-- a line without steps
pub line_alone : (n : ℕ) (a : Answer) → said n a [] ≡ decimal n ++ (bytes " " ++ (answer_text a ++ bytes "\n"))
unfolding said step_lines
line_alone n a = ap (λ (xs : List Step). decimal n ++ (bytes " " ++ (answer_text a ++ (bytes "\n" ++ step_lines xs)))) (take-nil (count_of a))

-- the line, then the steps
pub line_and_steps : (n : ℕ) (a : Answer) (xs : List Step) → said n a [] ++ step_lines (take (count_of a) xs) ≡ said n a xs
unfolding said
line_and_steps n a xs = rw (line_alone n a) (simp append_assoc)

-- the steps' lines in pieces
pub lines_append : (xs ys : List Step) → step_lines (xs ++ ys) ≡ step_lines xs ++ step_lines ys
unfolding step_lines
lines_append [] ys = refl
lines_append (x ∷ xs) ys = rw (lines_append xs ys) (sym (append_assoc (step_line x) (step_lines xs) (step_lines ys)))
