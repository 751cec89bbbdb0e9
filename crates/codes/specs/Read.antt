-- The command bytes that an export knows, and 1 and 2 by such a byte and its operands. Assumes nothing.
use Rattle.std.specs.Prelude.{ℕ, Bool, ◌&&◌, ◌||◌, not, List, [], ◌∷◌, eqb, leb, ltb, length}
use Rattle.std.proofs.Math.Option.{Option, none, some}
use Rattle.rules.specs.Tests.{Condition, ◌when◌}
use Rattle.rules.specs.Stream.{width_of}

-- 01 to 03, 05 and 0E enter a row
abbrev pub is_entry : ℕ → Bool
is_entry tag = (leb 1 tag && leb tag 3) || (eqb tag 5 || eqb tag 14)

-- 06 to 09 bring in, take out, pay in, pay out
abbrev pub is_move : ℕ → Bool
is_move tag = leb 6 tag && leb tag 9

-- as many bytes as are asked for, none for an unknown byte
abbrev pub asked : Option ℕ → ℕ
asked none = 0
asked (some w) = w

-- how many operand bytes a command byte asks for
abbrev pub width : ℕ → ℕ
width tag = asked (width_of tag)

-- 1: "unknown byte"; 2: "operands cut short"
abbrev pub read_conditions : Bool → ℕ → List ℕ → List Condition
read_conditions known tag o = 1 when not known ∷ 2 when ltb (length o) (width tag) ∷ []
