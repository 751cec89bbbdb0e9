-- `text::pieces::put_word` meets its contract: so far the word's first bytes are appended. Assumes nothing.
use Prim.Native.Nat.{◌≤◌}
use lib.ListN.{length, take}
use Rattle.text.specs.Appended.{Appended}
use Rattle.text.proofs.pieces.put_word.Given as goal

abbrev pub invariant-loop-byte : goal.invariant-loop-byte
invariant-loop-byte l = (l.byte-index ≤ length l.word) × Appended l.initial.out l.at l.out l.end (take l.byte-index l.word)
