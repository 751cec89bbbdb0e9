-- What stands at a place of the input: the rules' answer, with the operands' place instead of the operands. Assumes nothing.
use Rattle.std.specs.Prelude.{◌≡◌, ℕ, ◌+◌, List, length, drop, Result, MatchResult}
use Rattle.std.proofs.Math.Option.{none}
use Rattle.rules.specs.Stream as Rules
use Rattle.rules.specs.Stream.{width_of, next_of, ended, unknown, cut, command}
use Rattle.wire.specs.declared.commands.Command.{Command as OneCommand}
use Rattle.wire.specs.declared.commands.Command.TheVariants.{EnterCsd, EnterSecurity, EnterAccount, EnterLink, BringIn, TakeOut, PayIn, PayOut, Settle, Derive, SettleSided, DeriveSided, EnterPair}
use Rattle.wire.specs.declared.commands.UnknownByte.{UnknownByte}
use Rattle.wire.specs.declared.commands.Next.{Next}
use Rattle.wire.specs.declared.commands.Next.TheVariants.{End as the_end, Unknown as unknown_byte, Cut as cut_short, Command as one_command}

-- "01" to "03" and "05" to "0E"
abbrev pub byte_of : OneCommand → ℕ
byte_of EnterCsd = 1
byte_of EnterSecurity = 2
byte_of EnterAccount = 3
byte_of EnterLink = 5
byte_of BringIn = 6
byte_of TakeOut = 7
byte_of PayIn = 8
byte_of PayOut = 9
byte_of Settle = 10
byte_of Derive = 11
byte_of SettleSided = 12
byte_of DeriveSided = 13
byte_of EnterPair = 14

-- the command of a byte, or the byte, which then is no command's
abbrev pub Reads : ℕ → Result OneCommand UnknownByte → Type 0
Reads byte r = MatchResult r (λ c. byte ≡ byte_of c) (λ e. (e.0 ≡ byte) × (width_of byte ≡ none))

-- What stands at a place: its end, an unknown byte, operands cut short, or a command's byte with the place of its operands, from where they start up to
-- their end.
pub data Placed : Type 0 where
  End : Placed
  Unknown : Placed
  Cut : Placed
  Command : ℕ → ℕ → ℕ → Placed

-- what the code's answer stands for
abbrev pub found : Next → Placed
found the_end = End
found unknown_byte = Unknown
found cut_short = Cut
found (one_command c start end) = Command (byte_of c) start end

-- what the rules find in the bytes from `at` on, with its place
abbrev pub placed : ℕ → Rules.Next → Placed
placed at ended = End
placed at unknown = Unknown
placed at cut = Cut
placed at (command tag operands rest) = Command tag (at + 1) (at + 1 + length operands)

abbrev pub next_at : List ℕ → ℕ → Placed
next_at input at = placed at (next_of (drop at input))
