-- `stream::commands::Held::obey` meets its contract: each command by its own call. Assumes nothing.
use mathlib.Core.Path.{◌≡◌, refl}
use mathlib.Core.Logic.{◌⊎◌, inl, inr}
use mathlib.Core.List.{List}
use Prim.Native.Nat.{ℕ}
use Rattle.rules.specs.Calls.{move, pay}
use Rattle.rules.specs.Stream.{call_of}
use Rattle.wire.specs.declared.commands.Command.{Command}
use Rattle.wire.specs.declared.commands.Command.TheVariants.{BringIn, TakeOut, PayIn, PayOut, Settle, SettleSided, Derive, DeriveSided}
use Rattle.wire.specs.Commands.{byte_of}
use Rattle.wire.specs.Operands.{move_in, payment_in}
use Rattle.stream.specs.Obeyed.{way_for, instruction_for}
use Rattle.wire.proofs.Decoded.{csd_call, security_call, account_call, link_call, pair_call}
use Rattle.stream.proofs.commands.Held.obey.Goals as goal

pub returns-in-EnterCsd : goal.returns-in-EnterCsd
returns-in-EnterCsd c = rw c.in-EnterCsd.is (λ whole. rw (csd_call 1 c.args.operands.now refl whole, ← c.decode_csd.ensures) c.enter.ensures)

pub returns-in-EnterSecurity : goal.returns-in-EnterSecurity
returns-in-EnterSecurity c = rw c.in-EnterSecurity.is (λ whole. rw (security_call 2 c.args.operands.now refl whole, ← c.decode_security.ensures) c.enter-in-EnterSecurity.ensures)

pub returns-in-EnterAccount : goal.returns-in-EnterAccount
returns-in-EnterAccount c = rw c.in-EnterAccount.is (λ whole. rw (account_call 3 c.args.operands.now refl, ← c.decode_account.ensures) c.enter-in-EnterAccount.ensures)

pub returns-in-EnterLink : goal.returns-in-EnterLink
returns-in-EnterLink c = rw c.in-EnterLink.is (λ whole. rw (link_call 5 c.args.operands.now refl, ← c.decode_link.ensures) c.enter-in-EnterLink.ensures)

pub returns-in-EnterPair : goal.returns-in-EnterPair
returns-in-EnterPair c = rw c.in-EnterPair.is (λ whole. rw (pair_call 14 c.args.operands.now refl, ← c.decode_pair.ensures) c.enter-in-EnterPair.ensures)

-- 06 and 07, 08 and 09
moved : (x : Command) (o : List ℕ) → (x ≡ BringIn) ⊎ (x ≡ TakeOut)
    → call_of (byte_of x) o ≡ move (way_for x) (move_in o).account (move_in o).security (move_in o).quantity (move_in o).day
unfolding call_of
moved x o (inl e) = rw e
moved x o (inr e) = rw e

paid : (x : Command) (o : List ℕ) → (x ≡ PayIn) ⊎ (x ≡ PayOut)
    → call_of (byte_of x) o ≡ pay (way_for x) (payment_in o).account (payment_in o).amount
unfolding call_of
paid x o (inl e) = rw e
paid x o (inr e) = rw e

pub returns-in-BringIn : goal.returns-in-BringIn
returns-in-BringIn c = λ whole.
    rw (moved c.args.command c.args.operands.now c.in-BringIn.is) (rw (c.way_of.ensures, c.decode_move.ensures) at c.move_units.ensures)

pub returns-in-PayIn : goal.returns-in-PayIn
returns-in-PayIn c = λ whole.
    rw (paid c.args.command c.args.operands.now c.in-PayIn.is) (rw (c.way_of-in-PayIn.ensures, c.decode_payment.ensures) at c.move_money.ensures)

-- 0A to 0D
instructed : (x : Command) (o : List ℕ) → (x ≡ Settle) ⊎ (x ≡ Derive) ⊎ (x ≡ SettleSided) ⊎ (x ≡ DeriveSided) → call_of (byte_of x) o ≡ instruction_for x o
unfolding call_of
instructed x o (inl e) = rw e
instructed x o (inr (inl e)) = rw e
instructed x o (inr (inr (inl e))) = rw e
instructed x o (inr (inr (inr e))) = rw e

pub returns-in-Settle : goal.returns-in-Settle
returns-in-Settle c = λ whole. rw (instructed c.args.command c.args.operands.now c.in-Settle.is) c.instruct.ensures
