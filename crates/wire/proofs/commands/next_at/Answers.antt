-- `wire::commands::next_at` meets its contract: each answer by the tests that lead to it. Assumes nothing.
use mathlib.Core.Path.{sym}
use native.Mathlib.Omega.{arith}
use Rattle.wire.proofs.Found.{finds_end, finds_unknown, finds_cut, finds_command}
use Rattle.wire.proofs.commands.next_at.Goals as goal

pub returns-in_default : goal.returns-in_default
returns-in_default c = sym (finds_end c.args.input.now c.args.at (omega (arith, c.in_default.ensures.lookup)))

pub returns-in_default-try_from : goal.returns-in_default-try_from
returns-in_default-try_from c =
    let read = c.in-Some.ensures.lookup.3 in
    sym (finds_unknown _ _ read.0 (rw (read.1 0) at c.in_default-try_from.ensures.1))

pub returns-then-input-start : goal.returns-then-input-start
returns-then-input-start c =
    let read = c.in-Some.ensures.lookup.3 in
    sym (finds_cut _ _ read.0 _ (rw (← c.in-Ok.ensures, read.1 0) at c.width-width.ensures) c.if-input-start.true)

pub returns : goal.returns
returns c =
    let read = c.in-Some.ensures.lookup.3 in
    rw (← c.in-Ok.ensures, read.1 0)
    (sym (finds_command _ _ read.0 _ (rw (← c.in-Ok.ensures, read.1 0) at c.width-width.ensures) c.if-input-start.false))
