-- `stream::turns::take_turn` meets its contract: by what stands at the place, nothing, a stop, or a command obeyed and told. Assumes nothing.
use mathlib.Core.Path.{sym, ap, ◌∙◌}
use native.Mathlib.Omega.{arith}
use Rattle.text.proofs.Appends.{ends_by}
use Rattle.text.proofs.Lengths.{line_long}
use Rattle.wire.specs.Commands.{byte_of, found}
use Rattle.wire.proofs.Found.{stands, operands_long}
use Rattle.stream.proofs.Telling.{takes_nothing, takes_unknown, takes_cut, takes_command}
use borrow.Author.Rules.{rules}
use Rattle.stream.proofs.turns.take_turn.Goals as goal

pub put_steps-last-requires : goal.put_steps-last-requires
put_steps-last-requires c =
    let put = c.put_line_by-told.ensures in
    let long = line_long c.args.number c.obey-answer.result in
    omega (arith, ends_by put, put.same)

pub returns-in-End : goal.returns-in-End
returns-in-End c = λ st holds.
    let a = c.args in
    takes_nothing a.input.now a.number a.at a.out.now a.end st _ holds _ _ (sym c.next_in.ensures ∙ ap found c.in-End.is) c.put_word.ensures

pub returns-in-Unknown : goal.returns-in-Unknown
returns-in-Unknown c = λ st holds.
    let a = c.args in
    takes_unknown a.input.now a.number a.at a.out.now a.end st _ holds _ _ (sym c.next_in.ensures ∙ ap found c.in-Unknown.is) c.stop.ensures

pub returns-in-Cut : goal.returns-in-Cut
returns-in-Cut c = λ st holds.
    let a = c.args in
    takes_cut a.input.now a.number a.at a.out.now a.end st _ holds _ _ (sym c.next_in.ensures ∙ ap found c.in-Cut.is) c.stop-in-Cut.ensures

pub returns-in-Command : goal.returns-in-Command
returns-in-Command c = λ st holds.
    let a = c.args in
    let x = c.in-Command in
    let next = sym c.next_in.ensures ∙ ap found c.in-Command.is in
    let whole = operands_long (stands a.input.now a.at (byte_of x.command) x.start x.after next) in
    takes_command a.input.now a.number a.at a.out.now a.end st (byte_of x.command) x.start x.after _ _ _ _ _ _ _ next
    (c.obey-answer.ensures whole st holds) c.put_line_by-told.ensures c.count_of.ensures c.put_steps-last.ensures

pub slice_bounds-obey-end : goal.slice_bounds-obey-end
slice_bounds-obey-end c =
    let a = c.args in
    let x = c.in-Command in
    let h = stands a.input.now a.at (byte_of x.command) x.start x.after (sym c.next_in.ensures ∙ ap found x.is) in
    search rules
