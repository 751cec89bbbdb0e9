-- `text::pieces::put_few` meets its contract: a number below 10 has one digit, below 100 two, below 1,000 three. Assumes nothing.
use mathlib.Core.Path.{sym}
use native.Mathlib.Omega.{arith}
use Rattle.text.proofs.Appends.{then, named}
use Rattle.text.proofs.Digits.{digits_three, one_is, two_are}
use Rattle.text.proofs.pieces.put_few.Goals as goal

pub returns-then-n-lt10 : goal.returns-then-n-lt10
returns-then-n-lt10 c =
    named (one_is c.args.n _ c.last_digit.ensures c.if-n-lt10.true) c.put_byte.ensures

pub returns-then-n-lt100 : goal.returns-then-n-lt100
returns-then-n-lt100 c =
    let n = c.args.n in
    named (two_are n _ _ c.last_digit-then-n-lt100.ensures c.last_digit-then-n-lt100-2.ensures c.if-n-lt10.false c.if-n-lt100.true)
    (then c.put_byte-tens.ensures c.put_byte-then-n-lt100.ensures)

pub returns : goal.returns
returns c =
    named (sym (digits_three 20 c.args.n (omega arith) c.if-n-lt100.false c.requires)) c.put_three.ensures
