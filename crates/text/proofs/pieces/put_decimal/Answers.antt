-- `text::pieces::put_decimal` meets its contract: below a million the last three digits stand behind those of a thousandth. Assumes nothing.
use native.Mathlib.Omega.{arith}
use Rattle.text.proofs.Appends.{then, named}
use Rattle.text.proofs.Digits.{thousands}
use Rattle.text.proofs.pieces.put_decimal.Goals as goal

pub returns-then-n-lt1000000 : goal.returns-then-n-lt1000000
returns-then-n-lt1000000 c =
    named (thousands 20 c.args.n (omega arith) c.if-n-lt1000.false c.if-n-lt1000000.true) (then c.put_few-thousands.ensures c.put_three.ensures)
