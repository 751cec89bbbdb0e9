-- `text::pieces::put_three` meets its contract: one byte after another. Assumes nothing.
use Rattle.text.proofs.Appends.{then, named}
use Rattle.text.proofs.Digits.{listed}
use Rattle.text.proofs.pieces.put_three.Goals as goal

pub returns : goal.returns
returns c =
    named (listed c.last_digit.ensures c.last_digit-2.ensures c.last_digit-3.ensures)
    (then c.put_byte-hundreds.ensures (then c.put_byte-tens.ensures c.put_byte.ensures))
