-- By recursion on the digits still allowed.
use Rattle.std.proofs.Common.{sym}
use Rattle.text.proofs.Appends.{no_bytes, named, then}
use Rattle.text.proofs.Digits.{digits_none, digits_one, digits_more}
use Rattle.text.proofs.pieces.+put_digits.Goals as goal

pub returns-then-k-eq0 : goal.returns-then-k-eq0
returns-then-k-eq0 t c = named (sym (digits_none _ _ c.if-k-eq0.true)) (no_bytes _ _ _ c.min.ensures)

pub returns-then-n-lt10 : goal.returns-then-n-lt10
returns-then-n-lt10 t c = named (sym (digits_one c.args.k c.args.n c.if-k-eq0.false c.if-n-lt10.true)) (rw c.last_digit.ensures at c.put_byte.ensures)

pub returns : goal.returns
returns t c = named (sym (digits_more c.args.k c.args.n c.if-k-eq0.false c.if-n-lt10.false)) (then c.put_digits-before.ensures (rw c.last_digit-2.ensures at c.put_byte-2.ensures))
