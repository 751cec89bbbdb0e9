-- `text::pieces::put_signed` meets its contract: a minus where the number is below 0, then its magnitude. Assumes nothing.
use Rattle.text.proofs.Appends.{named}
use Rattle.text.proofs.Signs.{written_below, written_above}
use Rattle.text.proofs.pieces.put_signed.Goals as goal

pub returns-then-v-lt0 : goal.returns-then-v-lt0
returns-then-v-lt0 c = named (written_below c.args.v c.magnitude.result c.ranges.v c.if-v-lt0.true c.magnitude.ensures) c.put_counted.ensures

pub returns : goal.returns
returns c = named (written_above c.args.v c.magnitude-2.result c.ranges.v c.if-v-lt0.false c.magnitude-2.ensures) c.put_decimal.ensures
