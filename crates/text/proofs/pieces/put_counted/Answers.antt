-- `text::pieces::put_counted` meets its contract: one text after another. Assumes nothing.
use Rattle.text.proofs.Appends.{then}
use Rattle.text.proofs.pieces.put_counted.Goals as goal

pub returns : goal.returns
returns c = then c.put_word-behind.ensures c.put_decimal.ensures
