-- All bytes are there. Assumes nothing.
use Rattle.wire.proofs.Parts.{all_there}
use Rattle.wire.proofs.operands.SecurityFromBytesSECURITY_WIDTH.from_bytes.Goals as goal

pub returns : goal.returns
returns c = let e = all_there c.args.bytes.now 12 c.told-bytes in rw (← e)
