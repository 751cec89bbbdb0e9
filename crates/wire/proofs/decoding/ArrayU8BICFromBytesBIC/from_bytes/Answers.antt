-- All bytes are there. Assumes nothing.
use Rattle.wire.proofs.Parts.{all_there}
use Rattle.wire.proofs.decoding.ArrayU8BICFromBytesBIC.from_bytes.Goals as goal

pub returns : goal.returns
returns c = all_there _ 11 c.told-bytes
