-- `stream::words::Tables::size` meets its contract: a number's size stands at its place, and is 2 to 4. Assumes nothing.
use Rattle.stream.proofs.Table.{few_bytes, size_stands}
use Rattle.stream.proofs.words.Tables.size.Goals as goal

pub returns : goal.returns
returns c =
    let e = size_stands _ c.args.n c.args.self.now.measured c.requires in
    (e, rw e (few_bytes c.args.n c.requires))
