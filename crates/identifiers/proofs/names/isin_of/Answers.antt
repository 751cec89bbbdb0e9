-- The bytes are the list's.
use Rattle.std.proofs.Common.{replicate, arith, ap, ◌∙◌, ℕ, List, Option}
use Rattle.std.specs.Option.{unwrap_or}
use Rattle.rules.specs.Directory.{security_limit}
use Rattle.identifiers.specs.Names.{isins, isin_size}
use Rattle.identifiers.proofs.Laws.{fetched}
use Rattle.identifiers.proofs.names.isin_of.Goals as goal

pub returns : goal.returns
returns c =
    let zeros : List ℕ = replicate isin_size 0 in
    let row = c.get-held.ensures.lookup.4 (omega arith) zeros in
    let one = fetched c.args.names.now isins isin_size security_limit c.told-names (omega arith) (omega arith) (omega arith) c.args.security in
    c.unwrap_or.ensures ∙ ap (λ (o : Option (List ℕ)). unwrap_or o zeros) c.copied.ensures ∙ row ∙ rw (c.as_chunks.ensures.front, c.from.ensures) one
