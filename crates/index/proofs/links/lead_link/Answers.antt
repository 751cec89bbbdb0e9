-- Whether a link is one does not depend on CSD and security.
use Rattle.std.proofs.Common.{rules}
use borrow.Author.Rules.{lives}
use Rattle.index.specs.Asked.{link_in}
use Rattle.index.proofs.links.lead_link.Goals as goal

pub newest_with-requires : goal.newest_with-requires
unfolding link_in
newest_with-requires c k h = (search lives depth 16 fits 5000, (search rules, λ p b le post. search rules))
