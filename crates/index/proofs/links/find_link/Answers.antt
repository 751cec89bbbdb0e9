-- Whether a link is one does not depend on CSD and security.
use Rattle.std.proofs.Common.{rules}
use borrow.Author.Rules.{lives}
use Rattle.index.proofs.LinkReading.{found_same}
use Rattle.index.proofs.links.find_link.Goals as goal

pub newest_with-requires : goal.newest_with-requires
newest_with-requires c k h =
    let a = c.args in
    (search lives depth 16 fits 5000, (search rules, λ p b le post. found_same a.wanted a.first a.last a.index.now a.security a.csd p b (search rules)))
