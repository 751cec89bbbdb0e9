-- The loop's invariant: what is found from the newest link on is what is found from this one on.
use Rattle.index.proofs.LinkReading.{LeftAt}
use Rattle.index.proofs.links.newest_with.Given as goal

abbrev pub invariant-loop-older : goal.invariant-loop-older
invariant-loop-older g l = LeftAt l.index l.security l.csd g.told l.link

abbrev pub decreases-loop-older : goal.decreases-loop-older
decreases-loop-older g l = l.link
