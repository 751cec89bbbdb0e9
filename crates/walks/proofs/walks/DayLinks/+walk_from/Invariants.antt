use Rattle.walks.proofs.walks.DayLinks.+walk_from.Given as goal

-- the CSDs still allowed
abbrev pub decreases-walk_from : goal.decreases-walk_from
decreases-walk_from l = l.left
