-- The customer's three demands, and what document 02 asks to be shown, proved of the definitions with no hypothesis left.
use Rattle.rules.specs.Demands.{Demand1, Demand2, Demand3}
use Rattle.rules.specs.Requests.{SideInTheHalf, Branches, Duos, AddedWhileReading, LinksOfADay, FateOfTheDay, OnAnyDay, ReachedWithin, ChainTurns, TakingBack}
use Rattle.rules.proofs.Refusals.{desk_refuses, core_refuses, units_numbered, cents_numbered}
use Rattle.rules.proofs.Ruling.{ruled, totalled}
use Rattle.rules.proofs.Derivations.{derives}
use Rattle.rules.proofs.Settlements.{books}
use Rattle.rules.proofs.Changes.{changes}
use Rattle.rules.proofs.Lists.{lists_balance, logs_balance}
use Rattle.rules.proofs.SidesWritten.{side_in_the_half}
use Rattle.rules.proofs.Branches.{branches}
use Rattle.rules.proofs.Segregated.{duos}
use Rattle.rules.proofs.Identifiers.{added_while_reading}
use Rattle.rules.proofs.Dated.{links_of_a_day, fate_of_the_day, on_any_day}
use Rattle.rules.proofs.Limits.{reached_within}
use Rattle.rules.proofs.TurnedChain.{chain_turns}
use Rattle.rules.proofs.TakingBack.{taking_back}

pub demand1 : Demand1
demand1 = record { desks = desk_refuses; cores = core_refuses; units_totals = units_numbered; cash_totals = cents_numbered }

pub demand2 : Demand2
demand2 = record { derives = derives; books = books; ruled = ruled; changes = changes; totals = totalled }

pub demand3 : Demand3
demand3 = record { lists = lists_balance; logs = logs_balance }

pub ask1 : SideInTheHalf
ask1 = side_in_the_half

pub ask2 : Branches
ask2 = branches

pub ask3 : Duos
ask3 = duos

pub ask4 : AddedWhileReading
ask4 = added_while_reading

pub ask5 : LinksOfADay × FateOfTheDay × OnAnyDay
ask5 = (links_of_a_day, fate_of_the_day, on_any_day)

pub ask6 : ReachedWithin × ChainTurns × TakingBack
ask6 = (reached_within, chain_turns, taking_back)
