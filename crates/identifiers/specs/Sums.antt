-- The sums that the code keeps while it reads an ISIN, as the sums of the definitions.
use Rattle.rules.specs.Identifiers.{Sums}
use Rattle.identifiers.specs.declared.check_digit.Sums.{Sums as Kept}

abbrev pub sums_of : Kept → Sums
sums_of s = record { last = s.last; other = s.other }
