-- An investor link of the day to the technical issuer.
use mathlib.Core.Bool.{◌&&◌}
use Rattle.rules.specs.Directory.{covers, points_to}
use Rattle.index.proofs.links.has_link_to.Given as goal

abbrev pub ghost-newest_with : goal.ghost-newest_with
ghost-newest_with a = λ x. covers a.test.2.now x && points_to a.test.1.now x
