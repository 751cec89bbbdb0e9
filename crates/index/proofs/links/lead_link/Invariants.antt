-- An issuer link or a default link of the day.
use mathlib.Core.Bool.{◌&&◌}
use Rattle.rules.specs.Directory.{covers}
use Rattle.index.specs.Asked.{leads}
use Rattle.index.proofs.links.lead_link.Given as goal

abbrev pub ghost-newest_with : goal.ghost-newest_with
ghost-newest_with a = λ x. covers a.test.1.now x && leads x
