-- A link that is looked for and has a day among these.
use mathlib.Core.Bool.{◌&&◌}
use Rattle.rules.specs.Entries.{has_day_in}
use Rattle.index.specs.Found.{wants}
use Rattle.index.proofs.links.find_link.Given as goal

abbrev pub ghost-newest_with : goal.ghost-newest_with
ghost-newest_with a = λ x. has_day_in a.test.1.now a.test.2.now x && wants a.test.3.now x
