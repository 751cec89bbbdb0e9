-- Five tables with no row in use.
use Rattle.rules.specs.Entries.{empty_directory}
use Rattle.calls.proofs.blank.empty.Goals as goal

pub returns : goal.returns
unfolding empty_directory
returns c = rw (c.unused.ensures, c.unused-2.ensures, c.unused-3.ensures, c.unused-4.ensures, c.unused-5.ensures)
