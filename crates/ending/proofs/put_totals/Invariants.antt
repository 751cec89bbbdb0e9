-- The loop's invariant: the lines of the securities passed stand there.
use Rattle.text.specs.Appended.{Appended}
use Rattle.ending.specs.Ending.{totals_in}
use Rattle.ending.proofs.put_totals.Given as goal

abbrev pub invariant-loop-security : goal.invariant-loop-security
invariant-loop-security l = Appended l.initial.out l.at l.out l.end (totals_in l.kept l.positions l.security)
