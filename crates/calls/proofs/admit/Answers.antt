-- 3 is looked at first, then 4, for which the directory is read.
use Rattle.index.proofs.Laws.{length_mapped}
use Rattle.index.specs.Index.{WholeTables}
use Rattle.calls.proofs.Admitted.{unsound, admitted, kept_so}
use Rattle.calls.proofs.admit.Goals as goal

pub returns-then-not-read-clause-number : goal.returns-then-not-read-clause-number
returns-then-not-read-clause-number c =
    let d = c.args.directory in
    let whole : WholeTables d =
    (let g = c.well_formed.1.0 in
    record {
      csds = search (length_mapped, g.1.1.0);
      securities = search (length_mapped, g.1.1.1.0);
      accounts = search (length_mapped, g.1.1.1.1.0);
      pairs = search (length_mapped, g.1.1.1.1.1.0);
      links = search (length_mapped, g.1.1.1.1.1.1.0);
    }) in
    unsound c.args.misfit d whole c.if-misfit.false c.read.new.kept c.read.result (rw c.requires at c.read.ensures) c.if-not-read.true

pub returns-clause-number : goal.returns-clause-number
returns-clause-number c =
    let d = c.args.directory in
    let whole : WholeTables d =
    (let g = c.well_formed.1.0 in
    record {
      csds = search (length_mapped, g.1.1.0);
      securities = search (length_mapped, g.1.1.1.0);
      accounts = search (length_mapped, g.1.1.1.1.0);
      pairs = search (length_mapped, g.1.1.1.1.1.0);
      links = search (length_mapped, g.1.1.1.1.1.1.0);
    }) in
    admitted c.args.misfit d whole c.if-misfit.false c.read.new.kept c.read.result (rw c.requires at c.read.ensures) c.if-not-read.false

pub returns-clause-keeps : goal.returns-clause-keeps
returns-clause-keeps c =
    let d = c.args.directory in
    let whole : WholeTables d =
    (let g = c.well_formed.1.0 in
    record {
      csds = search (length_mapped, g.1.1.0);
      securities = search (length_mapped, g.1.1.1.0);
      accounts = search (length_mapped, g.1.1.1.1.0);
      pairs = search (length_mapped, g.1.1.1.1.1.0);
      links = search (length_mapped, g.1.1.1.1.1.1.0);
    }) in
    kept_so c.args.misfit d whole c.if-misfit.false c.read.new.kept c.read.result (rw c.requires at c.read.ensures) c.if-not-read.false
