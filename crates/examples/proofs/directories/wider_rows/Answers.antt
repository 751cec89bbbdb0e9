use Rattle.std.proofs.Common.{refl}
use Rattle.examples.proofs.Lists.{and_on}
use Rattle.examples.proofs.directories.wider_rows.Goals as goal

pub returns : goal.returns
returns c =
    and_on c.account.ensures (and_on c.csd.ensures (and_on c.csd-2.ensures
    (and_on c.account-2.ensures (and_on c.account-3.ensures (and_on c.account-4.ensures (and_on c.account-5.ensures
    (and_on c.pair.ensures (and_on c.investor.ensures refl))))))))
