-- What the code answers of two ends.
use Rattle.std.specs.Prelude.{Result, Ok, Err}
use Rattle.rules.specs.declared.Join.{Join}
use Rattle.rules.specs.declared.Join.TheVariants.{Meeting, Issuers, Externals}
use Rattle.rules.specs.declared.refusal.Refusal.{Refusal}
use Rattle.rules.specs.Chain.{Verdict, TwoIssuers, TwoExternals, Apart}
use Rattle.rules.specs.Numbers.{number}

-- the verdict on two ends; none is that they meet, and no refusal has the number 0
abbrev pub verdict_of : Result Join Refusal → Verdict
verdict_of (Ok Issuers) = TwoIssuers
verdict_of (Ok Externals) = TwoExternals
verdict_of (Ok Meeting) = Apart 0
verdict_of (Err e) = Apart (number e)
