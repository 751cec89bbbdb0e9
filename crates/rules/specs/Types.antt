-- The declared types of src/, under one roof.
pub use Rattle.rules.specs.declared.Csd.{Csd}
pub use Rattle.rules.specs.declared.Security.{Security}
pub use Rattle.rules.specs.declared.Account.{Account}
pub use Rattle.rules.specs.declared.Pair.{Pair}
pub use Rattle.rules.specs.declared.Link.{Link}
pub use Rattle.rules.specs.declared.Table.{Table}
pub use Rattle.rules.specs.declared.Directory.{Directory}
pub use Rattle.rules.specs.declared.Half.{Half}
pub use Rattle.rules.specs.declared.SidedHalf.{SidedHalf}
pub use Rattle.rules.specs.declared.Step.{Step}
pub use Rattle.rules.specs.declared.Units.{Units}
pub use Rattle.rules.specs.declared.Cents.{Cents}
pub use Rattle.rules.specs.declared.WalkEnd.{WalkEnd}
pub use Rattle.rules.specs.declared.WalkEnd.TheVariants.{Inside, Outside, NoLink, TooLong}
pub use Rattle.rules.specs.declared.Hop.{Hop}
pub use Rattle.rules.specs.declared.Hop.TheVariants.{Ends, On}
pub use Rattle.rules.specs.declared.Join.{Join}
pub use Rattle.rules.specs.declared.Join.TheVariants.{Meeting, Issuers, Externals}
pub use Rattle.rules.specs.declared.refusal.Refusal.{Refusal}
pub use Rattle.rules.specs.declared.answer.Answer.{Answer}
pub use Rattle.rules.specs.declared.answer.Answer.TheVariants.{Accepted, Booked, Chained, Refused}
pub use Rattle.rules.specs.declared.Entered.{Entered}
pub use Rattle.rules.specs.declared.Reply.{Reply}
