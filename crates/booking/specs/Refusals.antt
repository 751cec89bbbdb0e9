-- The refusals of the calls that book, from what each test found.
use Rattle.std.specs.Prelude.{ℕ, Bool, [], ◌∷◌}
use Rattle.rules.specs.Tests.{◌when◌, first_of}

-- 20, 21, 22
abbrev pub book_refusal : Bool → Bool → Bool → ℕ
book_refusal units cash beyond = first_of (20 when units ∷ 21 when cash ∷ 22 when beyond ∷ [])
