-- What the tests 3 and 4 give. Assumes nothing.
use Rattle.std.specs.Prelude.{ℕ, Bool, not, [], ◌∷◌}
use Rattle.rules.specs.declared.Directory.{Directory}
use Rattle.rules.specs.Tests.{◌when◌, first_of}
use Rattle.rules.specs.Entries.{sound}

-- 3 where a list that a call is lent does not fit, else 4 where the directory is not sound, else 0
abbrev pub early : Bool → Directory → ℕ
early misfit d = first_of (3 when misfit ∷ 4 when not (sound d) ∷ [])
