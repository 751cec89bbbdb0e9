-- 1 and 2 from the tests that the code makes.
use Prim.Native.Nat.{ℕ, ◌≤◌, ◌<◌}
use mathlib.Core.Path.{◌≡◌}
use mathlib.Core.Bool.{Bool, true}
use mathlib.Core.List.{List}
use lib.ListN.{length}
use borrow.Author.Tests.{lt-ltb, le-ltb}
use Rattle.rules.specs.Tests.{first_of}
use Rattle.codes.specs.Read.{width, read_conditions}

module _ (known : Bool) (tag : ℕ) (o : List ℕ) where
  pub cut_is : known ≡ true → length o < width tag → 2 ≡ first_of (read_conditions known tag o)
  cut_is e h = rw (e, lt-ltb (length o) (width tag) h)

  pub none_is : known ≡ true → width tag ≤ length o → 0 ≡ first_of (read_conditions known tag o)
  none_is e h = rw (e, le-ltb (length o) (width tag) h)
