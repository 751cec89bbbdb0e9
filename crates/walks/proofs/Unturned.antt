-- Where no link for the security leads to a CSD, a walk directed to it leaves no path that does not name it.
use Prim.Native.Nat.{ℕ}
use mathlib.Core.Path.{◌≡◌}
use mathlib.Core.Bool.{false}
use mathlib.Core.List.{List, Memᴰ}
use borrow.Author.Tests.{ne_eqb}
use Rattle.rules.specs.Tests.{any}
use Rattle.rules.proofs.Basics.{none_any}
use Rattle.index.specs.Asked.{is_target, asked_by, asked_on}
use Rattle.walks.specs.Routes.{turns}

pub unturned : (l : List ℕ) (day s t : ℕ) (p : List ℕ) → is_target l s t ≡ false → (Memᴰ t p → ⊥) → any (turns (asked_on l day) s t) p ≡ false
unfolding asked_by
unturned l day s t p e n = none_any (turns (asked_on l day) s t) p (λ c m. rw (ne_eqb c t (λ f. n (rw f at m)), e))
