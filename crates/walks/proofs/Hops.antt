-- What a walk does at a CSD, by what the look-ups tell of it.
use Prim.Native.Nat.{ℕ}
use mathlib.Core.Path.{◌≡◌, refl}
use mathlib.Core.Bool.{Bool, true, false, cond}
use mathlib.Core.List.{List}
use mathlib.Core.Option.{Option, none, some}
use Rattle.rules.specs.declared.Hop.{Hop}
use Rattle.rules.specs.declared.Hop.TheVariants.{Ends, On}
use Rattle.rules.specs.declared.WalkEnd.TheVariants.{Inside, Outside, NoLink}
use Rattle.index.specs.Asked.{asked, asked_on}
use Rattle.walks.proofs.Days.{outside_on}
use Rattle.rules.specs.Walks.{follow, default_hop}
use Rattle.index.specs.declared.links.Leading.{Leading}
use Rattle.index.specs.declared.links.Leading.TheVariants.{Issuer, To, Nowhere}
use Rattle.index.specs.Found.{leading_of}

-- the default hop of a CSD in T2S, by where its links lead
abbrev led_by : ℕ → Leading → Hop
led_by c Issuer = Ends (Inside c)
led_by c (To t) = On t
led_by c Nowhere = Ends NoLink

led_by_lem : (c : ℕ) (b : Bool) (o : Option ℕ) → led_by c (leading_of b o) ≡ cond b (Ends (Inside c)) (follow o)
unfolding leading_of
led_by_lem c true o = refl
led_by_lem c false none = refl
led_by_lem c false (some t) = refl

-- what is asked of a CSD's type and of its links on the day
module _ (l : List ℕ) (day s c : ℕ) (external : Bool) (e : external ≡ (asked l).outside c) where
  pub outside_hop : external ≡ true → Ends (Outside c) ≡ default_hop (asked_on l day) s c
  unfolding default_hop
  outside_hop o = rw (← outside_on l day c, ← e, o)

  pub hop_led : external ≡ false → (x : Leading) → x ≡ leading_of ((asked_on l day).issuer s c) ((asked_on l day).onward s c) → led_by c x ≡ default_hop (asked_on l day) s c
  unfolding default_hop
  hop_led o x f = rw (← outside_on l day c, ← e, o, f) (led_by_lem c ((asked_on l day).issuer s c) ((asked_on l day).onward s c))
