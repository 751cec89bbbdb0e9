-- Sums, orders, sizes and 64 bits over ℤ, for `omega`: each law says of the parts above and below zero what it says of the numbers.
use mathlib.Core.Path.{◌≡◌, refl, sym, ◌∙◌}
use mathlib.Core.Bool.{true, false, not, true≢false}
use Prim.Native.Nat.{ℕ, suc, ◌+◌, ◌-◌, ◌<◌, ◌≤◌, ◌^◌}
use native.Mathlib.Omega.{arith}
use lib.IntN.{ℤ, pos, negsuc, neg_ℤ, nat_abs, ◌+ℤ◌, ◌-ℤ◌}
use lib.Dec.{leb, ltb}
use lib.Signed.{lt_z, le_z}
use borrow.Author.Tests.{ltb-true, ltb-false, lt-ltb, le-ltb, leb-true, le-leb}
use mir.Syntax.{w64}
use mir.Val.{SFits}
use Rattle.rules.proofs.Basics.{equal_tests, unnot}
use Rattle.rules.proofs.Int

-- the parts, as `omega` computes them
abbrev pub up : ℤ → ℕ
up (pos n) = n
up (negsuc n) = 0

abbrev pub dn : ℤ → ℕ
dn (pos n) = 0
dn (negsuc n) = suc n

up_is : (z : ℤ) → Int.up z ≡ up z
up_is (pos n) = Int.up_pos n
up_is (negsuc n) = Int.up_neg (pos (suc n)) ∙ Int.dn_pos (suc n)

dn_is : (z : ℤ) → Int.dn z ≡ dn z
dn_is (pos n) = Int.dn_pos n
dn_is (negsuc n) = Int.dn_neg (pos (suc n)) ∙ Int.up_pos (suc n)

-- the test of counts
leb_is : (a b : ℕ) → leb a b ≡ not (ltb b a)
leb_is a b = equal_tests (leb a b) (not (ltb b a)) (λ t. rw (le-ltb b a (leb-true a b t))) (λ t. le-leb a b (ltb-false b a (unnot (ltb b a) t)))

-- sums, and numbers with their sign turned
pub add_law : (a b : ℤ) → up (a +ℤ b) + (dn a + dn b) ≡ dn (a +ℤ b) + (up a + up b)
add_law a b = omega (arith, Int.parts-+ a b, up_is a, dn_is a, up_is b, dn_is b, up_is (a +ℤ b), dn_is (a +ℤ b))

pub neg_up : (a : ℤ) → up (neg_ℤ a) ≡ dn a
neg_up a = sym (up_is (neg_ℤ a)) ∙ Int.up_neg a ∙ dn_is a

pub neg_dn : (a : ℤ) → dn (neg_ℤ a) ≡ up a
neg_dn a = sym (dn_is (neg_ℤ a)) ∙ Int.dn_neg a ∙ up_is a

pub sub_law : (a b : ℤ) → up (a -ℤ b) + (dn a + up b) ≡ dn (a -ℤ b) + (up a + dn b)
sub_law a b = omega (arith, add_law a (neg_ℤ b), neg_up b, neg_dn b)

-- tests of order
pub lt_true : (a b : ℤ) → lt_z a b ≡ true → up a + dn b < up b + dn a
lt_true (pos a) (pos b) t = omega (arith, ltb-true a b t)
lt_true (pos a) (negsuc b) t = absurd (true≢false (sym t))
lt_true (negsuc a) (pos b) t = omega arith
lt_true (negsuc a) (negsuc b) t = omega (arith, ltb-true b a t)

pub lt_false : (a b : ℤ) → lt_z a b ≡ false → up b + dn a ≤ up a + dn b
lt_false (pos a) (pos b) t = omega (arith, ltb-false a b t)
lt_false (pos a) (negsuc b) t = omega arith
lt_false (negsuc a) (pos b) t = absurd (true≢false t)
lt_false (negsuc a) (negsuc b) t = omega (arith, ltb-false b a t)

pub to_lt_true : (a b : ℤ) → up a + dn b < up b + dn a → lt_z a b ≡ true
to_lt_true (pos a) (pos b) h = lt-ltb a b (omega arith)
to_lt_true (pos a) (negsuc b) h = absurd (omega arith)
to_lt_true (negsuc a) (pos b) h = refl
to_lt_true (negsuc a) (negsuc b) h = lt-ltb b a (omega arith)

pub to_lt_false : (a b : ℤ) → up b + dn a ≤ up a + dn b → lt_z a b ≡ false
to_lt_false (pos a) (pos b) h = le-ltb a b (omega arith)
to_lt_false (pos a) (negsuc b) h = refl
to_lt_false (negsuc a) (pos b) h = absurd (omega arith)
to_lt_false (negsuc a) (negsuc b) h = le-ltb b a (omega arith)

-- not above is not below the other way round
pub le_is : (a b : ℤ) → le_z a b ≡ not (lt_z b a)
le_is (pos a) (pos b) = leb_is a b
le_is (pos a) (negsuc b) = refl
le_is (negsuc a) (pos b) = refl
le_is (negsuc a) (negsuc b) = leb_is b a

-- the size is what one part has more than the other
pub size : (z : ℤ) → nat_abs z ≡ up z - dn z + (dn z - up z)
size (pos n) = omega arith
size (negsuc n) = omega arith

-- what 64 bits hold
pub to_fits : (z : ℤ) → up z < dn z + 2 ^ 63 → dn z ≤ up z + 2 ^ 63 → SFits w64 z
to_fits (pos n) h k = record { sfits = omega arith }
to_fits (negsuc n) h k = record { sfits = omega arith }

-- what `omega` is handed, with a law for each sum that occurs
pub ruleset integers = (arith, lt_true, lt_false, to_lt_true, to_lt_false)
