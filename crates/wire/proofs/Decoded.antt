-- The call of each command, by what its decoder reads. The operands of 01 and 02 are all there, so that no byte is a 0 for a missing one.
use mathlib.Core.Path.{◌≡◌, sym, ap}
use mathlib.Core.Logic.{◌≢◌}
use Prim.Native.Nat.{ℕ, ◌≤◌, ◌<◌}
use native.Mathlib.Omega.{arith}
use mathlib.Core.List.{List}
use mathlib.Core.Option.{Option, none, some}
use lib.ListN.{length}
use Rattle.rules.specs.Entries.{csd_row, security_row}
use Rattle.rules.specs.Booking.{incoming, outgoing}
use Rattle.rules.specs.Calls.{enter, move, pay}
use Rattle.rules.specs.Stream.{widths, former_tag, width_of, call_of, csd_at, security_at, account_at, pair_at, link_at}
use Rattle.wire.specs.Operands.{csd_in, security_in, move_in, payment_in}
use Rattle.wire.specs.Padded.{padded_is}
use Rattle.wire.proofs.Widths.{no_width}

pub csd_is_lem : (o : List ℕ) → 12 ≤ length o → csd_row (csd_in o) ≡ csd_at o
csd_is_lem o h = rw (padded_is o 1 11 (omega arith))

pub security_is : (o : List ℕ) → 12 ≤ length o → security_row (security_in o) ≡ security_at o
security_is o h = rw (padded_is o 0 12 (omega arith))

-- as many bytes as the width says
wide : (n m : ℕ) → ◌≡◌ {A = Option ℕ} (some n) (some m) → n ≤ m
wide n m e = let h : n ≡ m = cc in omega arith

module _ (tag : ℕ) (o : List ℕ) where
  pub csd_call : tag ≡ 1 → width_of tag ≡ some (length o) → call_of tag o ≡ enter (csd_row (csd_in o))
  unfolding call_of
  csd_call e k = rw e (ap enter (sym (csd_is_lem o (wide 12 (length o) (rw e at k)))))

  pub security_call : tag ≡ 2 → width_of tag ≡ some (length o) → call_of tag o ≡ enter (security_row (security_in o))
  unfolding call_of
  security_call e k = rw e (ap enter (sym (security_is o (wide 12 (length o) (rw e at k)))))

  pub account_call : tag ≡ 3 → call_of tag o ≡ enter (account_at o)
  unfolding call_of
  account_call e = rw e

  pub link_call : tag ≡ 5 → call_of tag o ≡ enter (link_at o)
  unfolding call_of
  link_call e = rw e

  pub bring_in_call : tag ≡ 6 → call_of tag o ≡ move incoming (move_in o).account (move_in o).security (move_in o).quantity (move_in o).day
  unfolding call_of
  bring_in_call e = rw e

  pub take_out_call : tag ≡ 7 → call_of tag o ≡ move outgoing (move_in o).account (move_in o).security (move_in o).quantity (move_in o).day
  unfolding call_of
  take_out_call e = rw e

  pub pay_in_call : tag ≡ 8 → call_of tag o ≡ pay incoming (payment_in o).account (payment_in o).amount
  unfolding call_of
  pay_in_call e = rw e

  pub pay_out_call : tag ≡ 9 → call_of tag o ≡ pay outgoing (payment_in o).account (payment_in o).amount
  unfolding call_of
  pay_out_call e = rw e

  pub pair_call : tag ≡ 14 → call_of tag o ≡ enter (pair_at o)
  unfolding call_of
  pair_call e = rw e

-- a byte with a width is a command
pub known_tag : (tag w : ℕ) → width_of tag ≡ some w → (1 ≤ tag) × (tag ≤ length widths) × (tag ≢ former_tag)
known_tag tag w e =
    let z : tag ≢ 0 = λ k. never (rw k) in
    let f : tag ≢ former_tag = λ k. never (rw k) in
    let l : length widths < tag → ⊥ = λ k. never (no_width tag z f (omega arith)) in
    (omega arith, omega arith, f)
  where
    never : width_of tag ≡ none → ⊥
    never n = let y : ◌≡◌ {A = ℕ} 0 1 = cc in omega arith
