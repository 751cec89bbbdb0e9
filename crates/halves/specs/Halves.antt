-- Two halves as the functions behind their reading are handed them. Assumes nothing.
use Rattle.std.specs.Prelude.{ℕ, ◌≡◌, Bool, true, false}
use Rattle.rules.specs.declared.Half.{Half}
use Rattle.rules.specs.Lookups.{Lookups}
use Rattle.rules.specs.Calls.{Halves, delivering, receiving, side_unknown, same_side, half_out_of_range}
use Rattle.halves.specs.declared.InOrder.{InOrder}

-- the half that delivers, the one that receives, and what is asked of their sides
abbrev pub in_order : Halves → InOrder
in_order hs = record { delivering = delivering hs; receiving = receiving hs; unknown = side_unknown hs; same = same_side hs }

-- A function is handed these of two halves.
pub record Handed (hs : Halves) (h g : Half) (unknown same : Bool) : Type 0 where
  pub delivers : delivering hs ≡ h
  pub receives : receiving hs ≡ g
  pub unknown_side : side_unknown hs ≡ unknown
  pub one_side : same_side hs ≡ same

-- the half h has a participant account, and for its counterpart a CSD that has the account a in its books
pub record Faces (k : Lookups) (h : Half) (a : ℕ) : Type 0 where
  pub participant : k.kind h.account 0 ≡ true
  pub opposite : k.books a h.counterpart ≡ true
  pub known : k.csd h.counterpart ≡ true

-- both halves have one security, which is entered, one quantity and one amount, which are in range
pub record TermsAgree (k : Lookups) (h g : Half) : Type 0 where
  pub security : h.security ≡ g.security
  pub quantity : h.quantity ≡ g.quantity
  pub amount : h.amount ≡ g.amount
  pub range : half_out_of_range h ≡ false
  pub known : k.security h.security ≡ true
