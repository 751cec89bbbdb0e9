-- Numbers stored at places of an index, one after another, and a count: each place has its new number, and every other place keeps its own.
use Prim.Native.Nat.{ℕ, ◌+◌, ◌<◌}
use mathlib.Core.Path.{◌≡◌, refl, sym, ap, ◌∙◌}
use mathlib.Core.Logic.{◌≢◌}
use mathlib.Core.List.{List, [], ◌∷◌}
use native.Mathlib.Decide.{ℕ_discrete}
use lib.ListN.{length, get_or}
use borrow.Author.Tests.{lt-ltb}
use Rattle.index.specs.Index.{Place, Inside, place_of, index_size, number_at, with_number}
use Rattle.index.proofs.Standing.{same_place, number_at_lem, put_length, put_here, put_other}
use Rattle.entries.specs.Entered.{one_more, counted}

-- A number and its place.
pub record Store : Type 0 where
  pub at : Place
  pub number : ℕ

-- stored one after another, the first of the list last
abbrev pub stored : List Store → List ℕ → List ℕ
stored [] l = l
stored (s ∷ ss) l = with_number (stored ss l) (place_of s.at) s.number

-- each place is within the index, and the number is that of f
abbrev pub Right : (Place → ℕ) → List Store → Type 0
Right f [] = Unit {0}
Right f (s ∷ ss) = Inside s.at × ((f s.at ≡ s.number) × Right f ss)

-- the place is none of these
abbrev pub Apart : Place → List Store → Type 0
Apart q [] = Unit {0}
Apart q (s ∷ ss) = (q ≢ s.at) × Apart q ss

module _ (f : Place → ℕ) (l : List ℕ) where
  stored_length : (ss : List Store) → Right f ss → length (stored ss l) ≡ length l
  stored_length [] r = refl
  stored_length (s ∷ ss) r = put_length (stored ss l) s.at s.number r.0 ∙ stored_length ss r.1.1

  stored_kept : (ss : List Store) → Right f ss → (q : Place) → Inside q → Apart q ss → get_or (stored ss l) (place_of q) 0 ≡ get_or l (place_of q) 0
  stored_kept [] r q i a = refl
  stored_kept (s ∷ ss) r q i a = put_other (stored ss l) s.at s.number q r.0 i a.0 ∙ stored_kept ss r.1.1 q i a.1

  stored_at : length l ≡ index_size → (ss : List Store) → Right f ss → (q : Place) → Inside q → (Apart q ss → get_or l (place_of q) 0 ≡ f q)
      → get_or (stored ss l) (place_of q) 0 ≡ f q
  stored_at size [] r q i kept = kept tt
  stored_at size (s ∷ ss) r q i kept = go (stored_at size ss r.1.1 q i) (ℕ_discrete (place_of q) (place_of s.at))
    where
      go : ((Apart q ss → get_or l (place_of q) 0 ≡ f q) → get_or (stored ss l) (place_of q) 0 ≡ f q) → Dec (place_of q ≡ place_of s.at)
          → get_or (stored (s ∷ ss) l) (place_of q) 0 ≡ f q
      go before (yes e) =
          rw e (put_here (stored ss l) s.at s.number r.0 (stored_length ss r.1.1 ∙ size)
          ∙ (sym r.1.0 ∙ ap f (sym (same_place q s.at i r.0 e))))
      go before (no n) =
          let other : q ≢ s.at = λ e. n (ap place_of e) in
          put_other (stored ss l) s.at s.number q r.0 i other ∙ before (λ a. kept (other, a))

-- The index has the numbers f. One row more has those of g: they are f's but at the places stored and at the count, which is one more.
pub record Change (f g : Place → ℕ) (count : Place) (ss : List Store) : Type 0 where
  pub inside : Inside count
  pub few : f count < 0xffff
  pub more : g count ≡ f count + 1
  pub apart : Apart count ss
  pub right : Right g ss
  pub kept : (q : Place) → Inside q → q ≢ count → Apart q ss → f q ≡ g q

module _ (l : List ℕ) (size : length l ≡ index_size) {f g : Place → ℕ} {count : Place} {ss : List Store} (c : Change f g count ss)
    (at : (p : Place) → Inside p → get_or l (place_of p) 0 ≡ f p) where
  all : List Store
  all = record { at = count; number = g count } ∷ ss

  one_more_lem : one_more (number_at (stored ss l) (place_of count)) ≡ g count
  one_more_lem =
      let e : number_at (stored ss l) (place_of count) ≡ f count =
      number_at_lem (stored ss l) count c.inside ∙ (stored_kept g l ss c.right count c.inside c.apart ∙ at count c.inside) in
      rw (e, lt-ltb (f count) 0xffff c.few) (sym c.more)

  is_stored : counted count (stored ss l) ≡ stored all l
  unfolding counted all
  is_stored = rw one_more_lem

  pub change_length : length (counted count (stored ss l)) ≡ length l
  unfolding all
  change_length = rw is_stored (stored_length g l all (c.inside, (refl, c.right)))

  pub change_at : (q : Place) → Inside q → get_or (counted count (stored ss l)) (place_of q) 0 ≡ g q
  unfolding all
  change_at q i = rw is_stored (stored_at g l size all (c.inside, (refl, c.right)) q i (λ a. at q i ∙ c.kept q i a.0 a.1))
