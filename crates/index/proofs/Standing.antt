-- Places of an index: each stands within the list, no two at the same number; so a number stored at a place stands there, and leaves every other place.
use Prim.Native.Nat.{ℕ, ◌+◌, ◌-◌, ◌*◌, ◌/◌, ◌%◌, ◌<◌}
use mathlib.Core.Path.{◌≡◌, refl, sym, ap, ◌∙◌}
use mathlib.Core.Logic.{◌≢◌}
use mathlib.Core.Bool.{cond}
use mathlib.Core.List.{List}
use native.Mathlib.Omega.{arith}
use lib.Dec.{ltb}
use lib.ListN.{length, get_or, length-set}
use lib.Seq.{get_or-set_same, get_or-set_other}
use borrow.Author.Tests.{lt-ltb, le-ltb}
use Rattle.rules.specs.Directory.{csd_limit, account_limit}
use Rattle.index.specs.Index.{Place, csd_count, security_count, account_count, pair_count, link_count, type_at, home_at, kind_at, mirror_at, omnibus_at, investor_at, technical_at, served_at, newest_at, target_at, link_at, link_numbers, Inside, place_of, types, homes, kinds, mirrors, omnibuses, investors, technicals, served, newest, targets, links, index_size, number_at, with_number}

-- ---- the number of a place tells the place
pub below : (p : Place) → Inside p → place_of p < index_size
below csd_count i = omega arith
below security_count i = omega arith
below account_count i = omega arith
below pair_count i = omega arith
below link_count i = omega arith
below (type_at c) i = omega arith
below (home_at a) i = omega arith
below (kind_at a) i = omega arith
below (mirror_at a) i = omega arith
below (omnibus_at a) i = omega arith
below (investor_at a) i = omega arith
below (technical_at a) i = omega arith
below (served_at t a) i = omega arith
below (newest_at s c) i = omega arith
below (target_at s t) i = omega arith
below (link_at n f) i = omega arith

-- the place at a number
abbrev place_at : ℕ → Place
place_at n =
    cond (ltb n mirrors)
    (cond (ltb n homes)
    (cond (ltb n types)
    (cond (ltb n 1) csd_count (cond (ltb n 2) security_count (cond (ltb n 3) account_count (cond (ltb n 4) pair_count link_count))))
    (type_at (n - types)))
    (cond (ltb n kinds) (home_at (n - homes)) (kind_at (n - kinds))))
    (cond (ltb n served)
    (cond (ltb n investors)
    (cond (ltb n omnibuses) (mirror_at (n - mirrors)) (omnibus_at (n - omnibuses)))
    (cond (ltb n technicals) (investor_at (n - investors)) (technical_at (n - technicals))))
    (cond (ltb n newest)
    (served_at ((n - served) / account_limit) ((n - served) % account_limit))
    (cond (ltb n targets)
    (newest_at ((n - newest) / csd_limit) ((n - newest) % csd_limit))
    (cond (ltb n links)
    (target_at ((n - targets) / csd_limit) ((n - targets) % csd_limit))
    (link_at ((n - links) / link_numbers) ((n - links) % link_numbers))))))

-- a number of a table of CSDs by something
line : (from n c : ℕ) → c < csd_limit → (from + (n * csd_limit + c) - from) / csd_limit ≡ n
line from n c h = omega arith

column : (from n c : ℕ) → c < csd_limit → (from + (n * csd_limit + c) - from) % csd_limit ≡ c
column from n c h = omega arith

told : (p : Place) → Inside p → place_at (place_of p) ≡ p
told csd_count i = refl
told security_count i = refl
told account_count i = refl
told pair_count i = refl
told link_count i = refl
told (type_at c) i =
    let n : ℕ = types + c in
    rw (lt-ltb n mirrors (omega arith), lt-ltb n homes (omega arith), le-ltb n types (omega arith)) (ap type_at (omega arith))
told (home_at a) i =
    let n : ℕ = homes + a in
    rw (lt-ltb n mirrors (omega arith), le-ltb n homes (omega arith), lt-ltb n kinds (omega arith)) (ap home_at (omega arith))
told (kind_at a) i =
    let n : ℕ = kinds + a in
    rw (lt-ltb n mirrors (omega arith), le-ltb n homes (omega arith), le-ltb n kinds (omega arith)) (ap kind_at (omega arith))
told (mirror_at a) i =
    let n : ℕ = mirrors + a in
    rw (le-ltb n mirrors (omega arith), lt-ltb n served (omega arith), lt-ltb n investors (omega arith), lt-ltb n omnibuses (omega arith)) (ap mirror_at (omega arith))
told (omnibus_at a) i =
    let n : ℕ = omnibuses + a in
    rw (le-ltb n mirrors (omega arith), lt-ltb n served (omega arith), lt-ltb n investors (omega arith), le-ltb n omnibuses (omega arith)) (ap omnibus_at (omega arith))
told (investor_at a) i =
    let n : ℕ = investors + a in
    rw (le-ltb n mirrors (omega arith), lt-ltb n served (omega arith), le-ltb n investors (omega arith), lt-ltb n technicals (omega arith)) (ap investor_at (omega arith))
told (technical_at a) i =
    let n : ℕ = technicals + a in
    rw (le-ltb n mirrors (omega arith), lt-ltb n served (omega arith), le-ltb n investors (omega arith), le-ltb n technicals (omega arith)) (ap technical_at (omega arith))
told (served_at t a) i =
    let n : ℕ = served + (t * account_limit + a) in
    let row : (served + (t * account_limit + a) - served) / account_limit ≡ t = omega arith in
    let account : (served + (t * account_limit + a) - served) % account_limit ≡ a = omega arith in
    rw (le-ltb n mirrors (omega arith), le-ltb n served (omega arith), lt-ltb n newest (omega arith), row, account)
told (newest_at s c) i =
    let n : ℕ = newest + (s * csd_limit + c) in
    rw (le-ltb n mirrors (omega arith), le-ltb n served (omega arith), le-ltb n newest (omega arith), lt-ltb n targets (omega arith), line newest s c i.1, column newest s c i.1)
told (target_at s t) i =
    let n : ℕ = targets + (s * csd_limit + t) in
    rw (le-ltb n mirrors (omega arith), le-ltb n served (omega arith), le-ltb n newest (omega arith), le-ltb n targets (omega arith), lt-ltb n links (omega arith), line targets s t i.1, column targets s t i.1)
told (link_at m f) i =
    let n : ℕ = links + (m * link_numbers + f) in
    let row : (links + (m * link_numbers + f) - links) / link_numbers ≡ m = omega arith in
    let number : (links + (m * link_numbers + f) - links) % link_numbers ≡ f = omega arith in
    rw (le-ltb n mirrors (omega arith), le-ltb n served (omega arith), le-ltb n newest (omega arith), le-ltb n targets (omega arith), le-ltb n links (omega arith), row, number)

pub same_place : (p q : Place) → Inside p → Inside q → place_of p ≡ place_of q → p ≡ q
same_place p q i j e = sym (told p i) ∙ (ap place_at e ∙ told q j)

-- ---- numbers at places
pub number_at_lem : (l : List ℕ) (p : Place) → Inside p → number_at l (place_of p) ≡ get_or l (place_of p) 0
unfolding number_at
number_at_lem l p i = rw (lt-ltb (place_of p) index_size (below p i))

pub put_length : (l : List ℕ) (p : Place) (n : ℕ) → Inside p → length (with_number l (place_of p) n) ≡ length l
unfolding with_number
put_length l p n i = rw (lt-ltb (place_of p) index_size (below p i)) (length-set l (place_of p) n)

pub put_here : (l : List ℕ) (p : Place) (n : ℕ) → Inside p → length l ≡ index_size → get_or (with_number l (place_of p) n) (place_of p) 0 ≡ n
unfolding with_number
put_here l p n i e = rw (lt-ltb (place_of p) index_size (below p i)) (get_or-set_same l (place_of p) n 0 (omega (arith, below p i)))

pub put_other : (l : List ℕ) (p : Place) (n : ℕ) (q : Place) → Inside p → Inside q → q ≢ p → get_or (with_number l (place_of p) n) (place_of q) 0 ≡ get_or l (place_of q) 0
unfolding with_number
put_other l p n q i j o =
    rw (lt-ltb (place_of p) index_size (below p i)) (get_or-set_other l (place_of p) (place_of q) n 0 (λ e. o (same_place q p j i e)))
