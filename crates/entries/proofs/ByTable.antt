-- What is said of every place of an index, table by table: rows that have a table in common have its numbers in common.
use Prim.Native.Nat.{ℕ}
use mathlib.Core.Path.{◌≡◌}
use mathlib.Core.Logic.{◌≢◌}
use mathlib.Core.List.{List}
use Rattle.rules.specs.Directory.{Rows}
use Rattle.index.specs.Index.{Place, csd_count, security_count, account_count, pair_count, link_count, type_at, home_at, kind_at, mirror_at, omnibus_at, investor_at, technical_at, served_at, newest_at, target_at, link_at, Inside, index_of}
use Rattle.entries.proofs.Stored.{Store, Apart}

-- of the places that tell of CSDs
pub record OfCsds (P : Place → Type 0) : Type 0 where
  pub count : P csd_count
  pub type : (c : ℕ) → P (type_at c)

-- of accounts
pub record OfAccounts (P : Place → Type 0) : Type 0 where
  pub count : P account_count
  pub home : (a : ℕ) → P (home_at a)
  pub kind : (a : ℕ) → P (kind_at a)

-- of pairs
pub record OfPairs (P : Place → Type 0) : Type 0 where
  pub count : P pair_count
  pub mirror : (a : ℕ) → P (mirror_at a)
  pub omnibus : (a : ℕ) → P (omnibus_at a)
  pub investor : (a : ℕ) → P (investor_at a)
  pub technical : (a : ℕ) → P (technical_at a)
  pub served : (t a : ℕ) → P (served_at t a)

-- of links
pub record OfLinks (P : Place → Type 0) : Type 0 where
  pub count : P link_count
  pub newest : (s c : ℕ) → P (newest_at s c)
  pub target : (s t : ℕ) → P (target_at s t)
  pub link : (n f : ℕ) → P (link_at n f)

-- of all
pub every_place : (P : Place → Type 0) → OfCsds P → P security_count → OfAccounts P → OfPairs P → OfLinks P → (q : Place) → P q
every_place P c s a p l csd_count = c.count
every_place P c s a p l security_count = s
every_place P c s a p l account_count = a.count
every_place P c s a p l pair_count = p.count
every_place P c s a p l link_count = l.count
every_place P c s a p l (type_at n) = c.type n
every_place P c s a p l (home_at n) = a.home n
every_place P c s a p l (kind_at n) = a.kind n
every_place P c s a p l (mirror_at n) = p.mirror n
every_place P c s a p l (omnibus_at n) = p.omnibus n
every_place P c s a p l (investor_at n) = p.investor n
every_place P c s a p l (technical_at n) = p.technical n
every_place P c s a p l (served_at t n) = p.served t n
every_place P c s a p l (newest_at n m) = l.newest n m
every_place P c s a p l (target_at n t) = l.target n t
every_place P c s a p l (link_at n f) = l.link n f

-- ---- a place that is neither the count nor stored has the same number for both
abbrev pub Same : Rows → Rows → Place → List Store → Place → Type 0
Same r r' count ss q = Inside q → q ≢ count → Apart q ss → index_of r q ≡ index_of r' q

-- rows that have a table in common
module _ (r r' : Rows) (count : Place) (ss : List Store) where
  pub same_csds : r.csds ≡ r'.csds → OfCsds (Same r r' count ss)
  same_csds e = record { count = λ i o a. rw e; type = λ c i o a. rw e }

  pub same_securities : r.securities ≡ r'.securities → Same r r' count ss security_count
  same_securities e i o a = rw e

  pub same_accounts : r.accounts ≡ r'.accounts → OfAccounts (Same r r' count ss)
  same_accounts e = record { count = λ i o a. rw e; home = λ n i o a. rw e; kind = λ n i o a. rw e }

  pub same_pairs : r.pairs ≡ r'.pairs → OfPairs (Same r r' count ss)
  same_pairs e =
      record {
        count = λ i o a. rw e;
        mirror = λ n i o a. rw e;
        omnibus = λ n i o a. rw e;
        investor = λ n i o a. rw e;
        technical = λ n i o a. rw e;
        served = λ t n i o a. rw e;
      }

  pub same_links : r.links ≡ r'.links → OfLinks (Same r r' count ss)
  same_links e = record { count = λ i o a. rw e; newest = λ s c i o a. rw e; target = λ s t i o a. rw e; link = λ n f i o a. rw e }
