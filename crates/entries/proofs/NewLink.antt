-- One link more: its numbers at the next number, it as the newest of its CSD for its security, its technical issuer as a target, and the count.
use Prim.Native.Nat.{ℕ, zero, suc, ◌<◌}
use mathlib.Core.Path.{◌≡◌, refl, sym, ap, subst, ◌∙◌}
use mathlib.Core.Logic.{◌≢◌, inl, inr}
use mathlib.Core.Bool.{false, cond}
use mathlib.Core.List.{List, [], ◌∷◌, ◌++◌, reverse}
use mathlib.Core.Option.{Option}
use native.Mathlib.Omega.{arith}
use native.Mathlib.Decide.{ℕ_discrete, dec_lt}
use borrow.Author.Tests.{lt-ltb, eq-eqb, ne_eqb}
use lib.ListN.{length, get_or, take, length-reverse}
use Rattle.rules.specs.declared.Link.{Link}
use Rattle.rules.specs.declared.Directory.{Directory}
use Rattle.rules.specs.Tests.{first_of}
use Rattle.rules.specs.Directory.{Rows, rows_of, rows_on, csd_limit, security_limit, link_limit, no_csd, is_link}
use Rattle.rules.specs.Entries.{link_row, row_conditions, add_row, link_refusal}
use Rattle.rules.specs.Demands.{with_row}
use Rattle.rules.proofs.Basics.{impossible, untrue}
use Rattle.rules.proofs.RowTests.{says_link}
use Rattle.rules.proofs.Accounts.{security_small}
use Rattle.rules.proofs.NewLinks.{NewLink, accepted_link}
use Rattle.index.specs.Index.{Place, link_count, newest_at, target_at, link_at, link_numbers, row_at, newest_code, makes_target, target_code, link_code, numbers_of, Inside, index_of}
use Rattle.index.proofs.LookingUp.{facts, csd_small, says_target}
use Rattle.index.proofs.LinkList.{reversed}
use Rattle.index.proofs.Laws.{unknown, one_more_row, row_new, row_old}
use Rattle.refusals.specs.declared.kept.Kept.{Kept}
use Rattle.refusals.specs.Kept.{Keeps}
use Rattle.entries.specs.Entered.{with_target, with_link, with_row_in}
use Rattle.entries.proofs.Stored.{Store, Apart, Right, Change}
use Rattle.entries.proofs.ByTable.{OfLinks, Same, every_place, same_csds, same_securities, same_accounts, same_pairs}
use Rattle.entries.proofs.OneMore.{any_kept, any_new}
use Rattle.entries.proofs.Growing.{not_full, same_names, number_is, grown}

-- one of its numbers, where the next older link stands at `next`
abbrev number : Link → ℕ → ℕ → ℕ → Store
number x n next f = record { at = link_at n f; number = get_or (numbers_of next x) f 0 }

-- all of them
abbrev numbers : Link → ℕ → ℕ → List Store
numbers x n next = number x n next 6 ∷ number x n next 5 ∷ number x n next 4 ∷ number x n next 3 ∷ number x n next 2 ∷ number x n next 1 ∷ number x n next 0 ∷ []

abbrev stores : Link → ℕ → ℕ → List Store
stores x n next = record { at = newest_at x.security x.csd; number = row_at n } ∷ numbers x n next

-- of an investor link also its technical issuer
abbrev all_stores : Link → ℕ → ℕ → List Store
all_stores x n next = record { at = target_at x.security x.technical; number = 1 } ∷ stores x n next

-- the first n rows are the same where there are as many
first_rows : {A : Type 0} (l : List A) (x : A) (n : ℕ) → n < length l → take n (l ++ (x ∷ [])) ≡ take n l
first_rows [] x n h = absurd (omega arith)
first_rows (y ∷ l) x zero h = refl
first_rows (y ∷ l) x (suc n) h = ap (λ (m : List _). y ∷ m) (first_rows l x n (omega arith))

whole_rows : {A : Type 0} (l : List A) (x : A) → take (length l) (l ++ (x ∷ [])) ≡ l
whole_rows [] x = refl
whole_rows (y ∷ l) x = ap (λ (m : List _). y ∷ m) (whole_rows l x)

module _ (r : Rows) (x : Link) (few : length r.links < link_limit) (cell : (x.security < security_limit) × (x.csd < csd_limit)) where
  abbrev r' : Rows
  r' = with_row (link_row x) r

  abbrev n : ℕ
  n = length r.links

  abbrev next : ℕ
  next = newest_code x.security x.csd (reverse r.links)

  abbrev ss : List Store
  ss = all_stores x n next

  -- it stands newest
  newest_row : (s c : ℕ) → newest_code s c (reverse r'.links) ≡ cond (is_link s c x) (row_at n) (newest_code s c (reverse r.links))
  newest_row s c = rw (reversed r.links x, length-reverse r.links)

  here : newest_code x.security x.csd (reverse r'.links) ≡ row_at n
  here = rw (newest_row x.security x.csd, (says_link x.security x.csd x).tests (refl, refl))

  number_new : (f : ℕ) → index_of r' (link_at n f) ≡ get_or (numbers_of next x) f 0
  number_new f =
      ap (λ (o : Option Link). link_code (reverse (take n r'.links)) o f) (row_new r.links x)
      ∙ ap (λ (ls : List Link). get_or (numbers_of (newest_code x.security x.csd (reverse ls)) x) f 0) (whole_rows r.links x)

  target_new : x.kind ≡ 1 → target_code x.security x.technical r'.links ≡ 1
  target_new k = rw (any_new (makes_target x.security x.technical) x r.links ((says_target x.security x.technical x).tests (refl, (k, refl))))

  -- every other number is as it was
  target_kept : (s t : ℕ) → target_at s t ≢ target_at x.security x.technical → target_code s t r.links ≡ target_code s t r'.links
  target_kept s t o =
      rw (any_kept (makes_target s t) x r.links (untrue (makes_target s t x) (λ e.
      let p = (says_target s t x).holds e in
      o (rw (p.0, p.1.1)))))

  link_kept : (m f : ℕ) → m ≢ n → index_of r (link_at m f) ≡ index_of r' (link_at m f)
  link_kept m f o = go (dec_lt m n)
    where
      go : Dec (m < n) → index_of r (link_at m f) ≡ index_of r' (link_at m f)
      go (yes l) = rw (row_old r.links x m o, first_rows r.links x m l)
      go (no h) = rw (row_old r.links x m o, unknown r.links m (omega arith))

  own : OfLinks (Same r r' link_count ss)
  own =
      record {
        count = λ i o a. absurd (o refl);
        newest = λ s c i o a.
            let other : is_link s c x ≡ false = untrue (is_link s c x) (λ e. let p = (says_link s c x).holds e in a.1.0 (rw (p.0, p.1))) in
            sym (newest_row s c ∙ rw other);
        target = λ s t i o a. target_kept s t a.0;
        link = λ m f i o a. go m f (ℕ_discrete m n) i.1 a.1.1;
      }
    where
      -- a number of the new link is one of those
      stored_all : (f : ℕ) → f < link_numbers → Apart (link_at n f) (numbers x n next) → ⊥
      stored_all zero h a = a.1.1.1.1.1.1.0 refl
      stored_all (suc zero) h a = a.1.1.1.1.1.0 refl
      stored_all (suc (suc zero)) h a = a.1.1.1.1.0 refl
      stored_all (suc (suc (suc zero))) h a = a.1.1.1.0 refl
      stored_all (suc (suc (suc (suc zero)))) h a = a.1.1.0 refl
      stored_all (suc (suc (suc (suc (suc zero))))) h a = a.1.0 refl
      stored_all (suc (suc (suc (suc (suc (suc zero)))))) h a = a.0 refl
      stored_all (suc (suc (suc (suc (suc (suc (suc f))))))) h a = omega arith

      go : (m f : ℕ) → Dec (m ≡ n) → f < link_numbers → Apart (link_at m f) (numbers x n next) → index_of r (link_at m f) ≡ index_of r' (link_at m f)
      go m f (yes e) h a = absurd (stored_all f h (subst (λ (k : ℕ). Apart (link_at k f) (numbers x n next)) e a))
      go m f (no o) h a = link_kept m f o

  right : (f : ℕ) → f < link_numbers → Inside (link_at n f) × (index_of r' (link_at n f) ≡ get_or (numbers_of next x) f 0)
  right f h = ((few, h), number_new f)

  rights : Right (index_of r') (stores x n next)
  rights = (cell, (here, ((right 6 (omega arith)).0, ((right 6 (omega arith)).1, ((right 5 (omega arith)).0, ((right 5 (omega arith)).1, ((right 4 (omega arith)).0, ((right 4 (omega arith)).1, ((right 3 (omega arith)).0, ((right 3 (omega arith)).1, ((right 2 (omega arith)).0, ((right 2 (omega arith)).1, ((right 1 (omega arith)).0, ((right 1 (omega arith)).1, ((right 0 (omega arith)).0, ((right 0 (omega arith)).1, tt))))))))))))))))

  no_count : Apart link_count (stores x n next)
  no_count = ((λ e. impossible (cc)), ((λ e. impossible (cc)), ((λ e. impossible (cc)), ((λ e. impossible (cc)), ((λ e. impossible (cc)), ((λ e. impossible (cc)), ((λ e. impossible (cc)), ((λ e. impossible (cc)), tt))))))))

  kept : (q : Place) → Same r r' link_count ss q
  kept =
      every_place (Same r r' link_count ss) (same_csds r r' link_count ss refl) (same_securities r r' link_count ss refl) (same_accounts r r' link_count ss refl)
      (same_pairs r r' link_count ss refl) own

  -- of an investor link
  investor : x.kind ≡ 1 → x.technical < csd_limit → Change (index_of r) (index_of r') link_count ss
  investor k small =
      record {
        inside = tt;
        few = omega (arith, few);
        more = one_more_row r.links x;
        apart = ((λ e. impossible (cc)), no_count);
        right = ((cell.0, small), (target_new k, rights));
        kept = kept;
      }

  -- of an issuer link, which has no technical issuer
  issuer : x.technical ≡ no_csd → Change (index_of r) (index_of r') link_count (stores x n next)
  issuer e =
      record {
        inside = tt;
        few = omega (arith, few);
        more = one_more_row r.links x;
        apart = no_count;
        right = rights;
        kept = λ q i o a. kept q i o ((λ f. let outside : Inside (target_at x.security x.technical) = rw f at i in omega (arith, outside.1, e)), a);
      }

pub link_added : (k : Kept) (d : Directory) (x : Link) → Keeps k d → first_of (row_conditions (rows_of d) (link_row x)) ≡ 0 → Keeps (with_row_in (link_row x) k) (add_row (link_row x) d)
unfolding with_link with_target link_refusal
link_added k d x h ok =
    let r : Rows = rows_of d in
    let N : NewLink r r.links x = accepted_link r r.links x ok in
    let few = not_full link_limit r.links N.room in
    let F = facts h.indexed in
    let cell : (x.security < security_limit) × (x.csd < csd_limit) =
    (security_small (rows_on 0 d) F x.security N.facts.security_row, csd_small (rows_on 0 d) F x.csd N.facts.csd_row) in
    let names = same_names k.names r (with_row (link_row x) r) refl refl h.named in
    rw (number_is k d h link_count tt, number_is k d h (newest_at x.security x.csd) cell, lt-ltb (length r.links) link_limit few)
    elim N.facts.kind [
      | inl e ↦ rw (ne_eqb x.kind 1 (λ f. omega (arith, e, f))) (grown k d h (link_row x) ok (issuer r x few cell (N.facts.issuer e).technical) k.names names)
      | inr e ↦ rw (eq-eqb x.kind 1 e) (grown k d h (link_row x) ok (investor r x few cell e (csd_small (rows_on 0 d) F x.technical (N.facts.investor e).technical_row)) k.names names)
    ]
