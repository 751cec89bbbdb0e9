-- The identifiers that are entered, as bytes in a lent list: each CSD's BIC, then each security's ISIN. Assumes nothing.
use Rattle.std.specs.Prelude.{◌≡◌, ℕ, zero, suc, ◌+◌, ◌*◌, ◌<◌, min, Bool, false, ◌||◌, cond, List, [], ◌∷◌, ltb, length, get_or, set}
use Rattle.std.proofs.Math.Option.{Option, none, some}
use Rattle.std.proofs.Math.ListN.{get_elem?}
use Rattle.rules.specs.declared.Csd.{Csd}
use Rattle.rules.specs.declared.Security.{Security}
use Rattle.rules.specs.Identifiers.{byte_at, same_bic, same_isin}
use Rattle.rules.specs.Directory.{Rows, csd_limit, security_limit}
use Rattle.index.specs.Index.{csd_count, security_count}
use Rattle.index.specs.Asked.{read}

-- bytes of a BIC, and of an ISIN
abbrev pub bic_size : ℕ
bic_size = 11

abbrev pub isin_size : ℕ
isin_size = 12

-- where the ISINs begin
abbrev pub isins : ℕ
isins = bic_size * csd_limit

-- how many bytes there are
abbrev pub names_size : ℕ
names_size = isins + isin_size * security_limit

-- the byte at a place of the list, 0 behind the end
unfoldable pub name_byte : List ℕ → ℕ → ℕ
name_byte b p = cond (ltb p names_size) (get_or b p 0) 0

-- the list with the byte at the place; behind the end nothing is put
unfoldable pub with_byte : List ℕ → ℕ → ℕ → List ℕ
with_byte b p n = cond (ltb p names_size) (set b p n) b

-- the list with the bytes from the place on
unfoldable pub with_bytes : List ℕ → ℕ → List ℕ → List ℕ
with_bytes b p [] = b
with_bytes b p (x ∷ xs) = with_bytes (with_byte b p x) (suc p) xs

-- n bytes of the list from the place on
unfoldable pub bytes_from : List ℕ → ℕ → ℕ → List ℕ
bytes_from b p zero = []
bytes_from b p (suc n) = name_byte b p ∷ bytes_from b (suc p) n

-- the BIC of a CSD
abbrev pub bic_of : List ℕ → ℕ → List ℕ
bic_of b c = bytes_from b (bic_size * c) bic_size

-- the ISIN of a security
abbrev pub isin_of : List ℕ → ℕ → List ℕ
isin_of b s = bytes_from b (isins + isin_size * s) isin_size

-- some number below n passes the test
unfoldable pub any_below : ℕ → (ℕ → Bool) → Bool
any_below zero p = false
any_below (suc n) p = any_below n p || p n

-- "BIC .. already entered": the numbers l have the count of CSDs, the bytes b their BICs
unfoldable pub bic_in : List ℕ → List ℕ → List ℕ → Bool
bic_in l b x = any_below (min (read l csd_count) csd_limit) (λ c. same_bic (bic_of b c) x)

-- "ISIN .. already entered"
unfoldable pub isin_in : List ℕ → List ℕ → List ℕ → Bool
isin_in l b x = any_below (min (read l security_count) security_limit) (λ s. same_isin (isin_of b s) x)

-- a byte of a CSD's BIC, 0 where there is no row
abbrev pub bic_byte : Option Csd → ℕ → ℕ
bic_byte none k = 0
bic_byte (some x) k = byte_at x.bic k

-- a byte of a security's ISIN
abbrev pub isin_byte : Option Security → ℕ → ℕ
isin_byte none k = 0
isin_byte (some x) k = byte_at x.isin k

-- The bytes are the identifiers of the rows in use.
pub record Named (b : List ℕ) (r : Rows) : Type 0 where
  pub size : length b ≡ names_size
  pub bics : (c k : ℕ) → c < csd_limit → k < bic_size → get_or b (bic_size * c + k) 0 ≡ bic_byte (get_elem? r.csds c) k
  pub isins : (s k : ℕ) → s < security_limit → k < isin_size → get_or b (isins + isin_size * s + k) 0 ≡ isin_byte (get_elem? r.securities s) k
