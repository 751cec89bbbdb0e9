-- Rows read one after the other, and a directory of its five tables.
use Prim.Native.Nat.{ℕ, zero, suc, ◌+◌, ◌*◌}
use mathlib.Core.Path.{◌≡◌, refl}
use mathlib.Core.List.{List}
use lib.ListN.{drop, get_or}
use Rattle.rules.specs.declared.Csd.{Csd}
use Rattle.rules.specs.declared.Security.{Security}
use Rattle.rules.specs.declared.Account.{Account}
use Rattle.rules.specs.declared.Pair.{Pair}
use Rattle.rules.specs.declared.Link.{Link}
use Rattle.rules.specs.declared.Table.{Table}
use Rattle.rules.specs.declared.Directory.{Directory}
use Rattle.rules.specs.Directory.{csd_limit, security_limit, account_limit, pair_limit, link_limit}
use Rattle.wire.specs.Operands.{listed, csd_in, security_in}
use Rattle.layout.specs.Layout.{csd_width, security_width, account_width, pair_width, link_width, csds_start, securities_start, accounts_start, pairs_start, links_start}
use Rattle.layout.specs.Layout.{rows_in, account_in, pair_in, link_in, csds_in, securities_in, accounts_in, pairs_in, links_in, directory_in}

-- each as it is read where it starts
rows_read : {A : Type 0} (row : List ℕ → A) (start w : ℕ) (bytes : List ℕ) (n : ℕ) → listed (λ i. row (drop (start + i * w) bytes)) n ≡ rows_in row start w bytes n
unfolding listed rows_in
rows_read row start w bytes zero = refl
rows_read row start w bytes (suc n) = rw (rows_read row start w bytes n)

-- a table of such rows
abbrev pub table : {A : Type 0} (n : ℕ) → (List ℕ → A) → ℕ → ℕ → ℕ → List ℕ → Table A n
table n row start w count bytes = record { count = count; rows = listed (λ i. row (drop (start + i * w) bytes)) n }

abbrev pub tables : Table Csd csd_limit → Table Security security_limit → Table Account account_limit → Table Pair pair_limit → Table Link link_limit → Directory
tables a b c d e = record { csds = a; securities = b; accounts = c; pairs = d; links = e }

module _ (counts bytes : List ℕ) (n₀ n₁ n₂ n₃ n₄ : ℕ) (a : Table Csd csd_limit) (b : Table Security security_limit) (c : Table Account account_limit) (d : Table Pair pair_limit) (e : Table Link link_limit) where
  pub all_read : n₀ ≡ get_or counts 0 0 → a ≡ table csd_limit csd_in csds_start csd_width n₀ bytes → n₁ ≡ get_or counts 1 0
      → b ≡ table security_limit security_in securities_start security_width n₁ bytes → n₂ ≡ get_or counts 2 0
      → c ≡ table account_limit account_in accounts_start account_width n₂ bytes → n₃ ≡ get_or counts 3 0
      → d ≡ table pair_limit pair_in pairs_start pair_width n₃ bytes → n₄ ≡ get_or counts 4 0 → e ≡ table link_limit link_in links_start link_width n₄ bytes
      → tables a b c d e ≡ directory_in counts bytes
  unfolding directory_in csds_in securities_in accounts_in pairs_in links_in
  all_read m₀ f₀ m₁ f₁ m₂ f₂ m₃ f₃ m₄ f₄ =
      rw (f₀, f₁, f₂, f₃, f₄, m₀, m₁, m₂, m₃, m₄, rows_read csd_in csds_start csd_width bytes csd_limit, rows_read security_in securities_start security_width bytes security_limit, rows_read account_in accounts_start account_width bytes account_limit, rows_read pair_in pairs_start pair_width bytes pair_limit, rows_read link_in links_start link_width bytes link_limit)
