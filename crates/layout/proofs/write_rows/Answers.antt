-- The five tables stand one behind the other, from the first byte to the last.
use native.Mathlib.Omega.{arith}
use mathlib.Core.Path.{◌≡◌, ◌∙◌}
use lib.ListN.{length}
use Rattle.rules.specs.Directory.{csd_limit, security_limit, account_limit, pair_limit, link_limit}
use Rattle.layout.specs.Layout.{csds_start, securities_start, accounts_start, pairs_start, links_start, rows_length, bytes_of, bytes_of_csds, bytes_of_securities, bytes_of_accounts, bytes_of_pairs, bytes_of_links, Put}
use Rattle.layout.proofs.Bytes.{five, fills}
use Rattle.layout.proofs.write_rows.Goals as goal

pub returns-then-bytes-eq-ROWS : goal.returns-then-bytes-eq-ROWS
unfolding bytes_of
returns-then-bytes-eq-ROWS c =
    let old = c.args.bytes.now in
    let d = c.args.directory in
    let b₁ = c.put_rows.new.bytes in
    let b₂ = c.put_rows-then-bytes-eq-ROWS.new.bytes in
    let b₃ = c.put_rows-then-bytes-eq-ROWS-2.new.bytes in
    let b₄ = c.put_rows-then-bytes-eq-ROWS-3.new.bytes in
    let b₅ = c.put_rows-then-bytes-eq-ROWS-4.new.bytes in
    let n₁ : length d.csds.rows ≡ csd_limit = omega arith in
    let n₂ : length d.securities.rows ≡ security_limit = omega arith in
    let n₃ : length d.accounts.rows ≡ account_limit = omega arith in
    let n₄ : length d.pairs.rows ≡ pair_limit = omega arith in
    let n₅ : length d.links.rows ≡ link_limit = omega arith in
    let x₁ : Put csds_start securities_start (bytes_of_csds d.csds) old b₁ = rw n₁ at c.put_rows.ensures in
    let x₂ : Put securities_start accounts_start (bytes_of_securities d.securities) b₁ b₂ = rw n₂ at c.put_rows-then-bytes-eq-ROWS.ensures in
    let x₃ : Put accounts_start pairs_start (bytes_of_accounts d.accounts) b₂ b₃ = rw n₃ at c.put_rows-then-bytes-eq-ROWS-2.ensures in
    let x₄ : Put pairs_start links_start (bytes_of_pairs d.pairs) b₃ b₄ = rw n₄ at c.put_rows-then-bytes-eq-ROWS-3.ensures in
    let x₅ : Put links_start rows_length (bytes_of_links d.links) b₄ b₅ = rw n₅ at c.put_rows-then-bytes-eq-ROWS-4.ensures in
    five securities_start accounts_start pairs_start links_start rows_length old b₁ b₂ b₃ b₄ b₅
    (bytes_of_csds d.csds) (bytes_of_securities d.securities) (bytes_of_accounts d.accounts) (bytes_of_pairs d.pairs) (bytes_of_links d.links)
    c.if-bytes-eq-ROWS.true x₁ x₂ x₃ x₄ x₅
    ∙ fills rows_length (bytes_of d) old c.if-bytes-eq-ROWS.true
