-- A table with room, and a row more in it. Assumes nothing.
use Rattle.std.specs.Prelude.{ℕ, ◌+◌, ◌<◌, set}
use Rattle.rules.specs.declared.Table.{Table}
use Rattle.rules.specs.declared.Directory.{Directory}
use Rattle.rules.specs.Directory.{csd_limit, security_limit, account_limit, pair_limit, link_limit}
use Rattle.rules.specs.Entries.{Row, csd_row, security_row, account_row, pair_row, link_row}

-- a row behind those in use
abbrev pub with_row : {A : Type 0} {n : ℕ} → Table A n → A → Table A n
with_row t x = record { count = t.count + 1; rows = set t.rows t.count x }

-- the row's table has room
abbrev pub HasRoom : Row → Directory → Type 0
HasRoom (csd_row x) d = d.csds.count < csd_limit
HasRoom (security_row x) d = d.securities.count < security_limit
HasRoom (account_row x) d = d.accounts.count < account_limit
HasRoom (pair_row x) d = d.pairs.count < pair_limit
HasRoom (link_row x) d = d.links.count < link_limit
