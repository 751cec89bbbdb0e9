-- What a look-up answers: a pair's row if there is one, the link that is looked for, and where links lead by default. Assumes nothing.
use Rattle.std.specs.Prelude.{Bool, true, false, ◌&&◌, cond, List, ℕ, zero, suc, Some, None, Option as Answered}
use Rattle.std.proofs.Math.Option.{Option, none, some}
use Rattle.rules.specs.declared.Pair.{Pair}
use Rattle.rules.specs.declared.Link.{Link}
use Rattle.rules.specs.Directory.{covers, issues, defaults, points_to}
use Rattle.rules.specs.Entries.{has_day_in, any_link}
use Rattle.index.specs.declared.links.Leading.{Leading}
use Rattle.index.specs.declared.links.Leading.TheVariants.{Issuer, To, Nowhere}
use Rattle.index.specs.declared.links.Wanted.{Wanted}
use Rattle.index.specs.declared.links.Wanted.TheVariants.{Any, Issuers, Defaults, Towards}
use Rattle.index.specs.Index.{newest_at}
use Rattle.index.specs.Asked.{read, link_in, ends_at, older_at, leads}

-- the pair's row, if there is one, as the code answers it
unfoldable pub pair_found : Option Pair → Answered Pair
pair_found none = None
pair_found (some x) = Some x

-- a link begins at the place, or none does
abbrev pub begins : ℕ → Answered ℕ
begins p = cond (ends_at p) None (Some p)

-- the links that are looked for
abbrev pub wants : Wanted → Link → Bool
wants Any = any_link
wants Issuers = issues
wants Defaults = defaults
wants (Towards t) = points_to t

-- where the newest link from a place on stands that passes the test, 0 for none; k links at most
unfoldable pub code_from : List ℕ → ℕ → ℕ → (Link → Bool) → ℕ → ℕ → ℕ
code_from l s c t zero p = 0
code_from l s c t (suc k) p = cond (ends_at p) 0 (cond (t (link_in l s c p)) p (code_from l s c t k (older_at l p)))

-- where the newest link of the CSD for the security stands that passes the test
abbrev pub found_by : List ℕ → ℕ → ℕ → (Link → Bool) → ℕ
found_by l s c t = code_from l s c t (read l (newest_at s c)) (read l (newest_at s c))

-- that is looked for and has a day from `first` to `last`
abbrev pub found_in : List ℕ → ℕ → ℕ → ℕ → ℕ → Wanted → ℕ
found_in l s c first last w = found_by l s c (λ x. has_day_in first last x && wants w x)

-- the day after the last of a link, if there is one
unfoldable pub day_after : Option Link → Answered ℕ
day_after none = None
day_after (some x) = Some (suc x.last)

-- an issuer's own link comes first; then the default link, if there is one
unfoldable pub leading_of : Bool → Option ℕ → Leading
leading_of true o = Issuer
leading_of false none = Nowhere
leading_of false (some t) = To t

-- the issuer link or default link of a CSD for a security on a day
abbrev pub lead_in : List ℕ → ℕ → ℕ → ℕ → ℕ
lead_in l s c day = found_by l s c (λ x. covers day x && leads x)
