-- What the code asks of each CSD is what the definition asks.
use Rattle.std.proofs.Common.{ℕ, Bool, ◌≡◌, List, [], ◌∷◌, ◌||◌, refl, ap, ◌∙◌, rules}
use borrow.Author.Tests.{tests}
use Rattle.std.specs.List.{list_any}
use Rattle.std.proofs.lemmas.Iterator.{YieldsList-from_slice}
use Rattle.std.proofs.lemmas.Iterator.Search.{any_from_yields_List}
use Rattle.rules.specs.Tests.{any}
use Rattle.walks.specs.Walks.{seen}
use Rattle.walks.specs.Routes.{turns}
use Rattle.walks.proofs.walks.DayLinks.turns_along.Goals as goal

any_is : (p : ℕ → Bool) (l : List ℕ) → list_any p l ≡ any p l
any_is p [] = refl
any_is p (x ∷ l) = ap (λ b. p x || b) (any_is p l)

pub returns : goal.returns
returns c =
    let a = c.args in
    let test : ℕ → Bool = turns (seen a.self.now) a.self.now.security a.target in
    rw (← c.named.ensures.named)
    (any_from_yields_List test _ _ _ c.any.ensures.ran (YieldsList-from_slice c.named.result.now (cc)) (λ x b q k. search (rules, tests)) ∙ any_is test c.named.result.now)
