-- `stream::lines::put_step_by` meets its contract: three texts, each before the one behind it, and two bytes in front of them. Assumes nothing.
use mathlib.Core.Path.{◌≡◌, sym, ap, ◌∙◌}
use mathlib.Core.List.{List, [], ◌∷◌, ◌++◌, append_assoc, append-nil}
use Prim.Native.Nat.{ℕ, ◌+◌, ◌^◌, ◌≤◌, ◌<◌}
use native.Mathlib.Omega.{arith}
use lib.ListN.{length}
use Rattle.rules.specs.declared.Step.{Step}
use Rattle.rules.specs.Stream.{decimal, step_line}
use Rattle.text.specs.Appended.{Appended}
use Rattle.text.proofs.Appends.{named, ends_by}
use Rattle.text.proofs.Lengths.{short_decimal, step_long}
use Rattle.stream.specs.Words.{Before, size_of}
use Rattle.stream.proofs.Table.{text_long}
use Rattle.stream.proofs.Backwards.{nothing, ahead, closed}
use Rattle.stream.proofs.lines.put_step_by.Goals as goal

-- a line takes at most 20 bytes
short : {out out' : List ℕ} {at end : ℕ} (step : Step) → Appended out at out' end (step_line step)
    → step.csd < 10 ^ 3 → step.debited < 10 ^ 5 → step.credited < 10 ^ 5 → end ≤ at + 20
short step a c d e =
    omega (arith, ends_by a, step_long step, short_decimal 2 step.csd c, short_decimal 4 step.debited d, short_decimal 4 step.credited e)

-- where a text starts
starts : (to size n b : ℕ) → size ≡ size_of n → to + size ≡ to + length (decimal n ++ (b ∷ []))
starts to size n b e = ap (λ (m : ℕ). to + m) (e ∙ sym (text_long b n))

pub returns-then-debited-ge-THOUSAND : goal.returns-then-debited-ge-THOUSAND
returns-then-debited-ge-THOUSAND c =
    let put = c.put_step.ensures in
    (put, short c.args.step put (omega arith) (omega arith) (omega arith))

pub returns : goal.returns
unfolding step_line
returns c =
    let at = c.args.at in
    let step = c.args.step in
    let x = c.size in
    let y = c.size-2 in
    let z = c.size-3 in
    let a = at + 2 + x.result in
    let b = a + y.result in
    let end = b + z.result in
    let low : at + 4 ≤ a = omega (arith, x.ensures.1.0) in
    let high : end ≤ at + 20 = omega (arith, x.ensures.1.1, y.ensures.1.1, z.ensures.1.1) in
    let credited : Before _ end _ (decimal step.credited ++ (10 ∷ [])) = c.put_before.ensures in
    let debited : Before _ b _ (decimal step.debited ++ (32 ∷ [])) = c.put_before-2.ensures in
    let csd : Before _ a _ (decimal step.csd ++ (32 ∷ [])) = c.put_before-3.ensures in
    let last = ahead b (nothing c.args.out.now at end) credited (omega (arith, low)) (starts b _ _ _ z.ensures.0) in
    let two = ahead a last debited (omega (arith, low)) (starts a _ _ _ y.ensures.0) in
    let all = ahead (at + 2) two csd low (starts (at + 2) _ _ _ x.ensures.0) in
    let line : Appended _ _ _ end (step_line step) =
    named (simp (append_assoc, append-nil)) (closed all (rw c.put_bytes.ensures.1 at c.put_bytes.ensures.0) (omega arith) (omega (arith, high, c.requires))) in
    (line, high)
