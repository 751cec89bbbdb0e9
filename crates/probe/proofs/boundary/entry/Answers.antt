-- By the command's byte: the desk's entry of the row that its decoder reads.
use mathlib.Core.Path.{◌≡◌, sym, ap, ◌∙◌}
use native.Mathlib.Omega.{arith}
use Rattle.rules.specs.declared.Csd.{Csd}
use Rattle.rules.specs.declared.Security.{Security}
use Rattle.rules.specs.Entries.{csd_row, security_row}
use Rattle.rules.specs.Calls.{enter}
use Rattle.rules.specs.Stream.{call_of}
use Rattle.wire.proofs.Decoded.{csd_call, security_call, account_call, pair_call, link_call}
use Rattle.probe.proofs.Read.{entry_tag}
use Rattle.probe.proofs.Moves.{entered_by_lem}
use Rattle.probe.proofs.boundary.entry.Goals as goal

pub returns-then-tag-eq-ENTER_CSD : goal.returns-then-tag-eq-ENTER_CSD
returns-then-tag-eq-ENTER_CSD c =
    let a = c.args in
    entered_by_lem a.directory (call_of a.tag a.operands.now) _ (ap (λ (y : Csd). enter (csd_row y)) c.decode_csd.ensures ∙ sym (csd_call a.tag a.operands.now (omega arith) c.requires.1)) c.enter_csd.result c.enter_csd.ensures

pub returns-then-tag-eq-ENTER_SECURITY : goal.returns-then-tag-eq-ENTER_SECURITY
returns-then-tag-eq-ENTER_SECURITY c =
    let a = c.args in
    entered_by_lem a.directory (call_of a.tag a.operands.now) _ (ap (λ (y : Security). enter (security_row y)) c.decode_security.ensures ∙ sym (security_call a.tag a.operands.now (omega arith) c.requires.1)) c.enter_security.result c.enter_security.ensures

pub returns-then-tag-eq-ENTER_ACCOUNT : goal.returns-then-tag-eq-ENTER_ACCOUNT
returns-then-tag-eq-ENTER_ACCOUNT c =
    let a = c.args in
    entered_by_lem a.directory (call_of a.tag a.operands.now) _ (ap enter c.decode_account.ensures ∙ sym (account_call a.tag a.operands.now (omega arith))) c.enter_account.result c.enter_account.ensures

pub returns-then-tag-eq-ENTER_PAIR : goal.returns-then-tag-eq-ENTER_PAIR
returns-then-tag-eq-ENTER_PAIR c =
    let a = c.args in
    entered_by_lem a.directory (call_of a.tag a.operands.now) _ (ap enter c.decode_pair.ensures ∙ sym (pair_call a.tag a.operands.now (omega arith))) c.enter_pair.result c.enter_pair.ensures

pub returns : goal.returns
returns c =
    let a = c.args in
    let last : a.tag ≡ 5 = entry_tag a.tag c.requires.0 (λ l h. omega arith) (λ k. k) (λ k. omega arith) in
    entered_by_lem a.directory (call_of a.tag a.operands.now) _ (ap enter c.decode_link.ensures ∙ sym (link_call a.tag a.operands.now last)) c.enter_link.result c.enter_link.ensures
