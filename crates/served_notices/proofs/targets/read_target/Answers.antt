-- The text is split at its first @.
use Rattle.std.proofs.Common.{◌<◌, ℕ, Some, arith, subst, sym}
use Rattle.std.proofs.lemmas.Result.{IfOk-weaker}
use Rattle.std.proofs.lemmas.Str.Pattern.{split_parts}
use Rattle.std.specs.Net.Grammar.{IsNumber}
use Rattle.notices.specs.declared.notice.Target.{Target}
use Rattle.served_notices.specs.TargetTexts.{IsTargetText}
use Rattle.served_notices.specs.TargetTexts.IsTargetText.{with_port}
use Rattle.served_notices.proofs.targets.read_target.Goals as goal

pub returns-in_ok-port_of-in-Some : goal.returns-in_ok-port_of-in-Some
returns-in_ok-port_of-in-Some c =
    let split = split_parts 64 c.args.text.now (Some (c.in-Some.address, c.in-Some.digits)) c.in-Some.ensures.cases (omega arith) in
    let port = c.in_ok-port_of-in-Some.ensures in
    IfOk-weaker c.target_at.result _ (IsTargetText c.args.text.now)
    (λ target is. with_port c.in-Some.address.now c.in-Some.digits.now split.0 is.0
    (subst (λ (p : ℕ). IsNumber 10 c.in-Some.digits.now p) (sym is.1) port.0) (subst (λ (p : ℕ). 0 < p) (sym is.1) port.1))
    c.target_at.ensures
