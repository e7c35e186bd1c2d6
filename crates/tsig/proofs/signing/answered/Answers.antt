-- For a wrong key or MAC the reply has no MAC.
use Rattle.std.proofs.Common.{◌≡◌, Some, ◌∙◌, subst}
use Rattle.wire_messages.specs.declared.rr.tsig.TSIG.{TSIG}
use Rattle.tsig.specs.Signing.{Puts, id_of, reply_data, without_mac}
use Rattle.tsig.specs.declared.judgement.Verdict.TheVariants.{BadKey, BadSig}
use Rattle.tsig.proofs.signing.answered.Goals as goal

pub returns-in-BadKey-clause-puts : goal.returns-in-BadKey-clause-puts
returns-in-BadKey-clause-puts c =
    let e : c.in_ok-t.t ≡ reply_data c.args.s.now.rdata BadKey c.args.now (id_of c.args.message.now) =
    c.in_ok-t.ensures ∙ (λ i. reply_data c.args.s.now.rdata (c.in-BadKey.is i) c.args.now (c.id_of.ensures i)) in
    rw c.in-BadKey.is
    (subst (λ (t : TSIG). Puts (Some (without_mac c.args.s.now t c.args.message.now)) c.args.out.now.items c.put_without_mac.new.out.items c.put_without_mac.result) e c.put_without_mac.ensures.puts)

pub returns-in-BadSig-clause-puts : goal.returns-in-BadSig-clause-puts
returns-in-BadSig-clause-puts c =
    let e : c.in_ok-t.t ≡ reply_data c.args.s.now.rdata BadSig c.args.now (id_of c.args.message.now) =
    c.in_ok-t.ensures ∙ (λ i. reply_data c.args.s.now.rdata (c.in-BadSig.is i) c.args.now (c.id_of.ensures i)) in
    rw c.in-BadSig.is
    (subst (λ (t : TSIG). Puts (Some (without_mac c.args.s.now t c.args.message.now)) c.args.out.now.items c.put_without_mac-in-BadSig.new.out.items c.put_without_mac-in-BadSig.result) e c.put_without_mac-in-BadSig.ensures.puts)
