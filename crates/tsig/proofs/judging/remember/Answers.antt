-- What is judged good is good by the key, around its time.
use Rattle.std.proofs.Common.{◌≡◌, ◌<◌, ◌^◌, Some, ap, rules, sym, ◌∙◌}
use Rattle.tsig.specs.JudgingSteps.{judgement_of}
use Rattle.tsig.specs.Keys.{key_of}
use Rattle.tsig.specs.declared.judgement.Judgement.TheVariants.{Signed}
use Rattle.tsig.specs.declared.judgement.Verdict.TheVariants.{Good}
use Rattle.tsig.proofs.Goods.{good_times}
use Rattle.tsig.proofs.judging.remember.Goals as goal

pub remember-requires : goal.remember-requires
remember-requires c =
    let s = c.get-s.result.now in
    let key = c.in-Some.key.now in
    let found : key_of c.args.keys.now s.name ≡ Some key = sym (rw c.in-Some.is at c.find.ensures) in
    let early : s.rdata.time < 2 ^ 48 = search rules in
    let told : c.args.judgement.now ≡ Signed s Good = search rules in
    good_times c.args.keys.now key c.args.bytes.now c.args.now s found early (sym c.requires ∙ told) ∙ ap Some (sym c.times_of.ensures)
