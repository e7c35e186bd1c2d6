-- A signed message is served and its replies signed, or it is refused.
use Rattle.std.proofs.Common.{◌≡◌, inl, rules, refl, sym, ◌∙◌}
use Rattle.hickory_base.proofs.lemmas.ResultMaps.{if_ok_map}
use Rattle.hickory_server.proofs.lemmas.server.BytesServed.{to_be_served}
use Rattle.hickory_server.proofs.lemmas.server.Results.{if_err_map}
use Rattle.signed_server.specs.ServedWithKeys.{course_of}
use Rattle.signed_server.specs.ServedWithKeys.ServedWithKeys.{bad, good, unreadable}
use Rattle.signed_server.specs.declared.service.Course.TheVariants.{Sign}
use Rattle.signed_server.proofs.Courses.{sign_is_left}
use Rattle.signed_server.proofs.service.SignedServer.serve_signed.Goals as goal

pub returns-in-Err : goal.returns-in-Err
returns-in-Err g c = record {
  keys = refl;
  names = refl;
  rules = c.read.ensures.kept.0;
  others = rw c.read.ensures.kept.1 refl;
  ok = if_ok_map c.form_error.result _ _ c.form_error.ensures.ok (λ answer is.
      unreadable {judgement = c.args.judgement.now} {e = c.in-Err.field-0} c.requires.judging c.requires.judged (c.in-Err.ensures.fault (search rules)) is (rw c.read.ensures.kept.1 refl));
  err = if_err_map c.form_error.result _ _ c.form_error.ensures.err (λ e is. inl (is, rw c.read.ensures.kept.1 refl));
}

pub returns-in-Ok-refused-clause-ok : goal.returns-in-Ok-refused-clause-ok
returns-in-Ok-refused-clause-ok g c =
    let refused = rw (c.read.ensures.kept.0, c.request.ensures) at c.in-Ok-refused.ensures in
    bad {judgement = c.args.judgement.now} c.requires.judging c.requires.judged (sym c.course_of.ensures ∙ c.in-Refuse.is) c.in-Ok.ensures.read refused refl (rw c.read.ensures.kept.1 refl)

pub serve_good-requires : goal.serve_good-requires
serve_good-requires g c =
    let it = c.requires.judging.request in
    rw c.read.ensures.kept.0 (to_be_served c.args.self.now.server.rules.access c.read.new.self.request c.in-Ok.ensures.read it.allowed it.whole it.no_response)

pub returns-in_default : goal.returns-in_default
returns-in_default g c =
    let read = c.in-Ok.ensures.read in
    let left : course_of c.args.judgement.now ≡ Sign = sign_is_left (course_of c.args.judgement.now) c.requires.signed (λ is. c.in_default.not-Refuse (c.course_of.ensures ∙ is)) in record {
      keys = refl;
      names = refl;
      rules = c.serve_good.ensures.rules ∙ c.read.ensures.kept.0;
      others = rw c.read.ensures.kept.1 at c.serve_good.ensures.others;
      ok = if_ok_map c.serve_good.result _ _ (rw (c.read.ensures.kept.0, c.read.ensures.kept.1) at c.serve_good.ensures.ok) (λ answer t.
          let (theirs, served, are_rules, is_served, is_sent) = t in
          good {judgement = c.args.judgement.now} {served = served} {theirs = theirs} c.requires.judging c.requires.judged left read (rw c.as_slice-names.ensures.value at are_rules)
          (rw (read.raw, read.source_is, read.protocol_is) at is_served) is_sent);
      err = rw (c.as_slice-names.ensures.value, c.read.ensures.kept.0, c.read.ensures.kept.1, read.raw, read.source_is, read.protocol_is) at c.serve_good.ensures.err;
    }
