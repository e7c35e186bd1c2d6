use Rattle.std.proofs.Common.{◌∙◌, ap, refl, sym}
use Rattle.std.proofs.lemmas.Result.{err_from_is_err_and}
use Rattle.wire_messages.specs.serialize.reading.RecordReading.{resource}
use Rattle.wire_reading.proofs.lemmas.serialize.reading.OptRecord.{opt_is_next, record_is_next, fails_first, record_put, edns_put, put_record, put_edns}
use Rattle.wire_reading.proofs.serialize.reading.decoder.BinDecoder.read_additional.Goals as goal

pub returns-in_err-edns-clause-exact : goal.returns-in_err-edns-clause-exact
returns-in_err-edns-clause-exact c =
    let p = err_from_is_err_and c.from_residual.result c.from_residual.ensures.1 in
    let is = opt_is_next c.args.additionals.now c.args.self.now _ _ (c.if-skip_opt_front.ensures.root refl) (c.if-skip_opt_front.ensures.kind refl) in
    rw (p.1, p.2) (fails_first _ _ (put_edns c.args.additionals.now) _ is c.in_err-edns.ensures.0)

pub returns-then-skip_opt_front-clause-exact : goal.returns-then-skip_opt_front-clause-exact
returns-then-skip_opt_front-clause-exact c =
    edns_put c.args.additionals.now _ c.args.self.now _ _ _ c.in_ok-edns.edns _ (c.if-skip_opt_front.ensures.root refl) (c.if-skip_opt_front.ensures.kind refl) c.in_ok-edns.ensures.0 c.add_edns.ensures

pub returns-in_err-next-clause-exact : goal.returns-in_err-next-clause-exact
returns-in_err-next-clause-exact c =
    let p = err_from_is_err_and c.from_residual-in_err-next.result c.from_residual-in_err-next.ensures.1 in
    let same = ap resource (c.if-skip_opt_front.ensures.none refl) in
    rw (p.1, p.2) (fails_first _ _ (put_record c.args.additionals.now) _ (record_is_next c.args.additionals.now c.args.self.now) (λ not_memory. sym same ∙ c.in_err-next.ensures.exact.0 not_memory))

pub returns-clause-exact : goal.returns-clause-exact
returns-clause-exact c =
    let same = ap resource (c.if-skip_opt_front.ensures.none refl) in
    record_put c.args.additionals.now _ c.args.self.now _ c.in_ok-next.next _ (sym same ∙ c.in_ok-next.ensures.exact.0) c.add.ensures
