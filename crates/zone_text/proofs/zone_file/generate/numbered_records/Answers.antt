use Rattle.std.proofs.Common.{◌≡◌, ◌∙◌, ◌+◌, ◌*◌, ◌≤◌, ℕ, List, [], ◌∷◌, length, length-append, sym, ap, subst, arith}
use Rattle.std.proofs.lemmas.Result.{err_from_is_err_and}
use Rattle.wire_messages.specs.declared.rr.rdata.RData.{RData}
use Rattle.wire_messages.specs.declared.rr.record.Record.{Record}
use Rattle.zone_text.specs.ZoneFiles.{IsNumberedRecord, template}
use Rattle.zone_text.specs.ZoneFiles.AreEach.{none}
use Rattle.zone_text.proofs.Generating.{all_reached, below_more, each_of, next_number, one_more}
use Rattle.zone_text.proofs.zone_file.generate.numbered_records.Goals as goal

pub numbers-init : goal.numbers-init
numbers-init c = rw c.new-records.ensures (record { each = none; at = omega arith; below = λ k less. absurd (omega (arith, less)) })

pub returns-in_err-record-clause-refused : goal.returns-in_err-record-clause-refused
returns-in_err-record-clause-refused c =
    let p = err_from_is_err_and c.from_residual.result c.from_residual.ensures.1 in
    let range = c.args.range.now in
    let k : ℕ = length c.numbers.records in
    rw (p.1, p.2) (λ other count reached records each.
    let within : range.first + k * range.step ≤ range.last = subst (λ (n : ℕ). n ≤ range.last) c.numbers.invariant.at c.numbers-test.true in
    let one = each_of (λ n. IsNumberedRecord c.args.before.now (template c.args.lhs.now c.args.front.now.ttl c.args.front.now.record_type c.args.rhs.now) (range.first + n * range.step)) count k records each ((reached k).1 within) in
    c.in_err-record.ensures.refused other one.0 (subst (λ (n : ℕ). IsNumberedRecord c.args.before.now (template c.args.lhs.now c.args.front.now.ttl c.args.front.now.record_type c.args.rhs.now) n one.0) (sym c.numbers.invariant.at) one.1))

pub numbers-preserved : goal.numbers-preserved
numbers-preserved c =
    let range = c.args.range.now in
    let old : List (Record RData) = c.numbers.records in
    let new : List (Record RData) = c.push.new.self in
    let longer : length new ≡ length old + 1 = ap length c.in_ok-push.ensures.ok ∙ length-append old (c.in_ok-record.record ∷ []) in
    record {
      each = one_more (λ k. IsNumberedRecord c.args.before.now (template c.args.lhs.now c.args.front.now.ttl c.args.front.now.record_type c.args.rhs.now) (range.first + k * range.step)) old new c.in_ok-record.record c.in_ok-push.ensures.ok c.numbers.invariant.each
          (subst (λ (n : ℕ). IsNumberedRecord c.args.before.now (template c.args.lhs.now c.args.front.now.ttl c.args.front.now.record_type c.args.rhs.now) n c.in_ok-record.record) c.numbers.invariant.at c.in_ok-record.ensures.record_is);
      at = ap (λ (n : ℕ). n + range.step) c.numbers.invariant.at ∙ next_number range.first range.step (length old) ∙ ap (λ (n : ℕ). range.first + n * range.step) (sym longer);
      below = below_more range.first range.step range.last (length old) (length new) longer (subst (λ (n : ℕ). n ≤ range.last) c.numbers.invariant.at c.numbers-test.true) c.numbers.invariant.below;
    }

pub returns-clause-each : goal.returns-clause-each
returns-clause-each c = (length c.numbers.records, all_reached c.args.range.now (length c.numbers.records) (omega (arith, c.numbers-test.false, c.numbers.invariant.at)) c.numbers.invariant.below, c.numbers.invariant.each)
