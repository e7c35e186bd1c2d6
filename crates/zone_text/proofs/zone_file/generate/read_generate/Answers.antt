use Rattle.std.proofs.lemmas.Result.{err_from_is_err_and}
use Rattle.zone_text.proofs.BehindOwner.{IsOnce, front_is, no_field, once, type_here}
use Rattle.zone_text.proofs.GenerateOnce.{generated, no_front, no_parts, no_range, no_rhs, refused}
use Rattle.zone_text.proofs.zone_file.generate.read_generate.Goals as goal

pub returns-in_err-range-clause-refused : goal.returns-in_err-range-clause-refused
returns-in_err-range-clause-refused c =
    let p = err_from_is_err_and c.from_residual.result c.from_residual.ensures.1 in
    rw (p.1, p.2) (λ other. no_parts c.args.before.now c.args.behind.now c.in_err-range.ensures.refused)

pub returns-in_err-ttl-clause-refused : goal.returns-in_err-ttl-clause-refused
returns-in_err-ttl-clause-refused c =
    let p = err_from_is_err_and c.from_residual-in_err-ttl.result c.from_residual-in_err-ttl.ensures.1 in
    rw (p.1, p.2) (λ other. no_front c.args.before.now c.args.behind.now c.in_ok-range.range.now c.in_ok-range.lhs.now c.in_ok-range.fields.now c.in_ok-range.ensures.parts
    (λ own number more front stored. c.in_err-ttl.ensures.refused other own number more front))

pub returns-in_default-clause-refused : goal.returns-in_default-clause-refused
returns-in_default-clause-refused c = λ other. no_front c.args.before.now c.args.behind.now c.in_ok-range.range.now c.in_ok-range.lhs.now c.in_ok-range.fields.now c.in_ok-range.ensures.parts
    (λ own number more front stored. no_field c.in_ok-range.fields.now c.in_ok-ttl.ttl c.in_ok-ttl.types.now c.in_ok-ttl.ensures.most c.in_default.ensures.cases own number more front)

pub returns-in_err-zone_type-clause-refused : goal.returns-in_err-zone_type-clause-refused
returns-in_err-zone_type-clause-refused c =
    let p = err_from_is_err_and c.from_residual-in_err-zone_type.result c.from_residual-in_err-zone_type.ensures.1 in
    rw (p.1, p.2) (λ other. no_front c.args.before.now c.args.behind.now c.in_ok-range.range.now c.in_ok-range.lhs.now c.in_ok-range.fields.now c.in_ok-range.ensures.parts
    (λ own number more front stored. c.in_err-zone_type.ensures.refused other number (type_here c.in_ok-range.fields.now c.in_ok-ttl.ttl c.in_ok-ttl.types.now c.in_ok-ttl.ensures.most c.in-Some.word.now c.in-Some.data.now c.in-Some.ensures.cases.0 own number more front) stored))

pub returns-in_err-rhs-clause-refused : goal.returns-in_err-rhs-clause-refused
returns-in_err-rhs-clause-refused c =
    let p = err_from_is_err_and c.from_residual-in_err-rhs.result c.from_residual-in_err-rhs.ensures.1 in
    let all : IsOnce c.in_ok-range.fields.now c.in_ok-ttl.ttl c.in_ok-zone_type.field-0 c.in-Some.data.now =
    once c.in_ok-range.fields.now c.in_ok-ttl.ttl c.in_ok-ttl.types.now c.in_ok-ttl.ensures.most c.in-Some.word.now c.in-Some.data.now c.in-Some.ensures.cases.0 c.in_ok-zone_type.field-0 c.in_ok-zone_type.ensures.typed in
    rw (p.1, p.2) (λ other. no_rhs c.args.before.now c.args.behind.now c.in_ok-range.range.now c.in_ok-range.lhs.now c.in_ok-range.fields.now c.in_ok-range.ensures.parts
    c.in_ok-ttl.ttl c.in_ok-zone_type.field-0 c.in-Some.data.now all c.in_err-rhs.ensures.refused)

pub returns-in_err-numbers-clause-refused : goal.returns-in_err-numbers-clause-refused
returns-in_err-numbers-clause-refused c =
    let p = err_from_is_err_and c.from_residual-in_err-numbers.result c.from_residual-in_err-numbers.ensures.1 in
    rw (p.1, p.2) (λ other. no_range c.args.before.now c.args.behind.now c.in_ok-range.range.now c.in_ok-range.lhs.now c.in_ok-range.fields.now c.in_ok-range.ensures.parts (c.in_err-numbers.ensures.refused other))

pub returns-clause-generated : goal.returns-clause-generated
returns-clause-generated c = generated c.args.before.now c.args.behind.now c.in_ok-range.range.now c.in_ok-range.lhs.now c.in_ok-range.fields.now c.in_ok-range.ensures.parts
    c.in_ok-ttl.ttl c.in_ok-zone_type.field-0 c.in-Some.data.now c.in_ok-rhs.rhs.now c.in_ok-numbers.numbers c.numbered_records.result
    (front_is c.in_ok-range.fields.now c.in_ok-ttl.types.now c.in-Some.data.now c.in_ok-ttl.ttl c.in_ok-zone_type.field-0 c.in-Some.word.now c.in_ok-ttl.ensures.timed c.in-Some.ensures.cases.0 c.in_ok-zone_type.ensures.typed)
    c.in_ok-rhs.ensures.only c.in_ok-zone_type.ensures.stored c.in_ok-numbers.ensures.range c.numbered_records.ensures.each

pub returns-clause-refused : goal.returns-clause-refused
returns-clause-refused c =
    let all : IsOnce c.in_ok-range.fields.now c.in_ok-ttl.ttl c.in_ok-zone_type.field-0 c.in-Some.data.now =
    once c.in_ok-range.fields.now c.in_ok-ttl.ttl c.in_ok-ttl.types.now c.in_ok-ttl.ensures.most c.in-Some.word.now c.in-Some.data.now c.in-Some.ensures.cases.0 c.in_ok-zone_type.field-0 c.in_ok-zone_type.ensures.typed in
    refused c.args.before.now c.args.behind.now c.in_ok-range.range.now c.in_ok-range.lhs.now c.in_ok-range.fields.now c.in_ok-range.ensures.parts
    c.in_ok-ttl.ttl c.in_ok-zone_type.field-0 c.in-Some.data.now c.in_ok-rhs.rhs.now c.in_ok-numbers.numbers c.numbered_records.result all c.in_ok-rhs.ensures.only c.in_ok-numbers.ensures.range c.numbered_records.ensures.refused
