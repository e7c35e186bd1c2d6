use Rattle.std.proofs.Common.{◌≢◌, ℕ, List, Option, Result, Ok, Err, subst}
use Rattle.std.specs.Prelude.{IfErr, IfOk}
use Rattle.std.proofs.lemmas.Result.{err_from_is_err_and}
use Rattle.wire_messages.specs.declared.rr.rdata.RData.{RData}
use Rattle.wire_messages.specs.declared.rr.record.Record.{Record}
use Rattle.record_text.specs.RecordText.{HasNone}
use Rattle.text_words.specs.declared.words.Word.{Word}
use Rattle.zone_text.specs.declared.zone_file.entry.Before.{Before}
use Rattle.zone_text.specs.declared.zone_file.fault.EntryError.{EntryError}
use Rattle.zone_text.specs.declared.zone_file.fault.EntryError.TheVariants.{Memory}
use Rattle.zone_text.specs.ZoneFiles.{IsBehindOwner, IsFrontOf, IsTyped, IsZoneType}
use Rattle.zone_text.proofs.BehindOwner.{IsOnce, front_is, no_field, once, type_here, typed_of}
use Rattle.zone_text.proofs.zone_file.entry.record_behind.Goals as goal

pub returns-in_err-ttl-clause-refused : goal.returns-in_err-ttl-clause-refused
returns-in_err-ttl-clause-refused c =
    let p = err_from_is_err_and c.from_residual.result c.from_residual.ensures.1 in
    rw (p.1, p.2) (λ other r is. c.in_err-ttl.ensures.refused other is.own is.number is.behind is.front)

pub returns-in_default-clause-refused : goal.returns-in_default-clause-refused
returns-in_default-clause-refused c = λ other r is. no_field c.args.words.now c.in_ok-ttl.ttl c.in_ok-ttl.fields.now c.in_ok-ttl.ensures.most c.in_default.ensures.cases is.own is.number is.behind is.front

stored : (before : Before) (words : List Word) (r : Record RData) → (is : IsBehindOwner before words r) → IsZoneType is.number
stored before words r is = subst IsZoneType is.is.typed is.is.kept.stored

pub returns-in_err-zone_type-clause-refused : goal.returns-in_err-zone_type-clause-refused
returns-in_err-zone_type-clause-refused c =
    let p = err_from_is_err_and c.from_residual-in_err-zone_type.result c.from_residual-in_err-zone_type.ensures.1 in
    rw (p.1, p.2) (λ other r is. c.in_err-zone_type.ensures.refused other is.number (type_here c.args.words.now c.in_ok-ttl.ttl c.in_ok-ttl.fields.now c.in_ok-ttl.ensures.most c.in-Some.word.now c.in-Some.data.now c.in-Some.ensures.cases.0 is.own is.number is.behind is.front) (stored c.args.before.now c.args.words.now r is))

behind : (before : Before) (words : List Word) (own : Option ℕ) (type : ℕ) (fields : List Word) (r : Result (Record RData) EntryError) → IsFrontOf words own type fields → IfOk r (IsTyped before own type fields) → IfOk r (IsBehindOwner before words)
behind before words own type fields (Ok r) front is = record { own = own; number = type; behind = fields; front = front; is = is }
behind before words own type fields (Err e) front is = is

pub returns-clause-behind : goal.returns-clause-behind
returns-clause-behind c = behind c.args.before.now c.args.words.now c.in_ok-ttl.ttl c.in_ok-zone_type.field-0 c.in-Some.data.now c.typed_record.result
    (front_is c.args.words.now c.in_ok-ttl.fields.now c.in-Some.data.now c.in_ok-ttl.ttl c.in_ok-zone_type.field-0 c.in-Some.word.now c.in_ok-ttl.ensures.timed c.in-Some.ensures.cases.0 c.in_ok-zone_type.ensures.typed) c.typed_record.ensures.typed

refused : (before : Before) (words : List Word) (own : Option ℕ) (type : ℕ) (fields : List Word) (r : Result (Record RData) EntryError) → IsOnce words own type fields → IfErr r (λ e. e ≢ Memory → HasNone (IsTyped before own type fields)) → IfErr r (λ e. e ≢ Memory → HasNone (IsBehindOwner before words))
refused before words own type fields (Ok r) only h = h
refused before words own type fields (Err e) only h = λ other r is. h other r (typed_of before words own type fields r only is)

pub returns-clause-refused : goal.returns-clause-refused
returns-clause-refused c = refused c.args.before.now c.args.words.now c.in_ok-ttl.ttl c.in_ok-zone_type.field-0 c.in-Some.data.now c.typed_record.result
    (once c.args.words.now c.in_ok-ttl.ttl c.in_ok-ttl.fields.now c.in_ok-ttl.ensures.most c.in-Some.word.now c.in-Some.data.now c.in-Some.ensures.cases.0 c.in_ok-zone_type.field-0 c.in_ok-zone_type.ensures.typed) c.typed_record.ensures.refused
