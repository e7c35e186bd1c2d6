use Rattle.std.proofs.Common.{◌≡◌, ◌≢◌, List, Result, Ok, Err, Some, None, take, sym, subst, true}
use Rattle.std.specs.Prelude.{IfErr, IfOk}
use Rattle.record_text.specs.RecordText.{HasNone}
use Rattle.zone_text.specs.declared.zone_file.fault.EntryError.TheVariants.{Memory}
use Rattle.wire_messages.specs.declared.rr.rdata.RData.{RData}
use Rattle.wire_messages.specs.declared.rr.record.Record.{Record}
use Rattle.wire_names.specs.rr.domain.DomainName.{DomainName}
use Rattle.text_words.specs.declared.words.Word.{Word}
use Rattle.zone_text.specs.declared.zone_file.entry.Before.{Before}
use Rattle.zone_text.specs.declared.zone_file.fault.EntryError.{EntryError}
use Rattle.zone_text.specs.ZoneFiles.{IsBehindOwner, IsRecordEntry, last_owner}
use Rattle.zone_text.specs.ZoneFiles.IsRecordEntry.{repeated}
use Rattle.std.proofs.lemmas.Result.{err_from_is_err_and}
use Rattle.zone_text.proofs.zone_file.entry.repeated_record.Goals as goal

none_behind : (before : Before) (words : List Word) → HasNone (IsBehindOwner before words) → HasNone (IsRecordEntry before true words)
none_behind before words none r (repeated owner behind) = none r behind

no_owner : (before : Before) (words : List Word) → last_owner (take before.owned before.records) ≡ None → HasNone (IsRecordEntry before true words)
no_owner before words none r (repeated owner behind) = cc

with_owner : (before : Before) (words : List Word) (name : DomainName) (records : List (Record RData)) (r : Result (Record RData) EntryError) → records ≡ take before.owned before.records → last_owner records ≡ Some name → IfOk r (λ kept. kept.name ≡ name) → IfOk r (IsBehindOwner before words)
    → IfOk r (IsRecordEntry before true words)
with_owner before words name records (Ok r) all last same h =
    repeated (subst (λ (n : DomainName). last_owner (take before.owned before.records) ≡ Some n) (sym same) (subst (λ (rs : List (Record RData)). last_owner rs ≡ Some name) all last)) h
with_owner before words name records (Err e) all last same h = h

pub returns-clause-entry : goal.returns-clause-entry
returns-clause-entry c = with_owner c.args.before.now c.args.words.now c.in_ok-name.name c.owned_records.result.now c.record_behind.result c.owned_records.ensures c.in_ok-name.ensures.owner c.record_behind.ensures.named c.record_behind.ensures.behind

refused : (before : Before) (words : List Word) (r : Result (Record RData) EntryError) → IfErr r (λ e. e ≢ Memory → HasNone (IsBehindOwner before words)) → IfErr r (λ e. e ≢ Memory → HasNone (IsRecordEntry before true words))
refused before words (Ok r) h = h
refused before words (Err e) h = λ other. none_behind before words (h other)

pub returns-clause-refused : goal.returns-clause-refused
returns-clause-refused c = refused c.args.before.now c.args.words.now c.record_behind.result c.record_behind.ensures.refused

pub returns-in_err-name-clause-refused : goal.returns-in_err-name-clause-refused
returns-in_err-name-clause-refused c =
    let p = err_from_is_err_and c.from_residual.result c.from_residual.ensures.1 in
    rw (p.1, p.2) (λ other. no_owner c.args.before.now c.args.words.now (subst (λ (rs : List (Record RData)). last_owner rs ≡ None) c.owned_records.ensures (c.in_err-name.ensures.fault other)))
