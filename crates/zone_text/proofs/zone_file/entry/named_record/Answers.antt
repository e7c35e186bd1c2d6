use Rattle.std.proofs.Common.{◌≡◌, ◌≢◌, List, ◌∷◌, Some, refl, Result, Ok, Err, sym, subst, false}
use Rattle.std.specs.Prelude.{IfErr, IfOk}
use Rattle.record_text.specs.RecordText.{HasNone}
use Rattle.text_words.specs.Spelling.{IsNoName}
use Rattle.zone_text.specs.declared.zone_file.fault.EntryError.TheVariants.{Memory}
use Rattle.zone_text.proofs.FirstFaults.{not_wanting}
use Rattle.wire_messages.specs.declared.rr.rdata.RData.{RData}
use Rattle.wire_messages.specs.declared.rr.record.Record.{Record}
use Rattle.wire_names.specs.rr.domain.DomainName.{DomainName}
use Rattle.text_words.specs.declared.words.Word.{Word}
use Rattle.zone_text.specs.declared.zone_file.entry.Before.{Before}
use Rattle.zone_text.specs.declared.zone_file.fault.EntryError.{EntryError}
use Rattle.zone_text.specs.ZoneFiles.{IsBehindOwner, IsDirective, IsName, IsRecordEntry}
use Rattle.zone_text.specs.ZoneFiles.IsRecordEntry.{named}
use Rattle.std.proofs.lemmas.Result.{err_from_is_err_and}
use Rattle.zone_text.proofs.zone_file.entry.named_record.Goals as goal

with_owner : (before : Before) (owner : Word) (behind : List Word) (name : DomainName) (r : Result (Record RData) EntryError) → (IsDirective owner → ⊥) → IsName before.origin owner name → IfOk r (λ kept. kept.name ≡ name) → IfOk r (IsBehindOwner before behind)
    → IfOk r (IsRecordEntry before false (owner ∷ behind))
with_owner before owner behind name (Ok r) plain is same h = named plain (subst (IsName before.origin owner) (sym same) is) h
with_owner before owner behind name (Err e) plain is same h = h

pub returns-clause-entry : goal.returns-clause-entry
returns-clause-entry c = with_owner c.args.before.now c.args.owner.now c.args.behind.now c.in_ok-name.name c.record_behind.result c.requires
    (record { unquoted = c.in_ok-name.ensures.plain; spelled = c.in_ok-name.ensures.spelled; qualified = c.in_ok-name.ensures.qualified; short = c.in_ok-name.ensures.short }) c.record_behind.ensures.named c.record_behind.ensures.behind

refused : (before : Before) (owner : Word) (behind : List Word) (r : Result (Record RData) EntryError) → IfErr r (λ e. e ≢ Memory → HasNone (IsBehindOwner before behind)) → IfErr r (λ e. e ≢ Memory → HasNone (IsRecordEntry before false (owner ∷ behind)))
refused before owner behind (Ok r) h = h
refused before owner behind (Err e) h = λ other r is. by_entry (owner ∷ behind) r refl is (h other) where
  by_entry : (words : List Word) (r : Record RData) → words ≡ (owner ∷ behind) → IsRecordEntry before false words r → HasNone (IsBehindOwner before behind) → ⊥
  by_entry words r same (named {owner = o} {words = ws} plain is at) none =
      let tail : ws ≡ behind = cc in
      none r (subst (λ (x : List Word). IsBehindOwner before x r) tail at)

no_name : (before : Before) (owner : Word) (behind : List Word) → IsNoName (Some before.origin) owner → HasNone (IsRecordEntry before false (owner ∷ behind))
no_name before owner behind none r is = by_entry (owner ∷ behind) r refl is where
  by_entry : (words : List Word) (r : Record RData) → words ≡ (owner ∷ behind) → IsRecordEntry before false words r → ⊥
  by_entry words r same (named {owner = o} {words = ws} plain is at) =
      let head : o ≡ owner = cc in
      let here : IsName before.origin owner r.name = subst (λ (x : Word). IsName before.origin x r.name) head is in
      none r.name.labels here.unquoted here.spelled here.short

pub returns-clause-refused : goal.returns-clause-refused
returns-clause-refused c = refused c.args.before.now c.args.owner.now c.args.behind.now c.record_behind.result c.record_behind.ensures.refused

pub returns-in_err-name-clause-refused : goal.returns-in_err-name-clause-refused
returns-in_err-name-clause-refused c =
    let p = err_from_is_err_and c.from_residual.result c.from_residual.ensures.1 in
    rw p.1 (λ other. no_name c.args.before.now c.args.owner.now c.args.behind.now (c.in_err-name.ensures.refused (not_wanting _ _ p.2 other)))
