use Rattle.std.proofs.Common.{◌≡◌, ℕ, List, [], ◌∷◌, ◌++◌, Option, length, take, subst, refl, append_assoc, arith}
use Rattle.std.proofs.lemmas.List.{take_all}
use Rattle.std.specs.Int.{w32, to_be_bytes}
use Rattle.std.specs.Option.{option_copied}
use Rattle.std.specs.Prelude.{codes}
use Rattle.wire_messages.specs.declared.rr.rdata.SOA.{SOA}
use Rattle.wire_messages.specs.serialize.writing.FullForm.{name_octets, soa_octets}
use Rattle.wire_names.specs.rr.domain.DomainName.{DomainName}
use Rattle.record_text.specs.declared.data.field.Field.TheVariants.{Number32, Name, Time}
use Rattle.record_text.specs.declared.data.field.Rest.TheVariants.{Nothing}
use Rattle.text_words.specs.declared.words.Word.{Word}
use Rattle.record_text.specs.RecordText.{AreFields, IsData}
use Rattle.record_text.specs.RecordText.AreFields.{none}
use Rattle.record_text.specs.RecordText.IsField.{number32, name, time}
use Rattle.record_text.specs.TypeTable.{TypeRow, row}
use Rattle.std.proofs.lemmas.Result.{err_from_is_err_and}
use Rattle.record_text.proofs.NoField.{no_name, no_number32, no_time}
use Rattle.record_text.proofs.NoRow.{no_field}
use Rattle.record_text.proofs.RowSteps.{of_fields, one_more}
use Rattle.record_text.proofs.data.forms.start_of_authority.Goals as goal

in_groups : (x s a b c d : List ℕ) → ((((x ++ s) ++ a) ++ b) ++ c) ++ d ≡ x ++ ((((s ++ a) ++ b) ++ c) ++ d)
in_groups x s a b c d = simp append_assoc

start : (origin : Option DomainName) (words : List Word) (soa : SOA) → length words ≡ 7
    → AreFields origin (Name ∷ Name ∷ Number32 ∷ Time ∷ Time ∷ Time ∷ Time ∷ []) (take 7 words)
    ((((((name_octets soa.mname.labels ++ name_octets soa.rname.labels) ++ to_be_bytes w32 soa.serial) ++ to_be_bytes w32 soa.refresh) ++ to_be_bytes w32 soa.retry) ++ to_be_bytes w32 soa.expire) ++ to_be_bytes w32 soa.minimum)
    → IsData origin 6 words (soa_octets soa)
start origin words soa seven all =
    of_fields origin 6 (row 6 (codes "SOA") (Name ∷ Name ∷ Number32 ∷ Time ∷ Time ∷ Time ∷ Time ∷ []) Nothing) words (soa_octets soa) refl refl
    (subst (λ (ws : List Word). AreFields origin (Name ∷ Name ∷ Number32 ∷ Time ∷ Time ∷ Time ∷ Time ∷ []) ws (soa_octets soa)) (take_all 7 words (omega (arith, seven)))
    (subst (AreFields origin (Name ∷ Name ∷ Number32 ∷ Time ∷ Time ∷ Time ∷ Time ∷ []) (take 7 words))
    (in_groups (name_octets soa.mname.labels ++ name_octets soa.rname.labels) (to_be_bytes w32 soa.serial) (to_be_bytes w32 soa.refresh) (to_be_bytes w32 soa.retry) (to_be_bytes w32 soa.expire) (to_be_bytes w32 soa.minimum))
    all))

pub returns-clause-spelled : goal.returns-clause-spelled
returns-clause-spelled c =
    let words : List Word = c.args.words.now in
    let seven : length words ≡ 7 = c.requires in
    let soa : SOA = record {
      mname = c.in_ok-mname.mname;
      rname = c.in_ok-rname.rname;
      serial = c.in_ok-serial.serial;
      refresh = c.in_ok-refresh.refresh;
      retry = c.in_ok-retry.retry;
      expire = c.in_ok-expire.expire;
      minimum = c.in_ok-minimum.minimum;
    } in
    rw c.in_ok-new.ensures (start (option_copied c.args.origin) words soa seven
    (one_more words 6 _ (omega (arith, seven)) (one_more words 5 _ (omega (arith, seven)) (one_more words 4 _ (omega (arith, seven)) (one_more words 3 _ (omega (arith, seven))
    (one_more words 2 _ (omega (arith, seven)) (one_more words 1 _ (omega (arith, seven)) (one_more words 0 _ (omega (arith, seven)) none
    (name c.in_ok-mname.ensures.plain c.in_ok-mname.ensures.spelled c.in_ok-mname.ensures.short))
    (name c.in_ok-rname.ensures.plain c.in_ok-rname.ensures.spelled c.in_ok-rname.ensures.short))
    (number32 c.in_ok-serial.ensures.number.0 c.in_ok-serial.ensures.number.1 c.in_ok-serial.ensures.number.2))
    (time c.in_ok-refresh.ensures.time.0 c.in_ok-refresh.ensures.time.1 c.in_ok-refresh.ensures.time.2))
    (time c.in_ok-retry.ensures.time.0 c.in_ok-retry.ensures.time.1 c.in_ok-retry.ensures.time.2))
    (time c.in_ok-expire.ensures.time.0 c.in_ok-expire.ensures.time.1 c.in_ok-expire.ensures.time.2))
    (time c.in_ok-minimum.ensures.time.0 c.in_ok-minimum.ensures.time.1 c.in_ok-minimum.ensures.time.2)))

abbrev soa_row : TypeRow
soa_row = row 6 (codes "SOA") (Name ∷ Name ∷ Number32 ∷ Time ∷ Time ∷ Time ∷ Time ∷ []) Nothing

pub returns-in_err-mname-clause-refused : goal.returns-in_err-mname-clause-refused
returns-in_err-mname-clause-refused c =
    let p = err_from_is_err_and c.from_residual.result c.from_residual.ensures.1 in
    rw (p.1, p.2) (λ other. no_field (option_copied c.args.origin) 6 soa_row c.args.words.now 0 Name _ refl (omega arith) (no_name _ (option_copied c.args.origin) (c.in_err-mname.ensures.refused other)))

pub returns-in_err-rname-clause-refused : goal.returns-in_err-rname-clause-refused
returns-in_err-rname-clause-refused c =
    let p = err_from_is_err_and c.from_residual-in_err-rname.result c.from_residual-in_err-rname.ensures.1 in
    rw (p.1, p.2) (λ other. no_field (option_copied c.args.origin) 6 soa_row c.args.words.now 1 Name _ refl (omega arith) (no_name _ (option_copied c.args.origin) (c.in_err-rname.ensures.refused other)))

pub returns-in_err-serial-clause-refused : goal.returns-in_err-serial-clause-refused
returns-in_err-serial-clause-refused c =
    let p = err_from_is_err_and c.from_residual-in_err-serial.result c.from_residual-in_err-serial.ensures.1 in
    rw p.1 (λ other. no_field (option_copied c.args.origin) 6 soa_row c.args.words.now 2 Name _ refl (omega arith) (no_number32 _ c.in_err-serial.ensures.refused (option_copied c.args.origin)))

pub returns-in_err-refresh-clause-refused : goal.returns-in_err-refresh-clause-refused
returns-in_err-refresh-clause-refused c =
    let p = err_from_is_err_and c.from_residual-in_err-refresh.result c.from_residual-in_err-refresh.ensures.1 in
    rw p.1 (λ other. no_field (option_copied c.args.origin) 6 soa_row c.args.words.now 3 Name _ refl (omega arith) (no_time _ c.in_err-refresh.ensures.refused (option_copied c.args.origin)))

pub returns-in_err-retry-clause-refused : goal.returns-in_err-retry-clause-refused
returns-in_err-retry-clause-refused c =
    let p = err_from_is_err_and c.from_residual-in_err-retry.result c.from_residual-in_err-retry.ensures.1 in
    rw p.1 (λ other. no_field (option_copied c.args.origin) 6 soa_row c.args.words.now 4 Name _ refl (omega arith) (no_time _ c.in_err-retry.ensures.refused (option_copied c.args.origin)))

pub returns-in_err-expire-clause-refused : goal.returns-in_err-expire-clause-refused
returns-in_err-expire-clause-refused c =
    let p = err_from_is_err_and c.from_residual-in_err-expire.result c.from_residual-in_err-expire.ensures.1 in
    rw p.1 (λ other. no_field (option_copied c.args.origin) 6 soa_row c.args.words.now 5 Name _ refl (omega arith) (no_time _ c.in_err-expire.ensures.refused (option_copied c.args.origin)))

pub returns-in_err-minimum-clause-refused : goal.returns-in_err-minimum-clause-refused
returns-in_err-minimum-clause-refused c =
    let p = err_from_is_err_and c.from_residual-in_err-minimum.result c.from_residual-in_err-minimum.ensures.1 in
    rw p.1 (λ other. no_field (option_copied c.args.origin) 6 soa_row c.args.words.now 6 Name _ refl (omega arith) (no_time _ c.in_err-minimum.ensures.refused (option_copied c.args.origin)))
