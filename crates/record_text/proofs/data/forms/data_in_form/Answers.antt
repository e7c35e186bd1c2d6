use Rattle.std.proofs.lemmas.Result.{err_from_is_err_and}
use Rattle.std.proofs.Common.{Option, ◌≡◌, ◌∙◌, ◌≤◌, ℕ, List, [], ◌∷◌, length, refl, sym, subst, rules, arith}
use Rattle.std.specs.List.{flat_map}
use Rattle.std.specs.Net.Addr.{ipv4_octets, ipv6_octets}
use Rattle.std.specs.Option.{option_copied}
use Rattle.std.specs.Prelude.{codes, ◌≢◌, IfOk}
use Rattle.wire_messages.specs.rr.RecordData.{character_string}
use Rattle.wire_messages.specs.serialize.layout.RecordLayout.{IsFormed}
use Rattle.wire_messages.specs.serialize.writing.FullForm.{name_octets}
use Rattle.record_text.specs.declared.data.field.Field.TheVariants.{Ipv4, Ipv6, Name, Number16, Number32, Time}
use Rattle.record_text.specs.declared.data.field.Rest.TheVariants.{Nothing, Strings}
use Rattle.text_words.specs.declared.words.Word.{Word}
use Rattle.record_text.specs.RecordText.{HasNone, IsData}
use Rattle.record_text.specs.RecordText.IsField.{ipv4, ipv6, name}
use Rattle.record_text.specs.RecordText.IsRest.{strings}
use Rattle.record_text.specs.TypeTable.{row}
use Rattle.wire_names.specs.rr.domain.DomainName.{DomainName}
use Rattle.record_text.proofs.NoField.{no_ipv4, no_ipv6, no_name}
use Rattle.record_text.proofs.NoRow.{no_field, no_rest, no_strings}
use Rattle.record_text.proofs.RowSteps.{of_one, of_rest}
use Rattle.record_text.proofs.Kept.{few_words, more_words, no_text, of_none, of_octets, of_type, some_texts}
use Rattle.record_text.proofs.data.forms.data_in_form.Goals as goal
use Rattle.record_text.proofs.data.forms.data_in_form.Goals.{in_default-via-in-1+then-words-lt1, in_default-via-in-1+else-words-lt1+else-this-lt2, in_default-via-in-28+then-this-lt1, in_default-via-in-28+else-this-lt1+else-this-lt2-2, in_default-via-in-2+then-this-lt1-2, in_default-via-in-2+else-this-lt1-2+else-this-lt2-3, in_default-via-in-5+then-this-lt1-3, in_default-via-in-5+else-this-lt1-3+else-this-lt2-4, in_default-via-in-12+then-this-lt1-4, in_default-via-in-12+else-this-lt1-4+else-this-lt2-5, in_default-via-in-15+then-this-lt2-6, in_default-via-in-15+else-this-lt2-6+else-this-lt3, in_default-via-in-6+then-this-lt7, in_default-via-in-6+else-this-lt7+else-this-lt8, in_default-via-in-16+then-this-lt1-5, in_default-via-in_default}

not_nil : (words : List Word) → 1 ≤ length words → words ≢ []
not_nil [] some = absurd (omega arith)
not_nil (word ∷ words) some = λ e. absurd (cc)

pub returns-in_ok-ipv4-in-A-len1-clause-spelled : goal.returns-in_ok-ipv4-in-A-len1-clause-spelled
returns-in_ok-ipv4-in-A-len1-clause-spelled c =
    of_one (option_copied c.args.origin) c.args.record_type 1 (row 1 (codes "A") (Ipv4 ∷ []) Nothing) c.args.words.now _ (ipv4_octets c.in_ok-ipv4-in-A-len1.field-0) Ipv4
    (search rules) (omega arith) refl refl refl (ipv4 c.in_ok-ipv4-in-A-len1.ensures.spelled.0 c.in_ok-ipv4-in-A-len1.ensures.spelled.1)

pub returns-in_ok-ipv6-in-AAAA-len1-clause-spelled : goal.returns-in_ok-ipv6-in-AAAA-len1-clause-spelled
returns-in_ok-ipv6-in-AAAA-len1-clause-spelled c =
    of_one (option_copied c.args.origin) c.args.record_type 28 (row 28 (codes "AAAA") (Ipv6 ∷ []) Nothing) c.args.words.now _ (ipv6_octets c.in_ok-ipv6-in-AAAA-len1.field-0) Ipv6
    (search rules) (omega arith) refl refl refl (ipv6 c.in_ok-ipv6-in-AAAA-len1.ensures.spelled.0 c.in_ok-ipv6-in-AAAA-len1.ensures.spelled.1)

pub returns-in_ok-absolute_name-in-NS-len1-clause-spelled : goal.returns-in_ok-absolute_name-in-NS-len1-clause-spelled
returns-in_ok-absolute_name-in-NS-len1-clause-spelled c =
    of_one (option_copied c.args.origin) c.args.record_type 2 (row 2 (codes "NS") (Name ∷ []) Nothing) c.args.words.now _ (name_octets c.in_ok-absolute_name-in-NS-len1.field-0.labels) Name
    (search rules) (omega arith) refl refl refl (name c.in_ok-absolute_name-in-NS-len1.ensures.plain c.in_ok-absolute_name-in-NS-len1.ensures.spelled c.in_ok-absolute_name-in-NS-len1.ensures.short)

pub returns-in_ok-absolute_name-in-CNAME-len1-clause-spelled : goal.returns-in_ok-absolute_name-in-CNAME-len1-clause-spelled
returns-in_ok-absolute_name-in-CNAME-len1-clause-spelled c =
    of_one (option_copied c.args.origin) c.args.record_type 5 (row 5 (codes "CNAME") (Name ∷ []) Nothing) c.args.words.now _ (name_octets c.in_ok-absolute_name-in-CNAME-len1.field-0.labels) Name
    (search rules) (omega arith) refl refl refl (name c.in_ok-absolute_name-in-CNAME-len1.ensures.plain c.in_ok-absolute_name-in-CNAME-len1.ensures.spelled c.in_ok-absolute_name-in-CNAME-len1.ensures.short)

pub returns-in_ok-absolute_name-in-PTR-len1-clause-spelled : goal.returns-in_ok-absolute_name-in-PTR-len1-clause-spelled
returns-in_ok-absolute_name-in-PTR-len1-clause-spelled c =
    of_one (option_copied c.args.origin) c.args.record_type 12 (row 12 (codes "PTR") (Name ∷ []) Nothing) c.args.words.now _ (name_octets c.in_ok-absolute_name-in-PTR-len1.field-0.labels) Name
    (search rules) (omega arith) refl refl refl (name c.in_ok-absolute_name-in-PTR-len1.ensures.plain c.in_ok-absolute_name-in-PTR-len1.ensures.spelled c.in_ok-absolute_name-in-PTR-len1.ensures.short)

pub returns-in_ok-strings-in-TXT-len1-up-clause-spelled : goal.returns-in_ok-strings-in-TXT-len1-up-clause-spelled
returns-in_ok-strings-in-TXT-len1-up-clause-spelled c =
    let same : 16 ≡ c.args.record_type = search rules in
    let octets : List ℕ = flat_map character_string c.in_ok-strings-in-TXT-len1-up.field-0 in
    subst (λ (k : ℕ). IsData (option_copied c.args.origin) k c.args.words.now octets) same
    (of_rest (option_copied c.args.origin) 16 (row 16 (codes "TXT") [] Strings) c.args.words.now octets refl refl (strings (not_nil c.args.words.now c.in-TXT-len1-up.len_at_least) c.in_ok-strings-in-TXT-len1-up.ensures.spelled))

-- under a number that is the same
under : (origin : Option DomainName) (n number : ℕ) (words : List Word) → n ≡ number → HasNone (IsData origin n words) → HasNone (IsData origin number words)
under origin n number words same none = subst (λ (k : ℕ). HasNone (IsData origin k words)) same none

pub returns-in_err-ipv4-in-A-len1-clause-refused : goal.returns-in_err-ipv4-in-A-len1-clause-refused
returns-in_err-ipv4-in-A-len1-clause-refused c =
    let p = err_from_is_err_and c.from_residual.result c.from_residual.ensures.1 in
    let same : 1 ≡ c.args.record_type = search rules in
    rw p.1 (λ other. under (option_copied c.args.origin) 1 c.args.record_type c.args.words.now same
    (no_field (option_copied c.args.origin) 1 (row 1 (codes "A") (Ipv4 ∷ []) Nothing) c.args.words.now 0 Ipv4 _ refl (omega arith) (no_ipv4 _ c.in_err-ipv4-in-A-len1.ensures.refused (option_copied c.args.origin))))

pub returns-in_err-ipv6-in-AAAA-len1-clause-refused : goal.returns-in_err-ipv6-in-AAAA-len1-clause-refused
returns-in_err-ipv6-in-AAAA-len1-clause-refused c =
    let p = err_from_is_err_and c.from_residual-in_err-ipv6-in-AAAA-len1.result c.from_residual-in_err-ipv6-in-AAAA-len1.ensures.1 in
    let same : 28 ≡ c.args.record_type = search rules in
    rw p.1 (λ other. under (option_copied c.args.origin) 28 c.args.record_type c.args.words.now same
    (no_field (option_copied c.args.origin) 28 (row 28 (codes "AAAA") (Ipv6 ∷ []) Nothing) c.args.words.now 0 Ipv6 _ refl (omega arith) (no_ipv6 _ c.in_err-ipv6-in-AAAA-len1.ensures.refused (option_copied c.args.origin))))

pub returns-in_err-absolute_name-in-NS-len1-clause-refused : goal.returns-in_err-absolute_name-in-NS-len1-clause-refused
returns-in_err-absolute_name-in-NS-len1-clause-refused c =
    let p = err_from_is_err_and c.from_residual-in_err-absolute_name-in-NS-len1.result c.from_residual-in_err-absolute_name-in-NS-len1.ensures.1 in
    let same : 2 ≡ c.args.record_type = search rules in
    rw (p.1, p.2) (λ other. under (option_copied c.args.origin) 2 c.args.record_type c.args.words.now same
    (no_field (option_copied c.args.origin) 2 (row 2 (codes "NS") (Name ∷ []) Nothing) c.args.words.now 0 Name _ refl (omega arith) (no_name _ (option_copied c.args.origin) (c.in_err-absolute_name-in-NS-len1.ensures.refused other))))

pub returns-in_err-absolute_name-in-CNAME-len1-clause-refused : goal.returns-in_err-absolute_name-in-CNAME-len1-clause-refused
returns-in_err-absolute_name-in-CNAME-len1-clause-refused c =
    let p = err_from_is_err_and c.from_residual-in_err-absolute_name-in-CNAME-len1.result c.from_residual-in_err-absolute_name-in-CNAME-len1.ensures.1 in
    let same : 5 ≡ c.args.record_type = search rules in
    rw (p.1, p.2) (λ other. under (option_copied c.args.origin) 5 c.args.record_type c.args.words.now same
    (no_field (option_copied c.args.origin) 5 (row 5 (codes "CNAME") (Name ∷ []) Nothing) c.args.words.now 0 Name _ refl (omega arith) (no_name _ (option_copied c.args.origin) (c.in_err-absolute_name-in-CNAME-len1.ensures.refused other))))

pub returns-in_err-absolute_name-in-PTR-len1-clause-refused : goal.returns-in_err-absolute_name-in-PTR-len1-clause-refused
returns-in_err-absolute_name-in-PTR-len1-clause-refused c =
    let p = err_from_is_err_and c.from_residual-in_err-absolute_name-in-PTR-len1.result c.from_residual-in_err-absolute_name-in-PTR-len1.ensures.1 in
    let same : 12 ≡ c.args.record_type = search rules in
    rw (p.1, p.2) (λ other. under (option_copied c.args.origin) 12 c.args.record_type c.args.words.now same
    (no_field (option_copied c.args.origin) 12 (row 12 (codes "PTR") (Name ∷ []) Nothing) c.args.words.now 0 Name _ refl (omega arith) (no_name _ (option_copied c.args.origin) (c.in_err-absolute_name-in-PTR-len1.ensures.refused other))))

pub returns-in_err-strings-in-TXT-len1-up-clause-refused : goal.returns-in_err-strings-in-TXT-len1-up-clause-refused
returns-in_err-strings-in-TXT-len1-up-clause-refused c =
    let p = err_from_is_err_and c.from_residual-in_err-strings-in-TXT-len1-up.result c.from_residual-in_err-strings-in-TXT-len1-up.ensures.1 in
    let same : 16 ≡ c.args.record_type = search rules in
    rw (p.1, p.2) (λ other. under (option_copied c.args.origin) 16 c.args.record_type c.args.words.now same
    (no_rest (option_copied c.args.origin) 16 (row 16 (codes "TXT") [] Strings) c.args.words.now refl refl (no_strings (option_copied c.args.origin) c.args.words.now (c.in_err-strings-in-TXT-len1-up.ensures.refused other))))

pub returns-in_ok-ipv6-in-AAAA-len1-clause-formed : goal.returns-in_ok-ipv6-in-AAAA-len1-clause-formed
returns-in_ok-ipv6-in-AAAA-len1-clause-formed c = (c.in_ok-ipv6-in-AAAA-len1.ensures.range, tt)

pub returns-in_ok-strings-in-TXT-len1-up-clause-formed : goal.returns-in_ok-strings-in-TXT-len1-up-clause-formed
returns-in_ok-strings-in-TXT-len1-up-clause-formed c =
    (c.in_ok-strings-in-TXT-len1-up.ensures.short, some_texts c.args.words.now c.in_ok-strings-in-TXT-len1-up.field-0 (not_nil c.args.words.now c.in-TXT-len1-up.len_at_least) c.in_ok-strings-in-TXT-len1-up.ensures.spelled)

pub returns-in_default-clause-form : goal.returns-in_default-clause-form
returns-in_default-clause-form c = of_type c.args.record_type c.as_bytes.result c.as_bytes.ensures.kept

-- Words that are not as many as a type has in its form are no data of it.
pub returns-in_default-clause-formed : goal.returns-in_default-clause-formed
returns-in_default-clause-formed c =
    let no : HasNone (IsData (option_copied c.args.origin) c.args.record_type c.args.words.now) → IfOk c.as_bytes.result IsFormed =
    λ none. of_none (option_copied c.args.origin) c.args.record_type c.args.words.now c.as_bytes.result none c.as_bytes.ensures.spelled in
    elim c.in_default.branch [
      | in_default-via-in-1+then-words-lt1 w ↦ no (few_words (option_copied c.args.origin) 1 c.args.record_type (row 1 (codes "A") (Ipv4 ∷ []) Nothing) c.args.words.now refl refl (sym c.record_type.view_is ∙ w.in-1-1.keys1) w.if-words-lt1-1.true)
      | in_default-via-in-1+else-words-lt1+else-this-lt2 w ↦ no (more_words (option_copied c.args.origin) 1 c.args.record_type (row 1 (codes "A") (Ipv4 ∷ []) Nothing) c.args.words.now refl refl (sym c.record_type.view_is ∙ w.in-1-1.keys1) w.if-this-lt2-1.false)
      | in_default-via-in-28+then-this-lt1 w ↦ no (few_words (option_copied c.args.origin) 28 c.args.record_type (row 28 (codes "AAAA") (Ipv6 ∷ []) Nothing) c.args.words.now refl refl (sym c.record_type.view_is ∙ w.in-28-1.keys2) w.if-this-lt1-1.true)
      | in_default-via-in-28+else-this-lt1+else-this-lt2-2 w ↦ no (more_words (option_copied c.args.origin) 28 c.args.record_type (row 28 (codes "AAAA") (Ipv6 ∷ []) Nothing) c.args.words.now refl refl (sym c.record_type.view_is ∙ w.in-28-1.keys2) w.if-this-lt2-2-1.false)
      | in_default-via-in-2+then-this-lt1-2 w ↦ no (few_words (option_copied c.args.origin) 2 c.args.record_type (row 2 (codes "NS") (Name ∷ []) Nothing) c.args.words.now refl refl (sym c.record_type.view_is ∙ w.in-2-1.keys3) w.if-this-lt1-2-1.true)
      | in_default-via-in-2+else-this-lt1-2+else-this-lt2-3 w ↦ no (more_words (option_copied c.args.origin) 2 c.args.record_type (row 2 (codes "NS") (Name ∷ []) Nothing) c.args.words.now refl refl (sym c.record_type.view_is ∙ w.in-2-1.keys3) w.if-this-lt2-3-1.false)
      | in_default-via-in-5+then-this-lt1-3 w ↦ no (few_words (option_copied c.args.origin) 5 c.args.record_type (row 5 (codes "CNAME") (Name ∷ []) Nothing) c.args.words.now refl refl (sym c.record_type.view_is ∙ w.in-5-1.keys4) w.if-this-lt1-3-1.true)
      | in_default-via-in-5+else-this-lt1-3+else-this-lt2-4 w ↦ no (more_words (option_copied c.args.origin) 5 c.args.record_type (row 5 (codes "CNAME") (Name ∷ []) Nothing) c.args.words.now refl refl (sym c.record_type.view_is ∙ w.in-5-1.keys4) w.if-this-lt2-4-1.false)
      | in_default-via-in-12+then-this-lt1-4 w ↦ no (few_words (option_copied c.args.origin) 12 c.args.record_type (row 12 (codes "PTR") (Name ∷ []) Nothing) c.args.words.now refl refl (sym c.record_type.view_is ∙ w.in-12-1.keys5) w.if-this-lt1-4-1.true)
      | in_default-via-in-12+else-this-lt1-4+else-this-lt2-5 w ↦ no (more_words (option_copied c.args.origin) 12 c.args.record_type (row 12 (codes "PTR") (Name ∷ []) Nothing) c.args.words.now refl refl (sym c.record_type.view_is ∙ w.in-12-1.keys5) w.if-this-lt2-5-1.false)
      | in_default-via-in-15+then-this-lt2-6 w ↦ no (few_words (option_copied c.args.origin) 15 c.args.record_type (row 15 (codes "MX") (Number16 ∷ Name ∷ []) Nothing) c.args.words.now refl refl (sym c.record_type.view_is ∙ w.in-15-1.keys6) w.if-this-lt2-6-1.true)
      | in_default-via-in-15+else-this-lt2-6+else-this-lt3 w ↦ no (more_words (option_copied c.args.origin) 15 c.args.record_type (row 15 (codes "MX") (Number16 ∷ Name ∷ []) Nothing) c.args.words.now refl refl (sym c.record_type.view_is ∙ w.in-15-1.keys6) w.if-this-lt3-1.false)
      | in_default-via-in-6+then-this-lt7 w ↦ no (few_words (option_copied c.args.origin) 6 c.args.record_type (row 6 (codes "SOA") (Name ∷ Name ∷ Number32 ∷ Time ∷ Time ∷ Time ∷ Time ∷ []) Nothing) c.args.words.now refl refl (sym c.record_type.view_is ∙ w.in-6-1.keys7) w.if-this-lt7-1.true)
      | in_default-via-in-6+else-this-lt7+else-this-lt8 w ↦ no (more_words (option_copied c.args.origin) 6 c.args.record_type (row 6 (codes "SOA") (Name ∷ Name ∷ Number32 ∷ Time ∷ Time ∷ Time ∷ Time ∷ []) Nothing) c.args.words.now refl refl (sym c.record_type.view_is ∙ w.in-6-1.keys7) w.if-this-lt8-1.false)
      | in_default-via-in-16+then-this-lt1-5 w ↦ no (no_text (option_copied c.args.origin) c.args.record_type c.args.words.now (sym c.record_type.view_is ∙ w.in-16-1.keys8) w.if-this-lt1-5-1.true)
      | in_default-via-in_default w ↦ of_octets (option_copied c.args.origin) c.args.record_type c.args.words.now c.as_bytes.result
          (record { a = search rules; ns = search rules; cname = search rules; soa = search rules; ptr = search rules; mx = search rules; txt = search rules; aaaa = search rules })
          c.as_bytes.ensures.kept c.as_bytes.ensures.range c.as_bytes.ensures.spelled
    ]
