use Rattle.std.proofs.Common.{◌≡◌, ℕ, false, List, [], ◌∷◌, Result, Ok, Err, Option, sym, append-nil}
use Rattle.std.specs.Prelude.{◌≢◌, IfErr, OnErr, OnOk}
use Rattle.std.specs.Option.{option_copied}
use Rattle.wire_names.specs.rr.domain.DomainName.{DomainName}
use Rattle.text_words.specs.declared.error.TextError.{TextError}
use Rattle.text_words.specs.declared.error.TextError.TheVariants.{Memory}
use Rattle.record_text.specs.declared.data.field.Field.{Field}
use Rattle.record_text.specs.declared.data.field.Field.TheVariants as field
use Rattle.text_words.specs.declared.words.Word.{Word}
use Rattle.text_words.specs.Spelling.{Spells, any_byte}
use Rattle.text_words.specs.Spelling.{IsString, Puts}
use Rattle.record_text.specs.RecordText.{HasNone, IsField}
use Rattle.record_text.specs.RecordText.IsField.{no_gateway, string, text}
use Rattle.record_text.proofs.NoField.{no_dot, no_string, no_text}
use Rattle.record_text.proofs.data.fields.put_field.Goals as goal

at : (r : Result (Unit {0}) TextError) (field : Field) (word : Word) (old new : List ℕ) (origin : Option DomainName) → OnOk r ((o : Option DomainName) → Puts (IsField o field word) old new) → OnOk r (Puts (IsField origin field word) old new)
at (Ok done) field word old new origin h = h origin
at (Err e) field word old new origin h = h

as_string : (r : Result (Unit {0}) TextError) (word : Word) (old new : List ℕ) (origin : Option DomainName) → OnOk r (Puts (IsString word) old new) → OnOk r (Puts (IsField origin field.String word) old new)
as_string (Ok done) word old new origin h = (h.0, h.1, string h.2)
as_string (Err e) word old new origin h = h

as_text : (r : Result (Unit {0}) TextError) (word : Word) (old new : List ℕ) (origin : Option DomainName) → OnOk r (Puts (Spells any_byte word.bytes.now) old new) → OnOk r (Puts (IsField origin field.Text word) old new)
as_text (Ok done) word old new origin h = (h.0, h.1, text h.2)
as_text (Err e) word old new origin h = h

pub returns-in-Number8-clause-put : goal.returns-in-Number8-clause-put
returns-in-Number8-clause-put c = rw c.in-Number8.is (at c.put_number8.result field.Number8 c.args.word.now c.args.data.now.items c.put_number8.new.data.items (option_copied c.args.origin) c.put_number8.ensures.put)

pub returns-in-Number16-clause-put : goal.returns-in-Number16-clause-put
returns-in-Number16-clause-put c = rw c.in-Number16.is (at c.put_number16.result field.Number16 c.args.word.now c.args.data.now.items c.put_number16.new.data.items (option_copied c.args.origin) c.put_number16.ensures.put)

pub returns-in-Number32-clause-put : goal.returns-in-Number32-clause-put
returns-in-Number32-clause-put c = rw c.in-Number32.is (at c.put_number32.result field.Number32 c.args.word.now c.args.data.now.items c.put_number32.new.data.items (option_copied c.args.origin) c.put_number32.ensures.put)

pub returns-in-Named8-clause-put : goal.returns-in-Named8-clause-put
returns-in-Named8-clause-put c = rw c.in-Named8.is (at c.put_named8.result (field.Named8 c.in-Named8.names) c.args.word.now c.args.data.now.items c.put_named8.new.data.items (option_copied c.args.origin) c.put_named8.ensures.put)

pub returns-in-Named16-clause-put : goal.returns-in-Named16-clause-put
returns-in-Named16-clause-put c = rw c.in-Named16.is (at c.put_named16.result (field.Named16 c.in-Named16.names) c.args.word.now c.args.data.now.items c.put_named16.new.data.items (option_copied c.args.origin) c.put_named16.ensures.put)

pub returns-in-Time-clause-put : goal.returns-in-Time-clause-put
returns-in-Time-clause-put c = rw c.in-Time.is (at c.put_time.result field.Time c.args.word.now c.args.data.now.items c.put_time.new.data.items (option_copied c.args.origin) c.put_time.ensures.put)

pub returns-in-Ipv4-clause-put : goal.returns-in-Ipv4-clause-put
returns-in-Ipv4-clause-put c = rw c.in-Ipv4.is (at c.put_ipv4.result field.Ipv4 c.args.word.now c.args.data.now.items c.put_ipv4.new.data.items (option_copied c.args.origin) c.put_ipv4.ensures.put)

pub returns-in-Ipv6-clause-put : goal.returns-in-Ipv6-clause-put
returns-in-Ipv6-clause-put c = rw c.in-Ipv6.is (at c.put_ipv6.result field.Ipv6 c.args.word.now c.args.data.now.items c.put_ipv6.new.data.items (option_copied c.args.origin) c.put_ipv6.ensures.put)

pub returns-in-RecordType-clause-put : goal.returns-in-RecordType-clause-put
returns-in-RecordType-clause-put c = rw c.in-RecordType.is (at c.put_type.result field.RecordType c.args.word.now c.args.data.now.items c.put_type.new.data.items (option_copied c.args.origin) c.put_type.ensures.put)

pub returns-in-Moment-clause-put : goal.returns-in-Moment-clause-put
returns-in-Moment-clause-put c = rw c.in-Moment.is (at c.put_moment.result field.Moment c.args.word.now c.args.data.now.items c.put_moment.new.data.items (option_copied c.args.origin) c.put_moment.ensures.put)

pub returns-in-String-clause-put : goal.returns-in-String-clause-put
returns-in-String-clause-put c = rw c.in-String.is (as_string c.put_string.result c.args.word.now c.args.data.now.items c.put_string.new.bytes.items (option_copied c.args.origin) c.put_string.ensures.put)

pub returns-in-Text-clause-put : goal.returns-in-Text-clause-put
returns-in-Text-clause-put c = rw c.in-Text.is (as_text c.put_spelled.result c.args.word.now c.args.data.now.items c.put_spelled.new.bytes.items (option_copied c.args.origin) c.put_spelled.ensures.put)

pub returns-in-Salt-clause-put : goal.returns-in-Salt-clause-put
returns-in-Salt-clause-put c = rw c.in-Salt.is (at c.put_salt.result field.Salt c.args.word.now c.args.data.now.items c.put_salt.new.data.items (option_copied c.args.origin) c.put_salt.ensures.put)

pub returns-in-Hash-clause-put : goal.returns-in-Hash-clause-put
returns-in-Hash-clause-put c = rw c.in-Hash.is (at c.put_hash.result field.Hash c.args.word.now c.args.data.now.items c.put_hash.new.data.items (option_copied c.args.origin) c.put_hash.ensures.put)

pub returns-in-Eui48-clause-put : goal.returns-in-Eui48-clause-put
returns-in-Eui48-clause-put c = rw c.in-Eui48.is (at c.put_eui48.result field.Eui48 c.args.word.now c.args.data.now.items c.put_eui48.new.data.items (option_copied c.args.origin) c.put_eui48.ensures.put)

pub returns-in-Eui64-clause-put : goal.returns-in-Eui64-clause-put
returns-in-Eui64-clause-put c = rw c.in-Eui64.is (at c.put_eui64.result field.Eui64 c.args.word.now c.args.data.now.items c.put_eui64.new.data.items (option_copied c.args.origin) c.put_eui64.ensures.put)

pub returns-in-Locator64-clause-put : goal.returns-in-Locator64-clause-put
returns-in-Locator64-clause-put c = rw c.in-Locator64.is (at c.put_locator64.result field.Locator64 c.args.word.now c.args.data.now.items c.put_locator64.new.data.items (option_copied c.args.origin) c.put_locator64.ensures.put)

-- what is refused under every origin is refused under this one
refused_at : (r : Result (Unit {0}) TextError) (field : Field) (word : Word) (origin : Option DomainName) → IfErr r (λ e. e ≢ Memory → (o : Option DomainName) → HasNone (IsField o field word))
    → IfErr r (λ e. e ≢ Memory → HasNone (IsField origin field word))
refused_at (Ok done) field word origin h = h
refused_at (Err e) field word origin h = λ other. h other origin

refused_string : (r : Result (Unit {0}) TextError) (word : Word) (origin : Option DomainName) → IfErr r (λ e. e ≢ Memory → HasNone (IsString word)) → IfErr r (λ e. e ≢ Memory → HasNone (IsField origin field.String word))
refused_string (Ok done) word origin h = h
refused_string (Err e) word origin h = λ other. no_string word (h other) origin

refused_text : (r : Result (Unit {0}) TextError) (word : Word) (origin : Option DomainName) → IfErr r (λ e. e ≢ Memory → HasNone (Spells any_byte word.bytes.now)) → IfErr r (λ e. e ≢ Memory → HasNone (IsField origin field.Text word))
refused_text (Ok done) word origin h = h
refused_text (Err e) word origin h = λ other. no_text word (h other) origin

pub returns-in-Number8-clause-refused : goal.returns-in-Number8-clause-refused
returns-in-Number8-clause-refused c = rw c.in-Number8.is (refused_at c.put_number8.result field.Number8 c.args.word.now (option_copied c.args.origin) c.put_number8.ensures.refused)

pub returns-in-Number16-clause-refused : goal.returns-in-Number16-clause-refused
returns-in-Number16-clause-refused c = rw c.in-Number16.is (refused_at c.put_number16.result field.Number16 c.args.word.now (option_copied c.args.origin) c.put_number16.ensures.refused)

pub returns-in-Number32-clause-refused : goal.returns-in-Number32-clause-refused
returns-in-Number32-clause-refused c = rw c.in-Number32.is (refused_at c.put_number32.result field.Number32 c.args.word.now (option_copied c.args.origin) c.put_number32.ensures.refused)

pub returns-in-Named8-clause-refused : goal.returns-in-Named8-clause-refused
returns-in-Named8-clause-refused c = rw c.in-Named8.is (refused_at c.put_named8.result (field.Named8 c.in-Named8.names) c.args.word.now (option_copied c.args.origin) c.put_named8.ensures.refused)

pub returns-in-Named16-clause-refused : goal.returns-in-Named16-clause-refused
returns-in-Named16-clause-refused c = rw c.in-Named16.is (refused_at c.put_named16.result (field.Named16 c.in-Named16.names) c.args.word.now (option_copied c.args.origin) c.put_named16.ensures.refused)

pub returns-in-Time-clause-refused : goal.returns-in-Time-clause-refused
returns-in-Time-clause-refused c = rw c.in-Time.is (refused_at c.put_time.result field.Time c.args.word.now (option_copied c.args.origin) c.put_time.ensures.refused)

pub returns-in-Ipv4-clause-refused : goal.returns-in-Ipv4-clause-refused
returns-in-Ipv4-clause-refused c = rw c.in-Ipv4.is (refused_at c.put_ipv4.result field.Ipv4 c.args.word.now (option_copied c.args.origin) c.put_ipv4.ensures.refused)

pub returns-in-Ipv6-clause-refused : goal.returns-in-Ipv6-clause-refused
returns-in-Ipv6-clause-refused c = rw c.in-Ipv6.is (refused_at c.put_ipv6.result field.Ipv6 c.args.word.now (option_copied c.args.origin) c.put_ipv6.ensures.refused)

pub returns-in-RecordType-clause-refused : goal.returns-in-RecordType-clause-refused
returns-in-RecordType-clause-refused c = rw c.in-RecordType.is (refused_at c.put_type.result field.RecordType c.args.word.now (option_copied c.args.origin) c.put_type.ensures.refused)

pub returns-in-Moment-clause-refused : goal.returns-in-Moment-clause-refused
returns-in-Moment-clause-refused c = rw c.in-Moment.is (refused_at c.put_moment.result field.Moment c.args.word.now (option_copied c.args.origin) c.put_moment.ensures.refused)

pub returns-in-Salt-clause-refused : goal.returns-in-Salt-clause-refused
returns-in-Salt-clause-refused c = rw c.in-Salt.is (refused_at c.put_salt.result field.Salt c.args.word.now (option_copied c.args.origin) c.put_salt.ensures.refused)

pub returns-in-Hash-clause-refused : goal.returns-in-Hash-clause-refused
returns-in-Hash-clause-refused c = rw c.in-Hash.is (refused_at c.put_hash.result field.Hash c.args.word.now (option_copied c.args.origin) c.put_hash.ensures.refused)

pub returns-in-Eui48-clause-refused : goal.returns-in-Eui48-clause-refused
returns-in-Eui48-clause-refused c = rw c.in-Eui48.is (refused_at c.put_eui48.result field.Eui48 c.args.word.now (option_copied c.args.origin) c.put_eui48.ensures.refused)

pub returns-in-Eui64-clause-refused : goal.returns-in-Eui64-clause-refused
returns-in-Eui64-clause-refused c = rw c.in-Eui64.is (refused_at c.put_eui64.result field.Eui64 c.args.word.now (option_copied c.args.origin) c.put_eui64.ensures.refused)

pub returns-in-Locator64-clause-refused : goal.returns-in-Locator64-clause-refused
returns-in-Locator64-clause-refused c = rw c.in-Locator64.is (refused_at c.put_locator64.result field.Locator64 c.args.word.now (option_copied c.args.origin) c.put_locator64.ensures.refused)

pub returns-in-String-clause-refused : goal.returns-in-String-clause-refused
returns-in-String-clause-refused c = rw c.in-String.is (refused_string c.put_string.result c.args.word.now (option_copied c.args.origin) c.put_string.ensures.refused)

pub returns-in-Text-clause-refused : goal.returns-in-Text-clause-refused
returns-in-Text-clause-refused c = rw c.in-Text.is (refused_text c.put_spelled.result c.args.word.now (option_copied c.args.origin) c.put_spelled.ensures.refused)

pub returns-in-Nsap-clause-put : goal.returns-in-Nsap-clause-put
returns-in-Nsap-clause-put c = rw c.in-Nsap.is (at c.put_nsap.result field.Nsap c.args.word.now c.args.data.now.items c.put_nsap.new.data.items (option_copied c.args.origin) c.put_nsap.ensures.put)

pub returns-in-Nsap-clause-refused : goal.returns-in-Nsap-clause-refused
returns-in-Nsap-clause-refused c = rw c.in-Nsap.is (refused_at c.put_nsap.result field.Nsap c.args.word.now (option_copied c.args.origin) c.put_nsap.ensures.refused)

as_dot : (r : Result (Unit {0}) TextError) (word : Word) (old : List ℕ) (origin : Option DomainName) → OnOk r ((word.quoted ≡ false) × (word.bytes.now ≡ 46 ∷ [])) → OnOk r (Puts (IsField origin field.NoGateway word) old old)
as_dot (Ok done) word old origin h = ([], sym (append-nil old), no_gateway h.0 h.1)
as_dot (Err e) word old origin h = h

refused_dot : (r : Result (Unit {0}) TextError) (word : Word) (origin : Option DomainName) → OnErr r ((word.quoted ≡ false) → (word.bytes.now ≡ 46 ∷ []) → ⊥) → IfErr r (λ e. e ≢ Memory → HasNone (IsField origin field.NoGateway word))
refused_dot (Ok done) word origin h = h
refused_dot (Err e) word origin h = λ other. no_dot word h origin

pub returns-in-NoGateway-clause-put : goal.returns-in-NoGateway-clause-put
returns-in-NoGateway-clause-put c = rw c.in-NoGateway.is (as_dot c.no_gateway.result c.args.word.now c.args.data.now.items (option_copied c.args.origin) c.no_gateway.ensures.dot)

pub returns-in-NoGateway-clause-refused : goal.returns-in-NoGateway-clause-refused
returns-in-NoGateway-clause-refused c = rw c.in-NoGateway.is (refused_dot c.no_gateway.result c.args.word.now (option_copied c.args.origin) c.no_gateway.ensures.refused)
