use Rattle.std.proofs.Common.{◌≡◌, ◌∙◌, ℕ, false, List, ◌∷◌, ◌++◌, Option, Some, Result, Ok, Err, ap, subst, refl, append_assoc}
use Rattle.std.proofs.lemmas.Result.{err_from_is_err_and}
use Rattle.std.specs.Option.{option_copied}
use Rattle.std.specs.Prelude.{◌≢◌, IfErr, OnOk}
use Rattle.wire_names.specs.rr.domain.DomainName.{DomainName}
use Rattle.text_words.specs.declared.error.TextError.{TextError}
use Rattle.text_words.specs.declared.error.TextError.TheVariants.{Memory}
use Rattle.record_text.specs.declared.data.field.Field.{Field}
use Rattle.text_words.specs.declared.words.Word.{Word}
use Rattle.text_words.specs.Spelling.{IsNumber, Puts}
use Rattle.record_text.specs.RecordText.{AreFieldsBefore, HasNone, IsBase64, IsGateway, gateway_fields}
use Rattle.record_text.proofs.Gateways.{begins_with, behind_fields, told_of}
use Rattle.record_text.proofs.data.gateway.put_gateway.Goals as goal

as_gateway : (r : Result (Unit {0}) TextError) (origin : Option DomainName) (words : List Word) (first : Word) (kind : ℕ) (fields : List Field) (key : List Word) (old middle new : List ℕ) → (others : List Word) × (words ≡ first ∷ others) → first.quoted ≡ false
    → IsNumber first.bytes.now kind → gateway_fields kind ≡ Some fields → Puts (AreFieldsBefore origin fields words key) old middle → OnOk r (Puts (IsBase64 key) middle new) → OnOk r (Puts (IsGateway origin words) old new)
as_gateway (Err e) origin words first kind fields key old middle new begins plain typed told front h = h
as_gateway (Ok done) origin words first kind fields key old middle new begins plain typed told front h = (
  front.0 ++ h.0,
  h.1 ∙ ap (λ (xs : List ℕ). xs ++ h.0) front.1 ∙ append_assoc old front.0 h.0,
  record {
    first = first;
    kind = kind;
    fields = fields;
    key = key;
    gateway_octets = front.0;
    key_octets = h.0;
    plain = plain;
    typed = typed;
    told = told;
    begins = begins;
    gateway = front.2;
    keyed = h.2;
    together = refl;
  },
)

pub returns-clause-put : goal.returns-clause-put
returns-clause-put c =
    as_gateway c.put_base64.result (option_copied c.args.origin) c.args.words.now c.in-Some.first.now c.in_ok-number.field-0 c.in-Some-gateway_fields.fields.now c.in_ok-key.key.now c.args.data.now.items c.put_fields.new.data.items c.put_base64.new.data.items
    (begins_with c.args.words.now c.in-Some.first.now c.in-Some.ensures.value) c.in_ok-number.ensures.number.0 c.in_ok-number.ensures.number.1 c.in-Some-gateway_fields.ensures.told c.in_ok-key.ensures.put c.put_base64.ensures.put

no_fields : (origin : Option DomainName) (words : List Word) (first : Word) (kind : ℕ) (fields : List Field) → (others : List Word) × (words ≡ first ∷ others) → IsNumber first.bytes.now kind → gateway_fields kind ≡ Some fields
    → ((behind : List Word) → HasNone (AreFieldsBefore origin fields words behind)) → HasNone (IsGateway origin words)
no_fields origin words first kind fields begins typed told none octets is =
    let same : is.fields ≡ fields = told_of first begins.0 kind fields begins.1 typed told is in
    none is.key is.gateway_octets (subst (λ (fs : List Field). AreFieldsBefore origin fs words is.key is.gateway_octets) same is.gateway)

pub returns-in_err-key-clause-refused : goal.returns-in_err-key-clause-refused
returns-in_err-key-clause-refused c =
    let p = err_from_is_err_and c.from_residual-in_err-key.result c.from_residual-in_err-key.ensures.1 in
    rw (p.1, p.2) (λ other. no_fields (option_copied c.args.origin) c.args.words.now c.in-Some.first.now c.in_ok-number.field-0 c.in-Some-gateway_fields.fields.now (begins_with c.args.words.now c.in-Some.first.now c.in-Some.ensures.value)
    c.in_ok-number.ensures.number.1 c.in-Some-gateway_fields.ensures.told (c.in_err-key.ensures.refused other))

no_key : (r : Result (Unit {0}) TextError) (origin : Option DomainName) (words : List Word) (first : Word) (kind : ℕ) (fields : List Field) (key : List Word) (front : List ℕ) → (others : List Word) × (words ≡ first ∷ others) → IsNumber first.bytes.now kind
    → gateway_fields kind ≡ Some fields → AreFieldsBefore origin fields words key front → IfErr r (λ e. e ≢ Memory → HasNone (IsBase64 key)) → IfErr r (λ e. e ≢ Memory → HasNone (IsGateway origin words))
no_key (Ok done) origin words first kind fields key front begins typed told before h = h
no_key (Err e) origin words first kind fields key front begins typed told before h = λ other octets is.
    let same : is.fields ≡ fields = told_of first begins.0 kind fields begins.1 typed told is in
    let keys : is.key ≡ key = behind_fields is.gateway before same in
    h other is.key_octets (subst (λ (ws : List Word). IsBase64 ws is.key_octets) keys is.keyed)

pub returns-clause-refused : goal.returns-clause-refused
returns-clause-refused c =
    no_key c.put_base64.result (option_copied c.args.origin) c.args.words.now c.in-Some.first.now c.in_ok-number.field-0 c.in-Some-gateway_fields.fields.now c.in_ok-key.key.now c.in_ok-key.ensures.put.0
    (begins_with c.args.words.now c.in-Some.first.now c.in-Some.ensures.value) c.in_ok-number.ensures.number.1 c.in-Some-gateway_fields.ensures.told c.in_ok-key.ensures.put.2 c.put_base64.ensures.refused
