use Rattle.std.proofs.Common.{◌≡◌, ◌∙◌, ℕ, false, List, [], ◌∷◌, ◌++◌, Option, Some, Result, Ok, Err, ap, sym, subst, append_assoc}
use Rattle.std.specs.Prelude.{◌≢◌, ◌<◌, ◌+◌, ◌*◌, IfErr, OnOk}
use Rattle.wire_names.specs.rr.domain.DomainName.{DomainName}
use Rattle.text_words.specs.declared.error.TextError.{TextError}
use Rattle.text_words.specs.declared.error.TextError.TheVariants.{Memory}
use Rattle.record_text.specs.declared.data.field.Field.{Field}
use Rattle.text_words.specs.declared.words.Word.{Word}
use Rattle.text_words.specs.Spelling.{IsNumber, Puts}
use Rattle.record_text.specs.RecordText.{HasNone, IsField, IsRelay, relay_field}
use Rattle.record_text.proofs.Relays.{relay_told}
use Rattle.record_text.proofs.data.relay.put_parts.Goals as goal

as_relay : (r : Result (Unit {0}) TextError) (origin : Option DomainName) (a b c : Word) (discovery kind first : ℕ) (field : Field) (old middle new : List ℕ) → (a.quoted ≡ false) × IsNumber a.bytes.now discovery × (discovery < 2) → (b.quoted ≡ false) × IsNumber b.bytes.now kind
    → relay_field kind ≡ Some field → first ≡ 128 * discovery + kind → middle ≡ old ++ first ∷ [] → OnOk r (Puts (IsField origin field c) middle new) → OnOk r (Puts (IsRelay origin a b c) old new)
as_relay (Err e) origin a b c discovery kind first field old middle new optional typed told octet pushed h = h
as_relay (Ok done) origin a b c discovery kind first field old middle new optional typed told octet pushed h = (
  first ∷ h.0,
  h.1 ∙ ap (λ (xs : List ℕ). xs ++ h.0) pushed ∙ append_assoc old (first ∷ []) h.0,
  record { discovery = discovery; kind = kind; field = field; own = h.0; optional = optional; typed = typed; told = told; is = h.2; together = ap (λ (n : ℕ). n ∷ h.0) octet },
)

no_relay : (r : Result (Unit {0}) TextError) (origin : Option DomainName) (a b c : Word) (kind : ℕ) (field : Field) → IsNumber b.bytes.now kind → relay_field kind ≡ Some field → IfErr r (λ e. e ≢ Memory → HasNone (IsField origin field c)) → IfErr r (λ e. e ≢ Memory → HasNone (IsRelay origin a b c))
no_relay (Ok done) origin a b c kind field typed told h = h
no_relay (Err e) origin a b c kind field typed told h = λ other octets is.
    let same : is.field ≡ field = relay_told is.kind kind is.field field (sym is.typed.1.value ∙ typed.value) is.told told in
    h other is.own (subst (λ (f : Field). IsField origin f c is.own) same is.is)
