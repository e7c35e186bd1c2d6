use Rattle.std.proofs.Common.{◌≡◌, ℕ, List, [], ◌∷◌, Some, None, Result, Ok, Err, Option, sym, refl, append-nil}
use Rattle.std.specs.Option.{option_copied}
use Rattle.wire_names.specs.rr.domain.DomainName.{DomainName}
use Rattle.std.specs.List.{slice_get}
use Rattle.std.specs.Prelude.{IfErr, OnOk, ◌≢◌}
use Rattle.hex.specs.Hex.{decode_of}
use Rattle.record_text.specs.declared.data.field.Rest.TheVariants as kind
use Rattle.text_data.specs.LocationText.{IsLocation}
use Rattle.text_data.specs.ServiceText.{AreServiceParameters}
use Rattle.text_words.specs.declared.error.TextError.{TextError}
use Rattle.text_words.specs.declared.error.TextError.TheVariants.{Memory}
use Rattle.text_words.specs.declared.words.Word.{Word}
use Rattle.text_words.specs.Spelling.{Puts}
use Rattle.record_text.specs.RecordText.{ArePlain, ArePortBits, AreStrings, HasNone, IsBase64, IsGateway, IsLowTypeSet, IsRest, IsTypeSet, bytes_of}
use Rattle.record_text.specs.RecordText.IsRest.{nothing, strings, hex, base64, types, service, ports, prefixes, gateway, low_types, location}
use Rattle.record_text.specs.Prefixes.{ArePrefixes}
use Rattle.record_text.proofs.NoRow.{no_base64, no_gateway, no_hex, no_location, no_low, no_nothing, no_ports, no_prefixes, no_service, no_strings, no_types, not_generic, some_hex, some_strings}
use Rattle.record_text.proofs.data.rest.put_rest.Goals as goal

is_nil : (words : List Word) → None ≡ slice_get words 0 → words ≡ []
is_nil [] e = refl
is_nil (word ∷ words) e = absurd (cc)

not_nil : (words : List Word) (first : Word) → Some first ≡ slice_get words 0 → words ≢ []
not_nil [] first e = absurd (cc)
not_nil (word ∷ words) first e = λ h. absurd (cc)

as_strings : (r : Result (Unit {0}) TextError) (origin : Option DomainName) (words : List Word) (old new : List ℕ) → words ≢ [] → OnOk r (Puts (AreStrings words) old new) → OnOk r (Puts (IsRest origin kind.Strings words) old new)
as_strings (Ok done) origin words old new some h = (h.0, h.1, strings some h.2)
as_strings (Err e) origin words old new some h = h

as_hex : (r : Result (Unit {0}) TextError) (origin : Option DomainName) (words : List Word) (old new : List ℕ) → words ≢ [] → OnOk r (ArePlain words × Puts (λ octets. decode_of (bytes_of words) ≡ Ok octets) old new) → OnOk r (Puts (IsRest origin kind.Hex words) old new)
as_hex (Ok done) origin words old new some h = (h.1.0, h.1.1, hex some h.0 h.1.2)
as_hex (Err e) origin words old new some h = h

as_rest : (r : Result (Unit {0}) TextError) (Is Rest : List ℕ → Type 0) (old new : List ℕ) → ((octets : List ℕ) → Is octets → Rest octets) → OnOk r (Puts Is old new) → OnOk r (Puts Rest old new)
as_rest (Ok done) Is Rest old new so h = (h.0, h.1, so h.0 h.2)
as_rest (Err e) Is Rest old new so h = h

pub returns-in-ServiceParameters-default-clause-put : goal.returns-in-ServiceParameters-default-clause-put
returns-in-ServiceParameters-default-clause-put c =
    rw c.in-ServiceParameters-default.is-0 (as_rest c.put_parameters.result (AreServiceParameters c.args.words.now) (IsRest (option_copied c.args.origin) kind.ServiceParameters c.args.words.now) c.args.data.now.items c.put_parameters.new.data.items (λ octets is. service is) c.put_parameters.ensures.put)

pub returns-in-Types-default-clause-put : goal.returns-in-Types-default-clause-put
returns-in-Types-default-clause-put c =
    rw c.in-Types-default.is-0 (as_rest c.put_types.result (IsTypeSet c.args.words.now) (IsRest (option_copied c.args.origin) kind.Types c.args.words.now) c.args.data.now.items c.put_types.new.data.items (λ octets is. types is) c.put_types.ensures.put)

pub returns-in-Services-default-clause-put : goal.returns-in-Services-default-clause-put
returns-in-Services-default-clause-put c =
    rw c.in-Services-default.is-0 (as_rest c.put_ports.result (ArePortBits c.args.words.now) (IsRest (option_copied c.args.origin) kind.Services c.args.words.now) c.args.data.now.items c.put_ports.new.data.items (λ octets is. ports is) c.put_ports.ensures.put)

pub returns-in-Gateway-default-clause-put : goal.returns-in-Gateway-default-clause-put
returns-in-Gateway-default-clause-put c =
    rw c.in-Gateway-default.is-0 (as_rest c.put_gateway.result (IsGateway (option_copied c.args.origin) c.args.words.now) (IsRest (option_copied c.args.origin) kind.Gateway c.args.words.now) c.args.data.now.items c.put_gateway.new.data.items (λ octets is. gateway is) c.put_gateway.ensures.put)

pub returns-in-Base64-default-clause-put : goal.returns-in-Base64-default-clause-put
returns-in-Base64-default-clause-put c =
    rw c.in-Base64-default.is-0 (as_rest c.put_base64.result (IsBase64 c.args.words.now) (IsRest (option_copied c.args.origin) kind.Base64 c.args.words.now) c.args.data.now.items c.put_base64.new.data.items (λ octets is. base64 is) c.put_base64.ensures.put)

pub returns-in-HostIdentity-default-clause-put : goal.returns-in-HostIdentity-default-clause-put
returns-in-HostIdentity-default-clause-put c = rw c.in-HostIdentity-default.is-0 c.put_host.ensures.put

pub returns-in-Nothing-None-clause-put : goal.returns-in-Nothing-None-clause-put
returns-in-Nothing-None-clause-put c = rw (c.in-Nothing-None.is-0, is_nil c.args.words.now c.in-Nothing-None.ensures.value) ([], sym (append-nil c.args.data.now.items), nothing)

pub returns-in-Strings-Some-clause-put : goal.returns-in-Strings-Some-clause-put
returns-in-Strings-Some-clause-put c = rw c.in-Strings-Some.is-0 (as_strings c.put_strings.result (option_copied c.args.origin) c.args.words.now c.args.data.now.items c.put_strings.new.data.items (not_nil c.args.words.now c.in-Strings-Some.field-0-1.now c.in-Strings-Some.ensures.value) c.put_strings.ensures.put)

pub returns-in-Hex-Some-clause-put : goal.returns-in-Hex-Some-clause-put
returns-in-Hex-Some-clause-put c = rw c.in-Hex-Some.is-0 (as_hex c.put_hex.result (option_copied c.args.origin) c.args.words.now c.args.data.now.items c.put_hex.new.data.items (not_nil c.args.words.now c.in-Hex-Some.field-0-1.now c.in-Hex-Some.ensures.value) c.put_hex.ensures.put)

-- what is refused stands for nothing of this kind
refused : (r : Result (Unit {0}) TextError) (Is Rest : List ℕ → Type 0) → (HasNone Is → HasNone Rest) → IfErr r (λ e. e ≢ Memory → HasNone Is) → IfErr r (λ e. e ≢ Memory → HasNone Rest)
refused (Ok done) Is Rest so h = h
refused (Err e) Is Rest so h = λ other. so (h other)

pub returns-in-ServiceParameters-default-clause-refused : goal.returns-in-ServiceParameters-default-clause-refused
returns-in-ServiceParameters-default-clause-refused c = rw c.in-ServiceParameters-default.is-0 (refused c.put_parameters.result (AreServiceParameters c.args.words.now) (IsRest (option_copied c.args.origin) kind.ServiceParameters c.args.words.now) (no_service (option_copied c.args.origin) c.args.words.now) c.put_parameters.ensures.refused)

pub returns-in-Types-default-clause-refused : goal.returns-in-Types-default-clause-refused
returns-in-Types-default-clause-refused c = rw c.in-Types-default.is-0 (refused c.put_types.result (IsTypeSet c.args.words.now) (IsRest (option_copied c.args.origin) kind.Types c.args.words.now) (no_types (option_copied c.args.origin) c.args.words.now) c.put_types.ensures.refused)

pub returns-in-Services-default-clause-refused : goal.returns-in-Services-default-clause-refused
returns-in-Services-default-clause-refused c = rw c.in-Services-default.is-0 (refused c.put_ports.result (ArePortBits c.args.words.now) (IsRest (option_copied c.args.origin) kind.Services c.args.words.now) (no_ports (option_copied c.args.origin) c.args.words.now) c.put_ports.ensures.refused)

pub returns-in-Gateway-default-clause-refused : goal.returns-in-Gateway-default-clause-refused
returns-in-Gateway-default-clause-refused c = rw c.in-Gateway-default.is-0 (refused c.put_gateway.result (IsGateway (option_copied c.args.origin) c.args.words.now) (IsRest (option_copied c.args.origin) kind.Gateway c.args.words.now) (no_gateway (option_copied c.args.origin) c.args.words.now) c.put_gateway.ensures.refused)

pub returns-in-Base64-default-clause-refused : goal.returns-in-Base64-default-clause-refused
returns-in-Base64-default-clause-refused c = rw c.in-Base64-default.is-0 (refused c.put_base64.result (IsBase64 c.args.words.now) (IsRest (option_copied c.args.origin) kind.Base64 c.args.words.now) (no_base64 (option_copied c.args.origin) c.args.words.now) c.put_base64.ensures.refused)

pub returns-in-HostIdentity-default-clause-refused : goal.returns-in-HostIdentity-default-clause-refused
returns-in-HostIdentity-default-clause-refused c = rw c.in-HostIdentity-default.is-0 c.put_host.ensures.refused

pub returns-in-Strings-Some-clause-refused : goal.returns-in-Strings-Some-clause-refused
returns-in-Strings-Some-clause-refused c = rw c.in-Strings-Some.is-0 (refused c.put_strings.result (AreStrings c.args.words.now) (IsRest (option_copied c.args.origin) kind.Strings c.args.words.now) (no_strings (option_copied c.args.origin) c.args.words.now) c.put_strings.ensures.refused)

pub returns-in-Hex-Some-clause-refused : goal.returns-in-Hex-Some-clause-refused
returns-in-Hex-Some-clause-refused c = rw c.in-Hex-Some.is-0 (refused c.put_hex.result (λ octets. ArePlain c.args.words.now × (decode_of (bytes_of c.args.words.now) ≡ Ok octets)) (IsRest (option_copied c.args.origin) kind.Hex c.args.words.now) (no_hex (option_copied c.args.origin) c.args.words.now) c.put_hex.ensures.refused)

pub returns-in-Nothing-Some-clause-refused : goal.returns-in-Nothing-Some-clause-refused
returns-in-Nothing-Some-clause-refused c = λ other. rw c.in-Nothing-Some.is-0 (no_nothing (option_copied c.args.origin) c.args.words.now (not_nil c.args.words.now c.in-Nothing-Some.word.now c.in-Nothing-Some.ensures.value))

pub returns-in-Generic-Some-clause-refused : goal.returns-in-Generic-Some-clause-refused
returns-in-Generic-Some-clause-refused c = λ other octets is. not_generic is c.in-Generic-Some.is-0

pub returns-in-Generic-None-clause-refused : goal.returns-in-Generic-None-clause-refused
returns-in-Generic-None-clause-refused c = λ other octets is. not_generic is c.in-Generic-None.is-0

pub returns-in-Strings-None-clause-refused : goal.returns-in-Strings-None-clause-refused
returns-in-Strings-None-clause-refused c = λ other. rw c.in-Strings-None.is-0 (some_strings (option_copied c.args.origin) c.args.words.now (is_nil c.args.words.now c.in-Strings-None.ensures.value))

pub returns-in-Hex-None-clause-refused : goal.returns-in-Hex-None-clause-refused
returns-in-Hex-None-clause-refused c = λ other. rw c.in-Hex-None.is-0 (some_hex (option_copied c.args.origin) c.args.words.now (is_nil c.args.words.now c.in-Hex-None.ensures.value))

pub returns-in-Prefixes-default-clause-put : goal.returns-in-Prefixes-default-clause-put
returns-in-Prefixes-default-clause-put c =
    rw c.in-Prefixes-default.is-0 (as_rest c.put_prefixes.result (ArePrefixes c.args.words.now) (IsRest (option_copied c.args.origin) kind.Prefixes c.args.words.now) c.args.data.now.items c.put_prefixes.new.data.items (λ octets is. prefixes is) c.put_prefixes.ensures.put)

pub returns-in-Prefixes-default-clause-refused : goal.returns-in-Prefixes-default-clause-refused
returns-in-Prefixes-default-clause-refused c = rw c.in-Prefixes-default.is-0 (refused c.put_prefixes.result (ArePrefixes c.args.words.now) (IsRest (option_copied c.args.origin) kind.Prefixes c.args.words.now) (no_prefixes (option_copied c.args.origin) c.args.words.now) c.put_prefixes.ensures.refused)

pub returns-in-LowTypes-default-clause-put : goal.returns-in-LowTypes-default-clause-put
returns-in-LowTypes-default-clause-put c =
    rw c.in-LowTypes-default.is-0 (as_rest c.put_low_types.result (IsLowTypeSet c.args.words.now) (IsRest (option_copied c.args.origin) kind.LowTypes c.args.words.now) c.args.data.now.items c.put_low_types.new.data.items (λ octets is. low_types is) c.put_low_types.ensures.put)

pub returns-in-LowTypes-default-clause-refused : goal.returns-in-LowTypes-default-clause-refused
returns-in-LowTypes-default-clause-refused c = rw c.in-LowTypes-default.is-0 (refused c.put_low_types.result (IsLowTypeSet c.args.words.now) (IsRest (option_copied c.args.origin) kind.LowTypes c.args.words.now) (no_low (option_copied c.args.origin) c.args.words.now) c.put_low_types.ensures.refused)

pub returns-in-Location-default-clause-put : goal.returns-in-Location-default-clause-put
returns-in-Location-default-clause-put c =
    rw c.in-Location-default.is-0 (as_rest c.put_location.result (IsLocation c.args.words.now) (IsRest (option_copied c.args.origin) kind.Location c.args.words.now) c.args.data.now.items c.put_location.new.data.items (λ octets is. location is) c.put_location.ensures.put)

pub returns-in-Location-default-clause-refused : goal.returns-in-Location-default-clause-refused
returns-in-Location-default-clause-refused c = rw c.in-Location-default.is-0 (refused c.put_location.result (IsLocation c.args.words.now) (IsRest (option_copied c.args.origin) kind.Location c.args.words.now) (no_location (option_copied c.args.origin) c.args.words.now) c.put_location.ensures.refused)

pub returns-in-Relay-default-clause-put : goal.returns-in-Relay-default-clause-put
returns-in-Relay-default-clause-put c = rw c.in-Relay-default.is-0 c.put_relay.ensures.put

pub returns-in-Relay-default-clause-refused : goal.returns-in-Relay-default-clause-refused
returns-in-Relay-default-clause-refused c = rw c.in-Relay-default.is-0 c.put_relay.ensures.refused
