use Rattle.std.proofs.Common.{◌≡◌, ℕ, List, [], ◌∷◌, Option, Result, Ok, Err, length, get_or, sym, subst, refl, arith}
use Rattle.std.specs.Option.{option_copied}
use Rattle.std.specs.Prelude.{◌≢◌, IfErr, OnOk}
use Rattle.wire_names.specs.rr.domain.DomainName.{DomainName}
use Rattle.text_words.specs.declared.error.TextError.{TextError}
use Rattle.text_words.specs.declared.error.TextError.TheVariants.{Memory}
use Rattle.record_text.specs.declared.data.field.Rest.TheVariants as kind
use Rattle.text_words.specs.declared.words.Word.{Word}
use Rattle.text_words.specs.Spelling.{Puts}
use Rattle.record_text.specs.RecordText.{HasNone, IsRelay, IsRest}
use Rattle.record_text.specs.RecordText.IsRest.{relay}
use Rattle.record_text.proofs.data.relay.put_relay.Goals as goal

three : (words : List Word) (d : Word) → length words ≡ 3 → words ≡ get_or words 0 d ∷ get_or words 1 d ∷ get_or words 2 d ∷ []
three [] d long = absurd (omega arith)
three (a ∷ []) d long = absurd (omega arith)
three (a ∷ b ∷ []) d long = absurd (omega arith)
three (a ∷ b ∷ c ∷ []) d long = refl
three (a ∷ b ∷ c ∷ e ∷ words) d long = absurd (omega arith)

abbrev IsHere : Option DomainName → List Word → Word → List ℕ → Type 0
IsHere origin words d = IsRelay origin (get_or words 0 d) (get_or words 1 d) (get_or words 2 d)

as_relay : (r : Result (Unit {0}) TextError) (origin : Option DomainName) (words : List Word) (d : Word) (old new : List ℕ) → length words ≡ 3 → OnOk r (Puts (IsHere origin words d) old new) → OnOk r (Puts (IsRest origin kind.Relay words) old new)
as_relay (Err e) origin words d old new long h = h
as_relay (Ok done) origin words d old new long h = (h.0, h.1, subst (λ (ws : List Word). IsRest origin kind.Relay ws h.0) (sym (three words d long)) (relay h.2))

of_relay : (origin : Option DomainName) (a b c : Word) (octets : List ℕ) → IsRest origin kind.Relay (a ∷ b ∷ c ∷ []) octets → IsRelay origin a b c octets
of_relay origin a b c octets (relay is) = is

three_words : {origin : Option DomainName} {words : List Word} {octets : List ℕ} → IsRest origin kind.Relay words octets → length words ≡ 3
three_words (relay is) = refl

no_relay : (r : Result (Unit {0}) TextError) (origin : Option DomainName) (words : List Word) (d : Word) → length words ≡ 3 → IfErr r (λ e. e ≢ Memory → HasNone (IsHere origin words d)) → IfErr r (λ e. e ≢ Memory → HasNone (IsRest origin kind.Relay words))
no_relay (Ok done) origin words d long h = h
no_relay (Err e) origin words d long h = λ other octets is. h other octets (of_relay origin (get_or words 0 d) (get_or words 1 d) (get_or words 2 d) octets (subst (λ (ws : List Word). IsRest origin kind.Relay ws octets) (three words d long) is))

pub returns-in-len3-clause-put : goal.returns-in-len3-clause-put
returns-in-len3-clause-put c = as_relay c.put_parts.result (option_copied c.args.origin) c.args.words.now _ c.args.data.now.items c.put_parts.new.data.items (omega (arith, c.in-len3.len_at_least, c.in-len3.len_below)) c.put_parts.ensures.put

pub returns-in-len3-clause-refused : goal.returns-in-len3-clause-refused
returns-in-len3-clause-refused c = no_relay c.put_parts.result (option_copied c.args.origin) c.args.words.now _ (omega (arith, c.in-len3.len_at_least, c.in-len3.len_below)) c.put_parts.ensures.refused
