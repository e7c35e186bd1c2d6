use Rattle.std.proofs.Common.{◌≡◌, ◌-◌, ◌≤◌, ℕ, List, [], ◌∷◌, Option, Result, Ok, Err, length, take, drop, get_or, sym, ap, subst, arith}
use Rattle.std.proofs.lemmas.List.{take_rest}
use Rattle.std.specs.Option.{option_copied}
use Rattle.std.specs.Prelude.{◌≢◌, IfErr, OnOk}
use Rattle.wire_names.specs.rr.domain.DomainName.{DomainName}
use Rattle.text_words.specs.declared.error.TextError.{TextError}
use Rattle.text_words.specs.declared.error.TextError.TheVariants.{Memory}
use Rattle.record_text.specs.declared.data.field.Rest.TheVariants as kind
use Rattle.text_words.specs.declared.words.Word.{Word}
use Rattle.text_words.specs.Spelling.{Puts}
use Rattle.record_text.specs.RecordText.{HasNone, IsIdentity, IsRest}
use Rattle.record_text.specs.RecordText.IsRest.{host}
use Rattle.record_text.proofs.data.host_identity.put_host.Goals as goal

three : (words : List Word) (d : Word) → 3 ≤ length words → words ≡ get_or words 0 d ∷ get_or words 1 d ∷ get_or words 2 d ∷ take (length words - 3) (drop 3 words)
three [] d long = absurd (omega arith)
three (a ∷ []) d long = absurd (omega arith)
three (a ∷ b ∷ []) d long = absurd (omega arith)
three (a ∷ b ∷ c ∷ words) d long = ap (λ (ws : List Word). a ∷ b ∷ c ∷ ws) (sym (take_rest (a ∷ b ∷ c ∷ words) 3))

abbrev IsHere : Option DomainName → List Word → Word → List ℕ → Type 0
IsHere origin words d = IsIdentity origin (get_or words 0 d) (get_or words 1 d) (get_or words 2 d) (take (length words - 3) (drop 3 words))

as_host : (r : Result (Unit {0}) TextError) (origin : Option DomainName) (words : List Word) (d : Word) (old new : List ℕ) → 3 ≤ length words → OnOk r (Puts (IsHere origin words d) old new) → OnOk r (Puts (IsRest origin kind.HostIdentity words) old new)
as_host (Err e) origin words d old new long h = h
as_host (Ok done) origin words d old new long h = (h.0, h.1, subst (λ (ws : List Word). IsRest origin kind.HostIdentity ws h.0) (sym (three words d long)) (host h.2))

of_host : (origin : Option DomainName) (a b c : Word) (servers : List Word) (octets : List ℕ) → IsRest origin kind.HostIdentity (a ∷ b ∷ c ∷ servers) octets → IsIdentity origin a b c servers octets
of_host origin a b c servers octets (host is) = is

no_host : (r : Result (Unit {0}) TextError) (origin : Option DomainName) (words : List Word) (d : Word) → 3 ≤ length words → IfErr r (λ e. e ≢ Memory → HasNone (IsHere origin words d)) → IfErr r (λ e. e ≢ Memory → HasNone (IsRest origin kind.HostIdentity words))
no_host (Ok done) origin words d long h = h
no_host (Err e) origin words d long h = λ other octets is. h other octets (of_host origin (get_or words 0 d) (get_or words 1 d) (get_or words 2 d) (take (length words - 3) (drop 3 words)) octets (subst (λ (ws : List Word). IsRest origin kind.HostIdentity ws octets) (three words d long) is))

pub returns-in-len3-up-clause-put : goal.returns-in-len3-up-clause-put
returns-in-len3-up-clause-put c = as_host c.put_identity.result (option_copied c.args.origin) c.args.words.now _ c.args.data.now.items c.put_identity.new.data.items c.in-len3-up.len_at_least c.put_identity.ensures.put

pub returns-in-len3-up-clause-refused : goal.returns-in-len3-up-clause-refused
returns-in-len3-up-clause-refused c = no_host c.put_identity.result (option_copied c.args.origin) c.args.words.now _ c.in-len3-up.len_at_least c.put_identity.ensures.refused
