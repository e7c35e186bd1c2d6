-- The strings of settings, one setting after the other.
use Rattle.std.proofs.Common.{◌≡◌, ℕ, List, [], ◌∷◌, ◌++◌, map, take, length, ◌+◌, ◌<◌, get_or, sym, ap, ◌∙◌, append_assoc, append-nil}
use Rattle.std.proofs.lemmas.List.{take_more}
use Rattle.server_settings.specs.Settings.{said, strings, strings_of}
use Rattle.server_settings.specs.declared.reading.Setting.{Setting}

strings_last : (all : List Setting) (setting : Setting) → strings_of (map said (all ++ setting ∷ [])) ≡ strings_of (map said all) ++ strings (said setting)
strings_last [] setting = append-nil (strings (said setting))
strings_last (first ∷ all) setting =
    ap (λ rest. strings (said first) ++ rest) (strings_last all setting) ∙ sym (append_assoc (strings (said first)) (strings_of (map said all)) (strings (said setting)))

pub strings_on : (all : List Setting) (i : ℕ) (setting : Setting) (old before after : List ℕ) → i < length all → get_or all i setting ≡ setting
    → before ≡ old ++ strings_of (map said (take i all)) → after ≡ before ++ strings (said setting) → after ≡ old ++ strings_of (map said (take (i + 1) all))
strings_on all i setting old before after within at so put =
    put ∙ ap (λ front. front ++ strings (said setting)) so ∙ append_assoc old (strings_of (map said (take i all))) (strings (said setting))
    ∙ ap (λ rest. old ++ rest) (sym (strings_last (take i all) setting) ∙ ap (λ front. strings_of (map said front)) (sym (take_more all i setting within ∙ ap (λ s. take i all ++ s ∷ []) at)))
