use Rattle.std.proofs.Common.{◌≡◌, ◌∙◌, ℕ, true, false, List, [], ◌∷◌, length, drop, get_or, sym, subst, refl, arith}
use Rattle.std.proofs.lemmas.Bool.Decides.{nat_tests}
use Rattle.std.proofs.lemmas.Result.{err_from_is_err_and}
use Rattle.std.specs.Char.{to_ascii_lowercase}
use Rattle.std.specs.Prelude.{codes, map}
use Rattle.record_text.specs.RecordText.{HasNone}
use Rattle.zone_text.specs.declared.zone_file.entry.Before.{Before}
use Rattle.zone_text.specs.ZoneFaults.{IsNoEntry}
use Rattle.zone_text.specs.ZoneFiles.{IsDirective, IsKeyword, IsRecordEntry}
use Rattle.text_words.specs.declared.words.Word.{Word}
use Rattle.zone_text.specs.ZoneFiles.IsEntry.{blank, origin_of, default_ttl_of, generated_of, record_of}
use Rattle.zone_text.proofs.zone_file.entry.read_entry.Goals as goal

no_words : (words : List Word) → length words ≡ 0 → words ≡ []
no_words [] e = refl
no_words (w ∷ words) e = absurd (omega arith)

pub returns-in-None-clause-entry : goal.returns-in-None-clause-entry
returns-in-None-clause-entry c = rw (no_words c.args.words.now c.in-None.ensures.cases) blank

pub returns-then-begins_blank-clause-entry : goal.returns-then-begins_blank-clause-entry
returns-then-begins_blank-clause-entry c = rw c.if-begins_blank.true (record_of c.in_ok-record.ensures.entry)

pub returns-clause-entry : goal.returns-clause-entry
returns-clause-entry c = rw c.if-begins_blank.false (rw c.in-Some.ensures.cases.0 (record_of c.in_ok-record-2.ensures.entry))

not_so : false ≡ true → ⊥
not_so e = cc

heads : (a b : Word) (r s : List Word) → (a ∷ r) ≡ (b ∷ s) → a ≡ b
heads a b r s e = cc

-- a keyword that begins with a dollar sign is written as a directive
begins : (d : Word) (keyword : List ℕ) → IsKeyword keyword d → map to_ascii_lowercase keyword ≡ (36 ∷ drop 1 (map to_ascii_lowercase keyword)) → IsDirective d
begins d keyword key dollar = record { unquoted = key.unquoted; dollar = first d.bytes.now (sym key.same ∙ dollar) } where
  unchanged : (byte : ℕ) → to_ascii_lowercase byte ≡ 36 → byte ≡ 36
  unchanged byte e = grind (arith, nat_tests)

  first : {rest : List ℕ} (text : List ℕ) → map to_ascii_lowercase text ≡ (36 ∷ rest) → get_or text 0 0 ≡ 36
  first [] e = absurd (cc)
  first {rest} (byte ∷ text) e = let low : to_ascii_lowercase byte ≡ 36 = cc in unchanged byte low

-- words of an entry that begins with a blank, and of one that begins with no directive, are a record
no_repeated : (before : Before) (words behind : List Word) (first : Word) → words ≡ (first ∷ behind) → HasNone (IsRecordEntry before true words) → IsNoEntry before true words
no_repeated before words behind first is none entry blank = cc
no_repeated before words behind first is none entry (record_of {r = r} h) = none r h

no_named : (before : Before) (words behind : List Word) (first : Word) → words ≡ (first ∷ behind) → (IsDirective first → ⊥) → HasNone (IsRecordEntry before false words) → IsNoEntry before false words
no_named before words behind first is plain none entry blank = cc
no_named before words behind first is plain none entry (origin_of {directive = d} {word = w} key name) =
    plain (subst IsDirective (heads d first (w ∷ []) behind is) (begins d (codes "$ORIGIN") key refl))
no_named before words behind first is plain none entry (default_ttl_of {directive = d} {word = w} key ttl) =
    plain (subst IsDirective (heads d first (w ∷ []) behind is) (begins d (codes "$TTL") key refl))
no_named before words behind first is plain none entry (generated_of {directive = d} {words = ws} key at) =
    plain (subst IsDirective (heads d first ws behind is) (begins d (codes "$GENERATE") key refl))
no_named before words behind first is plain none entry (record_of {r = r} h) = none r h

pub returns-in_err-record-clause-refused : goal.returns-in_err-record-clause-refused
returns-in_err-record-clause-refused c =
    let p = err_from_is_err_and c.from_residual.result c.from_residual.ensures.1 in
    rw (p.1, p.2, c.if-begins_blank.true) (λ other. no_repeated c.args.before.now c.args.words.now c.in-Some.parts.1.now c.in-Some.parts.0.now c.in-Some.ensures.cases.0 (c.in_err-record.ensures.refused other))

pub returns-in_err-record-2-clause-refused : goal.returns-in_err-record-2-clause-refused
returns-in_err-record-2-clause-refused c =
    let p = err_from_is_err_and c.from_residual-in_err-record-2.result c.from_residual-in_err-record-2.ensures.1 in
    let words : List Word = c.args.words.now in
    rw (p.1, p.2, c.if-begins_blank.false) (λ other. no_named c.args.before.now words c.in-Some.parts.1.now c.in-Some.parts.0.now c.in-Some.ensures.cases.0 (λ d. not_so (c.if-is_directive.ensures.1 d))
    (subst (λ (ws : List Word). HasNone (IsRecordEntry c.args.before.now false ws)) (sym c.in-Some.ensures.cases.0) (c.in_err-record-2.ensures.refused other)))

pub returns-then-is_directive-clause-refused : goal.returns-then-is_directive-clause-refused
returns-then-is_directive-clause-refused c = rw (c.if-begins_blank.false, c.in-Some.ensures.cases.0) c.read_directive.ensures.refused
