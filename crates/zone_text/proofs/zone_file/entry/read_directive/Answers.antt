use Rattle.std.proofs.Common.{◌≡◌, ◌∙◌, ℕ, false, List, [], ◌∷◌, get_or, sym, ap, subst, refl, arith}
use Rattle.std.proofs.lemmas.Result.{err_from_is_err_and}
use Rattle.std.specs.Char.{to_ascii_lowercase}
use Rattle.std.specs.Prelude.{codes, map}
use Rattle.record_text.specs.RecordText.{HasNone}
use Rattle.text_words.specs.declared.words.Word.{Word}
use Rattle.zone_text.specs.declared.zone_file.entry.Before.{Before}
use Rattle.zone_text.specs.declared.zone_file.entry.Entry.{Entry}
use Rattle.zone_text.specs.ZoneFaults.{IsNoEntry}
use Rattle.zone_text.specs.ZoneFiles.{IsDirective, IsEntry, IsGenerated, IsKeyword}
use Rattle.zone_text.specs.ZoneFiles.IsRecordEntry.{named}
use Rattle.zone_text.specs.ZoneFiles.IsEntry.{blank, origin_of, default_ttl_of, generated_of, record_of}
use Rattle.zone_text.proofs.zone_file.entry.read_directive.Goals as goal

pub returns-then-eq_ignore_ascii_case-clause-entry : goal.returns-then-eq_ignore_ascii_case-clause-entry
returns-then-eq_ignore_ascii_case-clause-entry c = rw c.in_ok-word.ensures.only (origin_of
    (record { unquoted = c.requires.unquoted; same = sym (c.if-eq_ignore_ascii_case.ensures.test.0 refl) })
    (record { unquoted = c.in_ok-name.ensures.plain; spelled = c.in_ok-name.ensures.spelled; qualified = c.in_ok-name.ensures.qualified; short = c.in_ok-name.ensures.short }))

pub returns-then-eq_ignore_ascii_case-2-clause-entry : goal.returns-then-eq_ignore_ascii_case-2-clause-entry
returns-then-eq_ignore_ascii_case-2-clause-entry c = rw c.in_ok-word-2.ensures.only (default_ttl_of
    (record { unquoted = c.requires.unquoted; same = sym (c.if-eq_ignore_ascii_case-2.ensures.test.0 refl) })
    (record { unquoted = c.in_ok-seconds.ensures.time.0; spelled = c.in_ok-seconds.ensures.time.1; short = c.in_ok-seconds.ensures.time.2 }))

heads : (a b : Word) (r s : List Word) → (a ∷ r) ≡ (b ∷ s) → (a ≡ b) × (r ≡ s)
heads a b r s e = (cc, cc)

-- a word is one keyword
apart : (d first : Word) (one other : List ℕ) → d ≡ first → IsKeyword one d → IsKeyword other first → map to_ascii_lowercase one ≡ map to_ascii_lowercase other
apart d first one other same is key = is.same ∙ ap (λ (w : Word). map to_ascii_lowercase w.bytes.now) same ∙ sym key.same

no_generate : (before : Before) (first : Word) (behind : List Word) → IsDirective first → IsKeyword (codes "$GENERATE") first → HasNone (IsGenerated before behind) → IsNoEntry before false (first ∷ behind)
no_generate before first behind directive key none entry is = by_entry (first ∷ behind) entry refl is where
  by_entry : (words : List Word) (entry : Entry) → words ≡ (first ∷ behind) → IsEntry before false words entry → ⊥
  by_entry words entry e blank = cc
  by_entry words entry e (origin_of {directive = d} {word = w} k name) =
      let one : 111 ≡ 103 = ap (λ (t : List ℕ). get_or t 1 0) (apart d first (codes "$ORIGIN") (codes "$GENERATE") (heads d first (w ∷ []) behind e).0 k key) in omega (arith, one)
  by_entry words entry e (default_ttl_of {directive = d} {word = w} k ttl) =
      let one : 116 ≡ 103 = ap (λ (t : List ℕ). get_or t 1 0) (apart d first (codes "$TTL") (codes "$GENERATE") (heads d first (w ∷ []) behind e).0 k key) in omega (arith, one)
  by_entry words entry e (generated_of {directive = d} {words = ws} {records = rs} k at) = none rs (subst (λ (l : List Word). IsGenerated before l rs) (heads d first ws behind e).1 at)
  by_entry words entry e (record_of (named {owner = o} {words = ws} plain name at)) = plain (subst IsDirective (sym (heads o first ws behind e).0) directive)

pub returns-in_err-records-clause-refused : goal.returns-in_err-records-clause-refused
returns-in_err-records-clause-refused c =
    let p = err_from_is_err_and c.from_residual-in_err-records.result c.from_residual-in_err-records.ensures.1 in
    rw (p.1, p.2) (λ other. no_generate c.args.before.now c.args.first.now c.args.behind.now c.requires (record { unquoted = c.requires.unquoted; same = sym (c.if-eq_ignore_ascii_case-3.ensures.test.0 refl) }) (c.in_err-records.ensures.refused other))

pub returns-then-eq_ignore_ascii_case-3-clause-entry : goal.returns-then-eq_ignore_ascii_case-3-clause-entry
returns-then-eq_ignore_ascii_case-3-clause-entry c = generated_of (record { unquoted = c.requires.unquoted; same = sym (c.if-eq_ignore_ascii_case-3.ensures.test.0 refl) }) c.in_ok-records.ensures.generated
