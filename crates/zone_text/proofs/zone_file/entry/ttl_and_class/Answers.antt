use Rattle.std.proofs.Common.{◌≡◌, ◌≢◌, ◌∙◌, ℕ, List, [], ◌∷◌, ◌++◌, Option, Some, None, Result, Ok, Err, Bor, IfOk, sym, ap, subst}
use Rattle.std.specs.Prelude.{IfErr, IfNone, IfSome}
use Rattle.std.proofs.lemmas.Result.{err_from_is_err_and}
use Rattle.record_text.specs.RecordText.{HasNone}
use Rattle.zone_text.specs.declared.zone_file.fault.EntryError.TheVariants.{Memory}
use Rattle.zone_text.specs.ZoneFaults.{BeginsWithNoFront}
use Rattle.zone_text.proofs.FrontOnce.{after_class as only_class, after_class_ttl, after_nothing, after_ttl, after_ttl_class, no_front, no_front_behind_class}
use Rattle.text_words.specs.declared.words.Word.{Word}
use Rattle.zone_text.specs.declared.zone_file.fault.EntryError.{EntryError}
use Rattle.zone_text.specs.ZoneFiles.{AreTtlAndClass, BeginsWith, IsClassIn, IsFrontOf, IsTtl, IsTypeWord, MayBeginWithTtl}
use Rattle.zone_text.specs.ZoneFiles.AreTtlAndClass.{neither, class, ttl, class_ttl, ttl_class}
use Rattle.zone_text.proofs.zone_file.entry.ttl_and_class.Goals as goal

ttl_alone : (words : List Word) (own : Option ℕ) (fields : List Word) → MayBeginWithTtl words own fields → (front : List Word) × (words ≡ front ++ fields) × AreTtlAndClass front own
ttl_alone words (Some n) fields h = (h.0 ∷ [], h.1, ttl h.2)
ttl_alone words None fields h = ([], h, neither)

ttl_first : (words : List Word) (n : ℕ) (fields behind : List Word) → MayBeginWithTtl words (Some n) fields → BeginsWith IsClassIn fields behind → (front : List Word) × (words ≡ front ++ behind) × AreTtlAndClass front (Some n)
ttl_first words n fields behind t c = (t.0 ∷ c.0 ∷ [], t.1 ∙ ap (λ (ws : List Word). t.0 ∷ ws) c.1, ttl_class t.2 c.2)

class_first : (words fields behind : List Word) (own : Option ℕ) (rest : List Word) → MayBeginWithTtl words None fields → BeginsWith IsClassIn fields behind → MayBeginWithTtl behind own rest → (front : List Word) × (words ≡ front ++ rest) × AreTtlAndClass front own
class_first words fields behind (Some n) rest same c t = (c.0 ∷ t.0 ∷ [], same ∙ c.1 ∙ ap (λ (ws : List Word). c.0 ∷ ws) t.1, class_ttl c.2 t.2)
class_first words fields behind None rest same c t = (c.0 ∷ [], same ∙ c.1 ∙ ap (λ (ws : List Word). c.0 ∷ ws) t, class c.2)

after_class : (words fields behind : List Word) (r : Result (Option ℕ × Bor (List Word)) EntryError) → MayBeginWithTtl words None fields → BeginsWith IsClassIn fields behind → IfOk r (λ found. MayBeginWithTtl behind found.0 found.1.now)
    → IfOk r (λ found. (front : List Word) × (words ≡ front ++ found.1.now) × AreTtlAndClass front found.0)
after_class words fields behind (Ok found) same c t = class_first words fields behind found.0 found.1.now same c t
after_class words fields behind (Err e) same c t = t

with_class : (fields : List Word) (found : Option (Bor (List Word))) (behind : Bor (List Word)) → found ≡ Some behind → IfSome found (λ b. BeginsWith IsClassIn fields b.now) → BeginsWith IsClassIn fields behind.now
with_class fields found behind is h = subst (λ (o : Option (Bor (List Word))). IfSome o (λ b. BeginsWith IsClassIn fields b.now)) is h

with_ttl : (words fields : List Word) (own other : Option ℕ) → own ≡ other → MayBeginWithTtl words own fields → MayBeginWithTtl words other fields
with_ttl words fields own other is h = subst (λ (o : Option ℕ). MayBeginWithTtl words o fields) is h

pub returns-in_default-clause-timed : goal.returns-in_default-clause-timed
returns-in_default-clause-timed c = ttl_alone c.args.words.now c.in_ok-ttl.ttl c.in_ok-ttl.fields.now c.in_ok-ttl.ensures.ttl

pub returns-in-Some-ttl-clause-timed : goal.returns-in-Some-ttl-clause-timed
returns-in-Some-ttl-clause-timed c = ttl_first c.args.words.now c.in-Some-ttl.seconds c.in_ok-ttl.fields.now c.in-Some.behind.now (with_ttl c.args.words.now c.in_ok-ttl.fields.now c.in_ok-ttl.ttl _ c.in-Some-ttl.is c.in_ok-ttl.ensures.ttl)
    (with_class c.in_ok-ttl.fields.now c.behind_class.result c.in-Some.behind c.in-Some.is c.behind_class.ensures.class)

pub returns-in-None-clause-timed : goal.returns-in-None-clause-timed
returns-in-None-clause-timed c = after_class c.args.words.now c.in_ok-ttl.fields.now c.in-Some.behind.now c.ttl_and_behind-in-None.result (with_ttl c.args.words.now c.in_ok-ttl.fields.now c.in_ok-ttl.ttl None c.in-None.is c.in_ok-ttl.ensures.ttl)
    (with_class c.in_ok-ttl.fields.now c.behind_class.result c.in-Some.behind c.in-Some.is c.behind_class.ensures.class) c.ttl_and_behind-in-None.ensures.ttl

abbrev Only : List Word → Option ℕ → List Word → Type 0
Only words found rest = (own : Option ℕ) (number : ℕ) → (behind : List Word) → IsFrontOf words own number behind → (own ≡ found) × BeginsWith (IsTypeWord number) rest behind

only_ttl : (words : List Word) (own : Option ℕ) (fields : List Word) → MayBeginWithTtl words own fields → IfNone own ((seconds : ℕ) → HasNone (BeginsWith (λ word. IsTtl word seconds) words)) → HasNone (BeginsWith IsClassIn fields) → Only words own fields
only_ttl words (Some s) fields h none no_class = λ own number behind f. after_ttl words fields h.0 s h.1 h.2 no_class own number behind f
only_ttl words None fields h none no_class = subst (λ (ws : List Word). Only words None ws) h
    (λ own number behind f. after_nothing words none (subst (λ (ws : List Word). HasNone (BeginsWith IsClassIn ws)) (sym h) no_class) own number behind f)

only_class_ttl : (words fields behind : List Word) (own : Option ℕ) (rest : List Word) → MayBeginWithTtl words None fields → BeginsWith IsClassIn fields behind → MayBeginWithTtl behind own rest → IfNone own ((seconds : ℕ) → HasNone (BeginsWith (λ word. IsTtl word seconds) behind))
    → Only words own rest
only_class_ttl words fields behind (Some s) rest same k h none = λ own number more f. after_class_ttl words behind rest k.0 h.0 s (same ∙ k.1) k.2 h.1 h.2 own number more f
only_class_ttl words fields behind None rest same k h none = subst (λ (ws : List Word). Only words None ws) h (λ own number more f. only_class words behind k.0 (same ∙ k.1) k.2 none own number more f)

only_after_class : (words fields behind : List Word) (r : Result (Option ℕ × Bor (List Word)) EntryError) → MayBeginWithTtl words None fields → BeginsWith IsClassIn fields behind → IfOk r (λ found. MayBeginWithTtl behind found.0 found.1.now)
    → IfOk r (λ found. IfNone found.0 ((seconds : ℕ) → HasNone (BeginsWith (λ word. IsTtl word seconds) behind))) → IfOk r (λ found. Only words found.0 found.1.now)
only_after_class words fields behind (Ok found) same k h none = only_class_ttl words fields behind found.0 found.1.now same k h none
only_after_class words fields behind (Err e) same k h none = h

none_after_class : (words fields behind : List Word) (r : Result (Option ℕ × Bor (List Word)) EntryError) → MayBeginWithTtl words None fields → BeginsWith IsClassIn fields behind → IfErr r (λ e. e ≢ Memory → BeginsWithNoFront behind)
    → IfErr r (λ e. e ≢ Memory → (own : Option ℕ) → (number : ℕ) → HasNone (IsFrontOf words own number))
none_after_class words fields behind (Ok found) same k h = h
none_after_class words fields behind (Err e) same k h = λ other. no_front_behind_class words behind k.0 (same ∙ k.1) k.2 (h other)

pub returns-in_err-ttl-clause-refused : goal.returns-in_err-ttl-clause-refused
returns-in_err-ttl-clause-refused c =
    let p = err_from_is_err_and c.from_residual.result c.from_residual.ensures.1 in
    rw (p.1, p.2) (λ other. no_front c.args.words.now (c.in_err-ttl.ensures.refused other))

pub returns-in_default-clause-most : goal.returns-in_default-clause-most
returns-in_default-clause-most c = only_ttl c.args.words.now c.in_ok-ttl.ttl c.in_ok-ttl.fields.now c.in_ok-ttl.ensures.ttl c.in_ok-ttl.ensures.none c.in_default.ensures.none

pub returns-in-Some-ttl-clause-most : goal.returns-in-Some-ttl-clause-most
returns-in-Some-ttl-clause-most c =
    let first = with_ttl c.args.words.now c.in_ok-ttl.fields.now c.in_ok-ttl.ttl (Some c.in-Some-ttl.seconds) c.in-Some-ttl.is c.in_ok-ttl.ensures.ttl in
    let next = with_class c.in_ok-ttl.fields.now c.behind_class.result c.in-Some.behind c.in-Some.is c.behind_class.ensures.class in
    λ own number behind f. after_ttl_class c.args.words.now c.in_ok-ttl.fields.now c.in-Some.behind.now first.0 next.0 c.in-Some-ttl.seconds first.1 first.2 next.1 next.2 own number behind f

pub returns-in-None-clause-most : goal.returns-in-None-clause-most
returns-in-None-clause-most c = only_after_class c.args.words.now c.in_ok-ttl.fields.now c.in-Some.behind.now c.ttl_and_behind-in-None.result (with_ttl c.args.words.now c.in_ok-ttl.fields.now c.in_ok-ttl.ttl None c.in-None.is c.in_ok-ttl.ensures.ttl)
    (with_class c.in_ok-ttl.fields.now c.behind_class.result c.in-Some.behind c.in-Some.is c.behind_class.ensures.class) c.ttl_and_behind-in-None.ensures.ttl c.ttl_and_behind-in-None.ensures.none

pub returns-in-None-clause-refused : goal.returns-in-None-clause-refused
returns-in-None-clause-refused c = none_after_class c.args.words.now c.in_ok-ttl.fields.now c.in-Some.behind.now c.ttl_and_behind-in-None.result (with_ttl c.args.words.now c.in_ok-ttl.fields.now c.in_ok-ttl.ttl None c.in-None.is c.in_ok-ttl.ensures.ttl)
    (with_class c.in_ok-ttl.fields.now c.behind_class.result c.in-Some.behind c.in-Some.is c.behind_class.ensures.class) c.ttl_and_behind-in-None.ensures.refused
