-- The addresses of hosts put one after the other.
use Rattle.std.proofs.Common.{◌≡◌, ℕ, suc, ◌+◌, ◌<◌, ◌≤◌, Bool, true, false, ◌||◌, [], ◌∷◌, ◌++◌, drop, length, get_or, None, Some, Result, Ok, Err, refl, sym, ap, subst, ◌∙◌, arith, append_assoc, drop-cons, length-drop}
use Rattle.std.specs.Prelude.{OnOk}
use Rattle.std.specs.Borrow.{Bor}
use Rattle.std.specs.List.{list_any}
use Rattle.std.proofs.lemmas.List.{append-nil}
use Rattle.std.proofs.lemmas.List.Folds.{list_any-append}
use Rattle.wire_names.specs.rr.domain.DomainName.{DomainName}
use Rattle.wire_names.specs.rr.domain.NameOrder.{lower_name}
use Rattle.hickory_base.specs.zone_store.ZoneRecords.{is_of}
use Rattle.zone_answers.specs.declared.additionals.Source.{Source}
use Rattle.zone_answers.specs.declared.additionals.Source.TheVariants as source
use Rattle.zone_answers.specs.Additionals.{AreAdditionals, Gains, GainsFor, IsAnswered, IsHad, glue_of, host, host_in, inside, is_added, no_host, no_record, outside, record_by, records_in, source_of, stands_already}
use Rattle.zone_answers.specs.Chains.{IsIn, owned_by}
use Rattle.zone_answers.specs.declared.find.Found.{Found}
use Rattle.zone_answers.specs.declared.find.Found.TheVariants as found
use Rattle.wire_messages.specs.Numbers.{type_aaaa}
use Rattle.wire_messages.specs.declared.rr.rdata.RData.{RData}
use Rattle.wire_messages.specs.declared.rr.record.Record.{Record}
use Rattle.wire_messages.specs.declared.rr.rr_key.RrKey.{RrKey}
use Rattle.zone_answers.specs.representation.FoundRecords.{outcome_of}
use Rattle.zone_answers.specs.representation.Grown.{AreGained, IsGrown}
use Rattle.zone_answers.specs.Zones.{Answers, Outcome, Records, Zone, any_of, by_wildcard}

module _ (from : Source) (zone : Zone) (answers : Records) where
  -- what was put for the host that data name
  pub by_host : (content : RData) (name : DomainName) (old new : Records) → host_in content ≡ Some name → AreGained (source_of from content) zone answers name old new → IsGrown (GainsFor from zone (answers ++ old) content) old new
  by_host content name old new says a = record {
    added = a.four ++ a.six;
    put = a.put ∙ append_assoc old a.four a.six;
    are = host says a.gained_four (subst (λ (rs : Records). Gains (source_of from content) zone rs (lower_name name) type_aaaa a.six) (sym (append_assoc answers old a.four)) a.gained_six);
  }

  pub by_none : (content : RData) (old : Records) → host_in content ≡ None → IsGrown (GainsFor from zone (answers ++ old) content) old old
  by_none content old says = record { added = []; put = sym (append-nil old); are = no_host says }

module _ (from : Source) (zone : Zone) (answers old : Records) where
  -- what was put so far goes before whatever the other records add
  pub record GrownSoFar (naming left : Records) (now : Records) : Type 0 where
    pub added : Records
    pub put : now ≡ old ++ added
    pub goes_on : (rest : Records) → AreAdditionals from zone (answers ++ now) left rest → AreAdditionals from zone (answers ++ old) naming (added ++ rest)

  pub begun : (naming : Records) → GrownSoFar naming naming old
  begun naming = record { added = []; put = sym (append-nil old); goes_on = λ rest h. h }

  more : (naming left : Records) (r : Record RData) (now new : Records) → GrownSoFar naming (r ∷ left) now → IsGrown (GainsFor from zone (answers ++ now) r.rdata) now new → GrownSoFar naming left new
  more naming left r now new g a =
      let whole : (answers ++ now) ++ a.added ≡ answers ++ new = append_assoc answers now a.added ∙ ap (λ rs. answers ++ rs) (sym a.put) in
      record {
        added = g.added ++ a.added;
        put = a.put ∙ ap (λ rs. rs ++ a.added) g.put ∙ append_assoc old g.added a.added;
        goes_on = λ rest h. subst (AreAdditionals from zone (answers ++ old) naming) (sym (append_assoc g.added a.added rest))
            (g.goes_on (a.added ++ rest) (record_by a.are (subst (λ (rs : Records). AreAdditionals from zone rs left rest) (sym whole) h)));
      }

  pub one_more : (naming : Records) (i : ℕ) (r : Record RData) (now new : Records) → i < length naming → r ≡ get_or naming i r → GrownSoFar naming (drop i naming) now → IsGrown (GainsFor from zone (answers ++ now) r.rdata) now new
      → GrownSoFar naming (drop (i + 1) naming) new
  one_more naming i r now new less is g a =
      let next : suc i ≡ i + 1 = omega arith in
      let at : drop i naming ≡ r ∷ drop (i + 1) naming = drop-cons naming i r less ∙ ap (λ (q : Record RData). q ∷ drop (suc i) naming) (sym is) ∙ ap (λ n. r ∷ drop n naming) next in
      more naming (drop (i + 1) naming) r now new (subst (λ (rs : Records). GrownSoFar naming rs now) at g) a

  pub ended : (naming left : Records) (now : Records) → left ≡ [] → GrownSoFar naming left now → IsGrown (AreAdditionals from zone (answers ++ old) naming) old now
  ended naming left now none g = record {
    added = g.added;
    put = g.put;
    are = subst (AreAdditionals from zone (answers ++ old) naming) (append-nil g.added) (g.goes_on [] (subst (λ (rs : Records). AreAdditionals from zone (answers ++ now) rs []) (sym none) no_record));
  }

  module _ (name : DomainName) (t : ℕ) where
    present : (a b : Bool) → list_any (is_of name t) answers ≡ a → list_any (is_of name t) old ≡ b → list_any (is_of name t) (answers ++ old) ≡ (a || b)
    present a b e f = list_any-append (is_of name t) answers old ∙ ap (λ x. x || list_any (is_of name t) old) e ∙ ap (λ y. a || y) f

    -- nothing is put where the reply has such records
    pub nothing_put : (new : Records) → new ≡ old → list_any (is_of name t) answers ≡ true → IsGrown (Gains from zone (answers ++ old) name t) old new
    nothing_put new same e = record { added = []; put = same ∙ sym (append-nil old); are = stands_already (list_any-append (is_of name t) answers old ∙ ap (λ x. x || list_any (is_of name t) old) e) }

    pub nothing_more_put : (new : Records) → new ≡ old → list_any (is_of name t) answers ≡ false → list_any (is_of name t) old ≡ true → IsGrown (Gains from zone (answers ++ old) name t) old new
    nothing_more_put new same e f = record { added = []; put = same ∙ sym (append-nil old); are = stands_already (present false true e f) }

    pub put_once : (new : Records) → list_any (is_of name t) answers ≡ false → list_any (is_of name t) old ≡ false → IsGrown (IsHad from zone name t) old new → IsGrown (Gains from zone (answers ++ old) name t) old new
    put_once new e f g = record { added = g.added; put = g.put; are = is_added (present false false e f) g.are }

pub on_ok : {X E : Type 0} (r : Result X E) (P Q : Type 0) → OnOk r P → (P → Q) → OnOk r Q
on_ok (Ok x) P Q h f = f h
on_ok (Err e) P Q h f = h

pub none_left : (rs : Records) (i : ℕ) → length rs ≤ i → drop i rs ≡ []
none_left rs i h = empty (drop i rs) (omega (arith, length-drop i rs)) where
  empty : (qs : Records) → length qs ≡ 0 → qs ≡ []
  empty [] e = refl
  empty (q ∷ qs) e = absurd (omega arith)

pub in_any : (glue : Records) (name : DomainName) (rs : Records) → records_in glue name (any_of rs) ≡ rs
in_any glue name [] = refl
in_any glue name (r ∷ rs) = refl

pub in_wild_any : (glue : Records) (name : DomainName) (rs : Records) → records_in glue name (by_wildcard (any_of rs)) ≡ owned_by name rs
in_wild_any glue name [] = refl
in_wild_any glue name (r ∷ rs) = refl

module _ (glue : Records) (zone : Zone) (name : DomainName) (t : ℕ) where
  -- what is taken where the zone's answer counts
  pub had_by_answer : (from : Source) (rs : Records) → (from ≡ source.Glue → ⊥) → glue ≡ glue_of from zone name t → IsAnswered glue zone name t rs → IsHad from zone name t rs
  had_by_answer source.Answer rs not is a = subst (λ (g : Records). IsAnswered g zone name t rs) is a
  had_by_answer source.AnswerOrGlue rs not is a = subst (λ (g : Records). IsAnswered g zone name t rs) is a
  had_by_answer source.Glue rs not is a = absurd (not refl)

  module _ (old : Records) where
    pub none_outside : ¬ (IsIn zone name) → IsGrown (IsAnswered glue zone name t) old old
    none_outside out = record { added = []; put = sym (append-nil old); are = outside out }

    pub answer_put : (outcome : Outcome) (rs new : Records) → IsIn zone name → Answers zone name t outcome → records_in glue name outcome ≡ rs → new ≡ old ++ rs → IsGrown (IsAnswered glue zone name t) old new
    answer_put outcome rs new within says are put = record { added = rs; put = put; are = subst (IsAnswered glue zone name t) are (inside within says) }

    pub nothing_to_put : (outcome : Outcome) → IsIn zone name → Answers zone name t outcome → records_in glue name outcome ≡ [] → IsGrown (IsAnswered glue zone name t) old old
    nothing_to_put outcome within says none = answer_put outcome [] old within says none (sym (append-nil old))

    pub nothing_else : (f : Found) → ((rs : Bor Records) → f ≡ found.Answer rs → ⊥) → (f ≡ found.Every → ⊥) → ((rs : Bor Records) → f ≡ found.Referral rs → ⊥) → ((rs : Bor Records) → f ≡ found.WildAnswer rs → ⊥)
        → ((key : Bor RrKey) → f ≡ found.WildEvery key → ⊥) → records_in glue name (outcome_of zone.sets name f) ≡ []
    nothing_else (found.Answer rs) a e r w v = absurd (a rs refl)
    nothing_else found.Every a e r w v = absurd (e refl)
    nothing_else (found.Alias rs) a e r w v = refl
    nothing_else (found.Referral rs) a e r w v = absurd (r rs refl)
    nothing_else (found.WildAnswer rs) a e r w v = absurd (w rs refl)
    nothing_else (found.WildEvery key) a e r w v = absurd (v key refl)
    nothing_else (found.WildAlias rs) a e r w v = refl
    nothing_else found.NoData a e r w v = refl
    nothing_else found.NoName a e r w v = refl
    nothing_else (found.Redirected by) a e r w v = refl
