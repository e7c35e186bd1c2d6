-- All records of a name, by the first key from the name on.
use Rattle.std.proofs.Common.{◌≡◌, ◌∷◌, [], true, false, cond, Option, Some, None, ap, refl, subst, sym, ◌∙◌}
use Rattle.std.specs.List.{flat_map}
use Rattle.std.specs.Ordering.{is_eq}
use Rattle.std.proofs.lemmas.List.Elements.{filter_agree}
use Rattle.wire_names.specs.representation.NameHash.{equal_is}
use Rattle.wire_names.specs.rr.domain.NameOrder.{SameName, name_cmp}
use Rattle.wire_names.proofs.lemmas.rr.domain.SameNames.{same_order}
use Rattle.wire_messages.specs.declared.rr.rr_key.RrKey.{RrKey}
use Rattle.hickory_base.proofs.lemmas.zone_store.KeyOrder.{from_first_on, of_name, while_of}
use Rattle.hickory_base.proofs.lemmas.zone_store.SharedSets.{records-shared}
use Rattle.hickory_base.proofs.lemmas.zone_store.ZoneByName.{itself}
use Rattle.hickory_base.specs.zone_store.ZoneAnswers.{records_at}
use Rattle.hickory_base.specs.zone_store.ZoneSets.{has_name, sets_of}
use Rattle.zone_answers.proofs.lemmas.names.EnclosedBetween.{same_of}
use Rattle.zone_answers.proofs.lemmas.zones.Nodes.{Entries}
use Rattle.zone_answers.specs.representation.KeysBeside.{HaveOneName, IsFirst, SharedMap, StandsBehind}
use Rattle.zone_answers.specs.Zones.{Records}

-- the records of the entries of the name in front
abbrev pub all_in_front : RrKey → Entries → Records
all_in_front first es = flat_map (λ e. e.1.value) (while_of (of_name first) es)

module _ (sets : SharedMap) (first : RrKey) where
  module _ (least : first.record_type ≡ 0) where
    all_there : (key : Option RrKey) (b : StandsBehind sets first key) → records_at first.name (sets_of sets) ≡ all_in_front first b.range
    all_there key b = records-shared (has_name first.name) sets.entries ∙ ap (flat_map (λ e. e.1.value)) (from_first_on first sets.entries b.range least b.ordered b.whole)

    none_of : (own : Option RrKey) (b : StandsBehind sets first own) → IsFirst b.range None → records_at first.name (sets_of sets) ≡ []
    none_of own b none = all_there own b ∙ ap (all_in_front first) none

    none_at : (key : Option RrKey) (own : Option RrKey) → HaveOneName key own → key ≡ None → own ≡ None
    none_at None None same is = refl
    none_at None (Some f) same is = absurd same
    none_at (Some k) own same is = absurd cc

    pub none_there : StandsBehind sets first None → records_at first.name (sets_of sets) ≡ []
    none_there b = none_of None b (subst (IsFirst b.range) (none_at None b.own b.same refl) b.least)

    other_of : (asked : RrKey) (own : Option RrKey) (range : Entries) → HaveOneName (Some asked) own → IsFirst range own → has_name first.name asked ≡ false → all_in_front first range ≡ []
    other_of asked None range same met other = absurd same
    other_of asked (Some f) range same met other =
        ap (all_in_front first) met.2
        ∙ ap (λ named. flat_map (λ e. e.1.value) (cond named ((f, met.0) ∷ while_of (of_name first) met.1) []))
        (sym (ap is_eq (same_order first.name asked.name first.name f.name (itself first.name) same)) ∙ other)

    pub none_of_another : (key : RrKey) → StandsBehind sets first (Some key) → has_name first.name key ≡ false → records_at first.name (sets_of sets) ≡ []
    none_of_another key b other = all_there (Some key) b ∙ other_of key b.own b.range b.same b.least other

  -- names that are the same have the same records
  pub same_records : (key : RrKey) → has_name first.name key ≡ true → records_at first.name (sets_of sets) ≡ records_at key.name (sets_of sets)
  same_records key h =
      let s : SameName first.name key.name = same_of first.name key.name (equal_is (name_cmp first.name key.name) h) in
      ap (flat_map (λ e. e.1)) (filter_agree (λ e. has_name first.name e.0) (λ e. has_name key.name e.0) (λ e. ap is_eq (same_order first.name e.0.name key.name e.0.name s (itself e.0.name))) (sets_of sets))
