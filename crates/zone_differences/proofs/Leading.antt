-- What is recorded leads from versions that a zone has had to the zone as it is.
use Rattle.std.proofs.Common.{◌≡◌, ◌∙◌, ◌⊎◌, inl, inr, ap, sym, subst, refl, List, [], ◌∷◌, ◌++◌, append_assoc}
use Rattle.hickory_base.specs.zone_store.ZoneAnswers.{MemoryZone}
use Rattle.hickory_base.specs.zone_store.ZoneRecords.{rrset}
use Rattle.hickory_base.specs.zone_store.ZoneSets.{zone_records}
use Rattle.hickory_store.specs.updates.Identity.{SameZone, ttl_at}
use Rattle.hickory_store.proofs.lemmas.updates.ApexNs.{Records}
use Rattle.zone_differences.specs.Differences.{AppliedLeads, AppliedRespects, IsDifferenceOf, applied, applied_all}
use Rattle.zone_differences.specs.Histories.{IsRecorded}
use Rattle.zone_differences.specs.Versions.{AllLead, LeadFrom, RecordedLead}
use Rattle.zone_differences.specs.declared.difference.Difference.{Difference}

abbrev Differences : Type 0
Differences = List Difference

-- ---- lists that end in one difference

none_left : (ys es : Differences) (e : Difference) → ◌≡◌ {A = Differences} [] (ys ++ e ∷ es) → ⊥
none_left [] es e h = cc
none_left (y ∷ ys) es e h = cc

abbrev tail : Differences → Differences
tail [] = []
tail (d ∷ ds) = ds

abbrev head_or : Difference → Differences → Difference
head_or x [] = x
head_or x (d ∷ ds) = d

-- The last of the list is the difference itself, and what stands behind it ends with the last, or it is the last.
abbrev Split : Differences → Difference → Differences → Difference → Differences → Type 0
Split xs d ys e es = ((es ≡ []) × (d ≡ e)) ⊎ ((rest : Differences) × (es ≡ rest ++ d ∷ []) × (xs ≡ ys ++ e ∷ rest))

split_last : (xs : Differences) (d : Difference) (ys : Differences) (e : Difference) (es : Differences) → xs ++ d ∷ [] ≡ ys ++ e ∷ es → Split xs d ys e es
split_last [] d [] e es h = inl (sym (ap tail h), ap (head_or d) h)
split_last [] d (y ∷ ys) e es h = absurd (none_left ys es e (ap tail h))
split_last (x ∷ xs) d [] e es h = inr (xs, sym (ap tail h), ap (λ (z : Difference). z ∷ xs) (ap (head_or x) h))
split_last (x ∷ xs) d (y ∷ ys) e es h = more (split_last xs d ys e es (ap tail h))
  where
    more : Split xs d ys e es → Split (x ∷ xs) d (y ∷ ys) e es
    more (inl last) = inl last
    more (inr (rest, behind, front)) = inr (rest, behind, (λ i. ap (head_or x) h i ∷ front i))

applied_last : (ds : Differences) (d : Difference) (z : Records) → applied_all (ds ++ d ∷ []) z ≡ applied d (applied_all ds z)
applied_last [] d z = refl
applied_last (e ∷ ds) d z = applied_last ds d (applied e z)

-- of no differences
pub none_lead : (versions : List MemoryZone) (zone : MemoryZone) → AllLead versions [] zone
none_lead versions zone before behind e h = absurd (none_left before behind e h)

more_versions : (versions : List MemoryZone) (last now new : MemoryZone) (d : Difference) (ds : Differences) → new ≡ now → LeadFrom versions d ds now → LeadFrom (last ∷ versions) d ds new
more_versions versions last now new d ds e l = record {
  version = l.version;
  is_one = inr l.is_one;
  soa = l.soa;
  lead = λ client same. subst (λ (z : MemoryZone). SameZone (applied_all (d ∷ ds) client) (zone_records z.sets)) (sym e) (l.lead client same);
}

module _ (leads : AppliedLeads) (respects : AppliedRespects) where
  -- the last difference alone
  lead_last : (versions : List MemoryZone) (old new : MemoryZone) (d e : Difference) (es : Differences) → IsDifferenceOf old new d → es ≡ [] → d ≡ e → LeadFrom (old ∷ versions) e es new
  lead_last versions old new d e es is none same = record {
    version = old;
    is_one = inl refl;
    soa = subst (λ (x : Difference). rrset (zone_records old.sets) old.origin 6 ≡ x.old_soa ∷ []) same is.1.old_soa;
    lead = λ client zone q.
        ap (λ (ds : Differences). ttl_at (applied_all (e ∷ ds) client) q) none
        ∙ ap (λ (x : Difference). ttl_at (applied x client) q) (sym same)
        ∙ respects (d ∷ []) client (zone_records old.sets) zone q
        ∙ leads old.origin (zone_records old.sets) (zone_records new.sets) d is.1 q;
  }

  -- behind others
  lead_more : (versions : List MemoryZone) (old new : MemoryZone) (d e : Difference) (es rest : Differences) → IsDifferenceOf old new d → es ≡ rest ++ d ∷ [] → LeadFrom versions e rest old → LeadFrom (old ∷ versions) e es new
  lead_more versions old new d e es rest is ends l = record {
    version = l.version;
    is_one = inr l.is_one;
    soa = l.soa;
    lead = λ client zone q.
        ap (λ (ds : Differences). ttl_at (applied_all (e ∷ ds) client) q) ends
        ∙ ap (λ (z : Records). ttl_at z q) (applied_last (e ∷ rest) d client)
        ∙ respects (d ∷ []) (applied_all (e ∷ rest) client) (zone_records old.sets) (l.lead client zone) q
        ∙ leads old.origin (zone_records old.sets) (zone_records new.sets) d is.1 q;
  }

  recorded : (versions : List MemoryZone) (old new : MemoryZone) (history after : Differences) → AllLead versions history old → IsRecorded old new history after → AllLead (old ∷ versions) after new
  recorded versions old new history after led (inl none) before behind e h = absurd (none_left before behind e (sym none ∙ h))
  recorded versions old new history after led (inr (d, is, r)) before behind e h =
      from (split_last history d (r.0 ++ before) e behind (r.1 ∙ ap (λ (l : Differences). r.0 ++ l) h ∙ sym (append_assoc r.0 before (e ∷ behind))))
    where
      from : Split history d (r.0 ++ before) e behind → LeadFrom (old ∷ versions) e behind new
      from (inl (none, same)) = lead_last versions old new d e behind is none same
      from (inr (rest, ends, front)) = lead_more versions old new d e behind rest is ends (led (r.0 ++ before) rest e front)

  pub recorded_lead : RecordedLead
  recorded_lead versions old new history after led (inl (zone, same)) before behind e h = more_versions versions old old new e behind zone (led before behind e (sym same ∙ h))
  recorded_lead versions old new history after led (inr is) before behind e h = recorded versions old new history after led is before behind e h
