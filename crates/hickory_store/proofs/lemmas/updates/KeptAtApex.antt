-- One SOA, an NS at the apex, and CNAMEs that are alone, after requests were answered.
use Rattle.std.proofs.Common.{◌≡◌, ◌∙◌, ap, sym, refl, Bool, true, false, cond, not, ◌&&◌, ◌||◌, [], ◌∷◌, map}
use Rattle.std.specs.Prelude.{◌==◌}
use Rattle.std.specs.List.{list_any}
use Rattle.wire_names.specs.rr.domain.DomainName.{DomainName}
use Rattle.hickory_base.specs.zone_store.ZoneRecords.{is_at}
use Rattle.hickory_store.specs.updates.Changes.{is_type}
use Rattle.hickory_store.specs.updates.UpdateAnswers.{incremented, is_apex_soa}
use Rattle.hickory_store.specs.updates.UpdateLaws.{CnamesAlone, HasNs, HasOneSoa, Keeps, is_apex_ns}
use Rattle.hickory_store.specs.declared.updates.verifier.Verifier.{Ghosts}
use Rattle.hickory_store.proofs.lemmas.updates.ApexNs.{OfOneType, Records, Resource, ns_stays}
use Rattle.hickory_store.proofs.lemmas.updates.CnameAlone.{cname_stays}
use Rattle.hickory_store.proofs.lemmas.updates.OneSoa.{next_soa, one_fold, one_next, one_soa_same}
use Rattle.hickory_store.proofs.lemmas.updates.SameZones.{Identity, Respects, any_same, both_respect, name_respects, not_respects, type_respects}
use Rattle.hickory_store.proofs.lemmas.updates.UpdatedZones.{next_type}
use Rattle.hickory_store.proofs.lemmas.updates.UpdatesKeep.{keeps}

next_step : (p : Resource → Bool) → ((q : Resource) → p (next_soa q) ≡ p q) → (q : Resource) (b : Bool) → p (cond b (next_soa q) q) ≡ p q
next_step p h q true = h q
next_step p h q false = refl

-- a test that does not look into the data sees no increment
pub any_next : (o : DomainName) (p : Resource → Bool) → ((q : Resource) → p (next_soa q) ≡ p q) → (z : Records) → list_any p (map (incremented o) z) ≡ list_any p z
any_next o p h [] = refl
any_next o p h (q ∷ z) = ap (λ b. b || list_any p (map (incremented o) z)) (next_step p h q (is_apex_soa o q)) ∙ ap (λ b. p q || b) (any_next o p h z)

pub cname_next : (o : DomainName) (name : DomainName) (z : Records) → list_any (λ q. is_at name q && is_type 5 q) (map (incremented o) z) ≡ list_any (λ q. is_at name q && is_type 5 q) z
cname_next o name z = any_next o (λ q. is_at name q && is_type 5 q) (λ q. ap (λ t. is_at name q && (t == 5)) (next_type q.rdata)) z

other_next : (o : DomainName) (name : DomainName) (z : Records) → list_any (λ q. is_at name q && not (is_type 5 q)) (map (incremented o) z) ≡ list_any (λ q. is_at name q && not (is_type 5 q)) z
other_next o name z = any_next o (λ q. is_at name q && not (is_type 5 q)) (λ q. ap (λ t. is_at name q && not (t == 5)) (next_type q.rdata)) z

ns_next : (o : DomainName) (z : Records) → list_any (is_apex_ns o) (map (incremented o) z) ≡ list_any (is_apex_ns o) z
ns_next o z = any_next o (is_apex_ns o) (λ q. ap (λ t. is_at o q && (t == 2)) (next_type q.rdata)) z

module _ (identity : Identity) (same_type : OfOneType) where
  pub cname_respects : (name : DomainName) → Respects (λ q. is_at name q && is_type 5 q)
  cname_respects name = both_respect (is_at name) (is_type 5) (name_respects identity name) (type_respects identity 5)

  pub other_respects : (name : DomainName) → Respects (λ q. is_at name q && not (is_type 5 q))
  other_respects name = both_respect (is_at name) (λ q. not (is_type 5 q)) (name_respects identity name) (not_respects (is_type 5) (type_respects identity 5))

  ns_respects : (o : DomainName) → Respects (is_apex_ns o)
  ns_respects o = both_respect (is_at o) (is_type 2) (name_respects identity o) (type_respects identity 2)

  pub soa_kept : {V : Type 0} (by : Ghosts V) → Keeps by HasOneSoa
  soa_kept by =
      keeps HasOneSoa (λ f o rs z h. one_fold identity same_type f o rs z h) (λ o z h. (next_soa h.0, one_next identity same_type o z h.0 h.1))
      (λ o z w e h. (h.0, one_soa_same identity same_type o z w h.0 e h.1)) by

  pub ns_kept : {V : Type 0} (by : Ghosts V) → Keeps by HasNs
  ns_kept by =
      keeps HasNs (λ f o rs z h. ns_stays same_type f o rs z h) (λ o z h. ns_next o z ∙ h)
      (λ o z w e h. sym (any_same identity (is_apex_ns o) (ns_respects o) z w e) ∙ h) by

  pub cname_kept : {V : Type 0} (by : Ghosts V) → Keeps by CnamesAlone
  cname_kept by =
      keeps CnamesAlone (λ f o rs z h. cname_stays f o rs z h) (λ o z h name e. other_next o name z ∙ h name (sym (cname_next o name z) ∙ e))
      (λ o z w e h name k. sym (any_same identity (λ q. is_at name q && not (is_type 5 q)) (other_respects name) z w e) ∙ h name (any_same identity (λ q. is_at name q && is_type 5 q) (cname_respects name) z w e ∙ k)) by
