use Rattle.hickory_store.proofs.lemmas.updates.DataTypes.{one_type}
use Rattle.hickory_server.proofs.lemmas.zone_handler.KeptZones.{cnames_kept, kept, ns_kept, soa_kept}
use Rattle.hickory_server.proofs.zone_handler.zone_laws.zones_keep.Goals as goal

pub returns-clause-soa : goal.returns-clause-soa
returns-clause-soa g c =
    kept g.V.Verifier _ g.S.ReplySigner.signature_for _ c.updates_keep.ensures.soa (λ h after request now answer context gives. gives)
    (soa_kept c.identities.ensures.records (one_type c.record_comparisons.ensures.rdata))

pub returns-clause-ns : goal.returns-clause-ns
returns-clause-ns g c =
    kept g.V.Verifier _ g.S.ReplySigner.signature_for _ c.updates_keep.ensures.ns (λ h after request now answer context gives. gives)
    (ns_kept c.identities.ensures.records (one_type c.record_comparisons.ensures.rdata))

pub returns-clause-cname : goal.returns-clause-cname
returns-clause-cname g c =
    kept g.V.Verifier _ g.S.ReplySigner.signature_for _ c.updates_keep.ensures.cname (λ h after request now answer context gives. gives)
    (cnames_kept c.identities.ensures.records (one_type c.record_comparisons.ensures.rdata))
