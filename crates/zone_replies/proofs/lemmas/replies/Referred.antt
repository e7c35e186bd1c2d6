-- What the zone replies to a name below a cut whose servers' addresses were looked up before.
use Rattle.std.proofs.Common.{◌≡◌, ℕ, [], Option, None, Some, refl, sym, subst}
use Rattle.std.specs.Prelude.{IfSome}
use Rattle.std.specs.Option.{option_copied}
use Rattle.wire_names.specs.rr.domain.DomainName.{DomainName}
use Rattle.wire_names.specs.rr.domain.NameOrder.{lower_name}
use Rattle.hickory_base.specs.declared.zone_store.lookup.WholeReply.{WholeReply}
use Rattle.hickory_base.specs.zone_store.ZoneAnswers.{MemoryZone}
use Rattle.zone_replies.proofs.lemmas.replies.Finished.{finished_of, zone_is}
use Rattle.zone_answers.proofs.lemmas.zones.CutsAbove.{undirected}
use Rattle.zone_answers.specs.declared.additionals.Source.TheVariants as source
use Rattle.zone_answers.specs.declared.cuts.Cut.{Cut}
use Rattle.zone_answers.specs.declared.features.Features.{Features}
use Rattle.zone_answers.specs.Additionals.{AreAdditionals}
use Rattle.zone_answers.specs.Endings as ended
use Rattle.zone_answers.specs.representation.Features.{AreFeatures}
use Rattle.zone_answers.specs.representation.FoundRecords.{CutAbove, EndsAbove}
use Rattle.zone_replies.specs.Replies.{EndsIn, IsReplied, as_zone}
use Rattle.zone_replies.specs.representation.ReplyAtOnce.{IsReferredAtOnce}
use Rattle.zone_answers.specs.representation.TopCuts.{HasGlue, servers_at}
use Rattle.zone_answers.specs.Zones.{Records, Sets, Zone, referral}

pub referred : (zone : MemoryZone) (name low : DomainName) (t : ℕ) (origin : DomainName) (sets : Sets) (cut : Option Cut) (has : Features) (reply : WholeReply) → origin ≡ zone.origin → sets ≡ zone.sets → low ≡ lower_name name
    → AreFeatures (as_zone zone) has → CutAbove (record { origin = origin; sets = sets }) low (servers_at cut) → IfSome cut (HasGlue (record { origin = origin; sets = sets })) → IsReferredAtOnce cut has reply
    → IsReplied (as_zone zone) name t reply
referred zone name low t origin sets None has reply o s n features above glue r = absurd (let none : servers_at None ≡ Some r.servers = r.at in cc)
referred zone name low t origin sets (Some cut) has reply o s n features above glue r =
    let z : Zone = record { origin = origin; sets = sets } in
    let servers : cut.servers.now ≡ r.servers = let at : Some cut.servers.now ≡ Some r.servers = r.at in cc in
    let told : option_copied cut.glue ≡ Some r.glue = let all : Some (option_copied cut.glue) ≡ Some (Some r.glue) = r.told in cc in
    let of_zone : AreFeatures z has = subst (λ (y : Zone). AreFeatures y has) (sym (zone_is zone origin sets o s)) features in
    let addresses : AreAdditionals source.Glue z [] r.servers r.glue =
    subst (λ (rs : Records). AreAdditionals source.Glue z [] rs r.glue) servers (subst (λ (g : Option Records). IfSome g (AreAdditionals source.Glue z [] cut.servers.now)) told glue) in
    let ends : EndsAbove z low r.servers = subst (EndsAbove z low) servers above in
    let made : EndsIn z [] (ended.referral r.servers) reply = record { additionals = r.glue; completed = addresses; is = r.is } in
    finished_of zone name low t origin sets (referral r.servers) [] (ended.referral r.servers) reply o s n (undirected z low t r.servers (of_zone.dnames r.none) ends) refl made
