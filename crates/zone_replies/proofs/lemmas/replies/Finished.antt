-- From what a chain gave to what the zone replies.
use Rattle.std.proofs.Common.{◌≡◌, ℕ, [], ◌++◌, sym, ap, subst, ◌∙◌}
use Rattle.wire_names.specs.rr.domain.DomainName.{DomainName}
use Rattle.wire_names.specs.rr.domain.NameOrder.{lower_name}
use Rattle.hickory_base.specs.declared.zone_store.lookup.WholeReply.{WholeReply}
use Rattle.hickory_base.specs.zone_store.ZoneAnswers.{MemoryZone}
use Rattle.zone_answers.specs.Chains.{Chases, ends, finishes, step}
use Rattle.zone_answers.specs.Endings.{Ending}
use Rattle.zone_answers.specs.representation.ChainEnds.{Chased}
use Rattle.zone_replies.specs.Replies.{EndsIn, IsReplied, as_zone}
use Rattle.zone_answers.specs.Zones.{Answers, Outcome, Records, Sets, Zone}

pub zone_is : (zone : MemoryZone) (origin : DomainName) (sets : Sets) → origin ≡ zone.origin → sets ≡ zone.sets → (let z : Zone = record { origin = origin; sets = sets } in z) ≡ as_zone zone
zone_is zone origin sets e f = ap (λ (o : DomainName). let z : Zone = record { origin = o; sets = sets } in z) e ∙ ap (λ (s : Sets). let z : Zone = record { origin = zone.origin; sets = s } in z) f

pub finished : (zone : Zone) (name : DomainName) (t : ℕ) (old new : Records) (e : Ending) (reply : WholeReply) → old ≡ []
    → Chased zone (record { name = name; record_type = t; left = 8 }) old new e → EndsIn zone new e reply → IsReplied zone name t reply
finished zone name t old new e reply none x made =
    let c : Chases zone t 8 [] name x.added e = subst (λ (b : Records). Chases zone t 8 b name x.added e) none x.chases in
    let all : new ≡ x.added = x.put ∙ ap (λ (rs : Records). rs ++ x.added) none in
    record { chain = new; ending = e; chases = subst (λ (rs : Records). Chases zone t 8 [] name rs e) (sym all) c; ends_in = made }

-- The same where the chain is one name, for which this was found.
pub finished_at_once : (zone : Zone) (name low : DomainName) (t : ℕ) (outcome : Outcome) (rs : Records) (e : Ending) (reply : WholeReply) → low ≡ lower_name name → Answers zone low t outcome → step t [] name outcome ≡ ends rs e
    → EndsIn zone rs e reply → IsReplied zone name t reply
finished_at_once zone name low t outcome rs e reply n says is made = record { chain = rs; ending = e; chases = finishes (subst (λ (d : DomainName). Answers zone d t outcome) n says) is; ends_in = made }

-- The same of the zone of this origin and these sets.
pub finished_of : (zone : MemoryZone) (name low : DomainName) (t : ℕ) (origin : DomainName) (sets : Sets) (outcome : Outcome) (rs : Records) (e : Ending) (reply : WholeReply) → origin ≡ zone.origin → sets ≡ zone.sets → low ≡ lower_name name
    → Answers (record { origin = origin; sets = sets }) low t outcome → step t [] name outcome ≡ ends rs e → EndsIn (record { origin = origin; sets = sets }) rs e reply → IsReplied (as_zone zone) name t reply
finished_of zone name low t origin sets outcome rs e reply o s n says is made =
    subst (λ (z : Zone). IsReplied z name t reply) (zone_is zone origin sets o s) (finished_at_once (record { origin = origin; sets = sets }) name low t outcome rs e reply n says is made)
