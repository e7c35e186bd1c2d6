use Rattle.std.proofs.Common.{◌≡◌, ◌∙◌, Some, option_map, sym, ap}
use Rattle.zone_check.proofs.HashedAnswers.{not_is, read, said, said_none}
use Rattle.zone_check.specs.HashedZones.{IsNextHash, hash_at, nsec3_of}
use Rattle.zone_denials.specs.Nsec3Data.{nsec3_by}
use Rattle.zone_check.proofs.hashed.has_other_next_hash.Goals as goal

pub returns-in-Some-2 : goal.returns-in-Some-2
returns-in-Some-2 c =
    let zone = c.args.zone.now in
    let r = c.args.record.now in
    let h = c.in-Some.hash in
    let n = nsec3_by h c.in-Some-2.data in
    let at : hash_at zone.origin r ≡ Some h = sym c.in_ok-hash.ensures ∙ c.in-Some.is in
    let says : nsec3_of zone.origin r ≡ Some (nsec3_by h c.in-Some-2.data) = read zone r h at ∙ sym (c.in_ok-data.ensures h) ∙ ap (option_map (nsec3_by h)) c.in-Some-2.is in
    said zone r n (λ m. ¬ (IsNextHash zone m.hash m.next)) _ says (not_is c.is_next_hash.result (IsNextHash zone h n.next) c.is_next_hash.ensures)

pub returns-in-None : goal.returns-in-None
returns-in-None c =
    let zone = c.args.zone.now in
    let r = c.args.record.now in
    let h = c.in-Some.hash in
    let at : hash_at zone.origin r ≡ Some h = sym c.in_ok-hash.ensures ∙ c.in-Some.is in
    said_none zone r (λ m. ¬ (IsNextHash zone m.hash m.next)) (read zone r h at ∙ sym (c.in_ok-data.ensures h) ∙ ap (option_map (nsec3_by h)) c.in-None.is)
