use Rattle.std.proofs.Common.{subst}
use Rattle.wire_names.specs.rr.domain.DomainName.{DomainName}
use Rattle.wire_names.specs.rr.domain.NameOrder.{Encloses}
use Rattle.zone_check.proofs.NameHashes.{gains}
use Rattle.zone_denials.specs.Nsec3Data.{hashing_by}
use Rattle.zone_check.proofs.hashes.put_name.Goals as goal

pub returns : goal.returns
returns c = gains c.args.origin.now (hashing_by c.args.by.now) c.args.name.now c.hash-digest.result c.args.place c.args.names.now c.insert.new.self
    (subst (λ (d : DomainName). Encloses c.args.origin.now.labels d.labels) c.as_name.ensures.name (c.zone_of.ensures.0 c.if-not-zone_of.false)) c.hash-digest.ensures c.in_ok-insert.ensures.updates
