-- What stands in the place of a signature until the server signs.
use Rattle.std.specs.Prelude.{[], true}
use Rattle.wire_messages.specs.Numbers.{class_any}
use Rattle.wire_messages.specs.declared.rr.record.Proof.TheVariants.{Indeterminate}
use Rattle.wire_messages.specs.declared.rr.record.Record.{Record}
use Rattle.wire_messages.specs.declared.rr.tsig.TSIG.{TSIG}
use Rattle.wire_names.specs.rr.domain.DomainName.{DomainName}

abbrev pub the_root : DomainName
the_root = record { labels = []; is_fqdn = true }

-- a TSIG record of class ANY (RFC 8945 section 4.2) that signs nothing: its names are the root, and its MAC has no byte
abbrev pub placeholder : Record TSIG
placeholder = record {
  name = the_root;
  dns_class = class_any;
  ttl = 0;
  rdata = record { algorithm = the_root; time = 0; fudge = 0; mac = []; oid = 0; error = 0; other = [] };
  proof = Indeterminate;
}
