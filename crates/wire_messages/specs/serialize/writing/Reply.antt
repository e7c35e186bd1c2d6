-- A reply before it is written, for all layers (RFC 1035 section 4.1, RFC 6891 section 6.1.1, RFC 8945 section 5.1).
use Rattle.std.specs.Prelude.{ℕ, ◌+◌, ◌*◌, ◌^◌, true, List, [], ◌∷◌, ◌++◌, Option, Some, None, option_to_list, option_map}
use Rattle.wire_messages.specs.op.EdnsFields.{EdnsFields}
use Rattle.wire_messages.specs.serialize.layout.HeaderLayout.{flag}
use Rattle.wire_messages.specs.serialize.layout.MessageLayout.{tsig_record}
use Rattle.wire_messages.specs.declared.op.header.Metadata.{Metadata}
use Rattle.wire_messages.specs.declared.protocol.Protocol.{Protocol}
use Rattle.wire_messages.specs.declared.protocol.Protocol.TheVariants as protocol
use Rattle.wire_messages.specs.declared.rr.rdata.RData.{RData}
use Rattle.wire_messages.specs.declared.rr.rdata.RData.TheVariants as rdata
use Rattle.wire_messages.specs.declared.rr.record.Proof.TheVariants.{Indeterminate}
use Rattle.wire_messages.specs.declared.rr.record.Record.{Record}
use Rattle.wire_messages.specs.declared.rr.tsig.TSIG.{TSIG}

-- The question section is repeated as the bytes that the request had, and the number of its questions is told beside
-- them.
pub record Reply : Type 0 where
  pub metadata : Metadata
  pub question : List ℕ
  pub question_count : ℕ
  pub edns : Option EdnsFields
  pub answers : List (Record RData)
  pub authorities : List (Record RData)
  pub soa : List (Record RData)
  pub additionals : List (Record RData)
  pub signature : Option (Record TSIG)

-- the OPT record that says this: the payload as its class; high code, version, DO and the flags behind it as its TTL
-- (RFC 6891 sections 6.1.2 and 6.1.3)
abbrev pub opt_record : EdnsFields → Record RData
opt_record e = record {
  name = record { labels = []; is_fqdn = true };
  dns_class = e.max_payload;
  ttl = e.rcode_high * 2 ^ 24 + e.version * 2 ^ 16 + flag e.dnssec_ok 15 + e.reserved_flags;
  rdata = rdata.OPT e.options;
  proof = Indeterminate;
}

-- The five lists in which a reply's records are written, in this order: the answers; the authorities with the SOA
-- behind them; the additionals; the OPT; the TSIG, which is the last of all (RFC 8945 section 5.1). Where room is
-- short, OPT and TSIG are cut like any other list, where RFC 6891 section 7 would keep the OPT and RFC 8945 section 5.3
-- the TSIG.
abbrev pub reply_lists : Reply → List (List (Record RData))
reply_lists reply = reply.answers ∷ (reply.authorities ++ reply.soa) ∷ reply.additionals
    ∷ option_to_list (option_map opt_record reply.edns) ∷ option_to_list (option_map tsig_record reply.signature) ∷ []

-- how many bytes a reply may have: over UDP the payload of its OPT record, 512 without one (RFC 1035 section 4.2.1, RFC
-- 6891 sections 6.2.3 and 6.2.4); else what a length of 16 bits allows (RFC 1035 section 4.2.2). A payload below 512 is
-- a limit like any other here; whoever makes the OPT record of a reply sees to it that the payload is at least 512 (RFC
-- 6891 section 6.2.3).
abbrev pub size_limit : Protocol → Option EdnsFields → ℕ
size_limit protocol.Udp None = 512
size_limit protocol.Udp (Some e) = e.max_payload
size_limit other edns = 65535
