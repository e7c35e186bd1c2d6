-- What records feed a hasher: the same where they are the same.
use Rattle.std.specs.Prelude.{ℕ, List, [], ◌∷◌, ◌++◌, fold}
use Rattle.std.specs.Hash.DefaultHasher as sip
use Rattle.std.specs.Net.Addr.{ipv4_octets, ipv6_octets}
use Rattle.wire_names.specs.representation.NameHash.{name_hash_input}
use Rattle.wire_messages.specs.declared.rr.rdata.RData.{RData}
use Rattle.wire_messages.specs.declared.rr.rdata.RData.TheVariants as rdata
use Rattle.wire_messages.specs.declared.rr.record.Record.{Record}

-- what data feed: an address, the name that they lead to in any letter case, or their bytes; others nothing
abbrev pub data_writes : RData → List (List ℕ)
data_writes (rdata.A address) = ipv4_octets address ∷ []
data_writes (rdata.AAAA address) = ipv6_octets address ∷ []
data_writes (rdata.NS name) = name_hash_input name
data_writes (rdata.CNAME name) = name_hash_input name
data_writes (rdata.PTR name) = name_hash_input name
data_writes (rdata.MX mx) = name_hash_input mx.exchange
data_writes (rdata.TXT strings) = strings
data_writes (rdata.NULL bytes) = bytes ∷ []
data_writes (rdata.Unknown code bytes) = bytes ∷ []
data_writes other = []

-- the number of a record
abbrev pub digest_of : Record RData → ℕ
digest_of r = sip.finish (fold sip.write sip.initial (name_hash_input r.name ++ data_writes r.rdata))
