-- The types of records that have a form in text, one row a type: number, mnemonic, and what their data are made of.
-- Beside each stands the section that says so.
use Rattle.std.specs.Prelude.{ℕ, ◌==◌, List, [], ◌∷◌, ◌++◌, codes, find, Option}
use Rattle.record_text.specs.declared.data.field.Field.{Field}
use Rattle.record_text.specs.declared.data.field.Field.TheVariants.{Number8, Number16, Number32, Named8, Named16, Time, Name, String, Text, Ipv4, Ipv6, RecordType, Moment, Salt, Hash, Eui48, Eui64, Locator64, Nsap}
use Rattle.record_text.specs.declared.data.field.Names.TheVariants.{Algorithms, Certificates, Digests, Protocols, Schemes}
use Rattle.record_text.specs.declared.data.field.Rest.{Rest}
use Rattle.record_text.specs.declared.data.field.Rest.TheVariants.{Nothing, Strings, Hex, Base64, Types, ServiceParameters, Services, Prefixes, Gateway, HostIdentity, LowTypes, Location, Relay, Generic}

-- A type: its number, its mnemonic, the fields that its data begin with, each of one word, and what all words behind
-- them stand for.
pub record TypeRow : Type 0 where
  pub number : ℕ
  pub mnemonic : List ℕ
  pub fields : List Field
  pub rest : Rest

abbrev pub row : ℕ → List ℕ → List Field → Rest → TypeRow
row number mnemonic fields rest = record { number = number; mnemonic = mnemonic; fields = fields; rest = rest }

-- hosts, names, zones and mail, as RFC 1035 has them
abbrev pub first_rows : List TypeRow
first_rows =
    row 1 (codes "A") (Ipv4 ∷ []) Nothing  -- RFC 1035 section 3.4.1
    ∷ row 2 (codes "NS") (Name ∷ []) Nothing  -- RFC 1035 section 3.3.11
    ∷ row 3 (codes "MD") (Name ∷ []) Nothing  -- RFC 1035 section 3.3.4
    ∷ row 4 (codes "MF") (Name ∷ []) Nothing  -- RFC 1035 section 3.3.5
    ∷ row 5 (codes "CNAME") (Name ∷ []) Nothing  -- RFC 1035 section 3.3.1
    ∷ row 6 (codes "SOA") (Name ∷ Name ∷ Number32 ∷ Time ∷ Time ∷ Time ∷ Time ∷ []) Nothing  -- RFC 1035 section 3.3.13
    ∷ row 7 (codes "MB") (Name ∷ []) Nothing  -- RFC 1035 section 3.3.3
    ∷ row 8 (codes "MG") (Name ∷ []) Nothing  -- RFC 1035 section 3.3.6
    ∷ row 9 (codes "MR") (Name ∷ []) Nothing  -- RFC 1035 section 3.3.8
    ∷ row 10 (codes "NULL") [] Generic  -- RFC 1035 section 3.3.10
    ∷ row 11 (codes "WKS") (Ipv4 ∷ Named8 Protocols ∷ []) Services  -- RFC 1035 section 3.4.2
    ∷ row 12 (codes "PTR") (Name ∷ []) Nothing  -- RFC 1035 section 3.3.12
    ∷ row 13 (codes "HINFO") (String ∷ String ∷ []) Nothing  -- RFC 1035 section 3.3.2
    ∷ row 14 (codes "MINFO") (Name ∷ Name ∷ []) Nothing  -- RFC 1035 section 3.3.7
    ∷ row 15 (codes "MX") (Number16 ∷ Name ∷ []) Nothing  -- RFC 1035 section 3.3.9
    ∷ row 16 (codes "TXT") [] Strings  -- RFC 1035 section 3.3.14
    ∷ []

-- persons, networks, the first keys, and where hosts are
abbrev pub early_rows : List TypeRow
early_rows =
    row 17 (codes "RP") (Name ∷ Name ∷ []) Nothing  -- RFC 1183 section 2.2
    ∷ row 18 (codes "AFSDB") (Number16 ∷ Name ∷ []) Nothing  -- RFC 1183 section 1
    ∷ row 19 (codes "X25") (String ∷ []) Nothing  -- RFC 1183 section 3.1
    ∷ row 20 (codes "ISDN") [] Strings  -- RFC 1183 section 3.2
    ∷ row 21 (codes "RT") (Number16 ∷ Name ∷ []) Nothing  -- RFC 1183 section 3.3
    ∷ row 22 (codes "NSAP") (Nsap ∷ []) Nothing  -- RFC 1706 section 5
    ∷ row 23 (codes "NSAP-PTR") (Name ∷ []) Nothing  -- RFC 1348
    ∷ row 24 (codes "SIG") (RecordType ∷ Named8 Algorithms ∷ Number8 ∷ Time ∷ Moment ∷ Moment ∷ Number16 ∷ Name ∷ []) Base64  -- RFC 2535 section 4
    ∷ row 25 (codes "KEY") (Number16 ∷ Number8 ∷ Named8 Algorithms ∷ []) Base64  -- RFC 2535 section 3
    ∷ row 26 (codes "PX") (Number16 ∷ Name ∷ Name ∷ []) Nothing  -- RFC 2163 section 4
    ∷ row 27 (codes "GPOS") (String ∷ String ∷ String ∷ []) Nothing  -- RFC 1712
    ∷ row 28 (codes "AAAA") (Ipv6 ∷ []) Nothing  -- RFC 3596 section 2.1
    ∷ row 29 (codes "LOC") [] Location  -- RFC 1876 section 3
    ∷ row 30 (codes "NXT") (Name ∷ []) LowTypes  -- RFC 2535 section 5
    ∷ row 31 (codes "EID") [] Hex  -- IANA's registry
    ∷ row 32 (codes "NIMLOC") [] Hex  -- IANA's registry
    ∷ []

-- services, other names of a subtree, certificates, and the options of a message
abbrev pub service_rows : List TypeRow
service_rows =
    row 33 (codes "SRV") (Number16 ∷ Number16 ∷ Number16 ∷ Name ∷ []) Nothing  -- RFC 2782
    ∷ row 35 (codes "NAPTR") (Number16 ∷ Number16 ∷ String ∷ String ∷ String ∷ Name ∷ []) Nothing  -- RFC 3403 section 4.1
    ∷ row 36 (codes "KX") (Number16 ∷ Name ∷ []) Nothing  -- RFC 2230 section 3.1
    ∷ row 37 (codes "CERT") (Named16 Certificates ∷ Number16 ∷ Named8 Algorithms ∷ []) Base64  -- RFC 4398 section 2
    ∷ row 39 (codes "DNAME") (Name ∷ []) Nothing  -- RFC 6672 section 2.1
    ∷ row 40 (codes "SINK") (Number8 ∷ Number8 ∷ Number8 ∷ []) Base64  -- IANA's registry
    ∷ row 41 (codes "OPT") [] Generic  -- RFC 6891 section 6.1
    ∷ row 42 (codes "APL") [] Prefixes  -- RFC 3123 section 5
    ∷ []

-- chains of trust, and keys and addresses of hosts
abbrev pub dnssec_rows : List TypeRow
dnssec_rows =
    row 43 (codes "DS") (Number16 ∷ Named8 Algorithms ∷ Named8 Digests ∷ []) Hex  -- RFC 4034 section 5.3
    ∷ row 44 (codes "SSHFP") (Number8 ∷ Number8 ∷ []) Hex  -- RFC 4255 section 3.2
    ∷ row 45 (codes "IPSECKEY") (Number8 ∷ []) Gateway  -- RFC 4025 section 3.1
    ∷ row 46 (codes "RRSIG") (RecordType ∷ Named8 Algorithms ∷ Number8 ∷ Time ∷ Moment ∷ Moment ∷ Number16 ∷ Name ∷ []) Base64  -- RFC 4034 section 3.2
    ∷ row 47 (codes "NSEC") (Name ∷ []) Types  -- RFC 4034 section 4
    ∷ row 48 (codes "DNSKEY") (Number16 ∷ Number8 ∷ Named8 Algorithms ∷ []) Base64  -- RFC 4034 section 2.2
    ∷ row 49 (codes "DHCID") [] Base64  -- RFC 4701 section 3.1
    ∷ row 50 (codes "NSEC3") (Number8 ∷ Number8 ∷ Number16 ∷ Salt ∷ Hash ∷ []) Types  -- RFC 5155 section 3
    ∷ row 51 (codes "NSEC3PARAM") (Number8 ∷ Number8 ∷ Number16 ∷ Salt ∷ []) Nothing  -- RFC 5155 section 4
    ∷ []

-- certificates and keys that names vouch for, and what a zone tells of itself to its parent and to those who copy it
abbrev pub key_rows : List TypeRow
key_rows =
    row 52 (codes "TLSA") (Number8 ∷ Number8 ∷ Number8 ∷ []) Hex  -- RFC 6698 section 2.2
    ∷ row 53 (codes "SMIMEA") (Number8 ∷ Number8 ∷ Number8 ∷ []) Hex  -- RFC 8162 section 2
    ∷ row 55 (codes "HIP") [] HostIdentity  -- RFC 8005 section 6
    ∷ row 56 (codes "NINFO") [] Strings  -- IANA's registry
    ∷ row 57 (codes "RKEY") (Number16 ∷ Number8 ∷ Named8 Algorithms ∷ []) Base64  -- IANA's registry
    ∷ row 58 (codes "TALINK") (Name ∷ Name ∷ []) Nothing  -- IANA's registry
    ∷ row 59 (codes "CDS") (Number16 ∷ Named8 Algorithms ∷ Named8 Digests ∷ []) Hex  -- RFC 7344 section 3.1
    ∷ row 60 (codes "CDNSKEY") (Number16 ∷ Number8 ∷ Named8 Algorithms ∷ []) Base64  -- RFC 7344 section 3.2
    ∷ row 61 (codes "OPENPGPKEY") [] Base64  -- RFC 7929 section 2.3
    ∷ row 62 (codes "CSYNC") (Number32 ∷ Number16 ∷ []) Types  -- RFC 7477 section 2.1
    ∷ row 63 (codes "ZONEMD") (Number32 ∷ Number8 ∷ Number8 ∷ []) Hex  -- RFC 8976 section 2.3
    ∷ []

-- bindings of services, notification, and identities of aircraft
abbrev pub binding_rows : List TypeRow
binding_rows =
    row 64 (codes "SVCB") (Number16 ∷ Name ∷ []) ServiceParameters  -- RFC 9460 section 2.1
    ∷ row 65 (codes "HTTPS") (Number16 ∷ Name ∷ []) ServiceParameters  -- RFC 9460 section 9
    ∷ row 66 (codes "DSYNC") (RecordType ∷ Named8 Schemes ∷ Number16 ∷ Name ∷ []) Nothing  -- RFC 9859 section 2.2
    ∷ row 67 (codes "HHIT") [] Base64  -- RFC 9886 section 5
    ∷ row 68 (codes "BRID") [] Base64  -- RFC 9886 section 5
    ∷ []

-- senders of mail, users, and addresses of nodes and of network cards
abbrev pub address_rows : List TypeRow
address_rows =
    row 99 (codes "SPF") [] Strings  -- RFC 4408 section 3.1.1
    ∷ row 100 (codes "UINFO") [] Generic  -- IANA's registry
    ∷ row 101 (codes "UID") [] Generic  -- IANA's registry
    ∷ row 102 (codes "GID") [] Generic  -- IANA's registry
    ∷ row 103 (codes "UNSPEC") [] Generic  -- IANA's registry
    ∷ row 104 (codes "NID") (Number16 ∷ Locator64 ∷ []) Nothing  -- RFC 6742 section 2.1
    ∷ row 105 (codes "L32") (Number16 ∷ Ipv4 ∷ []) Nothing  -- RFC 6742 section 2.2
    ∷ row 106 (codes "L64") (Number16 ∷ Locator64 ∷ []) Nothing  -- RFC 6742 section 2.3
    ∷ row 107 (codes "LP") (Number16 ∷ Name ∷ []) Nothing  -- RFC 6742 section 2.4
    ∷ row 108 (codes "EUI48") (Eui48 ∷ []) Nothing  -- RFC 7043 section 3
    ∷ row 109 (codes "EUI64") (Eui64 ∷ []) Nothing  -- RFC 7043 section 4
    ∷ []

-- what stands in messages alone
abbrev pub message_rows : List TypeRow
message_rows =
    row 250 (codes "TSIG") [] Generic  -- RFC 8945 section 4.2
    ∷ row 251 (codes "IXFR") [] Generic  -- RFC 1995 section 2
    ∷ row 252 (codes "AXFR") [] Generic  -- RFC 1035 section 3.2.3
    ∷ row 253 (codes "MAILB") [] Generic  -- RFC 1035 section 3.2.3
    ∷ row 254 (codes "MAILA") [] Generic  -- RFC 1035 section 3.2.3
    ∷ row 255 (codes "ANY") [] Generic  -- RFC 1035 section 3.2.3
    ∷ []

-- what stands above these: applications, relays, and anchors of trust
abbrev pub last_rows : List TypeRow
last_rows =
    row 256 (codes "URI") (Number16 ∷ Number16 ∷ Text ∷ []) Nothing  -- RFC 7553 section 4
    ∷ row 257 (codes "CAA") (Number8 ∷ String ∷ Text ∷ []) Nothing  -- RFC 8659 section 4.1.1
    ∷ row 258 (codes "AVC") [] Strings  -- IANA's registry
    ∷ row 260 (codes "AMTRELAY") (Number8 ∷ []) Relay  -- RFC 8777 section 4.3
    ∷ row 261 (codes "RESINFO") [] Strings  -- RFC 9606 section 5
    ∷ row 262 (codes "WALLET") [] Strings  -- IANA's registry
    ∷ row 32768 (codes "TA") (Number16 ∷ Named8 Algorithms ∷ Named8 Digests ∷ []) Hex  -- IANA's registry
    ∷ row 32769 (codes "DLV") (Number16 ∷ Named8 Algorithms ∷ Named8 Digests ∷ []) Hex  -- RFC 4431
    ∷ []

-- the types by their numbers
abbrev pub rows : List TypeRow
rows = first_rows ++ early_rows ++ service_rows ++ dnssec_rows ++ key_rows ++ binding_rows ++ address_rows ++ message_rows ++ last_rows

-- the row of a number, if it has one
abbrev pub row_of : ℕ → Option TypeRow
row_of number = find (λ row. row.number == number) rows
