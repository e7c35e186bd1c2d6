-- The mnemonics of numbers in the data of records.
use Rattle.std.specs.Prelude.{ℕ, List, [], ◌∷◌, ◌++◌, codes}
use Rattle.record_text.specs.declared.data.field.Names.{Names}
use Rattle.record_text.specs.declared.data.field.Names.TheVariants as names

-- a number, and a mnemonic that it has
pub record NamedNumber : Type 0 where
  pub number : ℕ
  pub letters : List ℕ

abbrev pub mnemonic : ℕ → List ℕ → NamedNumber
mnemonic number letters = record { number = number; letters = letters }

-- algorithms of DNSSEC up to SHA-1 (RFC 4034 appendix A.1, RFC 5155 section 2, IANA's registry), and the names
-- NSEC3DSA and NSEC3RSASHA1 that BIND gives to two of them
abbrev pub first_algorithms : List NamedNumber
first_algorithms =
    mnemonic 1 (codes "RSAMD5")
    ∷ mnemonic 2 (codes "DH")
    ∷ mnemonic 3 (codes "DSA")
    ∷ mnemonic 4 (codes "ECC")
    ∷ mnemonic 5 (codes "RSASHA1")
    ∷ mnemonic 6 (codes "DSA-NSEC3-SHA1")
    ∷ mnemonic 6 (codes "NSEC3DSA")
    ∷ mnemonic 7 (codes "RSASHA1-NSEC3-SHA1")
    ∷ mnemonic 7 (codes "NSEC3RSASHA1")
    ∷ []

-- algorithms of DNSSEC behind these (IANA's registry), and the name ECCGOST that BIND gives to one
abbrev pub later_algorithms : List NamedNumber
later_algorithms =
    mnemonic 8 (codes "RSASHA256")
    ∷ mnemonic 10 (codes "RSASHA512")
    ∷ mnemonic 12 (codes "ECC-GOST")
    ∷ mnemonic 12 (codes "ECCGOST")
    ∷ mnemonic 13 (codes "ECDSAP256SHA256")
    ∷ mnemonic 14 (codes "ECDSAP384SHA384")
    ∷ mnemonic 15 (codes "ED25519")
    ∷ mnemonic 16 (codes "ED448")
    ∷ []

-- keys that stand elsewhere, and algorithms that their users name (RFC 4034 appendix A.1)
abbrev pub private_algorithms : List NamedNumber
private_algorithms =
    mnemonic 252 (codes "INDIRECT")
    ∷ mnemonic 253 (codes "PRIVATEDNS")
    ∷ mnemonic 254 (codes "PRIVATEOID")
    ∷ []

-- algorithms of DNSSEC
abbrev pub algorithms : List NamedNumber
algorithms = first_algorithms ++ later_algorithms ++ private_algorithms

-- types of certificates (RFC 4398 section 2.1)
abbrev pub certificates : List NamedNumber
certificates =
    mnemonic 1 (codes "PKIX")
    ∷ mnemonic 2 (codes "SPKI")
    ∷ mnemonic 3 (codes "PGP")
    ∷ mnemonic 4 (codes "IPKIX")
    ∷ mnemonic 5 (codes "ISPKI")
    ∷ mnemonic 6 (codes "IPGP")
    ∷ mnemonic 7 (codes "ACPKIX")
    ∷ mnemonic 8 (codes "IACPKIX")
    ∷ mnemonic 253 (codes "URI")
    ∷ mnemonic 254 (codes "OID")
    ∷ []

-- algorithms of digests (RFC 4034 appendix A.2, IANA's registry), with and without the hyphen
abbrev pub digests : List NamedNumber
digests =
    mnemonic 1 (codes "SHA-1")
    ∷ mnemonic 1 (codes "SHA1")
    ∷ mnemonic 2 (codes "SHA-256")
    ∷ mnemonic 2 (codes "SHA256")
    ∷ mnemonic 3 (codes "GOST")
    ∷ mnemonic 4 (codes "SHA-384")
    ∷ mnemonic 4 (codes "SHA384")
    ∷ []

-- protocols over IP (RFC 1010, IANA's registry), as BIND and the systems have them
abbrev pub protocols : List NamedNumber
protocols =
    mnemonic 0 (codes "IP")
    ∷ mnemonic 1 (codes "ICMP")
    ∷ mnemonic 2 (codes "IGMP")
    ∷ mnemonic 3 (codes "GGP")
    ∷ mnemonic 6 (codes "TCP")
    ∷ mnemonic 8 (codes "EGP")
    ∷ mnemonic 12 (codes "PUP")
    ∷ mnemonic 17 (codes "UDP")
    ∷ mnemonic 20 (codes "HMP")
    ∷ mnemonic 22 (codes "XNS-IDP")
    ∷ mnemonic 27 (codes "RDP")
    ∷ []

-- services by which hosts and networks are tried, at ports below 20
abbrev pub test_services : List NamedNumber
test_services =
    mnemonic 7 (codes "ECHO")
    ∷ mnemonic 9 (codes "DISCARD")
    ∷ mnemonic 11 (codes "SYSTAT")
    ∷ mnemonic 13 (codes "DAYTIME")
    ∷ mnemonic 15 (codes "NETSTAT")
    ∷ mnemonic 17 (codes "QOTD")
    ∷ mnemonic 19 (codes "CHARGEN")
    ∷ []

-- files, terminals, mail, names, and the start of hosts, at ports from 20 on
abbrev pub host_services : List NamedNumber
host_services =
    mnemonic 20 (codes "FTP-DATA")
    ∷ mnemonic 21 (codes "FTP")
    ∷ mnemonic 22 (codes "SSH")
    ∷ mnemonic 23 (codes "TELNET")
    ∷ mnemonic 25 (codes "SMTP")
    ∷ mnemonic 37 (codes "TIME")
    ∷ mnemonic 43 (codes "WHOIS")
    ∷ mnemonic 49 (codes "TACACS")
    ∷ mnemonic 53 (codes "DOMAIN")
    ∷ mnemonic 67 (codes "BOOTPS")
    ∷ mnemonic 68 (codes "BOOTPC")
    ∷ mnemonic 69 (codes "TFTP")
    ∷ mnemonic 70 (codes "GOPHER")
    ∷ []

-- users, pages, letters, news, the time, management and routes, at ports from 79 on
abbrev pub network_services : List NamedNumber
network_services =
    mnemonic 79 (codes "FINGER")
    ∷ mnemonic 80 (codes "HTTP")
    ∷ mnemonic 80 (codes "WWW")
    ∷ mnemonic 88 (codes "KERBEROS")
    ∷ mnemonic 110 (codes "POP3")
    ∷ mnemonic 111 (codes "SUNRPC")
    ∷ mnemonic 113 (codes "AUTH")
    ∷ mnemonic 119 (codes "NNTP")
    ∷ mnemonic 123 (codes "NTP")
    ∷ mnemonic 137 (codes "NETBIOS-NS")
    ∷ mnemonic 138 (codes "NETBIOS-DGM")
    ∷ mnemonic 139 (codes "NETBIOS-SSN")
    ∷ mnemonic 143 (codes "IMAP2")
    ∷ mnemonic 161 (codes "SNMP")
    ∷ mnemonic 162 (codes "SNMP-TRAP")
    ∷ mnemonic 179 (codes "BGP")
    ∷ mnemonic 194 (codes "IRC")
    ∷ []

-- services at ports below 256 (RFC 1010, IANA's registry), as the systems have them
abbrev pub services : List NamedNumber
services = test_services ++ host_services ++ network_services

-- schemes of notification (RFC 9859 section 6.2)
abbrev pub schemes : List NamedNumber
schemes = mnemonic 1 (codes "NOTIFY") ∷ []

abbrev pub mnemonics : Names → List NamedNumber
mnemonics names.Algorithms = algorithms
mnemonics names.Certificates = certificates
mnemonics names.Digests = digests
mnemonics names.Protocols = protocols
mnemonics names.Services = services
mnemonics names.Schemes = schemes
