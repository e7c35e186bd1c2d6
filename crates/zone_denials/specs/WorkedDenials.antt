-- Replies of RFC 4035 appendix B and of RFC 5155 appendix B: their records prove what they claim.
use Rattle.std.specs.Prelude.{◌≡◌, ◌∷◌, ◌++◌, ℕ, List, [], codes, true}
use Rattle.std.specs.Option.{unwrap_or}
use Rattle.wire_names.specs.rr.domain.DomainName.{DomainName}
use Rattle.wire_messages.specs.Numbers.{type_a, type_aaaa, type_dnskey, type_ds, type_mx, type_ns, type_nsec, type_nsec3param, type_rrsig, type_soa}
use Rattle.zone_denials.specs.HashLabels.{hash_in}
use Rattle.zone_denials.specs.Nsec.{Nsec, Proves, by_wildcard, no_name, no_type, unsigned}
use Rattle.zone_denials.specs.Nsec3.{Hashing, Nsec3, Proves3, hash_of}

-- a name by its labels above `example.`
abbrev pub in_example : List (List ℕ) → DomainName
in_example labels = record { labels = labels ++ codes "example" ∷ []; is_fqdn = true }

abbrev pub apex : DomainName
apex = in_example []

abbrev pub nsec_by : List (List ℕ) → List (List ℕ) → List ℕ → Nsec
nsec_by owner next types = record { owner = in_example owner; next = in_example next; types = types }

abbrev pub at_apex : Nsec
at_apex = nsec_by [] (codes "a" ∷ []) (type_ns ∷ type_soa ∷ type_mx ∷ type_rrsig ∷ type_nsec ∷ type_dnskey ∷ [])

abbrev pub at_b : Nsec
at_b = nsec_by (codes "b" ∷ []) (codes "ns1" ∷ []) (type_ns ∷ type_rrsig ∷ type_nsec ∷ [])

abbrev pub at_ns1 : Nsec
at_ns1 = nsec_by (codes "ns1" ∷ []) (codes "ns2" ∷ []) (type_a ∷ type_rrsig ∷ type_nsec ∷ [])

abbrev pub at_xyw : Nsec
at_xyw = nsec_by (codes "x" ∷ codes "y" ∷ codes "w" ∷ []) (codes "xx" ∷ []) (type_mx ∷ type_rrsig ∷ type_nsec ∷ [])

abbrev pub at_wild : Nsec
at_wild = nsec_by (codes "*" ∷ codes "w" ∷ []) (codes "xw" ∷ []) (type_mx ∷ type_rrsig ∷ type_nsec ∷ [])

-- B.2: ml.example. does not exist
abbrev pub NameError : Type 0
NameError = Proves apex (at_b ∷ at_apex ∷ []) (in_example (codes "ml" ∷ [])) no_name

-- B.3: ns1.example. has no MX records
abbrev pub NoData : Type 0
NoData = Proves apex (at_ns1 ∷ []) (in_example (codes "ns1" ∷ [])) (no_type type_mx)

-- B.5: the zone b.example. is not signed
abbrev pub UnsignedZone : Type 0
UnsignedZone = Proves apex (at_b ∷ []) (in_example (codes "b" ∷ [])) unsigned

abbrev pub wild_name : DomainName
wild_name = in_example (codes "a" ∷ codes "z" ∷ codes "w" ∷ [])

-- B.6: a.z.w.example. is synthesized from the wildcard below w.example.
abbrev pub WildcardExpansion : Type 0
WildcardExpansion = Proves apex (at_xyw ∷ []) wild_name (by_wildcard 2)

-- B.7: and has no AAAA records
abbrev pub WildcardNoData : Type 0
WildcardNoData = Proves apex (at_xyw ∷ at_wild ∷ []) wild_name (no_type type_aaaa)

-- the hash that a label is
abbrev pub hash : List ℕ → List ℕ
hash text = unwrap_or (hash_in text) []

abbrev pub by : Hashing
by = record { salt = 170 ∷ 187 ∷ 204 ∷ 221 ∷ []; iterations = 12 }

-- hashes of RFC 5155 appendix A, and those that appendix B tells of names that do not exist
pub record AreHashes : Type 0 where
  pub at_apex : hash_of by apex ≡ hash (codes "0p9mhaveqvm6t7vbl5lop2u3t2rp3tom")
  pub at_ns1 : hash_of by (in_example (codes "ns1" ∷ [])) ≡ hash (codes "2t7b4g4vsa5smi47k61mv5bv1a22bojr")
  pub at_xw : hash_of by (in_example (codes "x" ∷ codes "w" ∷ [])) ≡ hash (codes "b4um86eghhds6nea196smvmlo4ors995")
  pub at_yw : hash_of by (in_example (codes "y" ∷ codes "w" ∷ [])) ≡ hash (codes "ji6neoaepv8b5o6k4ev33abha8ht9fgc")
  pub at_w : hash_of by (in_example (codes "w" ∷ [])) ≡ hash (codes "k8udemvp1j2f7eg6jebps17vp3n8i58h")
  pub at_wild : hash_of by (in_example (codes "*" ∷ codes "w" ∷ [])) ≡ hash (codes "r53bq7cc2uvmubfu5ocmm6pers9tk9en")
  pub no_cxw : hash_of by (in_example (codes "c" ∷ codes "x" ∷ codes "w" ∷ [])) ≡ hash (codes "0va5bpr2ou0vk0lbqeeljri88laipsfh")
  pub no_wild : hash_of by (in_example (codes "*" ∷ codes "x" ∷ codes "w" ∷ [])) ≡ hash (codes "92pqneegtaue7pjatc3l3qnk738c6v5m")
  pub no_c : hash_of by (in_example (codes "c" ∷ [])) ≡ hash (codes "4g6p9u5gvfshp30pqecj98b3maqbn1ck")
  pub no_zw : hash_of by (in_example (codes "z" ∷ codes "w" ∷ [])) ≡ hash (codes "qlu7gtfaeh0ek0c05ksfhdpbcgglbe03")

abbrev pub nsec3_by : List ℕ → List ℕ → List ℕ → Nsec3
nsec3_by own next types = record { hash = hash own; next = hash next; opt_out = true; types = types }

abbrev pub of_apex : Nsec3
of_apex = nsec3_by (codes "0p9mhaveqvm6t7vbl5lop2u3t2rp3tom") (codes "2t7b4g4vsa5smi47k61mv5bv1a22bojr") (type_mx ∷ type_dnskey ∷ type_ns ∷ type_soa ∷ type_nsec3param ∷ type_rrsig ∷ [])

abbrev pub of_ns1 : Nsec3
of_ns1 = nsec3_by (codes "2t7b4g4vsa5smi47k61mv5bv1a22bojr") (codes "2vptu5timamqttgl4luu9kg21e0aor3s") (type_a ∷ type_rrsig ∷ [])

abbrev pub of_cut : Nsec3
of_cut = nsec3_by (codes "35mthgpgcu1qg68fab165klnsnk3dpvl") (codes "b4um86eghhds6nea196smvmlo4ors995") (type_ns ∷ type_ds ∷ type_rrsig ∷ [])

abbrev pub of_xw : Nsec3
of_xw = nsec3_by (codes "b4um86eghhds6nea196smvmlo4ors995") (codes "gjeqe526plbf1g8mklp59enfd789njgi") (type_mx ∷ type_rrsig ∷ [])

abbrev pub of_yw : Nsec3
of_yw = nsec3_by (codes "ji6neoaepv8b5o6k4ev33abha8ht9fgc") (codes "k8udemvp1j2f7eg6jebps17vp3n8i58h") []

abbrev pub of_w : Nsec3
of_w = nsec3_by (codes "k8udemvp1j2f7eg6jebps17vp3n8i58h") (codes "kohar7mbb8dc2ce8a9qvl8hon4k53uhi") []

abbrev pub of_ns2 : Nsec3
of_ns2 = nsec3_by (codes "q04jkcevqvmu85r014c7dkba38o0ji5r") (codes "r53bq7cc2uvmubfu5ocmm6pers9tk9en") (type_a ∷ type_rrsig ∷ [])

abbrev pub of_wild : Nsec3
of_wild = nsec3_by (codes "r53bq7cc2uvmubfu5ocmm6pers9tk9en") (codes "t644ebqk9bibcna874givr6joj62mlhv") (type_mx ∷ type_rrsig ∷ [])

-- B.1: a.c.x.w.example. does not exist
abbrev pub NameError3 : Type 0
NameError3 = AreHashes → Proves3 by (of_apex ∷ of_xw ∷ of_cut ∷ []) (in_example (codes "a" ∷ codes "c" ∷ codes "x" ∷ codes "w" ∷ [])) no_name

-- B.2: ns1.example. has no MX records
abbrev pub NoData3 : Type 0
NoData3 = AreHashes → Proves3 by (of_ns1 ∷ []) (in_example (codes "ns1" ∷ [])) (no_type type_mx)

-- B.2.1: y.w.example., an empty non-terminal, has no A records
abbrev pub EmptyNoData3 : Type 0
EmptyNoData3 = AreHashes → Proves3 by (of_yw ∷ []) (in_example (codes "y" ∷ codes "w" ∷ [])) (no_type type_a)

-- B.3: the zone c.example. is not signed, and opt-out leaves it out
abbrev pub UnsignedZone3 : Type 0
UnsignedZone3 = AreHashes → Proves3 by (of_cut ∷ of_apex ∷ []) (in_example (codes "c" ∷ [])) unsigned

-- B.4: a.z.w.example. is synthesized from the wildcard below w.example.
abbrev pub WildcardExpansion3 : Type 0
WildcardExpansion3 = AreHashes → Proves3 by (of_ns2 ∷ []) wild_name (by_wildcard 2)

-- B.5: and has no AAAA records
abbrev pub WildcardNoData3 : Type 0
WildcardNoData3 = AreHashes → Proves3 by (of_w ∷ of_ns2 ∷ of_wild ∷ []) wild_name (no_type type_aaaa)
