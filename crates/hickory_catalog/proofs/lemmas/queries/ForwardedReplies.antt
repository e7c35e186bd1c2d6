-- What can be seen of a reply of a server that asked elsewhere.
use Rattle.std.proofs.Common.{◌≡◌, ◌≢◌, refl, sym, ap, subst, ℕ, Bool, true, false, cond, not, ◌&&◌, ◌||◌, List, [], ◌∷◌, ◌++◌, filter, Option, Some, None, Result, Ok, Err, arith}
use Rattle.std.specs.Prelude.{◌==◌, IfSome, IsSome, OnErr, option_to_list}
use Rattle.std.specs.List.{AllByRecursion, list_all, list_any}
use Rattle.std.proofs.lemmas.Bool.Decides.{nat_tests}
use Rattle.wire_names.specs.rr.domain.DomainName.{DomainName}
use Rattle.wire_messages.specs.rr.RecordData.{type_of}
use Rattle.wire_messages.specs.declared.op.header.Metadata.{Metadata}
use Rattle.wire_messages.specs.declared.op.query.Query.{Query}
use Rattle.wire_messages.specs.declared.rr.rdata.RData.{RData}
use Rattle.wire_messages.specs.declared.rr.record.Proof.{Proof}
use Rattle.wire_messages.specs.declared.rr.record.Proof.TheVariants.{Secure, Insecure, Bogus, Indeterminate}
use Rattle.wire_messages.specs.declared.rr.record.Record.{Record}
use Rattle.hickory_base.specs.Failures.{is_no_records_found, is_nx_domain, soa_of}
use Rattle.hickory_base.specs.zone_store.Lookups.{answers_of, asks_for_dnssec}
use Rattle.hickory_base.specs.declared.errors.DnsError.TheVariants.{NoRecords}
use Rattle.hickory_base.specs.declared.errors.LookupError.{LookupError}
use Rattle.hickory_base.specs.declared.errors.LookupError.TheVariants.{Net, ResponseCode}
use Rattle.hickory_base.specs.declared.requests.message_request.MessageRequest.{MessageRequest}
use Rattle.hickory_base.specs.declared.zone_store.lookup.AuthLookup.{AuthLookup}
use Rattle.hickory_base.specs.declared.zone_store.lookup.AuthLookup.TheVariants.{Empty, Resolved, Records, Whole}
use Rattle.hickory_catalog.specs.queries.Forwarded.{Findings, code_alone, findings_contents, findings_of, forwarded_contents, forwarded_metadata, has_name, is_authentic, is_bogus, is_bogus_proof, is_dnssec_bogus, is_dnssec_type, is_no_record, is_no_soa, is_passed_on, is_secure, is_secure_proof, judged_records, nothing_found, passed_on, records_found, validated, without_bogus}
use Rattle.hickory_catalog.specs.queries.ForwardedLaws.{CarriesSoa, HasJudgedRecords, HasSoa, IsAuthenticated, IsNotBogus, IsPlainOrAskedFor, IsProved, IsSoa}
use Rattle.hickory_catalog.specs.replies.Replies.{Contents, bare_contents}

abbrev Resources : Type 0
Resources = List (Record RData)

and_left : (a b : Bool) → (a && b) ≡ true → a ≡ true
and_left true b h = refl
and_left false b h = h

and_right : (a b : Bool) → (a && b) ≡ true → b ≡ true
and_right true b h = h
and_right false b h = cc

or_left : (a b : Bool) → (a || b) ≡ false → a ≡ false
or_left true b h = h
or_left false b h = refl

or_right : (a b : Bool) → (a || b) ≡ false → b ≡ false
or_right true b h = cc
or_right false b h = h

not_true : (a : Bool) → not a ≡ true → a ≡ false
not_true true h = cc
not_true false h = refl

-- what holds of each record holds of those that are passed on
all_kept : (P : Record RData → Type 0) (test : Record RData → Bool) (rs : Resources) → AllByRecursion P rs → AllByRecursion P (filter test rs)
all_kept P test [] h = h
all_kept P test (r ∷ rs) h = let rest = all_kept P test rs h.1 in
    elim (test r) as (λ b. AllByRecursion P (cond b (r ∷ filter test rs) (filter test rs))) [ true ↦ (h.0, rest) | false ↦ rest ]

all_joined : (P : Record RData → Type 0) (rs qs : Resources) → AllByRecursion P rs → AllByRecursion P qs → AllByRecursion P (rs ++ qs)
all_joined P [] qs h k = k
all_joined P (r ∷ rs) qs h k = (h.0, all_joined P rs qs h.1 k)

-- what each record has that passes the test
all_passing : (P : Record RData → Type 0) (test : Record RData → Bool) → ((r : Record RData) → test r ≡ true → P r) → (rs : Resources) → AllByRecursion P (filter test rs)
all_passing P test so [] = tt
all_passing P test so (r ∷ rs) = kept (test r) refl (all_passing P test so rs) where
  kept : (b : Bool) → test r ≡ b → AllByRecursion P (filter test rs) → AllByRecursion P (cond b (r ∷ filter test rs) (filter test rs))
  kept true e rest = (so r e, rest)
  kept false e rest = rest

secure : (p : Proof) → is_secure_proof p ≡ true → p ≡ Secure
secure Secure h = refl
secure Insecure h = absurd cc
secure Bogus h = absurd cc
secure Indeterminate h = absurd cc

not_bogus : (p : Proof) → is_bogus_proof p ≡ false → p ≢ Bogus
not_bogus p h is = absurd (let e : is_bogus_proof p ≡ true = ap is_bogus_proof is in cc)

all_proved : (rs : Resources) → list_all (λ r. is_secure_proof r.proof) rs ≡ true → AllByRecursion IsProved rs
all_proved [] h = tt
all_proved (r ∷ rs) h = (secure r.proof (and_left _ _ h), all_proved rs (and_right (is_secure_proof r.proof) _ h))

none_bogus : (rs : Resources) → list_any (λ r. is_bogus_proof r.proof) rs ≡ false → AllByRecursion IsNotBogus rs
none_bogus [] h = tt
none_bogus (r ∷ rs) h = (not_bogus r.proof (or_left _ _ h), none_bogus rs (or_right (is_bogus_proof r.proof) _ h))

has_some : (rs : Resources) → not (is_no_record rs) ≡ true → rs ≢ []
has_some [] h e = absurd cc
has_some (r ∷ rs) h e = absurd cc

-- what was found holds no SOA, and what was not found no answers
found_soa : (found : AuthLookup) → (records_found found).soa ≡ None
found_soa Empty = refl
found_soa (Resolved found) = refl
found_soa (Records answers additionals) = refl
found_soa (Whole reply) = refl

found_answers : (found : AuthLookup) → (records_found found).answers ≡ answers_of found
found_answers Empty = refl
found_answers (Resolved found) = refl
found_answers (Records answers additionals) = refl
found_answers (Whole reply) = refl

no_answers : (name : DomainName) (e : LookupError) → (findings_of name (Err e)).answers ≡ []
no_answers name e = elim (is_no_records_found e || is_nx_domain e) as (λ b. (cond b (nothing_found name e) (code_alone 2 (is_dnssec_bogus e))).answers ≡ []) [ true ↦ refl | false ↦ refl ]

-- an SOA that is passed on came with the failure
soa_given : (name : DomainName) (e : LookupError) → IsSome (findings_of name (Err e)).soa → IsSome (soa_of e)
soa_given name (Net (NoRecords code authorities soa)) h = h
soa_given name (ResponseCode code) h = elim (code == 3) as (λ b. IsSome (cond b (nothing_found name (ResponseCode code)) (code_alone 2 false)).soa → IsSome {T = Record RData} None) [ true ↦ λ k. k | false ↦ λ k. k ] h
soa_given name other h = h

soa_kept : (name : DomainName) (e : LookupError) → IsSome (soa_of e) → (findings_of name (Err e)).soa ≡ soa_of e
soa_kept name (Net (NoRecords code authorities soa)) h = refl
soa_kept name other h = absurd cc

-- what is proved, and what is not bogus
module _ (f : Findings) where
  proved_answers : is_secure f ≡ true → f.soa ≡ None → AllByRecursion IsProved f.answers × (f.answers ≢ [])
  proved_answers h e =
      let k : is_secure (record f { soa = None }) ≡ true = subst (λ (o : Option (Record RData)). is_secure (record f { soa = o }) ≡ true) e h in
      (all_proved f.answers (and_right _ _ k), has_some f.answers (and_right _ _ (and_left _ _ k)))

  secure_sound : is_secure f ≡ true → is_bogus f ≡ false
  secure_sound h = not_true (is_bogus f) (and_left (not (is_bogus f)) _ (and_left (not (is_bogus f) && not (is_no_record (judged_records f))) _ h))

  proved_authorities : is_secure f ≡ true → f.answers ≡ [] → AllByRecursion IsProved (option_to_list f.soa) × AllByRecursion IsProved f.authorities × IsSome f.soa
  proved_authorities h none = by_soa f.soa h where
    by_soa : (o : Option (Record RData)) → is_secure (record f { soa = o }) ≡ true → AllByRecursion IsProved (option_to_list o) × AllByRecursion IsProved f.authorities × IsSome o
    by_soa None k = absurd (has_some f.answers (and_right _ _ (and_left _ _ k)) none)
    by_soa (Some soa) k = let all = all_proved (soa ∷ f.authorities) (and_right _ _ k) in ((all.0, tt), all.1, refl)

  sound_answers : is_bogus f ≡ false → f.soa ≡ None → AllByRecursion IsNotBogus f.answers
  sound_answers h e =
      let k : is_bogus (record f { soa = None }) ≡ false = subst (λ (o : Option (Record RData)). is_bogus (record f { soa = o }) ≡ false) e h in
      none_bogus f.answers (or_right f.is_bogus _ k)

  sound_authorities : is_bogus f ≡ false → IsSome f.soa → AllByRecursion IsNotBogus (option_to_list f.soa) × AllByRecursion IsNotBogus f.authorities
  sound_authorities h some = by_soa f.soa h some where
    by_soa : (o : Option (Record RData)) → is_bogus (record f { soa = o }) ≡ false → IsSome o → AllByRecursion IsNotBogus (option_to_list o) × AllByRecursion IsNotBogus f.authorities
    by_soa None k there = absurd cc
    by_soa (Some soa) k there = let all = none_bogus (soa ∷ f.authorities) (or_right f.is_bogus _ k) in ((all.0, tt), all.1)

  is_failure : (without_bogus f).code ≡ 2
  is_failure = by_soa f.soa where
    by_soa : (o : Option (Record RData)) → (without_bogus (record f { soa = o })).code ≡ 2
    by_soa None = refl
    by_soa (Some soa) = refl

  -- what is sound is passed on as it is
  module _ (validates : Bool) (request : Metadata) where
    unchanged : is_bogus f ≡ false → validated validates request f ≡ f
    unchanged h = judged validates (is_bogus f) (not request.checking_disabled) h where
      judged : (a b c : Bool) → b ≡ false → cond (a && b && c) (without_bogus f) f ≡ f
      judged true true c k = absurd cc
      judged true false c k = refl
      judged false b c k = refl

    failed : validates ≡ true → is_bogus f ≡ true → request.checking_disabled ≡ false → (validated validates request f).code ≡ 2
    failed v h d = judged validates (is_bogus f) request.checking_disabled v h d where
      judged : (a b c : Bool) → a ≡ true → b ≡ true → c ≡ false → (cond (a && b && not c) (without_bogus f) f).code ≡ 2
      judged true true false v h d = is_failure
      judged false b c v h d = absurd cc
      judged true false c v h d = absurd cc
      judged true true true v h d = absurd cc

no_soa : (r : Record RData) → is_no_soa r ≡ true → ¬ (IsSoa r)
no_soa r h is = let k : not (6 == 6) ≡ true = subst (λ (n : ℕ). not (n == 6) ≡ true) is h in cc

-- what is found where there is nothing: no SOA but the one that came with it, and none with ServFail
module _ (name : DomainName) where
  abbrev negative : Bool → Bool → ℕ
  negative a b = cond a 0 (cond b 3 0)

  no_failure : (a b : Bool) → negative a b ≢ 2
  no_failure true b h = cc
  no_failure false true h = cc
  no_failure false false h = cc

  abbrev KeepsSoa : LookupError → Findings → Type 0
  KeepsSoa e f = AllByRecursion (λ r. ¬ (IsSoa r)) f.authorities × (f.soa ≡ soa_of e) × (f.code ≡ 2 → f.soa ≡ None)

  keeps_soa : (e : LookupError) → KeepsSoa e (findings_of name (Err e))
  keeps_soa (Net (NoRecords code authorities soa)) =
      (all_passing (λ r. ¬ (IsSoa r)) is_no_soa no_soa authorities, refl, λ two. absurd (no_failure (has_name name authorities) (code == 3) two))
  keeps_soa (ResponseCode code) =
      elim (code == 3) as (λ b. KeepsSoa (ResponseCode code) (cond b (nothing_found name (ResponseCode code)) (code_alone 2 false))) [ true ↦ (tt, refl, λ two. refl) | false ↦ (tt, refl, λ two. refl) ]
  keeps_soa other = (tt, refl, λ two. refl)

module _ (request : MessageRequest) (query : Query) where
  kept : (P : Record RData → Type 0) (rs : Resources) → AllByRecursion P rs → AllByRecursion P (passed_on request query rs)
  kept P rs h = all_kept P (is_passed_on (asks_for_dnssec request.edns) query.query_type) rs h

  -- with RD and without it
  by_recursion : (P : Contents → Type 0) (validates : Bool) (result : Result AuthLookup LookupError)
      → P (findings_contents request query (is_authentic validates request (findings_of query.name result)) (validated validates request.metadata (findings_of query.name result)))
      → P (bare_contents (forwarded_metadata request.metadata false 5)) → P (forwarded_contents request query validates result)
  by_recursion P validates result answered refused = wanted request.metadata.recursion_desired answered refused where
    wanted : (b : Bool)
        → P (findings_contents request query (is_authentic validates request (findings_of query.name result)) (validated validates request.metadata (findings_of query.name result)))
        → P (bare_contents (forwarded_metadata request.metadata false 5))
        → P (cond b
        (findings_contents request query (is_authentic validates request (findings_of query.name result)) (validated validates request.metadata (findings_of query.name result)))
        (bare_contents (forwarded_metadata request.metadata false 5)))
    wanted true f g = f
    wanted false f g = g

  -- DNSSEC records
  plain : (dnssec_ok is_dnssec : Bool) (m n : ℕ) → dnssec_ok ≡ false → (dnssec_ok || not is_dnssec || m == n) ≡ true → is_dnssec ≡ true → m ≡ n
  plain true is_dnssec m n none passes is = absurd cc
  plain false false m n none passes is = absurd cc
  plain false true m n none passes is = grind (arith, nat_tests)

  all_plain : asks_for_dnssec request.edns ≡ false → (rs : Resources) → AllByRecursion (IsPlainOrAskedFor query.query_type) (passed_on request query rs)
  all_plain none rs = all_passing (IsPlainOrAskedFor query.query_type) (is_passed_on (asks_for_dnssec request.edns) query.query_type)
      (λ r passes is. plain (asks_for_dnssec request.edns) (is_dnssec_type (type_of r.rdata)) (type_of r.rdata) query.query_type none passes is) rs

  abbrev AllPlain : Contents → Type 0
  AllPlain contents = AllByRecursion (IsPlainOrAskedFor query.query_type) contents.answers × AllByRecursion (IsPlainOrAskedFor query.query_type) contents.authorities × AllByRecursion (IsPlainOrAskedFor query.query_type) contents.additionals

  pub on_demand : (validates : Bool) (result : Result AuthLookup LookupError) → asks_for_dnssec request.edns ≡ false → AllPlain (forwarded_contents request query validates result)
  on_demand validates result none = by_recursion AllPlain validates result
      (let f = validated validates request.metadata (findings_of query.name result) in (
        all_plain none f.answers,
        all_joined (IsPlainOrAskedFor query.query_type) (passed_on request query (option_to_list f.soa)) (passed_on request query f.authorities) (all_plain none (option_to_list f.soa)) (all_plain none f.authorities),
        all_plain none f.additionals,
      ))
      (tt, tt, tt)

  -- AD
  module _ (validates : Bool) where
    proved : (result : Result AuthLookup LookupError) → let f = findings_of query.name result in is_secure f ≡ true
        → HasJudgedRecords result × AllByRecursion IsProved (passed_on request query f.answers) × OnErr result (AllByRecursion IsProved (passed_on request query (option_to_list f.soa) ++ passed_on request query f.authorities))
    proved (Ok found) h =
        let all = proved_answers (records_found found) h (found_soa found) in
        (subst (λ (rs : Resources). rs ≢ []) (found_answers found) all.1, kept IsProved (records_found found).answers all.0, tt)
    proved (Err e) h =
        let none = no_answers query.name e in
        let all = proved_authorities (findings_of query.name (Err e)) h none in
        (soa_given query.name e all.2, subst (λ (rs : Resources). AllByRecursion IsProved (passed_on request query rs)) (sym none) tt, all_joined IsProved (passed_on request query (option_to_list (findings_of query.name (Err e)).soa)) (passed_on request query (findings_of query.name (Err e)).authorities) (kept IsProved (option_to_list (findings_of query.name (Err e)).soa) all.0) (kept IsProved (findings_of query.name (Err e)).authorities all.1))

    pub authenticated : (result : Result AuthLookup LookupError) → (forwarded_contents request query validates result).metadata.authentic_data ≡ true
        → IsAuthenticated request validates result (forwarded_contents request query validates result)
    authenticated result = by_recursion (λ contents. contents.metadata.authentic_data ≡ true → IsAuthenticated request validates result contents) validates result shown (λ h. absurd cc) where
      shown : is_authentic validates request (findings_of query.name result) ≡ true
          → IsAuthenticated request validates result (findings_contents request query (is_authentic validates request (findings_of query.name result)) (validated validates request.metadata (findings_of query.name result)))
      shown h =
          let found = findings_of query.name result in
          let asks = request.metadata.authentic_data || asks_for_dnssec request.edns in
          let both : (validates && is_secure found) ≡ true = and_left (validates && is_secure found) asks h in
          let judges = and_left validates (is_secure found) both in
          let secure = and_right validates (is_secure found) both in
          let sound : is_bogus found ≡ false = secure_sound found secure in
          let all = proved result secure in
          subst (λ (g : Findings). IsAuthenticated request validates result (findings_contents request query (is_authentic validates request found) g)) (sym (unchanged found validates request.metadata sound))
          (record { validates_proofs = judges; asked = and_right (validates && is_secure found) asks h; judged = all.0; answers = all.1; authorities = all.2 })

    -- wrong proofs
    abbrev NoneBogus : Result AuthLookup LookupError → Contents → Type 0
    NoneBogus result contents = contents.metadata.response_code ≢ 2 → AllByRecursion IsNotBogus contents.answers × (HasSoa result → AllByRecursion IsNotBogus contents.authorities)

    sound_contents : (result : Result AuthLookup LookupError) → let f = findings_of query.name result in is_bogus f ≡ false
        → AllByRecursion IsNotBogus (passed_on request query f.answers) × (HasSoa result → AllByRecursion IsNotBogus (passed_on request query (option_to_list f.soa) ++ passed_on request query f.authorities))
    sound_contents (Ok found) h = (kept IsNotBogus (records_found found).answers (sound_answers (records_found found) h (found_soa found)), λ none. absurd none)
    sound_contents (Err e) h = (
      subst (λ (rs : Resources). AllByRecursion IsNotBogus (passed_on request query rs)) (sym (no_answers query.name e)) tt,
      λ some.
          let all = sound_authorities (findings_of query.name (Err e)) h (subst (λ (o : Option (Record RData)). IsSome o) (sym (soa_kept query.name e some)) some) in
          all_joined IsNotBogus (passed_on request query (option_to_list (findings_of query.name (Err e)).soa)) (passed_on request query (findings_of query.name (Err e)).authorities) (kept IsNotBogus (option_to_list (findings_of query.name (Err e)).soa) all.0) (kept IsNotBogus (findings_of query.name (Err e)).authorities all.1),
    )

    pub nothing_bogus : (result : Result AuthLookup LookupError) → validates ≡ true → request.metadata.checking_disabled ≡ false → NoneBogus result (forwarded_contents request query validates result)
    nothing_bogus result judges checks = by_recursion (NoneBogus result) validates result (shown (is_bogus (findings_of query.name result)) refl) (λ h. (tt, λ some. tt)) where
      shown : (b : Bool) → is_bogus (findings_of query.name result) ≡ b
          → NoneBogus result (findings_contents request query (is_authentic validates request (findings_of query.name result)) (validated validates request.metadata (findings_of query.name result)))
      shown true bogus = λ differs. absurd (differs (failed (findings_of query.name result) validates request.metadata judges bogus checks))
      shown false sound =
          subst (λ (g : Findings). NoneBogus result (findings_contents request query (is_authentic validates request (findings_of query.name result)) g)) (sym (unchanged (findings_of query.name result) validates request.metadata sound))
          (λ differs. sound_contents result sound)

  -- the SOA of a negative answer
  soa_passes : (d b : Bool) (n : ℕ) → n ≡ 6 → (d || not (is_dnssec_type n) || b) ≡ true
  soa_passes true b n is = refl
  soa_passes false b n is = rw is refl

  soa_passed : (soa : Option (Record RData)) → IfSome soa IsSoa → passed_on request query (option_to_list soa) ≡ option_to_list soa
  soa_passed None h = refl
  soa_passed (Some r) h = rw (soa_passes (asks_for_dnssec request.edns) (type_of r.rdata == query.query_type) (type_of r.rdata) h) refl

  module _ (authentic : Bool) where
    carried : (f : Findings) → AllByRecursion (λ r. ¬ (IsSoa r)) f.authorities → IfSome f.soa IsSoa → CarriesSoa f.soa (findings_contents request query authentic f).authorities
    carried f none soa = record {
      others = passed_on request query f.authorities;
      first = ap (λ (rs : Resources). rs ++ passed_on request query f.authorities) (soa_passed f.soa soa);
      no_other = kept (λ r. ¬ (IsSoa r)) f.authorities none;
    }

    dropped : (f : Findings) → AllByRecursion (λ r. ¬ (IsSoa r)) f.authorities → CarriesSoa None (findings_contents request query authentic (without_bogus f)).authorities
    dropped f none = by_soa f.soa where
      by_soa : (o : Option (Record RData)) → CarriesSoa None (findings_contents request query authentic (without_bogus (record f { soa = o }))).authorities
      by_soa None = carried (without_bogus (record f { soa = None })) none tt
      by_soa (Some soa) = carried (without_bogus (record f { soa = Some soa })) none tt

    abbrev CarriesOf : LookupError → Contents → Type 0
    CarriesOf e contents = (contents.metadata.response_code ≢ 2 → CarriesSoa (soa_of e) contents.authorities) × (contents.metadata.response_code ≡ 2 → CarriesSoa None contents.authorities)

    carries : (e : LookupError) (f : Findings) → KeepsSoa query.name e f → IfSome (soa_of e) IsSoa → (b : Bool) → CarriesOf e (findings_contents request query authentic (cond b (without_bogus f) f))
    carries e f keeps soa true = (λ differs. absurd (differs (is_failure f)), λ two. dropped f keeps.0)
    carries e f keeps soa false =
        let here = carried f keeps.0 (subst (λ (o : Option (Record RData)). IfSome o IsSoa) (sym keeps.1) soa) in (
          λ differs. subst (λ (o : Option (Record RData)). CarriesSoa o (findings_contents request query authentic f).authorities) keeps.1 here,
          λ two. subst (λ (o : Option (Record RData)). CarriesSoa o (findings_contents request query authentic f).authorities) (keeps.2 two) here,
        )

  pub carries_soa : (validates : Bool) (e : LookupError) → request.metadata.recursion_desired ≡ true → IfSome (soa_of e) IsSoa
      → CarriesOf (is_authentic validates request (findings_of query.name (Err e))) e (forwarded_contents request query validates (Err e))
  carries_soa validates e recursion soa =
      let found = findings_of query.name (Err e) in
      let authentic = is_authentic validates request found in
      subst (λ (b : Bool). CarriesOf authentic e (cond b (findings_contents request query authentic (validated validates request.metadata found)) (bare_contents (forwarded_metadata request.metadata false 5)))) (sym recursion)
      (carries authentic e found (keeps_soa query.name e) soa (validates && is_bogus found && not request.metadata.checking_disabled))
