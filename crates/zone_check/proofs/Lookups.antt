-- What maps from names and types to places say of the records there.
use Rattle.std.proofs.Common.{◌≡◌, ◌==◌, ◌&&◌, ◌<◌, ℕ, Bool, true, false, cond, List, ◌∷◌, length, drop, get_or, suc, refl, sym, ap, ◌∙◌, ◌-◌, ◌≤◌, subst, arith, nat_lt, Option, Some, None}
use Rattle.std.specs.Prelude.{is_some}
use Rattle.std.proofs.Math.Seq.{drop-cons}
use Rattle.std.proofs.lemmas.Bool.Decides.{nat_tests}
use Rattle.std.proofs.lemmas.Option.{slice_get_read}
use Rattle.std.specs.List.{find, slice_get}
use Rattle.std.specs.Ordering.{is_eq, nat_cmp, ordering_then}
use Rattle.std.specs.BTreeMap.{BTreeMap, Updates, get}
use Rattle.std.specs.declared.cmp.Ordering.{Ordering}
use Rattle.std.specs.declared.cmp.Ordering.TheVariants.{Less, Equal, Greater}
use Rattle.wire_messages.specs.rr.RecordData.{type_of}
use Rattle.wire_messages.specs.rr.RrKeys.{key_cmp}
use Rattle.wire_messages.specs.declared.rr.rdata.RData.{RData}
use Rattle.wire_messages.specs.declared.rr.record.Record.{Record}
use Rattle.wire_messages.specs.declared.rr.rr_key.RrKey.{RrKey}
use Rattle.wire_names.proofs.lemmas.rr.domain.SameNames.{same_order, lower_same}
use Rattle.wire_names.specs.rr.domain.DomainName.{DomainName}
use Rattle.wire_names.specs.rr.domain.NameOrder.{SameName, lower_name, name_cmp, name_eq}
use Rattle.zone_check.specs.CheckedZones.{Records, ancestor, is_of, is_data_of, is_data_type, is_named, is_server_of, is_wild_address, is_wild_address_of, server_of}
use Rattle.zone_check.specs.CheckedZones.{type_nsec}
use Rattle.zone_check.specs.HashedZones.{hash_at, is_at, is_hash, is_of_hash}
use Rattle.zone_check.specs.Indexes.{HasHashes, HasOwners, hash_cmp, HasData, HasFirsts, HasNsecs, HasServers, HasSignatures, HasWilds, Points}
use Rattle.zone_check.specs.SignedZones.{covered_of, is_number, is_signature_of}
use Rattle.zone_check.proofs.SameNames.{same_ancestor}

eq_by_tests : (a b : ℕ) (below same : Bool) → nat_lt a b ≡ below → (a == b) ≡ same → is_eq (cond below Less (cond same Equal Greater)) ≡ same
eq_by_tests a b true true e f = absurd (grind (arith, nat_tests))
eq_by_tests a b true false e f = refl
eq_by_tests a b false true e f = refl
eq_by_tests a b false false e f = refl

eq_numbers : (a b : ℕ) → is_eq (nat_cmp a b) ≡ (a == b)
eq_numbers a b = eq_by_tests a b (nat_lt a b) (a == b) refl refl

eq_then : (o p : Ordering) → is_eq (ordering_then o p) ≡ (is_eq o && is_eq p)
eq_then Less p = refl
eq_then Equal p = refl
eq_then Greater p = refl

itself : (name : DomainName) → SameName name name
itself name = record { labels = refl; marks = refl }

-- the key of a record's name and a type finds what is of both
key_with : (r : Record RData) (t : ℕ) (q : RrKey) → is_eq (key_cmp (record { name = lower_name r.name; record_type = t }) q) ≡ (name_eq r.name q.name && (t == q.record_type))
key_with r t q =
    let order : name_cmp (lower_name r.name) q.name ≡ name_cmp r.name q.name = same_order (lower_name r.name) q.name r.name q.name (lower_same r.name) (itself q.name) in
    eq_then (name_cmp (lower_name r.name) q.name) (nat_cmp t q.record_type)
    ∙ ap (λ o. is_eq o && is_eq (nat_cmp t q.record_type)) order
    ∙ ap (λ b. is_eq (name_cmp r.name q.name) && b) (eq_numbers t q.record_type)

-- the key of a record finds what is of its name and type
pub key_is : (r : Record RData) (q : RrKey) → is_eq (key_cmp (record { name = lower_name r.name; record_type = type_of r.rdata }) q) ≡ is_of q.name q.record_type r
key_is r q = key_with r (type_of r.rdata) q

-- and its name what is of its name
pub name_is : (r : Record RData) (q : DomainName) → is_eq (name_cmp (lower_name r.name) q) ≡ name_eq r.name q
name_is r q = ap is_eq (same_order (lower_name r.name) q r.name q (lower_same r.name) (itself q))

-- and the name of a host what is of that name
pub host_is : (host q : DomainName) → is_eq (name_cmp (lower_name host) q) ≡ name_eq host q
host_is host q = ap is_eq (same_order (lower_name host) q host q (lower_same host) (itself q))

-- and the name above it what is of that name
pub above_is : (r : Record RData) (q : DomainName) → is_eq (name_cmp (ancestor (lower_name r.name) 1) q) ≡ name_eq (ancestor r.name 1) q
above_is r q = ap is_eq (same_order (ancestor (lower_name r.name) 1) q (ancestor r.name 1) q (same_ancestor r.name 1) (itself q))

both_some : {A B : Type 0} (b : Bool) (x : A) (y : B) (old : Option A) (rest : Option B) → is_some old ≡ is_some rest → is_some (cond b (Some x) old) ≡ is_some (cond b (Some y) rest)
both_some true x y old rest same = refl
both_some false x y old rest same = same

and_true : (b : Bool) → (b && true) ≡ b
and_true true = refl
and_true false = refl

and_false : (b : Bool) → (b && false) ≡ false
and_false true = refl
and_false false = refl

at_first : (records rest : Records) (place : ℕ) (r : Record RData) (test : Record RData → Bool) (old : Option ℕ) (passes : Bool) → test r ≡ passes → slice_get records place ≡ Some r
    → Points records rest test old → Points records (r ∷ rest) test (cond passes (Some place) old)
at_first records rest place r test old true is at kept = at ∙ ap (λ b. cond b (Some r) (find test rest)) (sym is)
at_first records rest place r test None false is at kept = ap (λ b. cond b (Some r) (find test rest)) is ∙ kept
at_first records rest place r test (Some k) false is at kept = kept ∙ ap (λ b. cond b (Some r) (find test rest)) (sym is)

module _ (records : Records) (behind : ℕ) (r : Record RData) (some : 0 < behind) (within : behind ≤ length records) (is : r ≡ get_or records (behind - 1) r) where
  front : drop (behind - 1) records ≡ r ∷ drop behind records
  front =
      let inside : behind - 1 < length records = omega arith in
      let next : suc (behind - 1) ≡ behind = omega arith in
      drop-cons records (behind - 1) r inside ∙ ap (λ x. x ∷ drop (suc (behind - 1)) records) (sym is) ∙ ap (λ n. r ∷ drop n records) next

  at : slice_get records (behind - 1) ≡ Some r
  at = let inside : behind - 1 < length records = omega arith in slice_get_read records (length records) (behind - 1) r refl inside is

  -- one record more at the front: where it passes, its place is that of the first
  pub put_in_front : (test : Record RData → Bool) (old : Option ℕ) → Points records (drop behind records) test old → Points records (drop (behind - 1) records) test (cond (test r) (Some (behind - 1)) old)
  put_in_front test old kept = rw front (at_first records (drop behind records) (behind - 1) r test old (test r) refl at kept)

  pub one_more_first : (old new : BTreeMap RrKey ℕ) → Updates key_cmp old new (record { name = lower_name r.name; record_type = type_of r.rdata }) (Some (behind - 1))
      → HasFirsts records (drop behind records) old → HasFirsts records (drop (behind - 1) records) new
  one_more_first old new updates kept q =
      rw (updates.0 q ∙ ap (λ b. cond b (Some (behind - 1)) (get key_cmp old q)) (key_is r q)) (put_in_front (is_of q.name q.record_type) (get key_cmp old q) (kept q))

  data_test : (q : DomainName) → is_data_type (type_of r.rdata) ≡ true → is_data_of q r ≡ name_eq r.name q
  data_test q is_data = ap (λ b. name_eq r.name q && b) is_data ∙ and_true (name_eq r.name q)

  pub one_more_data : (old new : BTreeMap DomainName ℕ) → is_data_type (type_of r.rdata) ≡ true → Updates name_cmp old new (lower_name r.name) (Some (behind - 1))
      → HasData records (drop behind records) old → HasData records (drop (behind - 1) records) new
  one_more_data old new is_data updates kept q =
      rw (updates.0 q ∙ ap (λ b. cond b (Some (behind - 1)) (get name_cmp old q)) (name_is r q ∙ sym (data_test q is_data))) (put_in_front (is_data_of q) (get name_cmp old q) (kept q))

  wild_test : (q : DomainName) → is_wild_address r ≡ true → is_wild_address_of q r ≡ name_eq (ancestor r.name 1) q
  wild_test q is_wild = ap (λ b. name_eq (ancestor r.name 1) q && b) is_wild ∙ and_true (name_eq (ancestor r.name 1) q)

  pub one_more_wild : (old new : BTreeMap DomainName ℕ) → is_wild_address r ≡ true → Updates name_cmp old new (ancestor (lower_name r.name) 1) (Some (behind - 1))
      → HasWilds records (drop behind records) old → HasWilds records (drop (behind - 1) records) new
  one_more_wild old new is_wild updates kept q =
      rw (updates.0 q ∙ ap (λ b. cond b (Some (behind - 1)) (get name_cmp old q)) (above_is r q ∙ sym (wild_test q is_wild))) (put_in_front (is_wild_address_of q) (get name_cmp old q) (kept q))

  pub no_wild_more : (wilds : BTreeMap DomainName ℕ) → is_wild_address r ≡ false → HasWilds records (drop behind records) wilds → HasWilds records (drop (behind - 1) records) wilds
  no_wild_more wilds no_wild kept q =
      let fails : is_wild_address_of q r ≡ false = ap (λ b. name_eq (ancestor r.name 1) q && b) no_wild ∙ and_false (name_eq (ancestor r.name 1) q) in
      let more : Points records (drop (behind - 1) records) (is_wild_address_of q) (cond (is_wild_address_of q r) (Some (behind - 1)) (get name_cmp wilds q)) = put_in_front (is_wild_address_of q) (get name_cmp wilds q) (kept q) in
      rw fails at more

  pub one_more_server : (old new : BTreeMap DomainName ℕ) (host : DomainName) → server_of r.rdata ≡ Some host → Updates name_cmp old new (lower_name host) (Some (behind - 1))
      → HasServers records (drop behind records) old → HasServers records (drop (behind - 1) records) new
  one_more_server old new host names updates kept q =
      let test : is_server_of q r ≡ name_eq host q = ap (is_named q) names in
      rw (updates.0 q ∙ ap (λ b. cond b (Some (behind - 1)) (get name_cmp old q)) (host_is host q ∙ sym test)) (put_in_front (is_server_of q) (get name_cmp old q) (kept q))

  pub no_server_more : (servers : BTreeMap DomainName ℕ) → server_of r.rdata ≡ None → HasServers records (drop behind records) servers → HasServers records (drop (behind - 1) records) servers
  no_server_more servers names_none kept q =
      let fails : is_server_of q r ≡ false = ap (is_named q) names_none in
      let more : Points records (drop (behind - 1) records) (is_server_of q) (cond (is_server_of q r) (Some (behind - 1)) (get name_cmp servers q)) = put_in_front (is_server_of q) (get name_cmp servers q) (kept q) in
      rw fails at more

  pub no_data_more : (others : BTreeMap DomainName ℕ) → is_data_type (type_of r.rdata) ≡ false → HasData records (drop behind records) others → HasData records (drop (behind - 1) records) others
  no_data_more others no_data kept q =
      let fails : is_data_of q r ≡ false = ap (λ b. name_eq r.name q && b) no_data ∙ and_false (name_eq r.name q) in
      let more : Points records (drop (behind - 1) records) (is_data_of q) (cond (is_data_of q r) (Some (behind - 1)) (get name_cmp others q)) = put_in_front (is_data_of q) (get name_cmp others q) (kept q) in
      rw fails at more

  signature_test : (q : RrKey) (covered : Option ℕ) → covered_of r.rdata ≡ covered → is_signature_of q.name q.record_type r ≡ (name_eq r.name q.name && is_number q.record_type covered)
  signature_test q covered is = ap (λ o. name_eq r.name q.name && is_number q.record_type o) is

  pub one_more_signature : (old new : BTreeMap RrKey ℕ) (covered : ℕ) → covered_of r.rdata ≡ Some covered → Updates key_cmp old new (record { name = lower_name r.name; record_type = covered }) (Some (behind - 1))
      → HasSignatures records (drop behind records) old → HasSignatures records (drop (behind - 1) records) new
  one_more_signature old new covered names updates kept q =
      rw (updates.0 q ∙ ap (λ b. cond b (Some (behind - 1)) (get key_cmp old q)) (key_with r covered q ∙ sym (signature_test q (Some covered) names)))
      (put_in_front (is_signature_of q.name q.record_type) (get key_cmp old q) (kept q))

  pub no_signature_more : (signatures : BTreeMap RrKey ℕ) → covered_of r.rdata ≡ None → HasSignatures records (drop behind records) signatures → HasSignatures records (drop (behind - 1) records) signatures
  no_signature_more signatures none kept q =
      let fails : is_signature_of q.name q.record_type r ≡ false = signature_test q None none ∙ and_false (name_eq r.name q.name) in
      let more : Points records (drop (behind - 1) records) (is_signature_of q.name q.record_type) (cond (is_signature_of q.name q.record_type r) (Some (behind - 1)) (get key_cmp signatures q)) =
      put_in_front (is_signature_of q.name q.record_type) (get key_cmp signatures q) (kept q) in
      rw fails at more

  found_at : (q : DomainName) → is_some (find (is_of q type_nsec) (drop (behind - 1) records)) ≡ is_some (cond (is_of q type_nsec r) (Some r) (find (is_of q type_nsec) (drop behind records)))
  found_at q = ap (λ rs. is_some (find (is_of q type_nsec) rs)) front

  pub one_more_nsec : (old new : BTreeMap DomainName ℕ) → (type_of r.rdata == type_nsec) ≡ true → Updates name_cmp old new (lower_name r.name) (Some (behind - 1)) → HasNsecs (drop behind records) old → HasNsecs (drop (behind - 1) records) new
  one_more_nsec old new typed updates kept q =
      let test : is_of q type_nsec r ≡ name_eq r.name q = ap (λ b. name_eq r.name q && b) typed ∙ and_true (name_eq r.name q) in
      ap is_some (updates.0 q ∙ ap (λ b. cond b (Some (behind - 1)) (get name_cmp old q)) (name_is r q ∙ sym test))
      ∙ both_some (is_of q type_nsec r) (behind - 1) r (get name_cmp old q) (find (is_of q type_nsec) (drop behind records)) (kept q) ∙ sym (found_at q)

  pub no_nsec_more : (nsecs : BTreeMap DomainName ℕ) → (type_of r.rdata == type_nsec) ≡ false → HasNsecs (drop behind records) nsecs → HasNsecs (drop (behind - 1) records) nsecs
  no_nsec_more nsecs typed kept q =
      let fails : is_of q type_nsec r ≡ false = ap (λ b. name_eq r.name q && b) typed ∙ and_false (name_eq r.name q) in
      kept q ∙ ap (λ b. is_some (cond b (Some r) (find (is_of q type_nsec) (drop behind records)))) (sym fails) ∙ sym (found_at q)

  pub one_more_owner : (old new : BTreeMap DomainName ℕ) → Updates name_cmp old new (lower_name r.name) (Some (behind - 1)) → HasOwners (drop behind records) old → HasOwners (drop (behind - 1) records) new
  one_more_owner old new updates kept q =
      ap is_some (updates.0 q ∙ ap (λ b. cond b (Some (behind - 1)) (get name_cmp old q)) (name_is r q))
      ∙ both_some (is_at q r) (behind - 1) r (get name_cmp old q) (find (is_at q) (drop behind records)) (kept q) ∙ sym (ap (λ rs. is_some (find (is_at q) rs)) front)

  module _ (origin : DomainName) where
    hash_there : (q : List ℕ) (old : Option ℕ) → is_some old ≡ is_some (find (is_of_hash origin q) (drop behind records)) → is_some (cond (is_of_hash origin q r) (Some (behind - 1)) old) ≡ is_some (find (is_of_hash origin q) (drop (behind - 1) records))
    hash_there q old kept = both_some (is_of_hash origin q r) (behind - 1) r old (find (is_of_hash origin q) (drop behind records)) kept ∙ sym (ap (λ rs. is_some (find (is_of_hash origin q) rs)) front)

    pub one_more_hash : (old new : BTreeMap (List ℕ) ℕ) (hash : List ℕ) → Some hash ≡ hash_at origin r → Updates hash_cmp old new hash (Some (behind - 1)) → HasHashes origin records (drop behind records) old → HasHashes origin records (drop (behind - 1) records) new
    one_more_hash old new hash has updates kept q =
        let is : get hash_cmp new q ≡ cond (is_of_hash origin q r) (Some (behind - 1)) (get hash_cmp old q) = updates.0 q ∙ ap (λ o. cond (is_hash q o) (Some (behind - 1)) (get hash_cmp old q)) has in
        record {
          points = rw is (put_in_front (is_of_hash origin q) (get hash_cmp old q) (kept q).points);
          there = ap is_some is ∙ hash_there q (get hash_cmp old q) (kept q).there;
        }

    pub no_hash_more : (hashes : BTreeMap (List ℕ) ℕ) → None ≡ hash_at origin r → HasHashes origin records (drop behind records) hashes → HasHashes origin records (drop (behind - 1) records) hashes
    no_hash_more hashes none kept q =
        let fails : is_of_hash origin q r ≡ false = ap (is_hash q) (sym none) in
        let more : Points records (drop (behind - 1) records) (is_of_hash origin q) (cond (is_of_hash origin q r) (Some (behind - 1)) (get hash_cmp hashes q)) = put_in_front (is_of_hash origin q) (get hash_cmp hashes q) (kept q).points in
        let there : is_some (cond (is_of_hash origin q r) (Some (behind - 1)) (get hash_cmp hashes q)) ≡ is_some (find (is_of_hash origin q) (drop (behind - 1) records)) = hash_there q (get hash_cmp hashes q) (kept q).there in
        record { points = rw fails at more; there = rw fails at there }

-- where a map points to, and where it points nowhere
pub pointed : (records : Records) (test : Record RData → Bool) (found : Option ℕ) (place : ℕ) → Points records records test found → found ≡ Some place → slice_get records place ≡ find test records
pointed records test found place points is = subst (Points records records test) is points

pub pointed_nowhere : (records : Records) (test : Record RData → Bool) (found : Option ℕ) → Points records records test found → found ≡ None → find test records ≡ None
pointed_nowhere records test found points is = subst (Points records records test) is points
