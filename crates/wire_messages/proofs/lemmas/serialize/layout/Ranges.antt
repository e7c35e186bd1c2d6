-- A record whose numbers its fields hold, and whose data are read as data of their type, is one that is read.
use Rattle.std.proofs.Common.{◌≡◌, inl, inr, Bool, true, false, nat_lt, ℕ, suc, ◌+◌, ◌/◌, ◌^◌, ◌<◌, List, [], ◌∷◌, ◌++◌, length, get_or, take, refl, subst, sym, ap, arith}
use Rattle.std.proofs.lemmas.List.{take_more, get_or-append-add}
use Rattle.std.proofs.lemmas.Bool.{lt-ltb, cases_lt}
use Rattle.std.specs.Prelude.{◌||◌, Option, Some, None, if◌then◌else◌}
use Rattle.std.specs.List.{AllByRecursion, list_any}
use Rattle.std.specs.Net.Addr.{octets_of, ipv6_octets, ipv6_segments}
use Rattle.std.specs.declared.net.ipv6_addr.Ipv6Addr.{Ipv6Addr}
use Rattle.wire_messages.specs.rr.Addresses.{IsIpv6}
use Rattle.wire_messages.proofs.lemmas.rr.AddressOctets.{octets_len}
use Rattle.wire_names.specs.serialize.layout.Bytes.{AreBytes}
use Rattle.wire_messages.specs.serialize.layout.FieldRanges.{IsRecordInRange, IsReadAsItsType}
use Rattle.wire_messages.specs.serialize.layout.NameLayout.{IsFullyQualified}
use Rattle.wire_messages.specs.serialize.layout.RecordLayout.{IsFormedRecord}
use Rattle.wire_messages.specs.serialize.writing.RecordSize.{data_len, unwritable_reason, length_fault}
use Rattle.wire_names.specs.declared.error.ProtoError.{ProtoError}
use Rattle.wire_names.specs.declared.error.ProtoError.TheVariants.{CharacterDataTooLong}
use Rattle.wire_messages.specs.declared.rr.rdata.RData.{RData}
use Rattle.wire_messages.specs.declared.rr.rdata.RData.TheVariants as rdata
use Rattle.wire_messages.specs.declared.rr.record.Proof.TheVariants.{Indeterminate}
use Rattle.wire_messages.specs.declared.rr.record.Record.{Record}

pub record_formed : (r : Record RData) → IsRecordInRange r → IsFullyQualified r.name → IsReadAsItsType r.rdata → r.proof ≡ Indeterminate → IsFormedRecord r
record_formed r i n t p = record { name = n; class = i.class; ttl = i.ttl; rdata = (i.rdata, t); proof = p }

pub record_parts : (r : Record RData) → IsFormedRecord r → IsRecordInRange r × IsFullyQualified r.name × IsReadAsItsType r.rdata × (r.proof ≡ Indeterminate)
record_parts r f = (record { class = f.class; ttl = f.ttl; rdata = f.rdata.0 }, f.name, f.rdata.1, f.proof)

all_more : {X : Type 0} (P : X → Type 0) (xs : List X) (x : X) → AllByRecursion P xs → P x → AllByRecursion P (xs ++ x ∷ [])
all_more P [] x h p = (p, tt)
all_more P (y ∷ ys) x h p = (h.0, all_more P ys x h.1 p)

-- what holds of a front and of the next holds of one front more
pub front_more : {X : Type 0} (P : X → Type 0) (xs : List X) (i : ℕ) (x : X) → i < length xs → x ≡ get_or xs i x → AllByRecursion P (take i xs) → P x → AllByRecursion P (take (i + 1) xs)
front_more P xs i x lt is h p = subst (AllByRecursion P) (sym (take_more xs i x lt)) (all_more P (take i xs) (get_or xs i x) h (subst P is p))

none_of : (a b : Bool) → (a || b) ≡ false → (a ≡ false) × (b ≡ false)
none_of true b h = absurd (cc)
none_of false b h = (refl, h)

short_text : (n : ℕ) → nat_lt 255 n ≡ false → n < 256
short_text n h = elim (cases_lt 255 n) [
  | inl lt ↦ let e : nat_lt 255 n ≡ true = lt-ltb _ _ lt in absurd (cc)
  | inr le ↦ omega arith
]

-- segments whose octets are bytes have sixteen bits
pub segments_small : (segments : List ℕ) → AreBytes (octets_of segments) → AllByRecursion (λ segment. segment < 2 ^ 16) segments
segments_small [] a = tt
segments_small (s ∷ segments) a = let high : s / 256 < 256 = a 0 in (omega arith, segments_small segments (λ k. a (suc (suc k))))

not_first : (b : Bool) (e : ProtoError) (x : Option ProtoError) → (if b then Some e else x) ≡ None → b ≡ false
not_first true e x h = absurd (cc)
not_first false e x h = refl

-- texts of which none is too long for its length byte
pub texts_short : (texts : List (List ℕ)) → list_any (λ text. nat_lt 255 (length text)) texts ≡ false → AllByRecursion (λ text. length text < 256) texts
texts_short [] h = tt
texts_short (t ∷ ts) h = let both = none_of (nat_lt 255 (length t)) (list_any (λ text. nat_lt 255 (length text)) ts) h in (short_text (length t) both.0, texts_short ts both.1)

pub no_long_text : (texts : List (List ℕ)) → unwritable_reason (rdata.TXT texts) ≡ None → list_any (λ text. nat_lt 255 (length text)) texts ≡ false
no_long_text texts h = not_first (list_any (λ text. nat_lt 255 (length text)) texts) CharacterDataTooLong (length_fault (data_len (rdata.TXT texts))) h

-- what is put behind bytes is bytes where all of them are
tail_bytes : (old octets new : List ℕ) → new ≡ old ++ octets → AreBytes new → AreBytes octets
tail_bytes old octets new e a k = let h = a (length old + k) in omega (arith, h, ap (λ (l : List ℕ). get_or l (length old + k) 0) e, get_or-append-add old octets k 0)

-- an address whose sixteen octets were put
pub ipv6_in_range : (address : Ipv6Addr) (old octets new : List ℕ) → octets ≡ ipv6_octets address → length octets ≡ 16 → new ≡ old ++ octets → AreBytes new → IsIpv6 address
ipv6_in_range address old octets new is size e a =
    let segments = ipv6_segments address in
    record {
      eight = omega (arith, size, ap length is, octets_len segments);
      each = segments_small segments (subst AreBytes is (tail_bytes old octets new e a));
    }
