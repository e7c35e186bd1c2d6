-- Replies to requests with a right MAC verify, and so do the further messages of a transfer; and a request that a
-- client signs is judged good.
use Rattle.std.proofs.Common.{◌≡◌, ℕ, ◌+◌, ◌/◌, ◌%◌, ◌^◌, ◌<◌, ◌≤◌, Bool, true, false, cond, ◌&&◌, List, [], ◌∷◌, ◌++◌, length, length-append, Option, Some, refl, sym, ap, subst, ◌∙◌, arith, bytes_eq, leb, eq-eqb, lit<, lit≤}
use Rattle.std.specs.Int.{w16, w32, from_be_bytes, to_be_bytes}
use Rattle.std.specs.Prelude.{All}
use Rattle.std.proofs.lemmas.List.Elements.{All-from_recursion}
use Rattle.std.proofs.Math.Seq.{take-length}
use Rattle.std.proofs.lemmas.Bool.{le-leb, le-ltb}
use Rattle.std.proofs.lemmas.Nat.{from_be_bytes-to_be_bytes_2}
use Rattle.wire_names.specs.rr.domain.DomainName.{DomainName, AreLabels, IsLabel}
use Rattle.wire_names.specs.rr.domain.NameOrder.{name_eq}
use Rattle.wire_names.specs.serialize.layout.Bytes.{AreBytes}
use Rattle.wire_messages.specs.rr.RecordData.{tsig_fields}
use Rattle.wire_messages.specs.serialize.layout.MessageLayout.{tsig_record}
use Rattle.wire_messages.specs.serialize.layout.NameLayout.{IsFullyQualified}
use Rattle.wire_messages.specs.serialize.layout.RecordLayout.{RecordAt}
use Rattle.wire_messages.specs.declared.rr.record.Record.{Record}
use Rattle.wire_messages.specs.declared.rr.tsig.TSIG.{TSIG}
use Rattle.wire_messages.proofs.lemmas.serialize.layout.ByteTexts.{BytesAt-left, stands_take}
use Rattle.hickory_wire.proofs.lemmas.serialize.writing.ReadingBack.{name_labels}
use Rattle.tsig.specs.Digest.{next_digest, reply_digest, request_digest, unsigned_message}
use Rattle.tsig.specs.Hmac.{algorithm_label, algorithm_name, mac_len, mac_of}
use Rattle.tsig.specs.Judging.{HasKey, HasMac, IsAuthentic, Judged, JudgedBy, is_mac_len, is_mac_of, is_named}
use Rattle.tsig.specs.Judging.Judged.{unsigned, signed, malformed}
use Rattle.tsig.specs.Judging.JudgedBy.{ill_formed, bad_key, bad_len, bad_sig, bad_time, bad_trunc, good}
use Rattle.tsig.specs.Keys.{key_of}
use Rattle.tsig.specs.Signing.{Reply, additionals_of, answered, appended, id_of, next_by, next_of, record_of, reply_data, reply_of, signed_by, time_of, with_mac, without_mac}
use Rattle.tsig.specs.Standing.{SignedAt}
use Rattle.tsig.specs.Verifying.{CarriesKey, IsKey, IsWholeMessage, Verifies, VerifiesNext, is_mac_right, message_in, request_data, request_record, signed_request}
use Rattle.tsig.specs.declared.algorithm.Algorithm.{Algorithm}
use Rattle.tsig.specs.declared.algorithm.Algorithm.TheVariants.{HmacSha1, HmacSha256, HmacSha384, HmacSha512, HmacSha256_128, HmacSha384_192, HmacSha512_256}
use Rattle.tsig.specs.declared.judgement.Judgement.{Judgement}
use Rattle.tsig.specs.declared.judgement.Judgement.TheVariants.{Signed}
use Rattle.tsig.specs.declared.judgement.Verdict.{Verdict}
use Rattle.tsig.specs.declared.judgement.Verdict.TheVariants.{Good, BadKey, BadSig, BadTime, BadTrunc}
use Rattle.tsig.specs.declared.keys.Key.{Key}
use Rattle.tsig.proofs.Appending.{IsWritable, appended_again, appended_signed}
use Rattle.tsig.proofs.HashLengths.{mac_of-len}

abbrev some_reply : Reply → Option Reply
some_reply r = Some r

-- ---- what a judgement says

abbrev verdict_in : Judgement → Verdict
verdict_in (Signed s v) = v
verdict_in other = Good

abbrev record_in : Record TSIG → Judgement → Record TSIG
record_in default (Signed s v) = s
record_in default other = default

-- The TSIG record that was judged, where it stands, and how.
pub record Parts (keys : List Key) (bytes : List ℕ) (now : ℕ) (s : Record TSIG) (v : Verdict) : Type 0 where
  pub additionals : ℕ
  pub place : ℕ
  pub stop : ℕ
  pub stands : SignedAt bytes additionals place s stop
  pub by : JudgedBy keys bytes now additionals place s (Signed s v)

same_record : (keys : List Key) (bytes : List ℕ) (now n place : ℕ) (s : Record TSIG) (j : Judgement) → JudgedBy keys bytes now n place s j → (r : Record TSIG) (v : Verdict) → j ≡ Signed r v → s ≡ r
same_record keys bytes now n place s j (ill_formed e) r v is = absurd cc
same_record keys bytes now n place s j (bad_key f h) r v is = ap (record_in s) is
same_record keys bytes now n place s j (bad_len key h e) r v is = absurd cc
same_record keys bytes now n place s j (bad_sig key h e) r v is = ap (record_in s) is
same_record keys bytes now n place s j (bad_time key h e) r v is = ap (record_in s) is
same_record keys bytes now n place s j (bad_trunc key h t e) r v is = ap (record_in s) is
same_record keys bytes now n place s j (good key h t e) r v is = ap (record_in s) is

parts : (keys : List Key) (bytes : List ℕ) (now : ℕ) (j : Judgement) → Judged keys bytes now j → (s : Record TSIG) (v : Verdict) → j ≡ Signed s v → Parts keys bytes now s v
parts keys bytes now j (unsigned stop u) s v is = absurd cc
parts keys bytes now j (signed n place stop r k at by) s v is =
    let same = same_record keys bytes now n place r k by s v is in
    record {
      additionals = n;
      place = place;
      stop = stop;
      stands = subst (λ (x : Record TSIG). SignedAt bytes n place x stop) same at;
      by = subst (λ (x : Record TSIG). JudgedBy keys bytes now n place x (Signed s v)) same (subst (λ (x : Judgement). JudgedBy keys bytes now n place r x) is by);
    }
parts keys bytes now j (malformed a b) s v is = absurd cc

-- where the MAC is right, there is the key
authentic : (keys : List Key) (bytes : List ℕ) (now n place : ℕ) (s : Record TSIG) (j : Judgement) → JudgedBy keys bytes now n place s j → (v : Verdict) → j ≡ Signed s v → is_mac_right v ≡ true
    → (key : Key) × IsAuthentic keys bytes n place s key
authentic keys bytes now n place s j (ill_formed e) v is right = absurd cc
authentic keys bytes now n place s j (bad_key f h) v is right = let wrong : false ≡ true = ap (λ (x : Judgement). is_mac_right (verdict_in x)) is ∙ right in absurd cc
authentic keys bytes now n place s j (bad_len key h e) v is right = absurd cc
authentic keys bytes now n place s j (bad_sig key h e) v is right = let wrong : false ≡ true = ap (λ (x : Judgement). is_mac_right (verdict_in x)) is ∙ right in absurd cc
authentic keys bytes now n place s j (bad_time key h e) v is right = (key, h)
authentic keys bytes now n place s j (bad_trunc key h t e) v is right = (key, h)
authentic keys bytes now n place s j (good key h t e) v is right = (key, h)

-- ---- records that can be written

-- how many bytes the fields behind the algorithm take
pub fields_len : (t : TSIG) → length (tsig_fields t) ≡ 16 + (length t.mac + length t.other)
fields_len t =
    let a : List ℕ = to_be_bytes w16 (t.time / 2 ^ 32) ++ to_be_bytes w32 (t.time % 2 ^ 32) ++ to_be_bytes w16 t.fudge ++ to_be_bytes w16 (length t.mac) in
    let b : List ℕ = to_be_bytes w16 t.oid in
    let c : List ℕ = to_be_bytes w16 t.error in
    let d : List ℕ = to_be_bytes w16 (length t.other) in
    let e = length-append (a ++ t.mac ++ b ++ c ++ d) t.other in
    let f = length-append (a ++ t.mac ++ b ++ c) d in
    let g = length-append (a ++ t.mac ++ b) c in
    let h = length-append (a ++ t.mac) b in
    let i = length-append a t.mac in
    let j : length a ≡ 10 = refl in
    let k : length b ≡ 2 = refl in
    let l : length c ≡ 2 = refl in
    let m : length d ≡ 2 = refl in
    omega arith

-- the data of a reply to such a record
pub record IsData (t : TSIG) : Type 0 where
  pub labels : AreLabels t.algorithm.labels
  pub qualified : IsFullyQualified t.algorithm
  pub time : t.time < 2 ^ 48
  pub fudge : t.fudge < 2 ^ 16
  pub oid : t.oid < 2 ^ 16
  pub error : t.error < 2 ^ 16
  pub other : length t.other ≤ 6

pub writable : (name : DomainName) (t : TSIG) (mac : List ℕ) → AreLabels name.labels → IsFullyQualified name → IsData t → length mac ≤ 64 → IsWritable (record_of name (with_mac t mac))
writable name t mac labels qualified d short =
    let f = fields_len (with_mac t mac) in
    let alg = d.labels in
    let len = alg.short in
    record {
      labels = labels;
      algorithm = d.labels;
      formed = record { name = qualified; class = lit< tt; ttl = lit< tt; rdata = ((d.time, d.fudge, omega arith, d.oid, d.error, omega (arith, d.other)), d.qualified); proof = refl };
      small = omega (arith, d.other);
    }

-- ---- what a reply says

data_algorithm : (t : TSIG) (v : Verdict) (now id : ℕ) → (reply_data t v now id).algorithm ≡ t.algorithm
data_algorithm t Good now id = refl
data_algorithm t BadKey now id = refl
data_algorithm t BadSig now id = refl
data_algorithm t BadTime now id = refl
data_algorithm t BadTrunc now id = refl

data_id : (t : TSIG) (v : Verdict) (now id : ℕ) → (reply_data t v now id).oid ≡ id
data_id t Good now id = refl
data_id t BadKey now id = refl
data_id t BadSig now id = refl
data_id t BadTime now id = refl
data_id t BadTrunc now id = refl

time_small : (now : ℕ) → time_of now < 2 ^ 48
time_small now = omega arith

data_is : (t : TSIG) (v : Verdict) (now id : ℕ) → AreLabels t.algorithm.labels → IsFullyQualified t.algorithm → t.fudge < 2 ^ 16 → id < 2 ^ 16 → IsData (reply_data t v now id)
data_is t Good now id l q f i = record { labels = l; qualified = q; time = time_small now; fudge = lit< tt; oid = i; error = lit< tt; other = lit≤ tt }
data_is t BadKey now id l q f i = record { labels = l; qualified = q; time = time_small now; fudge = lit< tt; oid = i; error = lit< tt; other = lit≤ tt }
data_is t BadSig now id l q f i = record { labels = l; qualified = q; time = time_small now; fudge = lit< tt; oid = i; error = lit< tt; other = lit≤ tt }
data_is t BadTime now id l q f i = record { labels = l; qualified = q; time = time_small t.time; fudge = f; oid = i; error = lit< tt; other = lit≤ tt }
data_is t BadTrunc now id l q f i = record { labels = l; qualified = q; time = time_small now; fudge = lit< tt; oid = i; error = lit< tt; other = lit≤ tt }

answered_right : (keys : List Key) (s : Record TSIG) (v : Verdict) (message : List ℕ) (now : ℕ) → is_mac_right v ≡ true → answered keys s v message now ≡ signed_by (key_of keys s.name) s (reply_data s.rdata v now (id_of message)) message
answered_right keys s Good message now e = refl
answered_right keys s BadKey message now e = absurd cc
answered_right keys s BadSig message now e = absurd cc
answered_right keys s BadTime message now e = refl
answered_right keys s BadTrunc message now e = refl

-- ---- keys and MACs

found_named : (k key : Key) (ks : List Key) (name : DomainName) → (key_of ks name ≡ Some key → name_eq key.name name ≡ true) → (b : Bool) → name_eq k.name name ≡ b → cond b (Some k) (key_of ks name) ≡ Some key → name_eq key.name name ≡ true
found_named k key ks name later true h is = let same : k ≡ key = cc in subst (λ (q : Key). name_eq q.name name ≡ true) same h
found_named k key ks name later false h is = later is

-- a key that is found has the name
pub key_named : (keys : List Key) (name : DomainName) (key : Key) → key_of keys name ≡ Some key → name_eq key.name name ≡ true
key_named [] name key e = absurd cc
key_named (k ∷ ks) name key e = found_named k key ks name (λ h. key_named ks name key h) (name_eq k.name name) refl e

whole_len : (a : Algorithm) → is_mac_len a (mac_len a) ≡ true
whole_len HmacSha1 = refl
whole_len HmacSha256 = refl
whole_len HmacSha256_128 = refl
whole_len HmacSha384 = refl
whole_len HmacSha384_192 = refl
whole_len HmacSha512 = refl
whole_len HmacSha512_256 = refl

short_mac : (a : Algorithm) → mac_len a ≤ 64
short_mac HmacSha1 = lit≤ tt
short_mac HmacSha256 = lit≤ tt
short_mac HmacSha256_128 = lit≤ tt
short_mac HmacSha384 = lit≤ tt
short_mac HmacSha384_192 = lit≤ tt
short_mac HmacSha512 = lit≤ tt
short_mac HmacSha512_256 = lit≤ tt

own_name : (a : Algorithm) → is_named a (algorithm_name a) ≡ true
own_name HmacSha1 = refl
own_name HmacSha256 = refl
own_name HmacSha256_128 = refl
own_name HmacSha384 = refl
own_name HmacSha384_192 = refl
own_name HmacSha512 = refl
own_name HmacSha512_256 = refl

one_label : (label : List ℕ) → 0 < length label → length label < 64 → All IsLabel (label ∷ [])
one_label label some short = All-from_recursion IsLabel (label ∷ []) ((some, short), tt)

name_of_algorithm : (a : Algorithm) → AreLabels (algorithm_name a).labels
name_of_algorithm HmacSha1 = record { each = one_label (algorithm_label HmacSha1) (lit< tt) (lit< tt); short = lit≤ tt }
name_of_algorithm HmacSha256 = record { each = one_label (algorithm_label HmacSha256) (lit< tt) (lit< tt); short = lit≤ tt }
name_of_algorithm HmacSha256_128 = record { each = one_label (algorithm_label HmacSha256_128) (lit< tt) (lit< tt); short = lit≤ tt }
name_of_algorithm HmacSha384 = record { each = one_label (algorithm_label HmacSha384) (lit< tt) (lit< tt); short = lit≤ tt }
name_of_algorithm HmacSha384_192 = record { each = one_label (algorithm_label HmacSha384_192) (lit< tt) (lit< tt); short = lit≤ tt }
name_of_algorithm HmacSha512 = record { each = one_label (algorithm_label HmacSha512) (lit< tt) (lit< tt); short = lit≤ tt }
name_of_algorithm HmacSha512_256 = record { each = one_label (algorithm_label HmacSha512_256) (lit< tt) (lit< tt); short = lit≤ tt }

bytes_same : (xs : List ℕ) → bytes_eq xs xs ≡ true
bytes_same [] = refl
bytes_same (x ∷ xs) = λ i. eq-eqb x x refl i && bytes_same xs i

-- a MAC is its own
own_mac : (key : Key) (text : List ℕ) → is_mac_of key text (mac_of key.algorithm key.secret text) ≡ true
own_mac key text =
    let m : List ℕ = mac_of key.algorithm key.secret text in
    ap (λ (xs : List ℕ). bytes_eq xs m) (take-length m) ∙ bytes_same m

mac_is_whole : (key : Key) (text : List ℕ) → is_mac_len key.algorithm (length (mac_of key.algorithm key.secret text)) ≡ true
mac_is_whole key text = ap (is_mac_len key.algorithm) (mac_of-len key.algorithm key.secret text) ∙ whole_len key.algorithm

-- ---- messages

long : (message : List ℕ) → IsWholeMessage message → 12 ≤ length message
long message w = omega (arith, w.stands.stands.fits)

id_small : (message : List ℕ) → IsWholeMessage message → id_of message < 2 ^ 16
id_small message w =
    let counts = w.header.counts in
    let id : List ℕ = to_be_bytes w16 w.stands.id in
    let rest : List ℕ = (w.stands.one ∷ w.stands.two ∷ []) ++ to_be_bytes w16 counts.queries ++ to_be_bytes w16 counts.answers ++ to_be_bytes w16 counts.authorities ++ to_be_bytes w16 counts.additionals in
    let first = BytesAt-left message 0 id rest w.stands.stands in
    let is : id_of message ≡ w.stands.id = ap (from_be_bytes w16) (stands_take message 0 id first) ∙ from_be_bytes-to_be_bytes_2 w.stands.id w.stands.id_small in
    subst (λ (n : ℕ). n < 2 ^ 16) (sym is) w.stands.id_small

-- a record with a MAC behind a message
module _ (key : Key) (message : List ℕ) (name : DomainName) (t : TSIG) (mac : List ℕ) (a : AreBytes message) (w : IsWholeMessage message) (writes : IsWritable (record_of name (with_mac t mac))) where
  abbrev made : Record TSIG
  made = record_of name (with_mac t mac)

  carries : name_eq key.name name ≡ true → is_named key.algorithm t.algorithm ≡ true → is_mac_len key.algorithm (length mac) ≡ true
      → CarriesKey key (appended message made) (additionals_of message + 1) (length message) made
  carries named algorithm len = record { stands = appended_signed message made w (long message w) writes; fixed = refl; name = named; algorithm = algorithm; len = len }

  message_again : t.oid ≡ id_of message → message_in (appended message made) (additionals_of message + 1) (length message) made ≡ message
  message_again oid = subst (λ (n : ℕ). unsigned_message (appended message made) n (additionals_of message + 1) (length message) ≡ message) (sym oid) (appended_again message made a (long message w))

-- ---- replies

-- how a record that was judged was read
record Read (s : Record TSIG) : Type 0 where
  labels : AreLabels s.name.labels
  qualified : IsFullyQualified s.name
  algorithm : AreLabels s.rdata.algorithm.labels
  known : IsFullyQualified s.rdata.algorithm
  fudge : s.rdata.fudge < 2 ^ 16

read_of : (bytes : List ℕ) (place stop : ℕ) (s : Record TSIG) → RecordAt bytes place (tsig_record s) stop → Read s
read_of bytes place stop s at = record { labels = name_labels at.owner; qualified = at.name; algorithm = name_labels at.rdata.0.algorithm; known = at.rdata.1.1; fudge = at.rdata.1.0.1 }

reply_writes : (message : List ℕ) (s : Record TSIG) (v : Verdict) (now : ℕ) (mac : List ℕ) → IsWholeMessage message → Read s → length mac ≤ 64 → IsWritable (record_of s.name (with_mac (reply_data s.rdata v now (id_of message)) mac))
reply_writes message s v now mac w r short =
    writable s.name (reply_data s.rdata v now (id_of message)) mac r.labels r.qualified (data_is s.rdata v now (id_of message) r.algorithm r.known r.fudge (id_small message w)) short

-- A reply to a request whose MAC is right is signed by its key, and verifies.
pub reply_verifies : (keys : List Key) (request message : List ℕ) (now later : ℕ) (s : Record TSIG) (v : Verdict) → AreBytes message → IsWholeMessage message → Judged keys request now (Signed s v) → is_mac_right v ≡ true
    → (key : Key) × HasKey keys s key × (reply : Reply) × (reply_of keys (Signed s v) message later ≡ Some reply) × Verifies key s.rdata.mac reply.bytes
reply_verifies keys request message now later s v a w judged right =
    let p = parts keys request now (Signed s v) judged s v refl in
    let k = authentic keys request now p.additionals p.place s (Signed s v) p.by v refl right in
    let key : Key = k.0 in
    let has = k.1.has.known in
    let t : TSIG = reply_data s.rdata v later (id_of message) in
    let algorithm : DomainName = algorithm_name key.algorithm in
    let text : List ℕ = reply_digest s.rdata.mac key.name algorithm t message in
    let mac : List ℕ = mac_of key.algorithm key.secret text in
    let short : length mac ≤ 64 = let e = mac_of-len key.algorithm key.secret text in let b = short_mac key.algorithm in omega arith in
    let writes = reply_writes message s v later mac w (read_of request p.place p.stop s p.stands.stands) short in
    let named : is_named key.algorithm t.algorithm ≡ true = ap (is_named key.algorithm) (data_algorithm s.rdata v later (id_of message)) ∙ has.algorithm in
    let again = message_again key message s.name t mac a w writes (data_id s.rdata v later (id_of message)) in
    let reply : Reply = record { bytes = appended message (record_of s.name (with_mac t mac)); mac = mac } in (
      key,
      has,
      reply,
      answered_right keys s v message later right ∙ ap (λ (o : Option Key). signed_by o s t message) has.found,
      record {
        additionals = additionals_of message + 1;
        place = length message;
        signature = record_of s.name (with_mac t mac);
        carries = carries key message s.name t mac a w writes (key_named keys s.name key has.found) named (mac_is_whole key text);
        mac = subst (λ (m : List ℕ). is_mac_of key (reply_digest s.rdata.mac key.name algorithm t m) mac ≡ true) (sym again) (own_mac key text);
      },
    )

-- A further message of a transfer is signed by the key, and verifies behind the message before.
pub next_verifies : (keys : List Key) (request message prior : List ℕ) (now later : ℕ) (s : Record TSIG) → AreBytes message → IsWholeMessage message → Judged keys request now (Signed s Good)
    → (key : Key) × HasKey keys s key × (reply : Reply) × (next_of keys (Signed s Good) prior message later ≡ Some reply) × VerifiesNext key prior reply.bytes
next_verifies keys request message prior now later s a w judged =
    let p = parts keys request now (Signed s Good) judged s Good refl in
    let k = authentic keys request now p.additionals p.place s (Signed s Good) p.by Good refl refl in
    let key : Key = k.0 in
    let has = k.1.has.known in
    let t : TSIG = reply_data s.rdata Good later (id_of message) in
    let text : List ℕ = next_digest prior t message in
    let mac : List ℕ = mac_of key.algorithm key.secret text in
    let short : length mac ≤ 64 = let e = mac_of-len key.algorithm key.secret text in let b = short_mac key.algorithm in omega arith in
    let writes = reply_writes message s Good later mac w (read_of request p.place p.stop s p.stands.stands) short in
    let again = message_again key message s.name t mac a w writes refl in
    let reply : Reply = record { bytes = appended message (record_of s.name (with_mac t mac)); mac = mac } in (
      key,
      has,
      reply,
      ap (λ (o : Option Key). next_by o s prior t message) has.found,
      record {
        additionals = additionals_of message + 1;
        place = length message;
        signature = record_of s.name (with_mac t mac);
        carries = carries key message s.name t mac a w writes (key_named keys s.name key has.found) has.algorithm (mac_is_whole key text);
        mac = subst (λ (m : List ℕ). is_mac_of key (next_digest prior t m) mac ≡ true) (sym again) (own_mac key text);
      },
    )

some_mac : (r q : Reply) → some_reply r ≡ some_reply q → q.mac ≡ r.mac
some_mac r q e = let same : r ≡ q = cc in ap (λ (x : Reply). x.mac) (sym same)

-- A reply for a wrong key or MAC has none.
pub wrong_has_none : (keys : List Key) (s : Record TSIG) (v : Verdict) (message : List ℕ) (now : ℕ) (reply : Reply) → is_mac_right v ≡ false → reply_of keys (Signed s v) message now ≡ Some reply → reply.mac ≡ []
wrong_has_none keys s BadKey message now reply e is = some_mac (without_mac s (reply_data s.rdata BadKey now (id_of message)) message) reply is
wrong_has_none keys s BadSig message now reply e is = some_mac (without_mac s (reply_data s.rdata BadSig now (id_of message)) message) reply is
wrong_has_none keys s Good message now reply e is = absurd cc
wrong_has_none keys s BadTime message now reply e is = absurd cc
wrong_has_none keys s BadTrunc message now reply e is = absurd cc

-- ---- requests

in_time : (time fudge now : ℕ) → time ≤ now + fudge → now ≤ time + fudge → (leb time (now + fudge) && leb now (time + fudge)) ≡ true
in_time time fudge now early late = λ i. le-leb time (now + fudge) early i && le-leb now (time + fudge) late i

-- A request that a client signs by a key is judged good by those that have the key, within the fudge.
pub request_is_good : (keys : List Key) (key : Key) (message : List ℕ) (time fudge now : ℕ) → AreBytes message → IsWholeMessage message → IsKey key → key_of keys key.name ≡ Some key
    → time < 2 ^ 48 → fudge < 2 ^ 16 → time ≤ now + fudge → now ≤ time + fudge → key.shortest ≤ mac_len key.algorithm
    → Judged keys (signed_request key time fudge message) now (Signed (request_record key time fudge message) Good)
request_is_good keys key message time fudge now a w is found t48 f16 early late shortest =
    let t : TSIG = request_data key time fudge message in
    let text : List ℕ = request_digest key.name (algorithm_name key.algorithm) t message in
    let mac : List ℕ = mac_of key.algorithm key.secret text in
    let e = mac_of-len key.algorithm key.secret text in
    let short : length mac ≤ 64 = let b = short_mac key.algorithm in omega arith in
    let d : IsData t = record { labels = name_of_algorithm key.algorithm; qualified = refl; time = t48; fudge = f16; oid = id_small message w; error = lit< tt; other = lit≤ tt } in
    let writes = writable key.name t mac is.labels is.qualified d short in
    let again = message_again key message key.name t mac a w writes refl in
    let made : Record TSIG = record_of key.name (with_mac t mac) in
    let bytes : List ℕ = appended message made in
    let stands = appended_signed message made w (long message w) writes in
    let has : HasMac keys made key = record { known = record { fixed = refl; found = found; algorithm = own_name key.algorithm }; len = mac_is_whole key text } in
    let right : IsAuthentic keys bytes (additionals_of message + 1) (length message) made key =
    record { has = has; mac = subst (λ (m : List ℕ). is_mac_of key (request_digest key.name (algorithm_name key.algorithm) t m) mac ≡ true) (sym again) (own_mac key text) } in
    signed (additionals_of message + 1) (length message) (length bytes) made (Signed made Good) stands
    (good key right (in_time time fudge now early late) (le-ltb (length mac) key.shortest (omega arith)))
