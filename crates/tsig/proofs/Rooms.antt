-- A reply grows by the room that is told of it.
use Rattle.std.proofs.Common.{◌≡◌, ℕ, ◌+◌, List, [], length, Option, Some, None, refl, sym, ap, ◌∙◌, arith}
use Rattle.wire_names.specs.rr.domain.DomainName.{DomainName, name_len}
use Rattle.wire_messages.specs.serialize.layout.MessageLayout.{tsig_record}
use Rattle.wire_messages.specs.serialize.writing.FullForm.{record_octets}
use Rattle.wire_messages.specs.declared.rr.record.Record.{Record}
use Rattle.wire_messages.specs.declared.rr.tsig.TSIG.{TSIG}
use Rattle.wire_writing.proofs.lemmas.serialize.writing.FullForms.{record_octets-len}
use Rattle.tsig.specs.Hmac.{mac_len}
use Rattle.tsig.specs.Keys.{key_of}
use Rattle.tsig.specs.Signing.{HasRoom, Reply, answered, appended, id_of, mac_room, next_by, next_mac, next_of, plain, record_of, reply_data, reply_mac, reply_of, room_of, signed_by, with_code, with_mac, without_mac}
use Rattle.tsig.specs.declared.judgement.Judgement.{Judgement}
use Rattle.tsig.specs.declared.judgement.Judgement.TheVariants.{Unsigned, FormErr, Signed}
use Rattle.tsig.specs.declared.judgement.Verdict.{Verdict}
use Rattle.tsig.specs.declared.judgement.Verdict.TheVariants.{Good, BadKey, BadSig, BadTime, BadTrunc}
use Rattle.tsig.specs.declared.keys.Key.{Key}
use Rattle.tsig.proofs.Appending.{new_len}
use Rattle.tsig.proofs.HashLengths.{mac_of-len}
use Rattle.tsig.proofs.Replies.{fields_len}

abbrev some_reply : Reply → Option Reply
some_reply r = Some r

some_len : (r q : Reply) (n : ℕ) → some_reply r ≡ some_reply q → length r.bytes ≡ n → length q.bytes ≡ n
some_len r q n e is = let same : r ≡ q = cc in sym (ap (λ (x : Reply). length x.bytes) same) ∙ is

-- a message with such a record
with_record : (message : List ℕ) (name : DomainName) (t : TSIG) (mac : List ℕ) → HasRoom message
    → length (appended message (record_of name (with_mac t mac))) ≡ length message + (name_len name.labels + 10 + (name_len t.algorithm.labels + 16) + (length mac + length t.other))
with_record message name t mac room =
    let r : Record TSIG = record_of name (with_mac t mac) in
    let e = new_len message (record_octets (tsig_record r)) room.header in
    let f = record_octets-len (tsig_record r) in
    let g = fields_len (with_mac t mac) in
    omega arith

data_room : (t : TSIG) (v : Verdict) (now id : ℕ) → name_len (reply_data t v now id).algorithm.labels ≡ name_len t.algorithm.labels
data_room t Good now id = refl
data_room t BadKey now id = refl
data_room t BadSig now id = refl
data_room t BadTime now id = refl
data_room t BadTrunc now id = refl

-- with the MAC of the key that is found
signed_room : (o : Option Key) (s : Record TSIG) (t : TSIG) (message : List ℕ) (reply : Reply) → HasRoom message → signed_by o s t message ≡ Some reply
    → length reply.bytes ≡ length message + (name_len s.name.labels + 10 + (name_len t.algorithm.labels + 16) + (mac_room o + length t.other))
signed_room None s t message reply room e = absurd cc
signed_room (Some key) s t message reply room e =
    let mac : List ℕ = reply_mac key s t message in
    let len : length mac ≡ mac_len key.algorithm = mac_of-len key.algorithm key.secret _ in
    some_len (with_code s t mac message) reply _ e
    (with_record message s.name t mac room ∙ ap (λ (n : ℕ). length message + (name_len s.name.labels + 10 + (name_len t.algorithm.labels + 16) + (n + length t.other))) len)

next_room : (o : Option Key) (s : Record TSIG) (prior : List ℕ) (t : TSIG) (message : List ℕ) (reply : Reply) → HasRoom message → next_by o s prior t message ≡ Some reply
    → length reply.bytes ≡ length message + (name_len s.name.labels + 10 + (name_len t.algorithm.labels + 16) + (mac_room o + length t.other))
next_room None s prior t message reply room e = absurd cc
next_room (Some key) s prior t message reply room e =
    let mac : List ℕ = next_mac key prior t message in
    let len : length mac ≡ mac_len key.algorithm = mac_of-len key.algorithm key.secret _ in
    some_len (with_code s t mac message) reply _ e
    (with_record message s.name t mac room ∙ ap (λ (n : ℕ). length message + (name_len s.name.labels + 10 + (name_len t.algorithm.labels + 16) + (n + length t.other))) len)

answered_room : (keys : List Key) (s : Record TSIG) (v : Verdict) (message : List ℕ) (now : ℕ) (reply : Reply) → HasRoom message → answered keys s v message now ≡ Some reply
    → length reply.bytes ≡ length message + room_of keys (Signed s v)
answered_room keys s Good message now reply room e = let r = signed_room (key_of keys s.name) s (reply_data s.rdata Good now (id_of message)) message reply room e in omega arith
answered_room keys s BadKey message now reply room e =
    let t : TSIG = reply_data s.rdata BadKey now (id_of message) in
    let r = some_len (without_mac s t message) reply _ e (with_record message s.name t [] room) in omega arith
answered_room keys s BadSig message now reply room e =
    let t : TSIG = reply_data s.rdata BadSig now (id_of message) in
    let r = some_len (without_mac s t message) reply _ e (with_record message s.name t [] room) in omega arith
answered_room keys s BadTime message now reply room e = let r = signed_room (key_of keys s.name) s (reply_data s.rdata BadTime now (id_of message)) message reply room e in omega arith
answered_room keys s BadTrunc message now reply room e = let r = signed_room (key_of keys s.name) s (reply_data s.rdata BadTrunc now (id_of message)) message reply room e in omega arith

-- A reply is longer than its message by its room.
pub reply_room : (keys : List Key) (j : Judgement) (message : List ℕ) (now : ℕ) (reply : Reply) → HasRoom message → reply_of keys j message now ≡ Some reply → length reply.bytes ≡ length message + room_of keys j
reply_room keys Unsigned message now reply room e = some_len (plain message) reply _ e (omega arith)
reply_room keys FormErr message now reply room e = some_len (plain message) reply _ e (omega arith)
reply_room keys (Signed s v) message now reply room e = answered_room keys s v message now reply room e

-- A further message of a transfer to a good request is, too.
pub next_reply_room : (keys : List Key) (s : Record TSIG) (prior message : List ℕ) (now : ℕ) (reply : Reply) → HasRoom message → next_of keys (Signed s Good) prior message now ≡ Some reply
    → length reply.bytes ≡ length message + room_of keys (Signed s Good)
next_reply_room keys s prior message now reply room e = let r = next_room (key_of keys s.name) s prior (reply_data s.rdata Good now (id_of message)) message reply room e in omega arith
