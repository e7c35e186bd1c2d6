-- What is replied of what was found alone.
use Rattle.std.proofs.Common.{◌≡◌, ◌==◌, ℕ, Bool, true, false, not, ◌||◌, [], ◌∷◌, Option, Some, None, refl, sym, ap, subst, ◌∙◌}
use Rattle.std.specs.Prelude.{is_some}
use Rattle.std.specs.List.{AllByRecursion}
use Rattle.std.proofs.lemmas.List.{append-nil}
use Rattle.wire_names.specs.rr.domain.DomainName.{DomainName}
use Rattle.wire_messages.specs.Numbers.{code_no_error, code_nx_domain, type_mx, type_ns}
use Rattle.wire_messages.specs.declared.rr.rdata.RData.{RData}
use Rattle.wire_messages.specs.declared.rr.rdata.RData.TheVariants as rdata
use Rattle.wire_messages.specs.declared.rr.record.Record.{Record}
use Rattle.hickory_base.specs.declared.zone_store.lookup.WholeReply.{WholeReply}
use Rattle.zone_answers.specs.declared.additionals.Source.TheVariants as source
use Rattle.zone_answers.specs.Additionals.{AreAdditionals, host_in, is_hostless, name_from, no_host, no_record, record_by, target_start}
use Rattle.zone_answers.specs.Endings as ended
use Rattle.zone_replies.specs.representation.ReplyAtOnce.{IsReplyAtOnce}
use Rattle.zone_replies.specs.Replies.{denial_soa, whole}
use Rattle.zone_answers.specs.Zones.{Records, Zone, answer, no_data, no_name}

last_false : (a b c : Bool) → not (a || (b || c)) ≡ true → c ≡ false
last_false true b c h = absurd cc
last_false false true c h = absurd cc
last_false false false true h = absurd cc
last_false false false false h = refl

none_of : (o : Option ℕ) → is_some o ≡ false → o ≡ None
none_of None h = refl
none_of (Some n) h = absurd cc

none_in : (content : RData) → is_hostless content ≡ true → host_in content ≡ None
none_in (rdata.A address) h = refl
none_in (rdata.AAAA address) h = refl
none_in (rdata.NS name) h = absurd cc
none_in (rdata.CNAME name) h = refl
none_in (rdata.PTR name) h = refl
none_in (rdata.MX mx) h = absurd cc
none_in (rdata.SOA soa) h = refl
none_in (rdata.TXT strings) h = refl
none_in (rdata.OPT options) h = refl
none_in (rdata.TSIG tsig) h = refl
none_in (rdata.NULL bytes) h = refl
none_in (rdata.Update0 t) h = refl
none_in (rdata.Unknown t bytes) h = ap (λ start. name_from start bytes) (none_of (target_start t) (last_false (t == type_ns) (t == type_mx) (is_some (target_start t)) h))

nothing_added : (zone : Zone) (present rs : Records) → AllByRecursion (λ (q : Record RData). is_hostless q.rdata ≡ true) rs → AreAdditionals source.Answer zone present rs []
nothing_added zone present [] h = no_record
nothing_added zone present (r ∷ rs) h =
    record_by {gained = []} {rest = []} (no_host (none_in r.rdata h.0)) (subst (λ (q : Records). AreAdditionals source.Answer zone q rs []) (sym (append-nil present)) (nothing_added zone present rs h.1))

module _ (zone : Zone) (t : ℕ) (name : DomainName) (reply : WholeReply) where
  pub of_records : (rs : Records) → AllByRecursion (λ (q : Record RData). is_hostless q.rdata ≡ true) rs → reply ≡ whole code_no_error true rs [] [] → IsReplyAtOnce zone t name (answer rs) reply
  of_records rs h is = record {
    chain = rs;
    ending = ended.answer;
    steps = refl;
    ends_in = record { additionals = []; completed = nothing_added zone rs rs h; is = is };
  }

  pub of_no_data : (soa : Records) → soa ≡ denial_soa zone → reply ≡ whole code_no_error true [] soa [] → IsReplyAtOnce zone t name no_data reply
  of_no_data soa own is = record { chain = []; ending = ended.no_data; steps = refl; ends_in = record { additionals = []; completed = refl; is = is ∙ ap (λ (rs : Records). whole code_no_error true [] rs []) own } }

  pub of_no_name : (soa : Records) → soa ≡ denial_soa zone → reply ≡ whole code_nx_domain true [] soa [] → IsReplyAtOnce zone t name no_name reply
  of_no_name soa own is = record { chain = []; ending = ended.no_name; steps = refl; ends_in = record { additionals = []; completed = refl; is = is ∙ ap (λ (rs : Records). whole code_nx_domain true [] rs []) own } }
