-- The whole reply to the one question of a zone whose owner names are all in it.
use Rattle.std.proofs.Common.{◌≡◌, Result, Ok, inl, refl, subst, sym, rules}
use Rattle.std.specs.Prelude.{IsTrue}
use Rattle.wire_messages.specs.declared.op.query.Query.{Query}
use Rattle.hickory_base.specs.requests.Questions.{one_query}
use Rattle.hickory_base.specs.zone_store.Lookups.{whole_answer}
use Rattle.hickory_base.specs.zone_store.ZoneAnswers.{MemoryZone}
use Rattle.hickory_base.specs.declared.errors.LookupError.{LookupError}
use Rattle.hickory_base.specs.declared.zone_store.lookup.AuthLookup.TheVariants as lookup
use Rattle.hickory_base.specs.declared.zone_store.lookup.WholeReply.{WholeReply}
use Rattle.zone_replies.specs.Handled.{in_whole}
use Rattle.zone_replies.specs.Replies.{RepliesTo, as_zone}
use Rattle.zone_answers.specs.Zones.{AreOwners}
use Rattle.zones.specs.ZoneQueries.{SearchedFor}
use Rattle.zones.specs.ZoneQueries.IsAnswered.{replied}
use Rattle.zones.proofs.overview.Overview.search_whole.Goals as goal

replied_whole : (zone : MemoryZone) (asked : Result Query LookupError) (query : Query) (reply : WholeReply)
    → AreOwners zone.origin zone.sets → asked ≡ Ok query → RepliesTo (as_zone zone) query reply → SearchedFor zone asked (whole_answer reply)
replied_whole zone asked query reply owners is told =
    subst (λ (q : Result Query LookupError). SearchedFor zone q (whole_answer reply)) (sym is) (Ok (lookup.Whole reply), inl (replied owners (in_whole told)), refl)

pub returns : goal.returns
returns c = λ put.
    let owned : IsTrue c.args.self.now.is_owned = search rules in
    replied_whole c.args.zone.now (one_query c.args.request.now.message.queries.queries) c.in-Ok.info.query.now c.put_whole.new.reply (c.requires.owned.0 owned) c.in-Ok.ensures.query (c.put_whole.ensures put)
