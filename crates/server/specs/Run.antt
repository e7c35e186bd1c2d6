-- One law from the bytes of zone files, journals and messages to the bytes that leave. It is of queries of names that no
-- list blocks.
use Rattle.std.specs.Prelude.{◌≡◌, ◌++◌, ◌∷◌, [], ℕ, Bool, Contains, List, None, Option, Some, Result, Ok, Err, cond, false, option_map, slice_get, true}
use Rattle.std.proofs.Common.{inl, inr, refl}
use Rattle.std.specs.List.{AllZip}
use Rattle.std.specs.declared.net.SocketAddr.{SocketAddr}
use Rattle.wire_names.specs.rr.domain.DomainName.{DomainName}
use Rattle.wire_names.specs.rr.domain.NameOrder.{lower_name, name_eq}
use Rattle.wire_messages.specs.Numbers.{code_refused, code_serv_fail}
use Rattle.wire_messages.specs.declared.op.query.Query.{Query}
use Rattle.wire_messages.specs.declared.protocol.Protocol.TheVariants.{Tcp}
use Rattle.hickory_base.specs.requests.Requests.{ReceivedRequest, TimedRequest}
use Rattle.hickory_base.specs.zone_store.Lookups.{SignerContext}
use Rattle.hickory_base.specs.zone_store.ZoneAnswers.{MemoryZone}
use Rattle.hickory_base.specs.declared.zone_store.handler.ZoneHandler.{Ghosts}
use Rattle.hickory_catalog.specs.replies.Replies.{Contents, error_contents}
use Rattle.hickory_catalog.specs.replies.Signing.{Signer}
use Rattle.hickory_catalog.specs.zones.Find.{Finds}
use Rattle.hickory_catalog.specs.zones.Zones.{ChangesAt, ZoneChains}
use Rattle.hickory_server.specs.server.Above.{FindsAbove}
use Rattle.hickory_server.specs.server.ServedBy.{Arrival, IsMessageOf, arrival}
use Rattle.hickory_server.specs.server.ServedLaws.{IsFor}
use Rattle.hickory_server.specs.server.Serving.{IsRequestOf}
use Rattle.hickory_server.specs.zone_handler.ZoneReplies.{SaysTheReply}
use Rattle.hickory_server.specs.declared.server.answer.Answer.{Answer}
use Rattle.hickory_server.specs.declared.server.serve.Incoming.{Incoming}
use Rattle.hickory_server.specs.declared.server.serve.ServeError.{ServeError}
use Rattle.served_keys.specs.ServedKeys.{AreKeysOfFile}
use Rattle.served_zones.specs.Given.{updated}
use Rattle.served_zones.specs.Grants.{IsGrantOf, rules_for}
use Rattle.served_zones.specs.Holding.{AllBegin, AllSettle}
use Rattle.served_zones.specs.ServedQueries.{IsPlainQuery, IsSaidByZone, IsSentAlone, LetsPass}
use Rattle.served_zones.specs.TakenUpdates.{Taken, taken_in, taken_without_reply}
use Rattle.served_zones.specs.ServedZones.{IsApexText, IsLoadedAs, IsZoneOfFile, ServedHandler, loaded}
use Rattle.served_zones.specs.declared.grants.Grant.{Grant}
use Rattle.signed_server.specs.KeyedServers.{KeyedServer, keyed_of}
use Rattle.hickory_catalog.specs.requests.Server.{server_of}
use Rattle.signed_server.specs.ServedWithKeys.{LeavesWithKeys, ServedWithKeys}
use Rattle.signed_server.specs.ServedWithKeys.ServedWithKeys.{good, plain, unjudged}
use Rattle.signed_server.specs.declared.placeholders.LeftToServer.{LeftToServer}
use Rattle.tsig.specs.Judging.{Judged}
use Rattle.tsig.specs.declared.judgement.Judgement.{Judgement}
use Rattle.tsig.specs.declared.judgement.Judgement.TheVariants.{Unsigned}
use Rattle.tsig.specs.declared.keys.Key.{Key}
use Rattle.tsig.specs.declared.verifier.TsigVerifier.{TsigVerifier}
use Rattle.update_policy.specs.declared.policy.Rule.{Rule}
use Rattle.hickory_store.specs.blocklist.BlockAnswers.{Blocklist}
use Rattle.hickory_store.specs.declared.updates.verifier.Verifier.{Ghosts as Verifies}
use Rattle.name_lists.specs.Counts.{Counts}
use Rattle.zones.specs.Journals.{IsOpened}
use Rattle.zones.specs.Owners.{IsOfItsBytes}
use Rattle.zones.specs.ZoneStates.{ZoneState}
use Rattle.zones.specs.ZoneUpdates.{Updates}
use Rattle.journal.specs.host_file.FileState.{of_bytes}
use Rattle.server.specs.Frames.{AreFrames}
use Rattle.server.specs.Journals.{StaysUnopened, host_disks}
use Rattle.server.specs.Journals as journals
use Rattle.server.specs.Lists.{IsListOfText}
use Rattle.server.specs.Serving.{Stays}
use Rattle.server.specs.Settings.{IsUnset, rules_of, with_keys, with_zones, zones_of}
use Rattle.server.specs.Updates.{AreServed}
use Rattle.server.specs.declared.service.Service.{Service}

-- a setting that a server took, or a message with what became of it
pub data Event : Type 0 where
  -- a zone: the text of its name, the bytes of its file, and the apex
  zone_added : (name file : List ℕ) (apex : DomainName) → Event
  -- a zone whose file is not taken: the text of its name, and the apex
  zone_failed : (name : List ℕ) (apex : DomainName) → Event
  -- the list of blocked names of a text, for the zones that are added after it
  list_set : (text : List ℕ) → Event
  -- a rule of the updates of a zone, by the texts of both; and that the zones get their rules
  rule_added : (zone rule : List ℕ) → Event
  rules_given : Event
  -- the keys of a file's bytes
  keys_set : (file : List ℕ) → Event
  -- a journal is opened, or is not taken: the text of its zone's name, and the bytes of its two files
  journal_opened : (name first second : List ℕ) → Event
  journal_failed : (name first second : List ℕ) → Event
  -- from now on zones hold updates until the end of a batch; and that end
  batch_begun : Event
  batch_ended : Event
  -- the zone of the journal of this number takes no updates from now on
  updates_stopped : (journal : ℕ) → Event
  -- what changes no zone, key, rule or list of blocked names: any other setting, or that replies which wait are taken
  other_set : Event
  message_came : (message : Incoming) (outcome : Result Answer ServeError) → Event

-- the apexes of the zones that a server was given, each with the bytes of its file, or with none if it was not taken
abbrev pub files_of : List Event → List (DomainName × Option (List ℕ))
files_of [] = []
files_of (zone_added name file apex ∷ events) = (apex, Some file) ∷ files_of events
files_of (zone_failed name apex ∷ events) = (apex, None) ∷ files_of events
files_of (other ∷ events) = files_of events

-- the texts of the lists of blocked names that it was given
abbrev pub texts_of : List Event → List (List ℕ)
texts_of [] = []
texts_of (list_set text ∷ events) = text ∷ texts_of events
texts_of (other ∷ events) = texts_of events

-- The list is that of one of these texts.
abbrev pub IsOfTexts : List (List ℕ) → Blocklist → Type 0
IsOfTexts texts list = (text : List ℕ) × Contains texts text × (counts : Counts) × IsListOfText text counts (Some list)

-- None of their lists blocks the name of the question.
abbrev pub AllLetPass : List (List ℕ) → Query → Type 0
AllLetPass texts question = (list : Blocklist) → IsOfTexts texts list → LetsPass question list

-- a message as it came
abbrev pub arrived : Incoming → Arrival
arrived message = arrival message.bytes.items message.src message.protocol message.now

abbrev pub itself : (message : Incoming) → IsMessageOf message.bytes.items message.src message.protocol message.now message
itself message = record { bytes_are = refl; source_is = refl; protocol_is = refl; now_is = refl }

-- what a loaded zone gets: the keys and the rules of its updates; the journal of these two files, from now on; an update
-- that it answers `Ok`; or that it takes no updates any more
pub data Change : Type 0 where
  rules_got : (keys : List Key) (rules : List Rule) → Change
  journal_read : (first second : List ℕ) → Change
  update_taken : (request : TimedRequest) → Change
  stopped : Change

-- the updates among changes
abbrev pub updates_in : List Change → List TimedRequest
updates_in [] = []
updates_in (rules_got keys rules ∷ changes) = updates_in changes
updates_in (journal_read first second ∷ changes) = updates_in changes
updates_in (update_taken request ∷ changes) = request ∷ updates_in changes
updates_in (stopped ∷ changes) = updates_in changes

-- whether a journal is among them
abbrev pub has_journal : List Change → Bool
has_journal [] = false
has_journal (journal_read first second ∷ changes) = true
has_journal (other ∷ changes) = has_journal changes

-- these changes of a zone, and before them the keys and rules that it gets, if there are rules for it
abbrev pub with_rules_for : List Key → List Rule → List Change → List Change
with_rules_for keys [] changes = changes
with_rules_for keys (rule ∷ others) changes = rules_got keys (rule ∷ others) ∷ changes

-- these changes of a zone, and before them the update that was taken, if it is of that zone, in any letter case
abbrev pub with_taken : Taken → DomainName → List Change → List Change
with_taken None apex changes = changes
with_taken (Some made) apex changes = cond (name_eq made.0 apex) (update_taken made.1 ∷ changes) changes

-- these changes of a zone, and before them what is left of its journal that is not taken: the zone is as before; or, if
-- the journal could only not be compacted, it is as the journal says, and was stopped
abbrev pub with_failed : (name first second : List ℕ) (old new : ZoneChains ServedHandler) → StaysUnopened name first second old new → DomainName → List Change → List Change
with_failed name first second old new (inl same) apex changes = changes
with_failed name first second old new (inr (opened, _, _)) apex changes = cond (name_eq opened apex) (stopped ∷ journal_read first second ∷ changes) changes

-- these changes of a zone, and before them that the zone of this name, if there is one, was stopped
abbrev pub with_stop : Option DomainName → DomainName → List Change → List Change
with_stop None apex changes = changes
with_stop (Some name) apex changes = cond (name_eq name apex) (stopped ∷ changes) changes

-- The zones, the keys and rules of their updates, and the list of blocked names are as before.
pub record AreKept (old new : Service) : Type 0 where
  pub zones : zones_of new ≡ zones_of old
  pub apexes : new.apexes ≡ old.apexes
  pub keys : new.answering.server.keys ≡ old.answering.server.keys
  pub grants : new.grants ≡ old.grants
  pub list : new.list ≡ old.list

-- Nothing of the server changes for a message but its zones, the replies that wait, what is logged and counted, and
-- how many replies clients got.
pub record IsAsBefore (old new : Service) : Type 0 where
  pub stays : Stays old.answering.server new.answering.server
  pub others : new ≡ record old { answering = new.answering; counters = new.counters; limits = new.limits }

-- The zone of a file's bytes after these changes, the last one first. Each update is of the bytes that it was read
-- from, and was answered `Ok` (RFC 2136) by the keys and rules that the zone had got before it. A journal makes the zone
-- of what it was before. Whether updates wait to be written to a journal changes nothing else.
pub data IsZoneAfter (by : Verifies TsigVerifier) (file : List ℕ) (apex : DomainName) : List Change → ZoneState TsigVerifier → Type 0 where
  loads : {zone : MemoryZone} → IsZoneOfFile file apex zone → IsZoneAfter by file apex [] (loaded zone)
  gets_rules : {changes : List Change} {zone : ZoneState TsigVerifier} {keys : List Key} {rules : List Rule} → IsZoneAfter by file apex changes zone
      → IsZoneAfter by file apex (rules_got keys rules ∷ changes) (updated keys rules zone)
  takes_update : {changes : List Change} {request : TimedRequest} {old new : ZoneState TsigVerifier} {changed : Bool} {context : SignerContext} → IsZoneAfter by file apex changes old
      → IsOfItsBytes request.0 → Updates by old request (Ok changed) context new → IsZoneAfter by file apex (update_taken request ∷ changes) new
  opens_journal : {changes : List Change} {first second : List ℕ} {old new : ZoneState TsigVerifier} → IsZoneAfter by file apex changes old
      → IsOpened host_disks (of_bytes 0 first) (of_bytes 1 second) old new → IsZoneAfter by file apex (journal_read first second ∷ changes) new
  waits : {changes : List Change} {zone : ZoneState TsigVerifier} {holds : Bool} → IsZoneAfter by file apex changes zone → IsZoneAfter by file apex changes (record zone { holds = holds })
  stops : {changes : List Change} {zone : ZoneState TsigVerifier} → IsZoneAfter by file apex changes zone → IsZoneAfter by file apex (stopped ∷ changes) (record zone { policy = [] })

module _ (handler : Ghosts ServedHandler) (signature_for : LeftToServer → Signer) where
  abbrev pub keyed : Service → KeyedServer ServedHandler
  keyed service = keyed_of handler signature_for service.answering.server

  -- What becomes of a message, and the zones after it.
  abbrev pub Answers : Service → Incoming → Result Answer ServeError → ZoneChains ServedHandler → Type 0
  Answers service message (Ok answer) zones = ServedWithKeys (keyed service) (arrived message) answer zones
  Answers service message (Err e) zones = LeavesWithKeys (keyed service) (arrived message) e zones

  -- the update that was taken in a message, with the name of its zone; or none
  abbrev pub taken_by_answer : (service : Service) (message : Incoming) (answer : Answer) (zones : ZoneChains ServedHandler) → ServedWithKeys (keyed service) (arrived message) answer zones → Taken
  taken_by_answer service message answer zones (unjudged _ served) = taken_in (served message (itself message))
  taken_by_answer service message answer zones (plain _ _ _ served) = taken_in (served message (itself message))
  taken_by_answer service message answer zones (good _ _ _ _ _ served _) = taken_in (served message (itself message))
  taken_by_answer service message answer zones other = None

  abbrev pub taken_by_error : (service : Service) (message : Incoming) (e : ServeError) (zones : ZoneChains ServedHandler) → LeavesWithKeys (keyed service) (arrived message) e zones → Taken
  taken_by_error service message e zones (inl _) = None
  taken_by_error service message e zones (inr (inl left)) =
      taken_without_reply (rules_of service).access (server_of handler signature_for service.answering.server.server.catalog) message zones e (left message (itself message))
  taken_by_error service message e zones (inr (inr (_, _, _, _, _, _, _, served))) = taken_in (served message (itself message))

  abbrev pub taken : (service : Service) (message : Incoming) (outcome : Result Answer ServeError) (zones : ZoneChains ServedHandler) → Answers service message outcome zones → Taken
  taken service message (Ok answer) zones answers = taken_by_answer service message answer zones answers
  taken service message (Err e) zones left = taken_by_error service message e zones left

  -- What a server is after a setting that it took, or after a message: what the clause of that call says.
  abbrev pub Happens : Event → Service → Service → Type 0
  Happens (zone_added name file apex) old new = IsLoadedAs (IsZoneOfFile file) name (option_map (λ it. it.value) old.list) apex (zones_of old) (zones_of new)
      × (new.apexes.items ≡ old.apexes.items ++ apex ∷ []) × (new ≡ with_zones (record old { apexes = new.apexes }) (zones_of new))
  Happens (zone_failed name apex) old new = IsApexText name apex × ChangesAt (zones_of old) (lower_name apex) None (Some []) (zones_of new)
      × (new.apexes.items ≡ old.apexes.items ++ apex ∷ []) × (new ≡ with_zones (record old { apexes = new.apexes }) (zones_of new))
  Happens (list_set text) old new = ((counts : Counts) × IsListOfText text counts (option_map (λ it. it.value) new.list)) × (new ≡ record old { list = new.list })
  Happens (rule_added zone rule) old new = ((grant : Grant) × IsGrantOf old.answering.server.keys zone rule grant × (new.grants.items ≡ old.grants.items ++ grant ∷ []))
      × (new ≡ record old { grants = new.grants })
  Happens (keys_set file) old new = AreKeysOfFile file new.answering.server.keys × (new ≡ with_keys old new.answering.server.keys)
  Happens rules_given old new = AreServed old.answering.server.keys old.grants.items old.apexes.items (zones_of old) (zones_of new) × (new ≡ with_zones old (zones_of new))
  Happens (journal_opened name first second) old new = journals.IsOpened name first second (zones_of old) (zones_of new) old.journals.items new.journals.items
      × (new ≡ with_zones (record old { journals = new.journals }) (zones_of new))
  Happens (journal_failed name first second) old new = StaysUnopened name first second (zones_of old) (zones_of new) × (new.journals.items ≡ old.journals.items)
      × (new ≡ with_zones (record old { journals = new.journals }) (zones_of new))
  Happens batch_begun old new = AllBegin old.journals.items (zones_of old) (zones_of new) × (new ≡ with_zones old (zones_of new))
  Happens batch_ended old new = AllSettle old.journals.items (zones_of old) (zones_of new) × (new ≡ with_zones old (zones_of new))
  Happens (updates_stopped journal) old new = journals.StopsAny (slice_get old.journals.items journal) (zones_of old) (zones_of new) × (new ≡ with_zones old (zones_of new))
  Happens other_set old new = AreKept old new
  Happens (message_came came outcome) old new = Answers old came outcome (zones_of new) × IsAsBefore old new

  -- What a server is after these settings and messages, of which the last one is the first of the list.
  pub data Run : List Event → Service → Type 0 where
    starts : {service : Service} → IsUnset service → Run [] service
    goes_on : {events : List Event} {event : Event} {old after : Service} → Run events old → Happens event old after → Run (event ∷ events) after

  -- what the zone of this apex got since it was added, the last one first
  abbrev pub changes_of : {events : List Event} {service : Service} → Run events service → DomainName → List Change
  changes_of (starts unset) apex = []
  changes_of (goes_on {event = zone_added name file added} run happens) apex = cond (name_eq added apex) [] (changes_of run apex)
  changes_of (goes_on {event = zone_failed name failed} run happens) apex = changes_of run apex
  changes_of (goes_on {event = list_set text} run happens) apex = changes_of run apex
  changes_of (goes_on {event = rule_added zone rule} run happens) apex = changes_of run apex
  changes_of (goes_on {event = keys_set file} run happens) apex = changes_of run apex
  changes_of (goes_on {event = rules_given} {old = old} run happens) apex =
      with_rules_for old.answering.server.keys (rules_for old.grants.items apex) (changes_of run apex)
  changes_of (goes_on {event = journal_opened name first second} run happens) apex =
      cond (name_eq happens.0.apex apex) (journal_read first second ∷ changes_of run apex) (changes_of run apex)
  changes_of (goes_on {event = journal_failed name first second} {old = old} {after = after} run happens) apex =
      with_failed name first second (zones_of old) (zones_of after) happens.0 apex (changes_of run apex)
  changes_of (goes_on {event = batch_begun} run happens) apex = changes_of run apex
  changes_of (goes_on {event = batch_ended} run happens) apex = changes_of run apex
  changes_of (goes_on {event = updates_stopped journal} {old = old} run happens) apex = with_stop (slice_get old.journals.items journal) apex (changes_of run apex)
  changes_of (goes_on {event = other_set} run happens) apex = changes_of run apex
  changes_of (goes_on {event = message_came message outcome} {old = old} {after = after} run happens) apex =
      with_taken (taken old message outcome (zones_of after) happens.0) apex (changes_of run apex)

-- A message has these bytes, and came over a stream from there at this moment.
abbrev pub IsOfStream : SocketAddr → ℕ → Incoming → List ℕ → Type 0
IsOfStream source now message bytes = IsMessageOf bytes source Tcp now message

-- After these events messages came, one after the other; these are all events then.
pub data CameInTurn : List Event → List Incoming → List Event → Type 0 where
  none_came : {events : List Event} → CameInTurn events [] events
  first_came : {old new : List Event} {message : Incoming} {messages : List Incoming} {outcome : Result Answer ServeError}
      → CameInTurn (message_came message outcome ∷ old) messages new → CameInTurn old (message ∷ messages) new

-- The messages of a stream, each after its length (RFC 1035 section 4.2.2), go on with any run, as messages that came one
-- after the other.
abbrev pub StreamGoesOn : Ghosts ServedHandler → (LeftToServer → Signer) → SocketAddr → ℕ → List ℕ → Service → Service → Type 0
StreamGoesOn handler signature_for source now bytes old new =
    (frames : List (List ℕ)) × AreFrames bytes frames × ((events : List Event) (messages : List Incoming) → Run handler signature_for events old
    → AllZip (IsOfStream source now) messages frames → (after : List Event) × CameInTurn events messages after × Run handler signature_for (other_set ∷ after) new)

-- However the message is judged by these keys, it has no signature. Without keys none is judged.
abbrev pub IsUnsigned : List Key → Incoming → Type 0
IsUnsigned keys message = (judgement : Judgement) → Judged keys message.bytes.items message.now judgement → judgement ≡ Unsigned

-- What the reply to a question says: REFUSED, if no file is of a zone for the name (RFC 1035 section 4.1.1); SERVFAIL, if
-- that file was not taken; or what the zone of the file replies, as the updates that it took left it (RFC 1034 section
-- 4.3.2). If it has a journal, whose bytes may bring an owner name outside of the zone, it may be that the server failed.
-- The file is the one whose apex is nearest to the name, or for the DS records of an apex the nearest above it (RFC 4035
-- section 3.1.4.1).
pub data IsSaidOf (by : Verifies TsigVerifier) (files : List (DomainName × Option (List ℕ))) (changes : DomainName → List Change) (request : ReceivedRequest) (question : Query) (contents : Contents) : Type 0 where
  of_no_file : FindsAbove files request.message None → Finds files (lower_name question.name) None → contents ≡ error_contents request.message.metadata code_refused
      → IsSaidOf by files changes request question contents
  of_failed : {apex : DomainName} → IsFor files request (apex, None) → contents ≡ error_contents request.message.metadata code_serv_fail → IsSaidOf by files changes request question contents
  of_file : {apex : DomainName} {file : List ℕ} {zone : ZoneState TsigVerifier} → IsFor files request (apex, Some file) → IsZoneAfter by file apex (changes apex) zone
      → SaysTheReply zone.updatable.zone request question contents → IsSaidOf by files changes request question contents
  of_journal : {apex : DomainName} {file : List ℕ} {zone : ZoneState TsigVerifier} → IsFor files request (apex, Some file) → IsZoneAfter by file apex (changes apex) zone
      → has_journal (changes apex) ≡ true → IsSaidByZone zone.updatable.zone request question contents → IsSaidOf by files changes request question contents

-- Whatever settings a server took and whatever messages it answered: an unsigned query that may use it, and whose name no
-- list blocks, has one reply, which encodes what the zone of the nearest file replies, after the updates that this zone
-- answered `Ok`.
abbrev pub RepliesAreOfTheFiles : Ghosts ServedHandler → (LeftToServer → Signer) → Verifies TsigVerifier → Type 0
RepliesAreOfTheFiles handler signature_for by =
    (events : List Event) (service : Service) (message : Incoming) (question : Query) (answer : Answer) (zones : ZoneChains ServedHandler)
    (run : Run handler signature_for events service) → AllLetPass (texts_of events) question → IsPlainQuery (rules_of service) message question → IsUnsigned service.answering.server.keys message
    → Answers handler signature_for service message (Ok answer) zones
    → (request : ReceivedRequest) × IsRequestOf message request × (contents : Contents)
    × IsSaidOf by (files_of events) (changes_of handler signature_for run) request question contents
    × IsSentAlone (rules_of service) service.answering.server.server.catalog.nsid request contents answer

-- A zone that took no update and has no journal is the one that its file's bytes make.
abbrev pub UnchangedAreOfFiles : Verifies TsigVerifier → Type 0
UnchangedAreOfFiles by = (file : List ℕ) (apex : DomainName) (changes : List Change) (zone : ZoneState TsigVerifier)
    → updates_in changes ≡ [] → has_journal changes ≡ false → IsZoneAfter by file apex changes zone → IsZoneOfFile file apex zone.updatable.zone
