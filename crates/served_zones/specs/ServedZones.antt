-- The zones that a server loads from the bytes of their files.
use Rattle.std.specs.Prelude.{◌≡◌, ◌<◌, ◌++◌, [], ◌∷◌, ℕ, List, Option, Some, None, codes, false, true}
use Rattle.std.specs.Global.{Global}
use Rattle.std.specs.declared.rc.Rc.{Rc}
use Rattle.either.specs.declared.Either.{Either}
use Rattle.either.specs.declared.Either.TheVariants.{Left, Right}
use Rattle.wire_names.specs.rr.domain.DomainName.{DomainName}
use Rattle.wire_names.specs.rr.domain.NameText.{IsNameText}
use Rattle.wire_names.specs.rr.domain.NameOrder.{lower_name}
use Rattle.hickory_base.specs.declared.zone_store.handler.AxfrPolicy.TheVariants.{AllowAll}
use Rattle.hickory_base.specs.declared.zone_store.handler.ZoneType.TheVariants.{Primary}
use Rattle.hickory_base.specs.zone_store.ZoneAnswers.{MemoryZone}
use Rattle.hickory_base.specs.zone_store.ZoneSets.{IsZone}
use Rattle.hickory_catalog.specs.zones.Zones.{ChangesAt}
use Rattle.hickory_store.specs.blocklist.BlockAnswers.{Blocklist}
use Rattle.hickory_store.specs.declared.blocklist.config.BlocklistConfig.{BlocklistConfig}
use Rattle.hickory_store.specs.declared.blocklist.config.BlocklistConsultAction.TheVariants.{Enforce}
use Rattle.name_lists.specs.Adding.{AddsList}
use Rattle.name_lists.specs.Counts.{Counts}
use Rattle.hickory_store.specs.file.RecordZones.{IsZoneOf as IsMadeOf}
use Rattle.hickory_server.specs.store.ZoneOfText.{IsTextFault}
use Rattle.zone_answers.specs.Zones.{AreOwners}
use Rattle.tsig.specs.declared.verifier.TsigVerifier.{TsigVerifier}
use Rattle.wire_messages.specs.declared.rr.rdata.RData.{RData}
use Rattle.wire_messages.specs.declared.rr.record.Record.{Record}
use Rattle.zone_text.specs.Included.{IsZoneWithFiles}
use Rattle.zone_text.specs.ZoneFiles.{IsZoneFile}
use Rattle.zones.specs.ZoneStates.{ZoneState}
use Rattle.served_zones.specs.declared.zone_files.ZoneFault.{ZoneFault}
use Rattle.served_zones.specs.declared.zone_files.ZoneFault.TheVariants.{Zone}

-- The zone of these records as it is served: of this apex, primary, and transferred to everybody (RFC 5936 section 5).
-- Each owner name is the apex or below it, and each set is as a zone holds it.
abbrev pub IsServedOf : DomainName → List (Record RData) → MemoryZone → Type 0
IsServedOf apex records zone = IsMadeOf apex Primary AllowAll records zone × AreOwners zone.origin zone.sets × IsZone zone.sets

-- It is served of the records that the text of a zone file has (RFC 1035 section 5.1).
abbrev pub IsZoneOfFile : List ℕ → DomainName → MemoryZone → Type 0
IsZoneOfFile text apex zone = (records : List (Record RData)) × IsZoneFile apex text records × IsServedOf apex records zone

-- It is served of the records that the text of a zone file has with the files that it includes, if these are their
-- bytes.
abbrev pub IsZoneOfFiles : (List ℕ → List ℕ → Type 0) → List ℕ → DomainName → MemoryZone → Type 0
IsZoneOfFiles opened text apex zone = (records : List (Record RData)) × IsZoneWithFiles opened apex text records × IsServedOf apex records zone

-- Why a file is not taken: if the fault is of its text, the text is not one of the zone.
abbrev pub IsFileFault : DomainName → ZoneFault → Type 0
IsFileFault apex (Zone e) = IsTextFault apex e
IsFileFault apex other = Unit {0}

-- the root
abbrev pub root : DomainName
root = record { labels = []; is_fqdn = true }

-- The zone as it is loaded: all clients that may use the server may have transfers of it. It has no rules, so it takes no
-- updates.
abbrev pub loaded : MemoryZone → ZoneState TsigVerifier
loaded zone = record {
  updatable = record { zone = zone; axfr_policy = AllowAll; allow_update = false; verifier = record { keys = [] } };
  is_journalled = false;
  holds = false;
  history = [];
  policy = [];
}

-- a handler of a chain: a zone, or the list of blocked names that all chains share
abbrev pub ServedHandler : Type 0
ServedHandler = Either (ZoneState TsigVerifier) (Rc Blocklist Global)

abbrev pub Chain : Type 0
Chain = List ServedHandler

-- The chain of a zone: its handler, and after it the list of blocked names, if there is one.
abbrev pub IsChain : ServedHandler → Option Blocklist → Chain → Type 0
IsChain zone None chain = chain ≡ zone ∷ []
IsChain zone (Some list) chain = (shared : Rc Blocklist Global) × (shared.value ≡ list) × (chain ≡ zone ∷ Right shared ∷ [])

-- The text is the name of an apex: a name with or without a dot at its end, or for the root a single dot (RFC 1035
-- section 5.1).
pub data IsApexText (text : List ℕ) (apex : DomainName) : Type 0 where
  by_dot : text ≡ codes "." → apex ≡ root → IsApexText text apex
  by_name : (name : DomainName) → IsNameText text name → apex ≡ record name { is_fqdn = true } → IsApexText text apex

-- The text is the name of this apex, at which no zone was served, and now a zone of a file is; the list of blocked
-- names, if there is one, is asked after it.
pub record IsLoadedAs (IsOfFile : DomainName → MemoryZone → Type 0) (text : List ℕ) (list : Option Blocklist) (apex : DomainName) (old new : List (DomainName × Chain)) : Type 0 where
  pub spelled : IsApexText text apex
  pub zone : MemoryZone
  pub of_file : IsOfFile apex zone
  pub chain : Chain
  pub chained : IsChain (Left (loaded zone)) list chain
  pub changed : ChangesAt old (lower_name apex) None (Some chain) new

-- How names are blocked: their addresses are 0.0.0.0 and ::, whatever their zone has. An entry `*.` with two labels or
-- more after it blocks the names below these.
abbrev pub blocking : BlocklistConfig
blocking = record {
  wildcard_match = true;
  min_wildcard_depth = 2;
  sinkhole_ipv4 = None;
  sinkhole_ipv6 = None;
  ttl = 86400;
  block_message = None;
  consult_action = Enforce;
  log_clients = true;
}

-- A list of blocked names without a name.
abbrev pub IsEmptyList : Blocklist → Type 0
IsEmptyList list = (list.entries ≡ []) × (list.config ≡ blocking)

-- Lists are added to a list of blocked names one after the other, in this order. Each gives a name.
pub data AddsLists : List (List ℕ) → Blocklist → Blocklist → Type 0 where
  none : {list : Blocklist} → AddsLists [] list list
  more : {texts : List (List ℕ)} {text : List ℕ} {old between : Blocklist} {entries : List DomainName} {counts : Counts} → AddsLists texts old between
      → AddsList text between.entries entries counts → 0 < counts.taken → AddsLists (texts ++ text ∷ []) old (record between { entries = entries })
