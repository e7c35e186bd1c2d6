-- What is checked: the apex that a text names, and the records of a zone file.
use Rattle.std.specs.Prelude.{◌≡◌, [], ℕ, List, codes, true}
use Rattle.wire_names.specs.rr.domain.DomainName.{DomainName}
use Rattle.wire_names.specs.rr.domain.NameText.{IsNameText}
use Rattle.wire_messages.specs.declared.rr.rdata.RData.{RData}
use Rattle.wire_messages.specs.declared.rr.record.Record.{Record}
use Rattle.zone_text.specs.Included.{IsZoneWithFiles}

-- The text is the name of an apex: a name with or without a dot at its end, or for the root a single dot (RFC 1035
-- section 5.1).
pub data IsApexText (text : List ℕ) (apex : DomainName) : Type 0 where
  by_dot : text ≡ codes "." → apex ≡ record { labels = []; is_fqdn = true } → IsApexText text apex
  by_name : (name : DomainName) → IsNameText text name → apex ≡ record name { is_fqdn = true } → IsApexText text apex

-- They are the records that the text of a zone file has with the files that it includes. No contract can say which bytes
-- these have.
abbrev pub AreRecordsOf : DomainName → List ℕ → List (Record RData) → Type 0
AreRecordsOf origin text records = IsZoneWithFiles (λ _ _. Unit {0}) origin text records
