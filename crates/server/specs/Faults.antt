-- Why a setting is not taken, by the fault of its part.
use Rattle.served_keys.specs.declared.files.KeysFault.{KeysFault}
use Rattle.served_keys.specs.declared.files.KeysFault.TheVariants as keys_fault
use Rattle.served_keys.specs.declared.names.KeyNameFault.{KeyNameFault}
use Rattle.served_keys.specs.declared.names.KeyNameFault.TheVariants as name_fault
use Rattle.served_zones.specs.declared.grants.GrantFault.{GrantFault}
use Rattle.served_zones.specs.declared.grants.GrantFault.TheVariants as grant_fault
use Rattle.served_zones.specs.declared.identifier.IdentifierFault.{IdentifierFault}
use Rattle.served_zones.specs.declared.identifier.IdentifierFault.TheVariants as identifier_fault
use Rattle.served_zones.specs.declared.journals.JournalFault.{JournalFault}
use Rattle.served_zones.specs.declared.journals.JournalFault.TheVariants as journal_fault
use Rattle.served_zones.specs.declared.zone_files.ZoneFault.{ZoneFault}
use Rattle.served_zones.specs.declared.zone_files.ZoneFault.TheVariants as zone_fault
use Rattle.server.specs.declared.settings.SettingFault.{SettingFault}
use Rattle.server.specs.declared.settings.SettingFault.TheVariants.{Journal, KeyName, Keys, LongIdentifier, Memory, Rule, Zone}

abbrev pub of_zone : ZoneFault → SettingFault
of_zone zone_fault.Memory = Memory
of_zone other = Zone other

abbrev pub of_identifier : IdentifierFault → SettingFault
of_identifier identifier_fault.Long = LongIdentifier
of_identifier identifier_fault.Memory = Memory

abbrev pub of_journal : JournalFault → SettingFault
of_journal journal_fault.Memory = Memory
of_journal other = Journal other

abbrev pub of_keys : KeysFault → SettingFault
of_keys keys_fault.Memory = Memory
of_keys other = Keys other

abbrev pub of_key_name : KeyNameFault → SettingFault
of_key_name name_fault.Memory = Memory
of_key_name other = KeyName other

abbrev pub of_rule : GrantFault → SettingFault
of_rule grant_fault.Memory = Memory
of_rule other = Rule other
