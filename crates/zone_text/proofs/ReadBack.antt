-- Data of a zone file are in the form of their type.
use Rattle.std.proofs.Common.{ℕ, List, Option, sym, subst}
use Rattle.wire_names.specs.rr.domain.DomainName.{DomainName}
use Rattle.wire_messages.specs.declared.rr.rdata.RData.{RData}
use Rattle.wire_messages.specs.serialize.layout.RecordLayout.{IsFormed}
use Rattle.text_words.specs.declared.words.Word.{Word}
use Rattle.record_text.specs.RecordText.{SpellsData}
use Rattle.record_text.specs.RecordText.SpellsData.{in_form, generic}
use Rattle.record_text.proofs.Formed.{formed_at}

pub spelled_formed : (origin : Option DomainName) (number : ℕ) (words : List Word) (rdata : RData) → SpellsData origin number words rdata → IsFormed rdata
spelled_formed origin number words rdata (in_form begins is typed formed short) = formed
spelled_formed origin number words rdata (generic plain is written) = subst IsFormed (sym written.read.3) (formed_at written.read.2)
