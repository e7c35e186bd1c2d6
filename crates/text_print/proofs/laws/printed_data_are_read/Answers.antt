use Rattle.std.proofs.Common.{List, ℕ, [], None, subst, sym, append-nil}
use Rattle.wire_messages.specs.rr.RecordData.{type_of}
use Rattle.text_words.specs.declared.words.TextKind.TheVariants.{Line}
use Rattle.text_words.specs.Words.{words_left}
use Rattle.record_text.specs.RecordText.{HasData}
use Rattle.text_print.specs.Printed.EndsHere.{whole}
use Rattle.text_print.proofs.laws.printed_data_are_read.Goals as goal

-- the whole of a line
pub returns-clause-taken : goal.returns-clause-taken
returns-clause-taken c = λ rdata text is none. none rdata (subst (λ (t : List ℕ). HasData None (type_of rdata) (words_left Line t 0 0) rdata) (append-nil text) (is.stands None Line [] [] whole))

pub returns-clause-same : goal.returns-clause-same
returns-clause-same c = λ rdata other text is has. is.only None Line [] [] other whole (subst (λ (t : List ℕ). HasData None (type_of rdata) (words_left Line t 0 0) other) (sym (append-nil text)) has)
