use Rattle.std.proofs.Common.{◌≡◌, Ok, Result, subst, eqb, length, true}
use Rattle.std.specs.Prelude.{MatchResult}
use Rattle.wire_names.specs.declared.error.DecodeError.{DecodeError}
use Rattle.wire_messages.specs.serialize.reading.Reading.{Fails}
use Rattle.wire_messages.specs.serialize.reading.SectionReading.{Additionals}
use Rattle.wire_reading.proofs.lemmas.serialize.reading.OptRecord.{opt_is_put}
use Rattle.wire_reading.proofs.serialize.reading.additionals.Additionals.add.Goals as goal

pub returns-else-not-has_no_label : goal.returns-else-not-has_no_label
returns-else-not-has_no_label c =
    let bare : eqb (length c.args.next.name.labels) 0 ≡ true = cc in
    subst (λ (put : Result Additionals DecodeError). MatchResult c.add_edns.result (λ _. put ≡ Ok c.add_edns.new.self) (λ e. Fails e put))
    (opt_is_put c.args.self.now c.args.next c.in-OPT.options c.from_opt.result c.in-OPT.is bare c.from_opt.ensures) c.add_edns.ensures
