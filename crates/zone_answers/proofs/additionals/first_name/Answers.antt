use Rattle.std.proofs.Common.{◌≡◌, false, sym, ap, ◌∙◌}
use Rattle.std.proofs.lemmas.Bool.{false≢true}
use Rattle.wire_messages.specs.serialize.reading.NameReading.{name}
use Rattle.zone_answers.specs.Additionals.{read_part}
use Rattle.zone_answers.proofs.additionals.first_name.Goals as goal

pub returns-in-Ok : goal.returns-in-Ok
returns-in-Ok c = sym (ap read_part (sym (ap name c.new.ensures) ∙ (rw c.in-Ok.is at c.read_name.ensures.exact).0))

pub returns : goal.returns
returns c =
    let f : c.is_memory.result ≡ false = c.if-is_memory.false in
    sym (ap read_part (sym (ap name c.new.ensures) ∙ (rw c.in-Err.is at c.read_name.ensures.exact).0 (λ e. false≢true (sym f ∙ c.is_memory.ensures.1 e))))
