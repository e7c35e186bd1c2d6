use Rattle.std.proofs.Common.{List, subst}
use Rattle.wire_messages.specs.rr.RecordData.{OptionsOf}
use Rattle.wire_messages.specs.declared.op.edns.EdnsOption.{EdnsOption}
use Rattle.wire_reading.proofs.lemmas.serialize.reading.OptionSteps.{options_held, options_read}
use Rattle.hickory_wire.proofs.serialize.reading.record_laws.options_are_held.Goals as goal

pub returns : goal.returns
returns c = λ octets options bytes. (λ e. subst (λ (o : List EdnsOption). OptionsOf octets o) e (options_held octets bytes), λ h. options_read octets options h bytes)
