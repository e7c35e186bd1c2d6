use Rattle.std.proofs.Common.{◌∙◌, ap, length}
use Rattle.std.specs.Prelude.{unwrap_or}
use Rattle.wire_names.proofs.lemmas.rr.domain.NameSpelling.{position_is}
use Rattle.wire_names.proofs.rr.domain.name_text.label_len.Goals as goal

pub returns : goal.returns
returns c = c.unwrap_or.ensures ∙ ap (λ o. unwrap_or o (length c.args.text.now)) c.first_dot.ensures ∙ position_is c.args.text.now
