use Rattle.std.proofs.Common.{ap, subst, sym, ◌∙◌}
use Rattle.std.specs.Option.{option_copied}
use Rattle.std.proofs.lemmas.Bool.{false≢true}
use Rattle.zone_answers.specs.representation.Features.{IsOfLength}
use Rattle.zone_answers.specs.representation.FoundRecords.{IsAbove}
use Rattle.zone_answers.specs.Zones.{ancestor}
use Rattle.zone_answers.proofs.find.is_bare.Goals as goal

pub returns-in-Some : goal.returns-in-Some
returns-in-Some c =
    λ told. record {
      dnames = c.if-has.false;
      labels = c.parent_len.ensures.labels;
      wildcards = λ among. false≢true (sym c.if-has_length.false ∙ c.has_length.ensures.1 (subst (IsOfLength c.args.has.wildcards) (sym c.parent_len.ensures.len) among));
      used = subst (IsAbove (ancestor c.args.name.now 1)) (sym (ap option_copied c.in-Some.is)) (c.has_parent_above.ensures.0 told).1;
    }
