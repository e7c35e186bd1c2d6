use Rattle.std.proofs.Common.{rules, arith, ◌≡◌, ◌≢◌, ◌-◌, length, take, drop, take_all, length-drop, ap, sym, subst, ◌∙◌}
use Rattle.wire_names.specs.rr.domain.DomainName.{cut}
use Rattle.wire_writing.specs.representation.Noted.{first_place}
use Rattle.wire_writing.proofs.lemmas.serialize.writing.QuestionEnds.{no_end}
use Rattle.wire_writing.proofs.serialize.writing.question_name.QuestionName.find.Goals as goal

pub returns-then-suffix-len : goal.returns-then-suffix-len
returns-then-suffix-len c =
    let wire = c.self.inside.wire.now in
    let none = no_end c.args.suffix.now (cut wire) 12 c.self.inside.count (λ le. absurd (omega (arith, le, ap length c.self.invariant.0.whole, c.if-suffix-len.true))) in
    sym (ap (λ ns. first_place c.args.suffix.now ns) (sym c.self.view_is) ∙ none)

pub returns-then-not-are_same : goal.returns-then-not-are_same
returns-then-not-are_same c =
    let wire = c.self.inside.wire.now in
    let s = c.args.suffix.now in
    let back : take (length wire - (length wire - length s)) (drop (length wire - length s) wire) ≡ drop (length wire - length s) wire = take_all (length wire - (length wire - length s)) (drop (length wire - length s) wire) (omega (arith, length-drop (length wire - length s) wire)) in
    let other : take (length wire - (length wire - length s)) (drop (length wire - length s) wire) ≢ s = search rules in
    let differ : drop (length wire - length s) wire ≢ s = λ e. other (back ∙ e) in
    let none = no_end s (cut wire) 12 c.self.inside.count (λ le. subst (λ w. drop (length w - length s) w ≢ s) (sym c.self.invariant.0.whole) differ) in
    sym (ap (λ ns. first_place s ns) (sym c.self.view_is) ∙ none)
