use Rattle.std.proofs.Common.{List, ℕ, sym, subst, ◌∙◌}
use Rattle.wire_reading.specs.representation.KnownNames.{AreRests}
use Rattle.wire_reading.proofs.lemmas.serialize.reading.KnownRests.{still_holds}
use Rattle.wire_reading.proofs.serialize.reading.known_names.KnownNames.keep.Goals as goal

pub invariant_of-self : goal.invariant_of-self
invariant_of-self c = subst (λ (ls : List ℕ). AreRests c.self.inside.bytes.now ls c.self.inside.rests.items) (sym c.in_err-extend_from_slice.ensures.items) c.self.invariant

pub note_rests-requires-clause-kept : goal.note_rests-requires-clause-kept
note_rests-requires-clause-kept c =
    subst (λ (ls : List ℕ). AreRests c.self.inside.bytes.now ls c.self.inside.rests.items) (sym (c.deref.ensures.value ∙ c.in_ok-extend_from_slice.ensures.items))
    (still_holds c.self.inside.bytes.now c.self.inside.labels.items c.args.wire.now c.self.inside.rests.items c.self.invariant)

pub invariant_of-self-2 : goal.invariant_of-self-2
invariant_of-self-2 c = subst (λ (ls : List ℕ). AreRests c.self.inside.bytes.now ls c.note_rests.new.rests.items) c.deref.ensures.value c.note_rests.ensures
