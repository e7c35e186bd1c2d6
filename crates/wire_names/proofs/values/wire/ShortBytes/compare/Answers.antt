use Rattle.std.proofs.Common.{arith, ◌∙◌, ℕ, List, take, sym, ap}
use Rattle.std.specs.declared.cmp.Ordering.{Ordering}
use Rattle.std.specs.Ordering.{nat_cmp, ordering_then}
use Rattle.std.specs.Cmp.Lexicographic.{slice_cmp}
use Rattle.wire_names.proofs.lemmas.rr.domain.PaddedBytes.{by_rooms, decided}
use Rattle.wire_names.proofs.values.wire.ShortBytes.compare.Goals as goal

pub returns-in-Equal : goal.returns-in-Equal
returns-in-Equal c =
    let a = c.self.inside in
    let b = c.other.inside in
    c.cmp.ensures
    ∙ ap (λ (o : Ordering). ordering_then o (nat_cmp a.len b.len)) (sym c.in-Equal.is ∙ c.compare_words.ensures)
    ∙ by_rooms 30 a.len b.len a.bytes b.bytes (omega arith) (omega arith) c.self.invariant.0 c.other.invariant.0 c.self.invariant.1 c.other.invariant.1
    ∙ ap (λ (xs : List ℕ). slice_cmp nat_cmp xs (take b.len b.bytes)) c.self.view_is
    ∙ ap (slice_cmp nat_cmp _) c.other.view_is

pub returns-in_default : goal.returns-in_default
returns-in_default c =
    let a = c.self.inside in
    let b = c.other.inside in
    decided _ (nat_cmp a.len b.len) c.in_default.not-Equal
    ∙ ap (λ (o : Ordering). ordering_then o (nat_cmp a.len b.len)) c.compare_words.ensures
    ∙ by_rooms 30 a.len b.len a.bytes b.bytes (omega arith) (omega arith) c.self.invariant.0 c.other.invariant.0 c.self.invariant.1 c.other.invariant.1
    ∙ ap (λ (xs : List ℕ). slice_cmp nat_cmp xs (take b.len b.bytes)) c.self.view_is
    ∙ ap (slice_cmp nat_cmp _) c.other.view_is
