use Rattle.std.proofs.Common.{◌≡◌, false, sym, ◌∙◌}
use Rattle.std.proofs.lemmas.Bool.{false≢true}
use Rattle.hickory_catalog.proofs.lemmas.zones.Nearest.{cut_above, cut_shorter, reached, none_reached, passed}
use Rattle.hickory_catalog.proofs.zones.Zones.find_above.Goals as goal

pub returns-in_default : goal.returns-in_default
returns-in_default g c =
    let i = c.loop-beside.invariant in
    let next = c.keep_shared_end.new.self in
    none_reached c.args.self.now c.args.name.now next (cut_above c.args.self.now c.args.name.now c.loop-beside.ancestor c.loop-beside.beside.now next i.above c.keep_shared_end.ensures)
    (cut_shorter c.args.self.now c.args.name.now c.loop-beside.ancestor c.loop-beside.beside.now next i.above i.both c.keep_shared_end.ensures) (rw c.in_default.is at c.last_up_to.ensures.last)

pub returns-then-answers_for : goal.returns-then-answers_for
returns-then-answers_for g c =
    let i = c.loop-beside.invariant in
    let next = c.keep_shared_end.new.self in
    let apart = c.answers_for.ensures.0 c.if-answers_for.true in
    reached c.args.self.now c.args.name.now next (c.in-Some.apex.now, c.in-Some.chain.now.items)
    (cut_above c.args.self.now c.args.name.now c.loop-beside.ancestor c.loop-beside.beside.now next i.above c.keep_shared_end.ensures)
    (cut_shorter c.args.self.now c.args.name.now c.loop-beside.ancestor c.loop-beside.beside.now next i.above i.both c.keep_shared_end.ensures) c.in-Some.ensures.last apart.0 apart.1

pub loop-beside-preserved : goal.loop-beside-preserved
loop-beside-preserved g c =
    let i = c.loop-beside.invariant in
    let next = c.keep_shared_end.new.self in
    let above = cut_above c.args.self.now c.args.name.now c.loop-beside.ancestor c.loop-beside.beside.now next i.above c.keep_shared_end.ensures in
    let shorter = cut_shorter c.args.self.now c.args.name.now c.loop-beside.ancestor c.loop-beside.beside.now next i.above i.both c.keep_shared_end.ensures in
    let f : c.answers_for.result ≡ false = c.if-answers_for.false in
    record {
      above = above;
      both = passed c.args.self.now c.args.name.now next (c.in-Some.apex.now, c.in-Some.chain.now.items) above shorter c.in-Some.ensures.last (λ h. false≢true (sym f ∙ c.answers_for.ensures.1 h));
    }
