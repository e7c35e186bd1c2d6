-- The first notice that is due was sent less than six times; it alone changes.
use Rattle.std.proofs.Common.{◌≡◌, List, Some, ap, get_or, position, refl, rules, ◌∙◌}
use Rattle.std.specs.Prelude.{slice_set}
use Rattle.notices.specs.Schedule.{is_due, sent_at}
use Rattle.notices.specs.declared.notice.Notice.{Notice}
use Rattle.notices.proofs.Sending.{due_low, same_at, stands_at}
use Rattle.notices.proofs.notices.Notices.due.Goals as goal

pub send-requires : goal.send-requires
send-requires c =
    let found : position (is_due c.args.now) c.self.inside.notices.items ≡ Some c.in-Some.place = search rules in
    due_low c.args.now c.self.inside.notices.items c.in-Some.place c.index_mut.result.now found c.index_mut.ensures.value

pub returns-clause-ok : goal.returns-clause-ok
returns-clause-ok c =
    let n = c.index-notice.result.now in
    let found : position (is_due c.args.now) c.args.self.now ≡ Some c.in-Some.place = search rules in
    let is_n : n ≡ get_or c.args.self.now c.in-Some.place n = search rules in
    let is_m : c.index_mut.result.now ≡ get_or c.args.self.now c.in-Some.place c.index_mut.result.now = search rules in
    let same : c.index_mut.result.now ≡ n = same_at (is_due c.args.now) c.args.self.now c.in-Some.place c.index_mut.result.now n found is_m is_n in
    let sent : c.send.new.self ≡ sent_at c.args.now c.args.id n = c.send.ensures ∙ ap (sent_at c.args.now c.args.id) same in
    let kept : c.self.inside.notices.items ≡ c.args.self.now = search rules in
    (c.in-Some.place, n, found, stands_at (is_due c.args.now) c.args.self.now c.in-Some.place n found is_n, refl, search rules, ap (λ (ys : List Notice). slice_set ys c.in-Some.place c.send.new.self) kept ∙ ap (slice_set c.args.self.now c.in-Some.place) sent)
