-- The first notice that the message answers is taken out.
use Rattle.std.proofs.Common.{◌≡◌, Some, get_or, position, rules}
use Rattle.std.specs.Prelude.{remove}
use Rattle.notices.specs.Messages.{is_answered}
use Rattle.notices.proofs.Sending.{hears, stands_at}
use Rattle.notices.proofs.notices.Notices.hear.Goals as goal

pub returns : goal.returns
returns c =
    let test = is_answered c.args.from c.args.m.now in
    let n = c.remove-notice.result in
    let found : position test c.args.self.now ≡ Some c.in-Some.place = search rules in
    let is : n ≡ get_or c.args.self.now c.in-Some.place n = search rules in
    let left : c.remove-notice.new.self.items ≡ remove c.args.self.now c.in-Some.place = search rules in
    hears c.args.from c.args.m.now c.args.self.now c.remove-notice.new.self.items n (c.in-Some.place, found, stands_at test c.args.self.now c.in-Some.place n found is, left) c.ended.result c.ended.ensures
