use Rattle.std.proofs.Common.{rules}
use Rattle.zone_serve.proofs.Loading.{file_added}
use Rattle.zone_serve.proofs.lists.add_list.Goals as goal

pub returns : goal.returns
returns g c =
    file_added (g.O.FileOpener.opens c.args.opener.now) c.args.file.now c.as_slice.result.now c.add_text.result c.args.list.now c.add_text.new.list (search rules)
    c.add_text.ensures.ok c.add_text.ensures.some c.add_text.ensures.others
