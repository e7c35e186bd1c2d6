use Rattle.std.proofs.Common.{rules}
use Rattle.zone_serve.proofs.Loading.{files_more, no_files}
use Rattle.zone_serve.proofs.lists.add_lists.Goals as goal

pub loop-place-init : goal.loop-place-init
loop-place-init g c = no_files (g.O.FileOpener.opens c.args.opener.now) c.args.list.now

pub loop-place-preserved : goal.loop-place-preserved
loop-place-preserved g c =
    files_more (g.O.FileOpener.opens c.args.opener.now) c.args.files.now c.loop-place.place _ c.args.list.now c.loop-place.list c.add_list.new.list (search rules) c.loop-place.invariant
    c.in-Ok.ensures
