use Rattle.std.proofs.Common.{◌∙◌, sym}
use Rattle.server.proofs.transfers.added_zone.Goals as goal

pub returns : goal.returns
returns c = (c.in_ok-apex.ensures, sym c.is_added.ensures ∙ c.if-not-is_added.false)
