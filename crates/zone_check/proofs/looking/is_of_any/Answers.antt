use Rattle.std.proofs.lemmas.Option.{slice_get_within}
use Rattle.zone_check.proofs.looking.is_of_any.Goals as goal

pub returns-in-BelowDname : goal.returns-in-BelowDname
returns-in-BelowDname c = rw c.in-BelowDname.is c.is_below_dname.ensures

pub returns-in-BelowCut : goal.returns-in-BelowCut
returns-in-BelowCut c = rw c.in-BelowCut.is c.is_data_below_cut.ensures

pub returns-in-OtherTtl : goal.returns-in-OtherTtl
returns-in-OtherTtl c = rw c.in-OtherTtl.is c.has_other_ttl.ensures

pub returns-in-NoAddress : goal.returns-in-NoAddress
returns-in-NoAddress c = rw c.in-NoAddress.is c.has_no_address.ensures

pub returns-in-NoGlue : goal.returns-in-NoGlue
returns-in-NoGlue c = rw c.in-NoGlue.is c.has_no_glue.ensures

pub returns-in-HostIsAlias : goal.returns-in-HostIsAlias
returns-in-HostIsAlias c = rw c.in-HostIsAlias.is c.has_aliased_host.ensures

pub returns-in-AtCut : goal.returns-in-AtCut
returns-in-AtCut c = rw c.in-AtCut.is c.is_data_at_cut.ensures

pub returns-in-IdleGlue : goal.returns-in-IdleGlue
returns-in-IdleGlue c = rw c.in-IdleGlue.is c.is_idle_glue.ensures

pub returns-in-Repeated : goal.returns-in-Repeated
returns-in-Repeated c = rw c.in-Repeated.is (c.is_repeated.ensures c.args.record.now c.requires)

pub is_repeated-requires : goal.is_repeated-requires
is_repeated-requires c = slice_get_within c.args.zone.now.records c.args.place c.args.record.now c.requires
