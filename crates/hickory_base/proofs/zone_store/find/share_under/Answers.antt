use Rattle.std.proofs.Common.{◌≡◌, List, sym, ap, ◌∙◌, IfSome, Option, Some, Result, Ok, Err}
use Rattle.std.specs.Option.{option_copied}
use Rattle.std.specs.Result.{MatchResult, result_ok}
use Rattle.std.specs.declared.alloc.Global.{Global}
use Rattle.std.specs.declared.rc.Rc.{Rc}
use Rattle.wire_messages.specs.declared.rr.rdata.RData.{RData}
use Rattle.wire_messages.specs.declared.rr.record.Record.{Record}
use Rattle.hickory_base.proofs.lemmas.zone_store.SharedSets.{lookup-is}
use Rattle.hickory_base.specs.zone_store.ZoneSets.{is_key}
use Rattle.hickory_base.specs.declared.zone_store.record_set.RecordSet.{RecordSet}
use Rattle.hickory_base.proofs.zone_store.find.share_under.Goals as goal

-- a share, where there is one, holds what the set does
share_found : {E : Type 0} (other : E → Type 0) (found : Option (List (Record RData))) (set : Rc RecordSet Global) (r : Result (Rc RecordSet Global) E)
    → MatchResult r (λ share. share.value ≡ set.value) other → Some set.value ≡ found → IfSome (result_ok r) (λ share. found ≡ Some share.value)
share_found other found set (Ok share) same is = sym (ap Some same ∙ is)
share_found other found set (Err e) same is = tt

pub returns-in-Some : goal.returns-in-Some
returns-in-Some c =
    rw c.ok.ensures.value
    (share_found _ _ c.in-Some.set.now c.clone.result c.clone.ensures.cases
    (lookup-is (is_key c.args.key.now.name c.args.key.now.record_type) c.args.sets.now.entries (Some c.in-Some.set.now) (ap option_copied (sym c.in-Some.is) ∙ c.get.ensures.value)))
