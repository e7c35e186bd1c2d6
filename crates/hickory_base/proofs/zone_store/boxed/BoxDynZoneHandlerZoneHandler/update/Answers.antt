-- The step of the value behind the reference is the step of the value in the box.
use Rattle.std.proofs.Common.{rules}
use Rattle.hickory_base.proofs.lemmas.zone_store.Boxes.{on_err_map, stepped, kept_in_box}
use Rattle.hickory_base.proofs.zone_store.boxed.BoxDynZoneHandlerZoneHandler.update.Goals as goal

pub returns : goal.returns
returns g c = record {
  gives =
      stepped (λ k x. record c.args.self.now { vtable = k; value = x })
      (λ k x t. (goal.ZoneHandler-dyn g (k, x)).update_gives x c.args.request.now c.args.now c.update.result.0 c.update.result.1 t)
      _ _ (search rules) _ c.update.ensures.0;
  kept =
      on_err_map c.update.result.0
      (λ same. kept_in_box (λ k x. record c.args.self.now { vtable = k; value = x }) _ _ (search rules) _ same)
      c.update.ensures.1;
}
