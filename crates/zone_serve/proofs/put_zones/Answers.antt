use Rattle.std.proofs.Common.{◌∙◌, ap, option_map}
use Rattle.std.specs.Global.{Global}
use Rattle.std.specs.declared.rc.Rc.{Rc}
use Rattle.hickory_store.specs.blocklist.BlockAnswers.{Blocklist}
use Rattle.server.proofs.Results.{copied_map}
use Rattle.zone_serve.proofs.Loading.{zones_alone}
use Rattle.zone_serve.proofs.put_zones.Goals as goal

pub returns-clause-zones : goal.returns-clause-zones
returns-clause-zones g c =
    let value = λ (it : Rc Blocklist Global). it.value in
    let list = copied_map value c.as_ref.result ∙ ap (option_map value) c.as_ref.ensures.value in
    record {
      list = option_map value c.in_ok-list.list;
      list_is = rw c.deref-2.ensures.value at c.in_ok-list.ensures;
      apexes = c.in_ok-apexes.apexes.items;
      loaded = c.load_zones.new.catalog.zones;
      are_loaded = rw (list, c.deref-3.ensures.value) at c.in_ok-apexes.ensures.loaded;
      grants = c.in_ok-grants.grants.items;
      are_grants = rw c.deref.ensures.value at c.in_ok-grants.ensures;
      are_served = record {
        of_zones = rw (c.deref-4.ensures.value, c.deref-5.ensures.value) at c.in_ok-see_zones.ensures;
        are_given = rw (c.deref-7.ensures.value, c.deref-8.ensures.value) at c.in_ok-grant_updates.ensures.given;
      };
    }

pub returns-clause-others : goal.returns-clause-others
returns-clause-others g c = zones_alone c.args.catalog.now c.load_zones.new.catalog c.grant_updates.new.zones c.in_ok-apexes.ensures.others c.in_ok-grant_updates.ensures.others
