-- Inserting one of the two lists leaves the other as it is.
use Rattle.std.proofs.Common.{◌⊎◌, inl, inr, Contains, List}
use Rattle.server_limits.specs.Access.{Inserts, Network, SameNetworks}
use Rattle.served_keys.specs.ServedKeys.{all_networks}
use Rattle.server.proofs.service.allow_only.Goals as goal

same_inserts : (old given new last : List Network) → Inserts old given new → SameNetworks new last → Inserts old given last
same_inserts old given new last inserts same network = (λ held. (inserts network).0 ((same network).0 held), λ either. (same network).1 ((inserts network).1 either))

inserts_same : (old first given new : List Network) → SameNetworks old first → Inserts first given new → Inserts old given new
inserts_same old first given new same inserts network = (λ held. before ((inserts network).0 held), λ either. (inserts network).1 (after either)) where
  before : Contains first network ⊎ Contains given network → Contains old network ⊎ Contains given network
  before (inl was) = inl ((same network).0 was)
  before (inr is_given) = inr is_given

  after : Contains old network ⊎ Contains given network → Contains first network ⊎ Contains given network
  after (inl was) = inl ((same network).1 was)
  after (inr is_given) = inr is_given

pub returns : goal.returns
returns c =
    let denied = c.insert_deny.new.self.deny in
    let allowed = c.insert_deny.new.self.allow in
    record {
      network = c.in_ok-network.network;
      spelled = c.in_ok-network.ensures;
      allowed = rw (c.as_slice-2.ensures.value, c.in_ok-allowed.ensures) at (inserts_same _ allowed _ _ c.in_ok-insert_deny.ensures.allow_stays c.in_ok-insert_allow.ensures.ok);
      denied = same_inserts _ all_networks denied _ (rw (c.as_slice.ensures.value, c.in_ok-all.ensures) at c.in_ok-insert_deny.ensures.ok) c.in_ok-insert_allow.ensures.deny_stays;
    }
