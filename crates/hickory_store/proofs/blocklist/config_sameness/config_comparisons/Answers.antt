use Rattle.std.proofs.Common.{◌≡◌, ℕ, Bool, true, ◌&&◌, nat_eq, Option, Some, None, List, refl, ap, option_map}
use Rattle.std.specs.Bool.{beq}
use Rattle.std.specs.Cmp.Lexicographic.{pointwise}
use Rattle.std.specs.Option.{option_eq}
use Rattle.std.specs.String.{string_bytes, string_eq}
use Rattle.std.specs.declared.alloc.Global.{Global}
use Rattle.std.specs.declared.net.ipv4_addr.Ipv4Addr.{Ipv4Addr}
use Rattle.std.specs.declared.net.ipv6_addr.Ipv6Addr.{Ipv6Addr}
use Rattle.std.specs.declared.string.String.{String}
use Rattle.wire_messages.proofs.lemmas.rr.RecordComparing.{both_hold, hold_both, number_from_eq, number_equal, flag_from_eq, flag_equal, octets_from_eq, octets_equal}
use Rattle.hickory_store.specs.blocklist.ConfigSameness.{SameConfig}
use Rattle.hickory_store.specs.declared.blocklist.config.BlocklistConfig.{BlocklistConfig}
use Rattle.hickory_store.specs.declared.blocklist.config.BlocklistConsultAction.{BlocklistConsultAction}
use Rattle.hickory_store.proofs.blocklist.config_sameness.config_comparisons.Goals as goal

abbrev v4_eq : Ipv4Addr → Ipv4Addr → Bool
v4_eq a b = pointwise nat_eq a.octets b.octets

abbrev v6_eq : Ipv6Addr → Ipv6Addr → Bool
v6_eq a b = pointwise nat_eq a.segments b.segments

v4_from_eq : (o p : Option Ipv4Addr) → option_eq v4_eq o p ≡ true → o ≡ p
v4_from_eq None None h = refl
v4_from_eq None (Some y) h = absurd (cc)
v4_from_eq (Some x) None h = absurd (cc)
v4_from_eq (Some x) (Some y) h = ap (λ (o : List ℕ). let a : Ipv4Addr = record { octets = o } in Some a) (octets_from_eq _ _ h)

v4_itself : (o : Option Ipv4Addr) → option_eq v4_eq o o ≡ true
v4_itself None = refl
v4_itself (Some x) = octets_equal x.octets

v6_from_eq : (o p : Option Ipv6Addr) → option_eq v6_eq o p ≡ true → o ≡ p
v6_from_eq None None h = refl
v6_from_eq None (Some y) h = absurd (cc)
v6_from_eq (Some x) None h = absurd (cc)
v6_from_eq (Some x) (Some y) h = ap (λ (s : List ℕ). let a : Ipv6Addr = record { segments = s } in Some a) (octets_from_eq _ _ h)

v6_itself : (o : Option Ipv6Addr) → option_eq v6_eq o o ≡ true
v6_itself None = refl
v6_itself (Some x) = octets_equal x.segments

text_from_eq : (o p : Option (String Global)) → option_eq string_eq o p ≡ true → option_map string_bytes o ≡ option_map string_bytes p
text_from_eq None None h = refl
text_from_eq None (Some y) h = absurd (cc)
text_from_eq (Some x) None h = absurd (cc)
text_from_eq (Some x) (Some y) h = ap Some (octets_from_eq _ _ h)

text_equal : (o p : Option (String Global)) → option_map string_bytes o ≡ option_map string_bytes p → option_eq string_eq o p ≡ true
text_equal None None e = refl
text_equal None (Some y) e = absurd (cc)
text_equal (Some x) None e = absurd (cc)
text_equal (Some x) (Some y) e = let same : string_bytes x ≡ string_bytes y = cc in rw (← same) (octets_equal (string_bytes x))

module _ (same : BlocklistConsultAction → BlocklistConsultAction → Bool) where
  -- the fields behind the addresses
  abbrev last_eq : BlocklistConfig → BlocklistConfig → Bool
  last_eq a b = option_eq string_eq a.block_message b.block_message && (same a.consult_action b.consult_action && beq a.log_clients b.log_clients)

  abbrev config_eq : BlocklistConfig → BlocklistConfig → Bool
  config_eq a b =
      beq a.wildcard_match b.wildcard_match && (nat_eq a.min_wildcard_depth b.min_wildcard_depth && (option_eq v4_eq a.sinkhole_ipv4 b.sinkhole_ipv4
      && (option_eq v6_eq a.sinkhole_ipv6 b.sinkhole_ipv6 && (nat_eq a.ttl b.ttl && last_eq a b))))

  from_eq : ((a b : BlocklistConsultAction) → same a b ≡ true → a ≡ b) → (a b : BlocklistConfig) → config_eq a b ≡ true → SameConfig a b
  from_eq action_from a b h =
      let b0 : (beq a.wildcard_match b.wildcard_match ≡ true) × ((nat_eq a.min_wildcard_depth b.min_wildcard_depth && (option_eq v4_eq a.sinkhole_ipv4 b.sinkhole_ipv4 && (option_eq v6_eq a.sinkhole_ipv6 b.sinkhole_ipv6 && (nat_eq a.ttl b.ttl && last_eq a b)))) ≡ true) = both_hold _ _ h in
      let b1 : (nat_eq a.min_wildcard_depth b.min_wildcard_depth ≡ true) × ((option_eq v4_eq a.sinkhole_ipv4 b.sinkhole_ipv4 && (option_eq v6_eq a.sinkhole_ipv6 b.sinkhole_ipv6 && (nat_eq a.ttl b.ttl && last_eq a b))) ≡ true) = both_hold _ _ b0.1 in
      let b2 : (option_eq v4_eq a.sinkhole_ipv4 b.sinkhole_ipv4 ≡ true) × ((option_eq v6_eq a.sinkhole_ipv6 b.sinkhole_ipv6 && (nat_eq a.ttl b.ttl && last_eq a b)) ≡ true) = both_hold _ _ b1.1 in
      let b3 : (option_eq v6_eq a.sinkhole_ipv6 b.sinkhole_ipv6 ≡ true) × ((nat_eq a.ttl b.ttl && last_eq a b) ≡ true) = both_hold _ _ b2.1 in
      let b4 : (nat_eq a.ttl b.ttl ≡ true) × (last_eq a b ≡ true) = both_hold _ _ b3.1 in
      let b5 : (option_eq string_eq a.block_message b.block_message ≡ true) × ((same a.consult_action b.consult_action && beq a.log_clients b.log_clients) ≡ true) = both_hold _ _ b4.1 in
      let b6 : (same a.consult_action b.consult_action ≡ true) × (beq a.log_clients b.log_clients ≡ true) = both_hold _ _ b5.1 in
      record {
        wildcard_match = flag_from_eq _ _ b0.0;
        min_wildcard_depth = number_from_eq _ _ b1.0;
        sinkhole_ipv4 = v4_from_eq _ _ b2.0;
        sinkhole_ipv6 = v6_from_eq _ _ b3.0;
        ttl = number_from_eq _ _ b4.0;
        block_message = text_from_eq _ _ b5.0;
        consult_action = action_from _ _ b6.0;
        log_clients = flag_from_eq _ _ b6.1;
      }

  equal : ((a b : BlocklistConsultAction) → a ≡ b → same a b ≡ true) → (a b : BlocklistConfig) → SameConfig a b → config_eq a b ≡ true
  equal action_equal a b s =
      hold_both _ _ (flag_equal _ _ s.wildcard_match) (hold_both _ _ (number_equal _ _ s.min_wildcard_depth)
      (hold_both _ _ (rw (← s.sinkhole_ipv4) (v4_itself a.sinkhole_ipv4)) (hold_both _ _ (rw (← s.sinkhole_ipv6) (v6_itself a.sinkhole_ipv6))
      (hold_both _ _ (number_equal _ _ s.ttl) (hold_both _ _ (text_equal _ _ s.block_message)
      (hold_both _ _ (action_equal _ _ s.consult_action) (flag_equal _ _ s.log_clients)))))))

pub returns : goal.returns
returns c = λ a b. (
  from_eq _ (λ x y. (c.action_comparisons.ensures x y).0) a b,
  equal _ (λ x y. (c.action_comparisons.ensures x y).1) a b,
)
