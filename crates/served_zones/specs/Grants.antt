-- Rules of who may update what, each with the zone that it is of.
use Rattle.std.specs.Prelude.{ℕ, IsTrue, List, is_some, map}
use Rattle.std.specs.List.{filter}
use Rattle.tsig.specs.Keys.{key_of}
use Rattle.tsig.specs.declared.keys.Key.{Key}
use Rattle.wire_names.specs.rr.domain.DomainName.{DomainName}
use Rattle.wire_names.specs.rr.domain.NameOrder.{name_eq}
use Rattle.update_policy.specs.RuleTexts.{IsRuleText}
use Rattle.update_policy.specs.declared.policy.Rule.{Rule}
use Rattle.update_policy.specs.declared.rule_text.RuleTextError.{RuleTextError}
use Rattle.update_policy.specs.declared.rule_text.RuleTextError.TheVariants as rule_fault
use Rattle.served_zones.specs.ServedZones.{IsApexText}
use Rattle.served_zones.specs.declared.grants.Grant.{Grant}
use Rattle.served_zones.specs.declared.grants.GrantFault.{GrantFault}
use Rattle.served_zones.specs.declared.grants.GrantFault.TheVariants as fault

-- Two texts spell the name of a zone and a rule. The key of the rule is one of these.
pub record IsGrantOf (keys : List Key) (zone rule : List ℕ) (grant : Grant) : Type 0 where
  pub apex : IsApexText zone grant.apex
  pub spelled : IsRuleText rule grant.rule
  pub known : IsTrue (is_some (key_of keys grant.rule.key))

-- the fault of a rule
abbrev pub fault_of : RuleTextError → GrantFault
fault_of rule_fault.Form = fault.Form
fault_of rule_fault.Name = fault.Name
fault_of rule_fault.Type = fault.Type
fault_of rule_fault.Memory = fault.Memory

-- the rules of the zone of this apex, in their order, whatever the letter case of its name
abbrev pub rules_for : List Grant → DomainName → List Rule
rules_for grants apex = map (λ grant. grant.rule) (filter (λ grant. name_eq grant.apex apex) grants)
