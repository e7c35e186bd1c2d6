-- Links of a chain put together.
use Rattle.std.proofs.Common.{◌≡◌, ◌⊎◌, ℕ, Bool, List, ◌-◌, ◌||◌, ◌&&◌, suc, true, false, [], ◌∷◌, ◌++◌, Option, None, Some, inl, inr, refl, sym, ap, subst, ◌∙◌, arith, append_assoc}
use Rattle.std.specs.Option.{IsSomeAnd}
use Rattle.std.specs.Ordering.{is_eq}
use Rattle.wire_names.specs.rr.domain.DomainName.{DomainName}
use Rattle.wire_names.specs.rr.domain.NameOrder.{Encloses, SameName, lower_labels, lower_name}
use Rattle.wire_names.proofs.lemmas.rr.domain.SameNames.{lower_labels-twice, same_order}
use Rattle.hickory_base.proofs.lemmas.zone_store.ZoneByName.{itself}
use Rattle.hickory_base.specs.zone_store.ZoneRecords.{is_at}
use Rattle.zone_answers.specs.Chains.{Chases, IsIn, comes_back, finishes, follows, is_cname, leads, leaves, owns_cname, stops}
use Rattle.zone_answers.specs.Endings.{Ending}
use Rattle.zone_answers.specs.Endings as ended
use Rattle.zone_answers.specs.representation.ChainEnds.{ChainPlace, Chased, Linked, ending_of}
use Rattle.zone_answers.specs.declared.chains.ChainEnd.{ChainEnd}
use Rattle.zone_answers.specs.declared.chains.Link.TheVariants as link
use Rattle.zone_answers.specs.Zones.{Records, Zone}

-- letter case does not matter to what encloses a name
pub lower_enclosed : (ns ms : List (List ℕ)) → Encloses ns (lower_labels ms) → Encloses ns ms
lower_enclosed ns ms e = record { front = e.front; ends = sym (lower_labels-twice ms) ∙ e.ends }

pub enclosed_lower : (ns ms : List (List ℕ)) → Encloses ns ms → Encloses ns (lower_labels ms)
enclosed_lower ns ms e = record { front = e.front; ends = lower_labels-twice ms ∙ e.ends }

-- names that are the same own the same CNAMEs
own_alike : (a b : DomainName) (rs : Records) → SameName a b → owns_cname a rs ≡ owns_cname b rs
own_alike a b [] s = refl
own_alike a b (r ∷ rs) s = ap (λ x. x && is_cname r.rdata || owns_cname a rs) (ap is_eq (same_order a r.name b r.name s (itself r.name))) ∙ ap (λ x. is_at b r && is_cname r.rdata || x) (own_alike a b rs s)

lowered : (name : DomainName) → SameName (lower_name name) name
lowered name = record { labels = lower_labels-twice name.labels; marks = refl }

abbrev pub place : DomainName → ℕ → ℕ → ChainPlace
place name t left = record { name = name; record_type = t; left = left }

-- the last link of a chain
pub ends_so : (zone : Zone) (t : ℕ) (name : DomainName) (old new : Records) (end : ChainEnd) → Linked zone t name old new (link.End end) → (left : ℕ) → Chased zone (place name t left) old new (ending_of end)
ends_so zone t name old new end h left = record { added = h.gained.added; put = h.gained.put; chases = finishes h.says h.gained.is }

-- the name is in the zone, as its labels in lower case tell
pub is_in : (zone : Zone) (name : DomainName) → name.is_fqdn ≡ true → Encloses zone.origin.labels (lower_labels name.labels) → IsIn zone name
is_in zone name qualified within = record { qualified = qualified; within = lower_enclosed zone.origin.labels name.labels within }

module _ (zone : Zone) (t : ℕ) (name : DomainName) (old new : Records) (to : Option DomainName) (h : Linked zone t name old new (link.Leads to)) where
  abbrev added : Records
  added = h.gained.added

  pub ends_here : (left : ℕ) → left ≡ 0 → Chased zone (place name t left) old new ended.left_open
  ends_here left e = record { added = added; put = h.gained.put; chases = subst (λ n. Chases zone t n old name added ended.left_open) (sym e) (stops h.says h.gained.is) }

  leads_out : (left : ℕ) → ¬ (IsSomeAnd to (IsIn zone)) → Chased zone (place name t left) old new ended.left_open
  leads_out left out = record { added = added; put = h.gained.put; chases = leaves h.says h.gained.is out }

  pub leads_nowhere : (left : ℕ) → to ≡ None → Chased zone (place name t left) old new ended.left_open
  leads_nowhere left none = leads_out left (subst (λ o. ¬ (IsSomeAnd o (IsIn zone))) (sym none) (λ x. x))

  module _ (target : DomainName) (is : to ≡ Some target) where
    -- whether the chain was at the next name
    been : (b : Bool) → owns_cname (lower_name target) new ≡ b → owns_cname target (old ++ added) ≡ b
    been b e = sym (own_alike (lower_name target) target (old ++ added) (lowered target)) ∙ sym (ap (owns_cname (lower_name target)) h.gained.put) ∙ e

    pub leads_no_further : (left : ℕ) → ¬ (IsIn zone target) ⊎ (owns_cname (lower_name target) new ≡ true) → Chased zone (place name t left) old new ended.left_open
    leads_no_further left (inl out) = leads_out left (subst (λ o. ¬ (IsSomeAnd o (IsIn zone))) (sym is) out)
    leads_no_further left (inr seen) = record { added = added; put = h.gained.put; chases = comes_back h.says (h.gained.is ∙ ap (leads added) is) (been true seen) }

    pub leads_on : (left : ℕ) (last : Records) (ending : Ending) → ¬ (left ≡ 0) → IsIn zone target → owns_cname (lower_name target) new ≡ false → Chased zone (place target t (left - 1)) new last ending
        → Chased zone (place name t left) old last ending
    leads_on left last ending some within apart rest =
        let more : suc (left - 1) ≡ left = omega arith in
        let on : Chases zone t (left - 1) (old ++ added) target rest.added ending = subst (λ (rs : Records). Chases zone t (left - 1) rs target rest.added ending) h.gained.put rest.chases in
        record {
          added = added ++ rest.added;
          put = rest.put ∙ ap (λ rs. rs ++ rest.added) h.gained.put ∙ append_assoc old added rest.added;
          chases = subst (λ n. Chases zone t n old name (added ++ rest.added) ending) more
              (follows h.says (h.gained.is ∙ ap (leads added) is) within (been false apart) on);
        }
