-- The zone's answers as facts of its keys.
use Rattle.std.proofs.Common.{◌≡◌, ◌==◌, ℕ, zero, suc, ◌+◌, ◌<◌, ◌≤◌, true, false, Bool, cond, List, [], ◌∷◌, ◌++◌, length, length-append, Option, Some, None, inl, inr, refl, sym, ap, subst, ◌∙◌, arith}
use Rattle.std.specs.Prelude.{is_some}
use Rattle.std.specs.List.{Contains}
use Rattle.std.specs.Map.{keys_of, lookup}
use Rattle.std.specs.Ordering.{is_eq, nat_cmp, ordering_then}
use Rattle.std.specs.Cmp.{nat_cmp_total, tied_itself}
use Rattle.std.proofs.lemmas.List.{length-map}
use Rattle.std.proofs.lemmas.Bool.Decides.{nat_tests}
use Rattle.std.proofs.lemmas.List.Elements.{Contains-append_right}
use Rattle.std.specs.Prelude.{◌&&◌}
use Rattle.wire_names.specs.representation.NameHash.{equal_is}
use Rattle.hickory_base.proofs.lemmas.zone_store.ZoneByName.{eq_numbers, eq_then}
use Rattle.zone_denials.proofs.lemmas.EnclosedBetween.{same_of}
use Rattle.std.proofs.lemmas.List.Elements.{All-contains}
use Rattle.wire_names.specs.rr.domain.DomainName.{DomainName}
use Rattle.wire_names.specs.rr.domain.NameOrder.{Encloses, SameName, lower_label, lower_labels, name_cmp}
use Rattle.wire_messages.specs.Numbers.{type_any, type_cname, type_dname, type_ds, type_ns}
use Rattle.wire_messages.specs.declared.rr.rr_key.RrKey.{RrKey}
use Rattle.hickory_base.specs.zone_store.ZoneSets.{is_key}
use Rattle.zone_denials.proofs.lemmas.EnclosedBetween.{equal_of, same_back}
use Rattle.zone_denials.proofs.lemmas.Members.{head_or_in}
use Rattle.zone_denials.proofs.lemmas.NsecChains.{enclosed_same}
use Rattle.zone_denials.proofs.lemmas.SignedZones.{cuts_are_proved, names_are_denied, types_are_denied, wildcards_are_proved}
use Rattle.zone_denials.specs.Nsec.{ancestor, wildcard}
use Rattle.zone_denials.specs.SignedZone as keys
use Rattle.zone_denials.specs.SignedZone.{HasSet, IsChained, IsOwn, ZoneKeys}
use Rattle.zone_denials.specs.SignedZoneLaws.{Lacks}
use Rattle.signed_answers.specs.ZoneAnswers.{NameErrorsAreProved, NoDataIsProved, ReferralsAreProved, WildAliasesAreProved, WildAnswersAreProved, keys_in}
use Rattle.zone_answers.specs.Zones as zones
use Rattle.zone_answers.specs.Zones.{Answers, AnswersDirectly, AreOwners, Delegates, Exists, HasClosestEncloser, HasDname, IsAuthoritativeAt, IsCut, IsOwner, Outcome, Records, Redirects, Sets, Zone, any_of, at_node, by_wildcard, of_sets, rrset}

is_key_of : (name : DomainName) (t : ℕ) (key : RrKey) → SameName name key.name → key.record_type ≡ t → is_key name t key ≡ true
is_key_of name t key s typed =
    ap (λ o. is_eq (ordering_then o (nat_cmp t key.record_type))) (equal_of name key.name s) ∙ ap (λ u. is_eq (nat_cmp t u)) typed ∙ ap is_eq (tied_itself nat_cmp_total t)

some_or : (b : Bool) (rs : Records) (rest : Option Records) → is_some rest ≡ true → is_some (cond b (Some rs) rest) ≡ true
some_or true rs rest h = refl
some_or false rs rest h = h

-- a set that the keys have is one of the zone
some_of : (sets : Sets) (name : DomainName) (t : ℕ) (key : RrKey) → Contains (keys_of sets) key → SameName name key.name → key.record_type ≡ t → is_some (rrset sets name t) ≡ true
some_of [] name t key held s typed = absurd (omega (arith, held.1))
some_of (e ∷ sets) name t key held s typed = elim (head_or_in e.0 (keys_of sets) key held) [
  | inl is ↦ ap (λ b. is_some (cond b (Some e.1) (lookup (is_key name t) sets))) (subst (λ (q : RrKey). is_key name t q ≡ true) (sym is) (is_key_of name t key s typed))
  | inr more ↦ some_or (is_key name t e.0) e.1 (lookup (is_key name t) sets) (some_of sets name t key more s typed)
]

module _ (zone : Zone) (apex : zone.origin.is_fqdn ≡ true) (owners : AreOwners zone.origin zone.sets) where
  set_of : (name : DomainName) (t : ℕ) → HasSet (keys_in zone) name t → is_some (rrset zone.sets name t) ≡ true
  set_of name t h = some_of zone.sets name t h.key h.held (same_back h.key.name name h.named) h.typed

  within : (name : DomainName) (t : ℕ) → HasSet (keys_in zone) name t → Encloses zone.origin.labels name.labels
  within name t h = enclosed_same zone.origin.labels h.key.name name (same_back h.key.name name h.named) (All-contains (IsOwner zone.origin) (keys_of zone.sets) h.key owners h.held).within

  longer : (name : DomainName) → name.is_fqdn ≡ true → (e : Encloses zone.origin.labels name.labels) (front : List (List ℕ)) → e.front ≡ front → ¬ (SameName name zone.origin) → length zone.origin.labels < length name.labels
  longer name mark e [] is differs = absurd (differs (record { labels = e.ends ∙ ap (λ f. f ++ lower_labels zone.origin.labels) is; marks = mark ∙ sym apex }))
  longer name mark e (f ∷ fs) is differs =
      omega (arith, ap length e.ends, ap length is, length-append e.front (lower_labels zone.origin.labels), length-map name.labels lower_label, length-map zone.origin.labels lower_label)

  pub cut_of : (name : DomainName) → keys.IsCut (keys_in zone) name → IsCut zone name
  cut_of name c =
      let e = within name type_ns c.servers in
      let mark : name.is_fqdn ≡ true = sym c.servers.named.marks ∙ (All-contains (IsOwner zone.origin) (keys_of zone.sets) c.servers.key owners c.servers.held).qualified in
      record { within = e; below_apex = longer name mark e e.front refl c.below_apex; servers = set_of name type_ns c.servers }

  -- Above an ancestor of a name above which the zone is not cut there is no DNAME if nothing redirects the name.
  module _ (name : DomainName) (base : ℕ) (uncut : (j : ℕ) → base < j → ¬ (IsCut zone (ancestor name j))) (undirected : (k : ℕ) → ¬ (Redirects zone name k)) where
    none_above : (d k : ℕ) → base < k → length name.labels ≤ k + d → k ≤ length name.labels → ¬ (HasDname zone (ancestor name k))
    none_above zero k above far near h = undirected k (record { above = omega arith; is_ancestor = near; owner = h; highest = λ j less within. absurd (omega arith); uncut = λ j from. uncut j (omega arith) })
    none_above (suc d) k above far near h = undirected k (record { above = omega arith; is_ancestor = near; owner = h; highest = λ j less within. none_above d j (omega arith) (omega arith) within; uncut = λ j from. uncut j (omega arith) })

    dname_of : (at : DomainName) → HasSet (keys_in zone) at type_dname → HasDname zone at
    dname_of at h = record { within = within at type_dname h; dname = set_of at type_dname h }

    pub no_dname_above : (k : ℕ) → base < k → k ≤ length name.labels → ¬ (HasSet (keys_in zone) (ancestor name k) type_dname)
    no_dname_above k above near h = none_above (length name.labels) k above (omega arith) near (dname_of (ancestor name k) h)

  pub own_of : (name : DomainName) → IsAuthoritativeAt zone name → ((k : ℕ) → ¬ (Redirects zone name k)) → IsOwn (keys_in zone) name
  own_of name auth undirected = record {
    uncut = λ k c. auth k (cut_of (ancestor name k) c);
    undirected = λ k above near. no_dname_above name 0 (λ j less. auth j) undirected k above near;
  }

pub exists_in : (zone : Zone) (name : DomainName) → keys.Exists (keys_in zone) name → Exists zone.sets name
exists_in zone name x = record { owner = x.owner; held = x.held; at_or_below = x.at_or_below }

pub exists_of : (zone : Zone) (name : DomainName) → Exists zone.sets name → keys.Exists (keys_in zone) name
exists_of zone name x = record { owner = x.owner; held = x.held; at_or_below = x.at_or_below }

pub encloser_of : (zone : Zone) (name : DomainName) (k : ℕ) → HasClosestEncloser zone.sets name k → keys.HasClosestEncloser (keys_in zone) name k
encloser_of zone name k h = record { exists = exists_of zone (ancestor name k) h.exists; longest = λ j less x. h.longest j less (exists_in zone (ancestor name j) x) }

abbrev pub is_missing : Outcome → Bool
is_missing zones.no_name = true
is_missing other = false

abbrev pub is_wild : Outcome → Bool
is_wild (zones.wild_answer rs) = true
is_wild other = false

abbrev pub is_wild_alias : Outcome → Bool
is_wild_alias (zones.wild_alias rs) = true
is_wild_alias other = false

-- what a name has is neither
pub record IsPlain (o : Outcome) : Type 0 where
  pub found : is_missing o ≡ false
  pub own : is_wild o ≡ false
  pub own_alias : is_wild_alias o ≡ false

of_any : (rs : Records) → IsPlain (any_of rs)
of_any [] = record { found = refl; own = refl; own_alias = refl }
of_any (r ∷ rs) = record { found = refl; own = refl; own_alias = refl }

of_set : (a b : Option Records) → IsPlain (of_sets a b)
of_set (Some rs) b = record { found = refl; own = refl; own_alias = refl }
of_set None (Some rs) = record { found = refl; own = refl; own_alias = refl }
of_set None None = record { found = refl; own = refl; own_alias = refl }

of_cond : (b : Bool) (x y : Outcome) → IsPlain x → IsPlain y → IsPlain (cond b x y)
of_cond true x y p q = p
of_cond false x y p q = q

at_plain : (sets : Sets) (name : DomainName) (t : ℕ) → IsPlain (at_node sets name t)
at_plain sets name t = of_cond (t == type_any) (any_of _) (of_sets (rrset sets name t) (rrset sets name 5)) (of_any _) (of_set (rrset sets name t) (rrset sets name 5))

wild_found : (o : Outcome) → is_missing o ≡ false → is_missing (by_wildcard o) ≡ false
wild_found (zones.answer rs) h = refl
wild_found (zones.alias rs) h = refl
wild_found (zones.wild_answer rs) h = refl
wild_found (zones.wild_alias rs) h = refl
wild_found (zones.referral rs) h = refl
wild_found zones.no_data h = refl
wild_found zones.no_name h = h
wild_found (zones.redirection k rs) h = refl

-- What there is if a name is missing.
pub record Missing (zone : Zone) (name : DomainName) : Type 0 where
  pub auth : IsAuthoritativeAt zone name
  pub none : ¬ (Exists zone.sets name)
  pub no_wildcard : (k : ℕ) → HasClosestEncloser zone.sets name k → ¬ (Exists zone.sets (wildcard (ancestor name k)))

missing_not : (o : Outcome) → is_missing o ≡ false → o ≡ zones.no_name → ⊥
missing_not o h e = absurd (false_true (sym h ∙ ap is_missing e)) where
  false_true : false ≡ true → ⊥
  false_true f = cc

wild_not : (o : Outcome) (rs : Records) → is_wild o ≡ false → o ≡ zones.wild_answer rs → ⊥
wild_not o rs h e = absurd (false_true (sym h ∙ ap is_wild e)) where
  false_true : false ≡ true → ⊥
  false_true f = cc

pub missing_by : (zone : Zone) (name : DomainName) (t : ℕ) (o : Outcome) → AnswersDirectly zone name t o → o ≡ zones.no_name → Missing zone name
missing_by zone name t o (zones.delegated {k} {servers} d ds is) e = absurd (missing_not (zones.referral servers) refl e)
missing_by zone name t o (zones.at_cut d ds) e = absurd (missing_not (at_node zone.sets name t) (at_plain zone.sets name t).found e)
missing_by zone name t o (zones.matched auth x) e = absurd (missing_not (at_node zone.sets name t) (at_plain zone.sets name t).found e)
missing_by zone name t o (zones.wild {k} auth none enc x) e =
    absurd (missing_not (by_wildcard (at_node zone.sets (wildcard (ancestor name k)) t)) (wild_found (at_node zone.sets (wildcard (ancestor name k)) t) (at_plain zone.sets (wildcard (ancestor name k)) t).found) e)
missing_by zone name t o (zones.denied auth none no_wild) e = record { auth = auth; none = none; no_wildcard = no_wild }

-- What there is if a name is synthesized from a wildcard.
pub record Wild (zone : Zone) (name : DomainName) : Type 0 where
  pub count : ℕ
  pub auth : IsAuthoritativeAt zone name
  pub none : ¬ (Exists zone.sets name)
  pub encloser : HasClosestEncloser zone.sets name count

pub wild_by : (zone : Zone) (name : DomainName) (t : ℕ) (rs : Records) (o : Outcome) → AnswersDirectly zone name t o → o ≡ zones.wild_answer rs → Wild zone name
wild_by zone name t rs o (zones.delegated {k} {servers} d ds is) e = absurd (wild_not (zones.referral servers) rs refl e)
wild_by zone name t rs o (zones.at_cut d ds) e = absurd (wild_not (at_node zone.sets name t) rs (at_plain zone.sets name t).own e)
wild_by zone name t rs o (zones.matched auth x) e = absurd (wild_not (at_node zone.sets name t) rs (at_plain zone.sets name t).own e)
wild_by zone name t rs o (zones.wild {k} auth none enc x) e = record { count = k; auth = auth; none = none; encloser = enc }
wild_by zone name t rs o (zones.denied auth none no_wild) e = absurd (wild_not zones.no_name rs refl e)

-- An answer that is no redirection comes of a name that nothing redirects.
pub record Direct (zone : Zone) (name : DomainName) (t : ℕ) (o : Outcome) : Type 0 where
  pub undirected : (k : ℕ) → ¬ (Redirects zone name k)
  pub answers : AnswersDirectly zone name t o

abbrev pub is_redirection : Outcome → Bool
is_redirection (zones.redirection k rs) = true
is_redirection other = false

pub direct_by : (zone : Zone) (name : DomainName) (t : ℕ) (o p : Outcome) → Answers zone name t o → o ≡ p → is_redirection p ≡ false → Direct zone name t p
direct_by zone name t o p (zones.redirected {k} {dname} r is) e h = absurd (true_false (ap is_redirection e ∙ h)) where
  true_false : true ≡ false → ⊥
  true_false f = cc
direct_by zone name t o p (zones.direct undirected answers) e h = record { undirected = undirected; answers = subst (AnswersDirectly zone name t) e answers }

pub name_errors_are_proved : NameErrorsAreProved
name_errors_are_proved zone chain shown name t k n m asked answers encloser chained last last_wild put put_wild =
    let d = direct_by zone name t zones.no_name zones.no_name answers refl refl in
    let g = missing_by zone name t zones.no_name d.answers refl in
    names_are_denied (keys_in zone) chain shown name k n m chained
    (record {
      qualified = asked.qualified;
      own = own_of zone asked.apex asked.owners name g.auth d.undirected;
      missing = λ x. g.none (exists_in zone name x);
      encloser = encloser_of zone name k encloser;
      no_wildcard = λ x. g.no_wildcard k encloser (exists_in zone (wildcard (ancestor name k)) x);
    })
    last last_wild put put_wild

pub wild_answers_are_proved : WildAnswersAreProved
wild_answers_are_proved zone chain shown name t rs n asked answers chained last put =
    let d = direct_by zone name t (zones.wild_answer rs) (zones.wild_answer rs) answers refl refl in
    let g = wild_by zone name t rs (zones.wild_answer rs) d.answers refl in (
      g.count,
      g.encloser,
      wildcards_are_proved (keys_in zone) chain shown name g.count n chained
          (record {
            qualified = asked.qualified;
            own = own_of zone asked.apex asked.owners name g.auth d.undirected;
            missing = λ x. g.none (exists_in zone name x);
            encloser = encloser_of zone name g.count g.encloser;
          })
          last put,
    )

alias_not : (o : Outcome) (rs : Records) → is_wild_alias o ≡ false → o ≡ zones.wild_alias rs → ⊥
alias_not o rs h e = absurd (false_true (sym h ∙ ap is_wild_alias e)) where
  false_true : false ≡ true → ⊥
  false_true f = cc

pub alias_by : (zone : Zone) (name : DomainName) (t : ℕ) (rs : Records) (o : Outcome) → AnswersDirectly zone name t o → o ≡ zones.wild_alias rs → Wild zone name
alias_by zone name t rs o (zones.delegated {k} {servers} d ds is) e = absurd (alias_not (zones.referral servers) rs refl e)
alias_by zone name t rs o (zones.at_cut d ds) e = absurd (alias_not (at_node zone.sets name t) rs (at_plain zone.sets name t).own_alias e)
alias_by zone name t rs o (zones.matched auth x) e = absurd (alias_not (at_node zone.sets name t) rs (at_plain zone.sets name t).own_alias e)
alias_by zone name t rs o (zones.wild {k} auth none enc x) e = record { count = k; auth = auth; none = none; encloser = enc }
alias_by zone name t rs o (zones.denied auth none no_wild) e = absurd (alias_not zones.no_name rs refl e)

pub wild_aliases_are_proved : WildAliasesAreProved
wild_aliases_are_proved zone chain shown name t rs n asked answers chained last put =
    let d = direct_by zone name t (zones.wild_alias rs) (zones.wild_alias rs) answers refl refl in
    let g = alias_by zone name t rs (zones.wild_alias rs) d.answers refl in (
      g.count,
      g.encloser,
      wildcards_are_proved (keys_in zone) chain shown name g.count n chained
          (record {
            qualified = asked.qualified;
            own = own_of zone asked.apex asked.owners name g.auth d.undirected;
            missing = λ x. g.none (exists_in zone name x);
            encloser = encloser_of zone name g.count g.encloser;
          })
          last put,
    )

abbrev pub is_lack : Outcome → Bool
is_lack zones.no_data = true
is_lack other = false

pub lack_not : (o : Outcome) → is_lack o ≡ false → o ≡ zones.no_data → ⊥
lack_not o h e = absurd (false_true (sym h ∙ ap is_lack e)) where
  false_true : false ≡ true → ⊥
  false_true f = cc

-- neither records of the type nor an alias
pub record HasNeither (sets : Sets) (name : DomainName) (t : ℕ) : Type 0 where
  pub none : rrset sets name t ≡ None
  pub no_alias : rrset sets name type_cname ≡ None

neither_of : (sets : Sets) (name : DomainName) (t : ℕ) (a b : Option Records) → rrset sets name t ≡ a → rrset sets name type_cname ≡ b → of_sets a b ≡ zones.no_data → HasNeither sets name t
neither_of sets name t (Some rs) b p q e = absurd (lack_not (zones.answer rs) refl e)
neither_of sets name t None (Some rs) p q e = absurd (lack_not (zones.alias rs) refl e)
neither_of sets name t None None p q e = record { none = p; no_alias = q }

pub by_any : (sets : Sets) (name : DomainName) (t : ℕ) (any : Outcome) (b : Bool) → (t == type_any) ≡ b → ¬ (t ≡ type_any) → cond b any (of_sets (rrset sets name t) (rrset sets name type_cname)) ≡ zones.no_data → HasNeither sets name t
by_any sets name t any true is one e = absurd (one (grind (arith, nat_tests, is)))
by_any sets name t any false is one e = neither_of sets name t (rrset sets name t) (rrset sets name type_cname) refl refl e

-- What there is if a name that exists has no such records.
pub data Without (zone : Zone) (name : DomainName) (t : ℕ) : Type 0 where
  at_own : IsAuthoritativeAt zone name → HasNeither zone.sets name t → Without zone name t
  at_top : t ≡ type_ds → HasNeither zone.sets name t → Without zone name t

without_by : (zone : Zone) (name : DomainName) (t : ℕ) (o : Outcome) → ¬ (t ≡ type_any) → Exists zone.sets name → AnswersDirectly zone name t o → o ≡ zones.no_data → Without zone name t
without_by zone name t o one x (zones.delegated {k} {servers} d ds is) e = absurd (lack_not (zones.referral servers) refl e)
without_by zone name t o one x (zones.at_cut d ds) e = at_top ds (by_any zone.sets name t (any_of _) (t == type_any) refl one e)
without_by zone name t o one x (zones.matched auth y) e = at_own auth (by_any zone.sets name t (any_of _) (t == type_any) refl one e)
without_by zone name t o one x (zones.wild {k} auth none enc y) e = absurd (none x)
without_by zone name t o one x (zones.denied auth none no_wild) e = absurd (none x)

pub none_set : (zone : Zone) → zone.origin.is_fqdn ≡ true → AreOwners zone.origin zone.sets → (name : DomainName) (t : ℕ) → rrset zone.sets name t ≡ None → ¬ (HasSet (keys_in zone) name t)
none_set zone apex owners name t is h = absurd (false_true (sym (ap is_some is) ∙ set_of zone apex owners name t h)) where
  false_true : false ≡ true → ⊥
  false_true f = cc

pub no_data_is_proved : NoDataIsProved
no_data_is_proved zone chain shown name t n asked one below answers x chained held s put =
    let d = direct_by zone name t zones.no_data zones.no_data answers refl refl in
    types_are_denied (keys_in zone) chain shown name t n chained (by_case d.undirected (without_by zone name t zones.no_data one x d.answers refl)) held s put where
      by_case : ((k : ℕ) → ¬ (Redirects zone name k)) → Without zone name t → Lacks (keys_in zone) name t
      by_case undirected (at_own auth h) = record {
        of_zone = inl (own_of zone asked.apex asked.owners name auth undirected);
        none = none_set zone asked.apex asked.owners name t h.none;
        no_alias = none_set zone asked.apex asked.owners name type_cname h.no_alias;
        below_apex = below;
      }
      by_case undirected (at_top ds h) = record {
        of_zone = inr ds;
        none = none_set zone asked.apex asked.owners name t h.none;
        no_alias = none_set zone asked.apex asked.owners name type_cname h.no_alias;
        below_apex = below;
      }

and_both : (a b : Bool) → (a && b) ≡ true → (a ≡ true) × (b ≡ true)
and_both true b h = (refl, h)
and_both false b h = absurd cc

same_number : (a b : ℕ) → (a == b) ≡ true → a ≡ b
same_number a b h = grind (arith, nat_tests)

set_step : (b : Bool) (zone origin : DomainName) (t : ℕ) (e : RrKey × Records) (sets : Sets) → is_key zone t e.0 ≡ b → is_some (cond b (Some e.1) (lookup (is_key zone t) sets)) ≡ true
    → (is_some (lookup (is_key zone t) sets) ≡ true → HasSet (record { origin = origin; keys = keys_of sets }) zone t) → HasSet (record { origin = origin; keys = keys_of (e ∷ sets) }) zone t
set_step true name origin t e sets is h go =
    let both = and_both (is_eq (name_cmp name e.0.name)) (is_eq (nat_cmp t e.0.record_type)) (sym (eq_then (name_cmp name e.0.name) (nat_cmp t e.0.record_type)) ∙ is) in
    record {
      key = e.0;
      held = (0, omega arith, refl);
      named = same_back name e.0.name (same_of name e.0.name (equal_is (name_cmp name e.0.name) both.0));
      typed = sym (same_number t e.0.record_type (sym (eq_numbers t e.0.record_type) ∙ both.1));
    }
set_step false name origin t e sets is h go =
    let x = go h in
    record { key = x.key; held = Contains-append_right (e.0 ∷ []) (keys_of sets) x.key x.held; named = x.named; typed = x.typed }

set_from : (sets : Sets) (origin name : DomainName) (t : ℕ) → is_some (rrset sets name t) ≡ true → HasSet (record { origin = origin; keys = keys_of sets }) name t
set_from [] origin name t h = absurd cc
set_from (e ∷ sets) origin name t h = set_step (is_key name t e.0) name origin t e sets refl h (set_from sets origin name t)

pub key_cut : (zone : Zone) (name : DomainName) → IsCut zone name → keys.IsCut (keys_in zone) name
key_cut zone name c = record {
  below_apex = λ s. absurd (omega (arith, c.below_apex, ap length s.labels, length-map name.labels lower_label, length-map zone.origin.labels lower_label));
  servers = set_from zone.sets zone.origin name type_ns c.servers;
}

pub referrals_are_proved : ReferralsAreProved
referrals_are_proved zone chain shown name k n asked d none chained held s put =
    cuts_are_proved (keys_in zone) chain shown (ancestor name k) n chained (key_cut zone (ancestor name k) d.cut) (none_set zone asked.apex asked.owners (ancestor name k) type_ds none) held s put
