-- What is shown, by what was found.
use Rattle.std.proofs.Common.{◌≡◌, ℕ, ◌<◌, true, false, Bool, cond, ◌==◌, [], ◌∷◌, length, Option, Some, None, Result, Ok, Err, refl, sym, ap, subst, ◌∙◌}
use Rattle.std.specs.Prelude.{is_some, IfOk}
use Rattle.std.specs.Option.{option_map}
use Rattle.std.specs.declared.alloc.AllocError.{AllocError}
use Rattle.wire_names.specs.rr.domain.DomainName.{DomainName}
use Rattle.wire_names.specs.rr.domain.NameOrder.{SameName, lower_name}
use Rattle.wire_names.proofs.lemmas.rr.domain.SameNames.{lower_labels-twice}
use Rattle.wire_messages.specs.Numbers.{type_any, type_ds, type_ns}
use Rattle.wire_messages.specs.declared.rr.rdata.RData.{RData}
use Rattle.wire_messages.specs.declared.rr.record.Record.{Record}
use Rattle.hickory_base.specs.zone_store.ZoneSets.{IsZone}
use Rattle.zone_answers.specs.Zones as zones
use Rattle.zone_answers.specs.Zones.{Answers, AnswersDirectly, Delegates, Exists, Outcome, Records, Sets, Zone, ancestor, any_of, at_node, by_wildcard, of_sets, rrset, wildcard}
use Rattle.zone_denials.proofs.lemmas.SignedZones.{same_trans}
use Rattle.signed_answers.proofs.lemmas.ShownNames.{name_of_first, none_empty, nsec_same, rrset_same, some_answer}
use Rattle.signed_answers.specs.LentDenials.{AreShown}
use Rattle.signed_answers.specs.LentSets.{lent_set}
use Rattle.signed_answers.specs.NsecSets.{NsecFor, Rrset, first_name}
use Rattle.signed_answers.specs.ShownSets as shown
use Rattle.signed_answers.specs.ShownSets.{Shows, ShowsMissing}
use Rattle.signed_answers.specs.declared.denials.Shown.{Shown}

-- for a name alone
abbrev pub IsShownAlone : Sets → DomainName → Result Shown AllocError → Type 0
IsShownAlone sets name r = IfOk r (λ d. NsecFor sets name (option_map lent_set d.name) × (d.wildcard ≡ None))

alone : (zone : Zone) (name : DomainName) (o : Outcome) (r : Result Shown AllocError) → ((e : Option Rrset) → NsecFor zone.sets name e → Shows zone name o e None) → IsShownAlone zone.sets name r → AreShown zone name o r
alone zone name o (Ok d) make h = subst (λ w. Shows zone name o (option_map lent_set d.name) (option_map lent_set w)) (sym h.1) (make (option_map lent_set d.name) h.0)
alone zone name o (Err e) make h = tt

pub lacking_alone : (zone : Zone) (name : DomainName) (r : Result Shown AllocError) → Exists zone.sets name → IsShownAlone zone.sets name r → AreShown zone name zones.no_data r
lacking_alone zone name r x h = alone zone name zones.no_data r (λ e of. shown.lacking x of) h

pub expansion_alone : (zone : Zone) (name : DomainName) (rs : Records) (r : Result Shown AllocError) → IsShownAlone zone.sets name r → AreShown zone name (zones.wild_answer rs) r
expansion_alone zone name rs r h = alone zone name (zones.wild_answer rs) r (λ e of. shown.expansion of) h

pub alias_alone : (zone : Zone) (name : DomainName) (rs : Records) (r : Result Shown AllocError) → IsShownAlone zone.sets name r → AreShown zone name (zones.wild_alias rs) r
alias_alone zone name rs r h = alone zone name (zones.wild_alias rs) r (λ e of. shown.alias_expansion of) h

abbrev pub AreMissing : Sets → DomainName → Result Shown AllocError → Type 0
AreMissing sets name r = IfOk r (λ d. ShowsMissing sets name (option_map lent_set d.name) (option_map lent_set d.wildcard))

pub errors_shown : (zone : Zone) (name : DomainName) (r : Result Shown AllocError) → AreMissing zone.sets name r → AreShown zone name zones.no_name r
errors_shown zone name (Ok d) h = shown.name_error h
errors_shown zone name (Err e) h = tt

pub wild_lacking_shown : (zone : Zone) (name : DomainName) (r : Result Shown AllocError) → ¬ (Exists zone.sets name) → AreMissing zone.sets name r → AreShown zone name zones.no_data r
wild_lacking_shown zone name (Ok d) none h = shown.wild_lacking none h
wild_lacking_shown zone name (Err e) none h = tt

-- all records of a name, if it has some
pub every_shown : (zone : Zone) (name : DomainName) (rs : Records) → 0 < length rs → Shows zone name (any_of rs) None None
every_shown zone name rs some = subst (λ o. Shows zone name o None None) (sym (some_answer rs some)) shown.found

pub wild_every_shown : (zone : Zone) (name : DomainName) (rs : Records) (r : Result Shown AllocError) → 0 < length rs → IsShownAlone zone.sets name r → AreShown zone name (by_wildcard (any_of rs)) r
wild_every_shown zone name rs r some h = subst (λ o. AreShown zone name (by_wildcard o) r) (sym (some_answer rs some)) (expansion_alone zone name rs r h)

-- and if it has none
pub none_shown : (zone : Zone) (name : DomainName) (rs : Records) (r : Result Shown AllocError) → rs ≡ [] → AreShown zone name zones.no_data r → AreShown zone name (any_of rs) r
none_shown zone name rs r none h = subst (λ qs. AreShown zone name (any_of qs) r) (sym none) h

pub wild_none_shown : (zone : Zone) (name : DomainName) (rs : Records) (r : Result Shown AllocError) → rs ≡ [] → AreShown zone name zones.no_data r → AreShown zone name (by_wildcard (any_of rs)) r
wild_none_shown zone name rs r none h = subst (λ qs. AreShown zone name (by_wildcard (any_of qs)) r) (sym none) h

-- The first of some records, by its name.
record Named (rs : Records) (name : DomainName) : Type 0 where
  first : Record RData
  rest : Records
  is : rs ≡ first ∷ rest
  named : first.name ≡ name

some_same : {A : Type 0} {x y : A} → Some x ≡ Some y → x ≡ y
some_same e = cc

named_by : (rs : Records) (name : DomainName) → first_name rs ≡ Some name → Named rs name
named_by [] name h = absurd cc
named_by (r ∷ rs) name h = record { first = r; rest = rs; is = refl; named = some_same h }

no_first : (rs : Records) → first_name rs ≡ None → rs ≡ []
no_first [] h = refl
no_first (r ∷ rs) h = absurd cc

lower_same : (name : DomainName) → SameName (lower_name name) name
lower_same name = record { labels = lower_labels-twice name.labels; marks = refl }

module _ (zone : Zone) (name : DomainName) (k : ℕ) (servers : Records) (all : IsZone zone.sets) (cut : Delegates zone name k) (is : rrset zone.sets (ancestor name k) type_ns ≡ Some servers) where
  -- there are servers
  pub some_servers : first_name servers ≡ None → ⊥
  some_servers none = none_empty zone.sets (ancestor name k) type_ns all (subst (λ rs. rrset zone.sets (ancestor name k) type_ns ≡ Some rs) (no_first servers none) is)

  module _ (owner low : DomainName) (first : first_name servers ≡ Some owner) (lowered : low ≡ lower_name owner) where
    same_cut : SameName low (ancestor name k)
    same_cut =
        let f = named_by servers owner first in
        let at : SameName f.first.name (ancestor name k) = name_of_first zone.sets (ancestor name k) type_ns f.first f.rest all (subst (λ rs. rrset zone.sets (ancestor name k) type_ns ≡ Some rs) f.is is) in
        same_trans low owner (ancestor name k) (subst (λ (d : DomainName). SameName d owner) (sym lowered) (lower_same owner)) (subst (λ (d : DomainName). SameName d (ancestor name k)) f.named at)

    pub same_ds : rrset zone.sets low type_ds ≡ rrset zone.sets (ancestor name k) type_ds
    same_ds = rrset_same zone.sets low (ancestor name k) type_ds same_cut

    signed_by : (o : Option Records) → rrset zone.sets low type_ds ≡ o → is_some o ≡ true → Shows zone name (zones.referral servers) None None
    signed_by None e some = absurd cc
    signed_by (Some ds) e some = shown.signed_cut cut (sym same_ds ∙ e)

    pub signed_shown : is_some (rrset zone.sets low type_ds) ≡ true → Shows zone name (zones.referral servers) None None
    signed_shown some = signed_by (rrset zone.sets low type_ds) refl some

    unsigned_by : (o : Option Records) → rrset zone.sets low type_ds ≡ o → is_some o ≡ false → rrset zone.sets low type_ds ≡ None
    unsigned_by None e none = e
    unsigned_by (Some ds) e none = absurd cc

    pub unsigned_shown : (e : Option Rrset) → is_some (rrset zone.sets low type_ds) ≡ false → NsecFor zone.sets low e → Shows zone name (zones.referral servers) e None
    unsigned_shown e none of =
        shown.unsigned_cut cut (sym same_ds ∙ unsigned_by (rrset zone.sets low type_ds) refl none) (nsec_same zone.sets low (ancestor name k) e same_cut of)

-- The servers of a cut.
pub record Referred (zone : Zone) (name : DomainName) (servers : Records) : Type 0 where
  pub off : ℕ
  pub cut : Delegates zone name off
  pub is : rrset zone.sets (ancestor name off) type_ns ≡ Some servers

abbrev is_referral : Outcome → Bool
is_referral (zones.referral rs) = true
is_referral other = false

of_any : (rs : Records) → is_referral (any_of rs) ≡ false
of_any [] = refl
of_any (r ∷ rs) = refl

of_set : (a b : Option Records) → is_referral (of_sets a b) ≡ false
of_set (Some rs) b = refl
of_set None (Some rs) = refl
of_set None None = refl

of_cond : (b : Bool) (x y : Outcome) → is_referral x ≡ false → is_referral y ≡ false → is_referral (cond b x y) ≡ false
of_cond true x y p q = p
of_cond false x y p q = q

at_no_referral : (sets : Sets) (name : DomainName) (t : ℕ) → is_referral (at_node sets name t) ≡ false
at_no_referral sets name t = of_cond (t == type_any) (any_of _) (of_sets (rrset sets name t) (rrset sets name 5)) (of_any _) (of_set (rrset sets name t) (rrset sets name 5))

by_no_referral : (o : Outcome) → is_referral o ≡ false → is_referral (by_wildcard o) ≡ false
by_no_referral (zones.answer rs) h = refl
by_no_referral (zones.alias rs) h = refl
by_no_referral (zones.wild_answer rs) h = refl
by_no_referral (zones.wild_alias rs) h = refl
by_no_referral (zones.referral rs) h = h
by_no_referral zones.no_data h = refl
by_no_referral zones.no_name h = refl
by_no_referral (zones.redirection k rs) h = refl

no_way : (o : Outcome) (rs : Records) → is_referral o ≡ false → o ≡ zones.referral rs → ⊥
no_way o rs h e = absurd (unequal (sym h ∙ ap is_referral e)) where
  unequal : false ≡ true → ⊥
  unequal f = cc

same_referral : (a b : Records) → zones.referral a ≡ zones.referral b → a ≡ b
same_referral a b e = cc

pub referred_by : (zone : Zone) (name : DomainName) (t : ℕ) (servers : Records) (o : Outcome) → AnswersDirectly zone name t o → o ≡ zones.referral servers → Referred zone name servers
referred_by zone name t servers o (zones.delegated {k} {servers = rs} d ds is) e = record { off = k; cut = d; is = is ∙ ap Some (same_referral rs servers e) }
referred_by zone name t servers o (zones.at_cut d ds) e = absurd (no_way (at_node zone.sets name t) servers (at_no_referral zone.sets name t) e)
referred_by zone name t servers o (zones.matched auth x) e = absurd (no_way (at_node zone.sets name t) servers (at_no_referral zone.sets name t) e)
referred_by zone name t servers o (zones.wild {k} auth none enc x) e =
    absurd (no_way (by_wildcard (at_node zone.sets (wildcard (ancestor name k)) t)) servers (by_no_referral (at_node zone.sets (wildcard (ancestor name k)) t) (at_no_referral zone.sets (wildcard (ancestor name k)) t)) e)
referred_by zone name t servers o (zones.denied auth none no_wild) e = absurd (no_way zones.no_name servers refl e)
