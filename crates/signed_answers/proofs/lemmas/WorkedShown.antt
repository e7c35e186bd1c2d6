-- The NSEC RRset for a name of a zone that is written out.
use Rattle.std.proofs.Common.{◌≡◌, ◌==◌, ℕ, true, false, not, Bool, ◌&&◌, ◌||◌, [], ◌∷◌, inl, inr, refl, sym, ap, ◌∙◌, arith}
use Rattle.std.specs.List.{Contains, list_all}
use Rattle.std.specs.Ordering.{is_gt}
use Rattle.wire_names.specs.rr.domain.DomainName.{DomainName}
use Rattle.wire_names.specs.rr.domain.NameOrder.{name_cmp}
use Rattle.wire_messages.specs.Numbers.{type_nsec}
use Rattle.zone_answers.specs.Zones.{Sets}
use Rattle.zone_denials.proofs.lemmas.Members.{head_or_in}
use Rattle.signed_answers.specs.NsecSets.{IsNsecFor, Rrset}

-- whether an RRset is none of type NSEC, or after the name, or not after the other RRset
abbrev pub is_passed : DomainName → Rrset → Rrset → Bool
is_passed name e f = not (f.0.record_type == type_nsec) || (is_gt (name_cmp f.0.name name) || not (is_gt (name_cmp f.0.name e.0.name)))

both : (a b : Bool) → (a && b) ≡ true → (a ≡ true) × (b ≡ true)
both true b h = (refl, h)
both false b h = absurd cc

passed_at : (p : Rrset → Bool) (sets : Sets) (f : Rrset) → Contains sets f → list_all p sets ≡ true → p f ≡ true
passed_at p [] f h all = absurd (omega (arith, h.1))
passed_at p (e ∷ sets) f h all =
    let parts = both (p e) (list_all p sets) all in
    elim (head_or_in e sets f h) [
      | inl is ↦ ap p (sym is) ∙ parts.0
      | inr more ↦ passed_at p sets f more parts.1
    ]

last_of : (a b c : Bool) → (not a || (b || not c)) ≡ true → a ≡ true → b ≡ false → c ≡ false
last_of true true c h x y = absurd cc
last_of true false true h x y = absurd cc
last_of true false false h x y = refl
last_of false b c h x y = absurd cc

pub nsec_by : (sets : Sets) (name : DomainName) (e : Rrset) → Contains sets e → e.0.record_type ≡ type_nsec → is_gt (name_cmp e.0.name name) ≡ false → list_all (is_passed name e) sets ≡ true → IsNsecFor sets name e
nsec_by sets name e held typed up all = record {
  held = held;
  nsec = typed;
  up_to = up;
  last = λ f at of before. last_of (f.0.record_type == type_nsec) (is_gt (name_cmp f.0.name name)) (is_gt (name_cmp f.0.name e.0.name)) (passed_at (is_passed name e) sets f at all) (ap (λ (t : ℕ). t == type_nsec) of) before;
}
