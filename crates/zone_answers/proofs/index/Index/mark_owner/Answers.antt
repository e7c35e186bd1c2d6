use Rattle.std.proofs.Common.{◌≡◌, ◌∷◌, ◌∙◌, ℕ, None, ap, subst, sym}
use Rattle.hickory_base.specs.zone_store.ZoneSets.{sets_of, shared_sets}
use Rattle.wire_messages.specs.declared.rr.rr_key.RrKey.{RrKey}
use Rattle.zone_answers.proofs.lemmas.zones.Kept.{nameless}
use Rattle.zone_answers.proofs.lemmas.zones.Marked.{marked_on}
use Rattle.zone_answers.specs.representation.Indexes.{IndexedSets, IsIndexBut, Marks}
use Rattle.zone_answers.specs.Zones.{rrset}
use Rattle.zone_answers.proofs.index.Index.mark_owner.Goals as goal

pub returns : goal.returns
returns c = λ done origin rest of.
    let sets = sets_of c.args.sets.now in
    let name = c.in-Ok.name in
    let old : IndexedSets = record {
      apex = c.self.inside.apex;
      entries = c.self.inside.entries.items;
      marks = c.self.inside.marks.items;
      has_servers = c.self.inside.has_servers;
    } in
    let first : c.new-first.result ≡ nameless name = c.new-first.ensures ∙ ap (λ n. record { name = name; record_type = n }) c.new-2.ensures in
    let none_before = λ (t : ℕ) (h : rrset (shared_sets c.args.self.now.entries) c.new-first.result.name t ≡ None).
    subst (λ (x : IndexedSets). rrset (shared_sets x.entries) name t ≡ None) (sym c.self.view_is) (subst (λ (k : RrKey). rrset (shared_sets c.args.self.now.entries) k.name t ≡ None) first h) in
    let none_after = λ (t : ℕ) (h : rrset sets c.new-first.result.name t ≡ None). subst (λ (k : RrKey). rrset sets k.name t ≡ None) first h in
    marked_on c.args.r.now rest origin sets old c.mark.new.self c.is_still-self-inside.result name c.in-Ok.ensures (c.zone_of.ensures.0 c.if-not-zone_of.false)
    (λ has. let s = c.is_still-self-inside.ensures has in (s.0, record { before = none_before 2 (c.has_servers_in-before.ensures s.1); after = none_after 2 (c.has_servers_at-after.ensures s.2) }))
    (subst (λ (k : RrKey). Marks k (record old { has_servers = c.is_still-self-inside.result }) c.mark.new.self) first c.mark.ensures)
    (subst (IsIndexBut (c.args.r.now ∷ rest) origin sets) (sym c.self.view_is) of)
