use Rattle.std.proofs.Common.{◌≡◌, ◌∙◌, ◌++◌, ℕ, false, length, List, [], ◌∷◌, sym, subst, ap, append_assoc, arith, length-append}
use Rattle.std.specs.Map.{keys_of}
use Rattle.std.specs.List.{AllByRecursion}
use Rattle.std.specs.List.Sorted.{IsStrictlySortedBy}
use Rattle.std.proofs.lemmas.List.{append-nil, map-append}
use Rattle.std.proofs.lemmas.List.Elements.{recursion_from_All}
use Rattle.wire_messages.specs.rr.RrKeys.{key_cmp}
use Rattle.hickory_base.specs.zone_store.ZoneSets.{AreSetsInOrder, sets_of, shared_sets}
use Rattle.hickory_base.proofs.lemmas.zone_store.ZoneByName.{keys-shared}
use Rattle.zone_answers.specs.representation.Indexes.{AreWordsOf, IsSearched, IsWordOf}
use Rattle.zone_answers.specs.representation.KeysBeside.{Entry}
use Rattle.zone_answers.specs.representation.TopCuts.{AreCutsOf, AreGlueOf, AreHostsOf}
use Rattle.wire_names.specs.rr.domain.DomainName.{DomainName}
use Rattle.zone_answers.proofs.lemmas.zones.TopCutsMade.{own_set}
use Rattle.zone_answers.specs.Zones.{IsOwner, Sets, rrset}
use Rattle.zone_answers.proofs.lemmas.zones.Indexed.{one_more}
use Rattle.zone_answers.proofs.index.Index.new.Goals as goal

pub loop-key-init : goal.loop-key-init
loop-key-init c =
    let origin = c.args.zone.origin.now in
    let none : c.in_ok-entries.entries.items ≡ [] = c.in_ok-entries.ensures.items in
    let unnumbered : c.in_ok-words.words.items ≡ [] = c.in_ok-words.ensures.items in
    let gives : c.into_iter-key-iterator.result ≡ c.args.zone.sets.now.entries = c.into_iter-key-iterator.ensures.into_iter_gives.0 in
    record {
      sets = ap (λ es. shared_sets es ++ shared_sets c.into_iter-key-iterator.result) none ∙ ap shared_sets gives;
      numbered = subst (λ es. AreWordsOf origin es c.in_ok-words.words.items) (sym none) (subst (AreWordsOf origin []) (sym unnumbered) tt);
      marks = ap length c.in_ok-marks.ensures.items ∙ sym (ap length none);
      owners = subst (λ es. AllByRecursion (IsOwner origin) (keys_of (shared_sets es))) (sym gives) (recursion_from_All (IsOwner origin) (keys_of (shared_sets c.args.zone.sets.now.entries)) c.requires.owners);
    }

pub word_of-requires : goal.word_of-requires
word_of-requires c =
    let owners = subst (λ es. AllByRecursion (IsOwner c.args.zone.origin.now) (keys_of (shared_sets es))) c.in-Some.ensures.steps c.loop-key.invariant.owners in
    owners.0.within

pub loop-key-preserved : goal.loop-key-preserved
loop-key-preserved c =
    let origin = c.args.zone.origin.now in
    let e : Entry = (c.in_ok-clone.field-0, c.in_ok-clone-2.field-0) in
    let key : e.0 ≡ c.in-Some.key.now = c.in_ok-clone.ensures.cases in
    let set : e.1.value ≡ c.in-Some.set.now.value = c.in_ok-clone-2.ensures.cases in
    let words : c.push.new.self.items ≡ c.loop-key.words.items ++ c.word_of.result ∷ [] = c.in_ok-push.ensures.items in
    let entries : c.push-in-loop-key.new.self.items ≡ c.loop-key.entries.items ++ e ∷ [] = c.in_ok-push-2.ensures.items in
    let step = c.in-Some.ensures.steps in
    let before = shared_sets c.loop-key.entries.items in
    let rest = shared_sets c.next.new.self in
    let word : IsWordOf origin e.0 c.word_of.result = subst (λ k. IsWordOf origin k c.word_of.result) (sym key) c.word_of.ensures in
    record {
      sets = ap (λ es. shared_sets es ++ rest) entries ∙ ap (λ es. es ++ rest) (map-append (λ (x : Entry). (x.0, x.1.value)) c.loop-key.entries.items (e ∷ []))
          ∙ append_assoc before ((e.0, e.1.value) ∷ []) rest ∙ ap (λ k. before ++ (k, e.1.value) ∷ rest) key ∙ ap (λ s. before ++ (c.in-Some.key.now, s) ∷ rest) set
          ∙ sym (ap (λ es. before ++ shared_sets es) step) ∙ c.loop-key.invariant.sets;
      numbered = subst (λ es. AreWordsOf origin es c.push.new.self.items) (sym entries) (subst (AreWordsOf origin (c.loop-key.entries.items ++ e ∷ [])) (sym words)
          (one_more origin c.loop-key.entries.items c.loop-key.words.items e c.word_of.result c.loop-key.invariant.numbered word));
      marks = omega (arith, c.loop-key.invariant.marks, ap length entries, ap length c.in_ok-push-3.ensures.items, length-append c.loop-key.entries.items (e ∷ []), length-append c.loop-key.marks.items (false ∷ []));
      owners = (subst (λ es. AllByRecursion (IsOwner origin) (keys_of (shared_sets es))) step c.loop-key.invariant.owners).1;
    }

-- all were put
all_put : (es rest : List Entry) (sets : Sets) → shared_sets es ++ shared_sets rest ≡ sets → rest ≡ [] → shared_sets es ≡ sets
all_put es rest sets is none = sym (append-nil (shared_sets es)) ∙ sym (ap (λ ms. shared_sets es ++ shared_sets ms) none) ∙ is

-- and in order
in_order : (es rest : List Entry) (sets : Sets) → shared_sets es ++ shared_sets rest ≡ sets → rest ≡ [] → AreSetsInOrder sets → IsStrictlySortedBy key_cmp (keys_of es)
in_order es rest sets is none ordered =
    subst (IsStrictlySortedBy key_cmp) (sym (ap keys_of (all_put es rest sets is none)) ∙ keys-shared es) ordered

pub new-requires-clause-ordered : goal.new-requires-clause-ordered
new-requires-clause-ordered c = subst (λ (es : List Entry). IsStrictlySortedBy key_cmp (keys_of es)) (sym c.as_slice.ensures.value)
    (in_order c.loop-key.entries.items c.loop-key.key-iterator (sets_of c.args.zone.sets.now) c.loop-key.invariant.sets c.in-None.ensures.steps.0 c.requires.ordered)

pub hosts-requires : goal.hosts-requires
hosts-requires c =
    let origin = c.args.zone.origin.now in
    let entries = c.loop-key.entries.items in
    subst (λ (es : List Entry). IsSearched origin es c.as_slice-3.result.now) (sym c.as_slice-2.ensures.value)
    (subst (λ (ws : List ℕ). IsSearched origin entries ws) (sym c.as_slice-3.ensures.value)
    (record { ordered = in_order entries c.loop-key.key-iterator (sets_of c.args.zone.sets.now) c.loop-key.invariant.sets c.in-None.ensures.steps.0 c.requires.ordered; numbered = c.loop-key.invariant.numbered }))

pub invariant_of-result : goal.invariant_of-result
invariant_of-result c =
    let entries = c.loop-key.entries.items in
    let apex : c.in_ok-clone-3.field-0 ≡ c.args.zone.origin.now = c.in_ok-clone-3.ensures.cases in
    let whole : shared_sets entries ≡ sets_of c.args.zone.sets.now = all_put entries c.loop-key.key-iterator (sets_of c.args.zone.sets.now) c.loop-key.invariant.sets c.in-None.ensures.steps.0 in
    let cuts : AreCutsOf (record { origin = c.args.zone.origin.now; sets = shared_sets entries }) c.in_ok-cuts.cuts =
    subst (λ (es : List Entry). AreCutsOf (record { origin = c.args.zone.origin.now; sets = shared_sets es }) c.in_ok-cuts.cuts) c.as_slice.ensures.value c.in_ok-cuts.ensures in
    let glue : AreGlueOf (record { origin = c.args.zone.origin.now; sets = shared_sets entries }) c.in_ok-cuts.cuts.entries.items c.in_ok-glue.glue.items =
    subst (λ (sets : Sets). AreGlueOf (record { origin = c.args.zone.origin.now; sets = sets }) c.in_ok-cuts.cuts.entries.items c.in_ok-glue.glue.items) (sym whole) c.in_ok-glue.ensures in
    let hosts : AreHostsOf c.args.zone.origin.now entries c.in_ok-cuts.cuts.entries.items c.in_ok-hosts.hosts.items =
    subst (λ (es : List Entry). AreHostsOf c.args.zone.origin.now es c.in_ok-cuts.cuts.entries.items c.in_ok-hosts.hosts.items) c.as_slice-2.ensures.value c.in_ok-hosts.ensures in (
      record { ordered = in_order entries c.loop-key.key-iterator (sets_of c.args.zone.sets.now) c.loop-key.invariant.sets c.in-None.ensures.steps.0 c.requires.ordered; numbered = subst (λ d. AreWordsOf d entries c.loop-key.words.items) (sym apex) c.loop-key.invariant.numbered },
      subst (λ (d : DomainName). AreCutsOf (record { origin = d; sets = shared_sets entries }) c.in_ok-cuts.cuts) (sym apex) cuts,
      subst (λ (d : DomainName). AreGlueOf (record { origin = d; sets = shared_sets entries }) c.in_ok-cuts.cuts.entries.items c.in_ok-glue.glue.items) (sym apex) glue,
      subst (λ (d : DomainName). AreHostsOf d entries c.in_ok-cuts.cuts.entries.items c.in_ok-hosts.hosts.items) (sym apex) hosts,
      omega (arith, c.loop-key.invariant.marks, ap length c.in_ok-push-4.ensures.items, length-append c.loop-key.marks.items (false ∷ [])),
    )

pub returns : goal.returns
returns c =
    let entries = c.loop-key.entries.items in
    let whole : shared_sets entries ≡ sets_of c.args.zone.sets.now = all_put entries c.loop-key.key-iterator (sets_of c.args.zone.sets.now) c.loop-key.invariant.sets c.in-None.ensures.steps.0 in
    let still = λ (name : DomainName) (t : ℕ). ap (λ (sets : Sets). rrset sets name t) (sym whole) in
    record {
      apex = c.in_ok-clone-3.ensures.cases;
      held = λ place e clear none. still e.0.name e.0.record_type
          ∙ own_set entries place e (in_order entries c.loop-key.key-iterator (sets_of c.args.zone.sets.now) c.loop-key.invariant.sets c.in-None.ensures.steps.0 c.requires.ordered) clear.there;
      unmarked = λ name t none clear. still name t;
      servers = λ name none has. still name 2;
      outside = λ name t none out. still name t;
    }
