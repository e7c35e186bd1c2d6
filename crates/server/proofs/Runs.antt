-- What a server that took settings and answered messages has of the files of its zones.
use Rattle.std.proofs.Common.{◌≡◌, ◌≤◌, ◌⊎◌, ◌∙◌, ◌++◌, ◌||◌, inl, inr, ℕ, Bool, true, false, List, [], ◌∷◌, filter, length, map, Some, None, Result, Ok, Err, option_map, cond, Ordering, Less, Equal, Greater, is_eq, refl, sym, ap, ap₂, subst, arith}
use Rattle.std.specs.Prelude.{All, Any, Contains, Option, Vec, slice_get}
use Rattle.std.specs.Bool.{MatchBool}
use Rattle.std.specs.Global.{Global}
use Rattle.std.specs.declared.rc.Rc.{Rc}
use Rattle.std.proofs.lemmas.Bool.{false≢true}
use Rattle.std.proofs.lemmas.List.Folds.{list_any-append}
use Rattle.std.proofs.lemmas.List.Elements.{All-cons, All-contains, All-contains_itself, All-nil, All-weaker, Contains-append_cases, Contains-append_left, Contains-append_right}
use Rattle.either.specs.declared.Either.TheVariants.{Left, Right}
use Rattle.wire_names.specs.rr.domain.DomainName.{DomainName}
use Rattle.wire_names.specs.rr.domain.NameOrder.{Encloses, SameName, lower_name, name_cmp, name_eq}
use Rattle.wire_names.proofs.lemmas.rr.domain.SameNames.{lower_labels-twice}
use Rattle.wire_messages.specs.Numbers.{code_serv_fail}
use Rattle.wire_messages.specs.declared.op.query.Query.{Query}
use Rattle.hickory_base.specs.requests.Requests.{ReceivedRequest, TimedRequest}
use Rattle.hickory_base.specs.declared.requests.message_request.MessageRequest.{MessageRequest}
use Rattle.hickory_base.specs.declared.zone_store.handler.ZoneHandler.{Ghosts}
use Rattle.hickory_catalog.proofs.lemmas.zones.Alone.{contains_behind, contains_cases}
use Rattle.hickory_catalog.proofs.lemmas.zones.Nearest.{same_length}
use Rattle.hickory_catalog.proofs.lemmas.zones.PlacesInOrder.{equal_of, same_back, same_of}
use Rattle.hickory_catalog.specs.replies.Replies.{Contents, error_contents}
use Rattle.hickory_catalog.specs.replies.Signing.{Signer}
use Rattle.hickory_catalog.specs.requests.Server.{server_of}
use Rattle.hickory_catalog.specs.zones.Find.{Finds, IsNearest, MayAnswer}
use Rattle.hickory_catalog.specs.zones.Zones.{ChangesAt, HasZone, ZoneChains}
use Rattle.hickory_server.specs.server.Above.{FindsAbove, above}
use Rattle.hickory_server.specs.server.ServedBy.{ServedBy}
use Rattle.hickory_server.specs.server.ServedLaws.{IsFor}
use Rattle.hickory_server.specs.server.ServedLaws as for_laws
use Rattle.hickory_server.specs.server.Serving.{IsRequestOf}
use Rattle.hickory_server.specs.zone_handler.ZoneReplies.{SaysTheReply}
use Rattle.hickory_server.specs.declared.server.answer.Answer.{Answer}
use Rattle.hickory_server.specs.declared.server.rules.Rules.{Rules}
use Rattle.hickory_server.specs.declared.server.serve.Incoming.{Incoming}
use Rattle.hickory_server.specs.declared.server.serve.ServeError.{ServeError}
use Rattle.served_zones.specs.Given.{AreGiven, Gives, HandlerGiven, updated}
use Rattle.served_zones.specs.Grants.{rules_for}
use Rattle.served_zones.specs.Holding.{AllBegin, AllSettle, HandlerHolds, Holds}
use Rattle.served_zones.specs.Journals.{HandlerIsStopped, HandlerOpens, OpensJournal}
use Rattle.served_zones.specs.Operations.{HandlerStops, Stops}
use Rattle.served_zones.specs.ServedQueries.{AreMade, AreServedChains, IsListThat, IsPlainQuery, IsSaidBy, IsSaidByZone, IsServedChain, LetsPass, PlainQueriesAreRead, QueriesAreAnswered, ZonesAreUpdated, by_empty, by_failure, by_none, by_reply, by_zone}
use Rattle.served_zones.specs.TakenUpdates.{Taken, taken_in}
use Rattle.served_zones.specs.ServedZones.{Chain, IsChain, ServedHandler, loaded}
use Rattle.served_zones.specs.ZoneChanges.{FirstChanges, IsFirst}
use Rattle.served_zones.specs.ZoneChanges as turns
use Rattle.served_zones.specs.declared.grants.Grant.{Grant}
use Rattle.signed_server.specs.ServedWithKeys.{LeavesWithKeys, ServedWithKeys, course_of}
use Rattle.signed_server.specs.ServedWithKeys.ServedWithKeys.{bad, good, plain, unjudged, unreadable}
use Rattle.signed_server.specs.declared.placeholders.LeftToServer.{LeftToServer}
use Rattle.journal.specs.host_file.FileState.{of_bytes}
use Rattle.tsig.specs.declared.keys.Key.{Key}
use Rattle.tsig.specs.declared.verifier.TsigVerifier.{TsigVerifier}
use Rattle.update_policy.specs.declared.policy.Rule.{Rule}
use Rattle.hickory_store.specs.blocklist.BlockAnswers.{Blocklist}
use Rattle.hickory_store.specs.updates.UpdateLaws.{HoldsIn}
use Rattle.hickory_store.specs.declared.updates.verifier.Verifier.{Ghosts as Verifies}
use Rattle.name_lists.specs.Counts.{Counts}
use Rattle.zones.specs.Journals.{IsOpened}
use Rattle.zones.specs.Owners.{AreOwned, IsOfItsBytes, OwnersOfRecords, OwnersStayByRules}
use Rattle.zones.specs.ZoneStates.{ZoneState}
use Rattle.server.specs.Journals.{StaysUnopened, StopsAny, host_disks}
use Rattle.server.specs.Lists.{IsListOfText}
use Rattle.server.specs.Run.{Answers, Change, Event, IsOfTexts, IsSaidOf, IsUnsigned, IsZoneAfter, RepliesAreOfTheFiles, Run, UnchangedAreOfFiles, arrived, changes_of, files_of, gets_rules, goes_on, has_journal, itself, keyed, loads, of_failed, of_file, of_journal, of_no_file, opens_journal, starts, stops, taken, taken_by_answer, taken_by_error, takes_update, texts_of, waits, with_failed, with_rules_for, with_stop, with_taken}
use Rattle.server.specs.Run.Change.{journal_read, rules_got, stopped, update_taken}
use Rattle.server.specs.Run.Event.{batch_begun, batch_ended, journal_failed, journal_opened, keys_set, list_set, message_came, other_set, rule_added, rules_given, updates_stopped, zone_added, zone_failed}
use Rattle.server.specs.Settings.{rules_of, zones_of}
use Rattle.server.specs.Updates.{is_added}
use Rattle.server.specs.declared.service.Service.{Service}

-- ---- names in any letter case

may_by : (b : Bool) (one other name : DomainName) → SameName one other
    → MatchBool b ((one.is_fqdn ≡ true) × Encloses one.labels name.labels) (SameName one name) → MatchBool b ((other.is_fqdn ≡ true) × Encloses other.labels name.labels) (SameName other name)
may_by true one other name same may =
    (sym same.marks ∙ may.0, record { front = may.1.front; ends = may.1.ends ∙ ap (λ (ls : List (List ℕ)). may.1.front ++ ls) same.labels })
may_by false one other name same may = record { labels = sym same.labels ∙ may.labels; marks = sym same.marks ∙ may.marks }

may_as : (one other name : DomainName) → SameName one other → MayAnswer one name → MayAnswer other name
may_as one other name same may = may_by name.is_fqdn one other name same may

as_spelled : (apex spelled : DomainName) → SameName apex (lower_name spelled) → SameName apex spelled
as_spelled apex spelled same = record { labels = same.labels ∙ lower_labels-twice spelled.labels; marks = same.marks }

spelled_as : (spelled apex : DomainName) → SameName (lower_name spelled) apex → SameName spelled apex
spelled_as spelled apex same = record { labels = sym (lower_labels-twice spelled.labels) ∙ same.labels; marks = same.marks }

both_same : (name one other : DomainName) → SameName name one → SameName name other → SameName one other
both_same name one other first second = record { labels = sym first.labels ∙ second.labels; marks = sym first.marks ∙ second.marks }

any_of : {X : Type 0} {P : X → Type 0} (xs : List X) (x : X) → Contains xs x → P x → Any P xs
any_of xs x among holds = (among.0, x, among.1, among.2, holds)

-- ---- zones of files

-- an apex, with the bytes of the file of its zone, or none
abbrev Given : Type 0
Given = DomainName × Option (List ℕ)

abbrev Files : Type 0
Files = List Given

-- what each zone got
abbrev Changed : Type 0
Changed = DomainName → List Change

-- The chain is the zone of this file after these changes, and lists that are so; or it is empty, if there is no file.
abbrev IsChainAfter : Verifies TsigVerifier → (Blocklist → Type 0) → Option (List ℕ) → DomainName → List Change → Chain → Type 0
IsChainAfter by so None apex changes chain = chain ≡ []
IsChainAfter by so (Some file) apex changes [] = ⊥
IsChainAfter by so (Some file) apex changes (Left zone ∷ lists) = IsZoneAfter by file apex changes zone × All (IsListThat so) lists
IsChainAfter by so (Some file) apex changes (Right list ∷ others) = ⊥

-- The chain is that of one of these files.
pub record IsOfAFile (by : Verifies TsigVerifier) (so : Blocklist → Type 0) (files : Files) (updates : Changed) (served : DomainName × Chain) : Type 0 where
  pub apex : DomainName
  pub file : Option (List ℕ)
  pub among : Contains files (apex, file)
  pub same : SameName served.0 apex
  pub after : IsChainAfter by so file apex (updates apex) served.1

-- Each zone is that of a file, and there is one for each file.
pub record AreOfFiles (by : Verifies TsigVerifier) (so : Blocklist → Type 0) (files : Files) (updates : Changed) (zones : ZoneChains ServedHandler) : Type 0 where
  pub from_files : All (IsOfAFile by so files updates) zones
  pub served : All (λ file. HasZone zones file.0) files

-- ---- names that differ

no_equal : (order : Ordering) → (order ≡ Equal → ⊥) → is_eq order ≡ false
no_equal Less never = refl
no_equal Equal never = absurd (never refl)
no_equal Greater never = refl

itself_equal : (name : DomainName) → name_eq name name ≡ true
itself_equal name = ap is_eq (equal_of name name (record { labels = refl; marks = refl }))

same_equal : (one other : DomainName) → SameName one other → name_eq one other ≡ true
same_equal one other same = ap is_eq (equal_of one other same)

equal_order : (order : Ordering) → is_eq order ≡ true → order ≡ Equal
equal_order Less is = absurd cc
equal_order Equal is = refl
equal_order Greater is = absurd cc

equal_same : (one other : DomainName) → name_eq one other ≡ true → SameName one other
equal_same one other equal = same_of one other (equal_order (name_cmp one other) equal)

-- in lower case a name differs from the same names
lower_differs : (one apex : DomainName) (b : Bool) → name_eq one apex ≡ b → name_eq (lower_name one) apex ≡ false → name_eq one apex ≡ false
lower_differs one apex false is differs = is
lower_differs one apex true is differs =
    let same = equal_same one apex is in
    let lower = same_equal (lower_name one) apex (record { labels = lower_labels-twice one.labels ∙ same.labels; marks = same.marks }) in
    absurd (false≢true (sym differs ∙ lower))

no_true : (b : Bool) → (b ≡ true → ⊥) → b ≡ false
no_true true never = absurd (never refl)
no_true false never = refl

same_test : (name one other : DomainName) → SameName one other → (b : Bool) → name_eq name one ≡ b → name_eq name one ≡ name_eq name other
same_test name one other same true is =
    let s = equal_same name one is in
    is ∙ sym (same_equal name other (record { labels = s.labels ∙ same.labels; marks = s.marks ∙ same.marks }))
same_test name one other same false is = is ∙ sym (no_true (name_eq name other) (λ yes.
    let s = equal_same name other yes in
    false≢true (sym is ∙ same_equal name one (record { labels = s.labels ∙ sym same.labels; marks = s.marks ∙ sym same.marks }))))

-- the rules of a zone are the same however its name is spelled
same_grants : (grants : List Grant) (one other : DomainName) → SameName one other → filter (λ (grant : Grant). name_eq grant.apex one) grants ≡ filter (λ (grant : Grant). name_eq grant.apex other) grants
same_grants [] one other same = refl
same_grants (grant ∷ grants) one other same =
    ap₂ (λ (b : Bool) (gs : List Grant). cond b (grant ∷ gs) gs) (same_test grant.apex one other same (name_eq grant.apex one) refl) (same_grants grants one other same)

same_rules : (grants : List Grant) (one other : DomainName) → SameName one other → rules_for grants one ≡ rules_for grants other
same_rules grants one other same = ap (map (λ (grant : Grant). grant.rule)) (same_grants grants one other same)

unless_so : (b c : Bool) → c ≡ false → (b || (c || false)) ≡ b
unless_so true c is = refl
unless_so false c is = ap (λ (x : Bool). x || false) is

also_so : (b c : Bool) → c ≡ true → (b || (c || false)) ≡ true
also_so true c is = refl
also_so false c is = ap (λ (x : Bool). x || false) is

either_way : (b : Bool) (changes : List Change) → cond b changes changes ≡ changes
either_way true changes = refl
either_way false changes = refl

-- the zones that were added, and one more
added_more : (apexes : List DomainName) (one apex : DomainName) → is_added (apexes ++ one ∷ []) apex ≡ (is_added apexes apex || (name_eq one apex || false))
added_more apexes one apex = list_any-append (λ (it : DomainName). name_eq it apex) apexes (one ∷ [])

abbrev Added : List DomainName → Given → Type 0
Added apexes file = is_added apexes file.0 ≡ true

one_added : (apexes : List DomainName) (one : DomainName) → is_added (apexes ++ one ∷ []) one ≡ true
one_added apexes one = added_more apexes one one ∙ also_so (is_added apexes one) (name_eq one one) (itself_equal one)

still_added : (apexes : List DomainName) (one : DomainName) (file : Given) → Added apexes file → Added (apexes ++ one ∷ []) file
still_added apexes one file is = added_more apexes one file.0 ∙ ap (λ (b : Bool). b || (name_eq one file.0 || false)) is

-- a zone beside the one of a name is not of that name, however it is spelled
module _ (zone name spelled apex : DomainName) (same : SameName name spelled) (of : SameName zone apex) where
  joined : name_cmp spelled apex ≡ Equal → SameName zone name
  joined equal =
      let both = same_of spelled apex equal in
      record { labels = of.labels ∙ sym both.labels ∙ sym same.labels; marks = of.marks ∙ sym both.marks ∙ sym same.marks }

  before_it : name_cmp zone name ≡ Less → name_eq spelled apex ≡ false
  before_it less = no_equal (name_cmp spelled apex) (λ equal. let e = equal_of zone name (joined equal) in let no : ◌≡◌ {A = Ordering} Less Equal = sym less ∙ e in absurd cc)

  behind_it : name_cmp name zone ≡ Less → name_eq spelled apex ≡ false
  behind_it less = no_equal (name_cmp spelled apex) (λ equal. let e = equal_of name zone (same_back zone name (joined equal)) in let no : ◌≡◌ {A = Ordering} Less Equal = sym less ∙ e in absurd cc)

module _ (by : Verifies TsigVerifier) (so : Blocklist → Type 0) where
  chain_so : (file : Option (List ℕ)) (apex : DomainName) (changes : List Change) (chain : Chain) → IsChainAfter by so file apex changes chain → IsServedChain so chain
  chain_so None apex changes chain empty = subst (IsServedChain so) (sym empty) tt
  chain_so (Some file) apex changes [] after = absurd after
  chain_so (Some file) apex changes (Left zone ∷ lists) after = after.1
  chain_so (Some file) apex changes (Right list ∷ others) after = absurd after

  are_chains : (files : Files) (updates : Changed) (zones : ZoneChains ServedHandler) → AreOfFiles by so files updates zones → AreServedChains so zones
  are_chains files updates zones are =
      All-weaker (IsOfAFile by so files updates) (λ (served : DomainName × Chain). IsServedChain so served.1) (λ served is. chain_so is.file is.apex (updates is.apex) served.1 is.after) zones are.from_files

  -- among more files, with the same updates
  moved : (files more : Files) (updates later : Changed) → ((one : Given) → Contains files one → Contains more one) → (served : DomainName × Chain) (is : IsOfAFile by so files updates served)
      → later is.apex ≡ updates is.apex → IsOfAFile by so more later served
  moved files more updates later among served is same = record {
    apex = is.apex;
    file = is.file;
    among = among (is.apex, is.file) is.among;
    same = is.same;
    after = subst (λ (us : List Change). IsChainAfter by so is.file is.apex us served.1) (sym same) is.after;
  }

  -- ---- a zone is added

  -- the chain of a zone that was loaded
  loaded_so : (file : List ℕ) (apex : DomainName) (changes : List Change) (zone : ZoneState TsigVerifier) → IsZoneAfter by file apex changes zone → (list : Option Blocklist) (chain : Chain) → IsChain (Left zone) list chain
      → ((one : Blocklist) → list ≡ Some one → so one) → IsChainAfter by so (Some file) apex changes chain
  loaded_so file apex changes zone after None chain is are_so = subst (IsChainAfter by so (Some file) apex changes) (sym is) (after, All-nil (IsListThat so))
  loaded_so file apex changes zone after (Some one) chain (shared, value, is) are_so =
      subst (IsChainAfter by so (Some file) apex changes) (sym is) (after, All-cons (IsListThat so) (Right shared) [] (subst so (sym value) (are_so one refl)) (All-nil (IsListThat so)))

  module _ (files : Files) (updates later : Changed) (apex : DomainName) (file : Option (List ℕ)) (chain : Chain) (old after : ZoneChains ServedHandler) (are : AreOfFiles by so files updates old)
      (changed : ChangesAt old (lower_name apex) None (Some chain) after) (others : (other : DomainName) → name_eq apex other ≡ false → later other ≡ updates other)
      (it_is : IsChainAfter by so file apex (later apex) chain) where
    abbrev more : Files
    more = (apex, file) ∷ files

    lowered : SameName (lower_name apex) apex
    lowered = as_spelled (lower_name apex) apex (record { labels = refl; marks = refl })

    was_of : (served : DomainName × Chain) → Contains (changed.lesser ++ changed.greater) served → IsOfAFile by so files updates served
    was_of served among = All-contains (IsOfAFile by so files updates) old served are.from_files (subst (λ (zs : ZoneChains ServedHandler). Contains zs served) (sym changed.before) among)

    kept_so : (served : DomainName × Chain) (is : IsOfAFile by so files updates served) → name_eq apex is.apex ≡ false → IsOfAFile by so more later served
    kept_so served is other = moved files more updates later (λ one. Contains-append_right ((apex, file) ∷ []) files one) served is (others is.apex other)

    kept_lesser : (served : DomainName × Chain) → Contains changed.lesser served → IsOfAFile by so more later served
    kept_lesser served among =
        let is = was_of served (Contains-append_left changed.lesser changed.greater served among) in
        kept_so served is (before_it served.0 (lower_name apex) apex is.apex lowered is.same (All-contains (λ (z : DomainName × Chain). name_cmp z.0 (lower_name apex) ≡ Less) changed.lesser served changed.below among))

    kept_greater : (served : DomainName × Chain) → Contains changed.greater served → IsOfAFile by so more later served
    kept_greater served among =
        let is = was_of served (Contains-append_right changed.lesser changed.greater served among) in
        kept_so served is (behind_it served.0 (lower_name apex) apex is.apex lowered is.same (All-contains (λ (z : DomainName × Chain). name_cmp (lower_name apex) z.0 ≡ Less) changed.greater served changed.above among))

    same_apex : SameName changed.apex apex
    same_apex = as_spelled changed.apex apex changed.same

    the_new : IsOfAFile by so more later (changed.apex, chain)
    the_new = record {
      apex = apex;
      file = file;
      among = (0, omega arith, refl);
      same = same_apex;
      after = it_is;
    }

    each_by : (served : DomainName × Chain) → Contains (changed.lesser ++ ((changed.apex, chain) ∷ changed.greater)) served → IsOfAFile by so more later served
    each_by served among = from (Contains-append_cases changed.lesser ((changed.apex, chain) ∷ changed.greater) served among) where
      from_place : ((changed.apex, chain) ≡ served) ⊎ Contains changed.greater served → IsOfAFile by so more later served
      from_place (inl same) = subst (IsOfAFile by so more later) same the_new
      from_place (inr behind) = kept_greater served behind

      from : Contains changed.lesser served ⊎ Contains ((changed.apex, chain) ∷ changed.greater) served → IsOfAFile by so more later served
      from (inl left) = kept_lesser served left
      from (inr right) = from_place (contains_cases (changed.apex, chain) served changed.greater right)

    each : (served : DomainName × Chain) → Contains after served → IsOfAFile by so more later served
    each served among = each_by served (subst (λ (zs : ZoneChains ServedHandler). Contains zs served) changed.after among)

    there : (served : DomainName × Chain) → Contains (changed.lesser ++ ((changed.apex, chain) ∷ changed.greater)) served → Contains after served
    there served among = subst (λ (zs : ZoneChains ServedHandler). Contains zs served) (sym changed.after) among

    still : (served : DomainName × Chain) → Contains old served → Contains after served
    still served among = from (Contains-append_cases changed.lesser changed.greater served (subst (λ (zs : ZoneChains ServedHandler). Contains zs served) changed.before among)) where
      from : Contains changed.lesser served ⊎ Contains changed.greater served → Contains after served
      from (inl left) = there served (Contains-append_left changed.lesser _ served left)
      from (inr right) = there served (Contains-append_right changed.lesser _ served (contains_behind (changed.apex, chain) served changed.greater right))

    still_has : (one : Given) → HasZone old one.0 → HasZone after one.0
    still_has one (k, served, within, at, same) = any_of after served (still served (k, within, at)) same

    has_new : HasZone after apex
    has_new = any_of after (changed.apex, chain) (there (changed.apex, chain) (Contains-append_right changed.lesser _ _ (0, omega arith, refl))) same_apex

    pub are_more : AreOfFiles by so more later after
    are_more = record {
      from_files = All-weaker (Contains after) (IsOfAFile by so more later) each after (All-contains_itself after);
      served = All-cons (λ (one : Given). HasZone after one.0) (apex, file) files has_new
          (All-weaker (λ (one : Given). HasZone old one.0) (λ (one : Given). HasZone after one.0) still_has files are.served);
    }

  -- ---- a zone changes

  module _ (files : Files) (updates later : Changed) (name : DomainName) (was is : Chain) (old after : ZoneChains ServedHandler) (changed : ChangesAt old name (Some was) (Some is) after) (are : AreOfFiles by so files updates old)
      (others : (apex : DomainName) → name_eq name apex ≡ false → later apex ≡ updates apex)
      (becomes : (file : Option (List ℕ)) (apex : DomainName) → SameName name apex → IsChainAfter by so file apex (updates apex) was → IsChainAfter by so file apex (later apex) is) where
    before : (served : DomainName × Chain) → Contains (changed.lesser ++ ((changed.apex, was) ∷ changed.greater)) served → IsOfAFile by so files updates served
    before served among = All-contains (IsOfAFile by so files updates) old served are.from_files (subst (λ (zs : ZoneChains ServedHandler). Contains zs served) (sym changed.before) among)

    the_changed : IsOfAFile by so files later (changed.apex, is)
    the_changed =
        let of = before (changed.apex, was) (Contains-append_right changed.lesser _ _ (0, omega arith, refl)) in
        record {
          apex = of.apex;
          file = of.file;
          among = of.among;
          same = of.same;
          after = becomes of.file of.apex (both_same changed.apex name of.apex changed.same of.same) of.after;
        }

    itself_same : SameName name name
    itself_same = record { labels = refl; marks = refl }

    lesser_so : (served : DomainName × Chain) → Contains changed.lesser served → IsOfAFile by so files later served
    lesser_so served among =
        let of = before served (Contains-append_left changed.lesser _ served among) in
        moved files files updates later (λ one there. there) served of
        (others of.apex (before_it served.0 name name of.apex itself_same of.same (All-contains (λ (z : DomainName × Chain). name_cmp z.0 name ≡ Less) changed.lesser served changed.below among)))

    greater_so : (served : DomainName × Chain) → Contains changed.greater served → IsOfAFile by so files later served
    greater_so served among =
        let of = before served (Contains-append_right changed.lesser _ served (contains_behind (changed.apex, was) served changed.greater among)) in
        moved files files updates later (λ one there. there) served of
        (others of.apex (behind_it served.0 name name of.apex itself_same of.same (All-contains (λ (z : DomainName × Chain). name_cmp name z.0 ≡ Less) changed.greater served changed.above among)))

    each_after : (served : DomainName × Chain) → Contains after served → IsOfAFile by so files later served
    each_after served among = from (Contains-append_cases changed.lesser ((changed.apex, is) ∷ changed.greater) served (subst (λ (zs : ZoneChains ServedHandler). Contains zs served) changed.after among)) where
      from_place : ((changed.apex, is) ≡ served) ⊎ Contains changed.greater served → IsOfAFile by so files later served
      from_place (inl same) = subst (IsOfAFile by so files later) same the_changed
      from_place (inr behind) = greater_so served behind

      from : Contains changed.lesser served ⊎ Contains ((changed.apex, is) ∷ changed.greater) served → IsOfAFile by so files later served
      from (inl left) = lesser_so served left
      from (inr right) = from_place (contains_cases (changed.apex, is) served changed.greater right)

    still_there : (served : DomainName × Chain) → Contains old served → (other : Chain) × Contains after (served.0, other)
    still_there served among = from (Contains-append_cases changed.lesser ((changed.apex, was) ∷ changed.greater) served (subst (λ (zs : ZoneChains ServedHandler). Contains zs served) changed.before among)) where
      placed : (one : DomainName × Chain) → Contains (changed.lesser ++ ((changed.apex, is) ∷ changed.greater)) one → Contains after one
      placed one at = subst (λ (zs : ZoneChains ServedHandler). Contains zs one) (sym changed.after) at

      from_place : ((changed.apex, was) ≡ served) ⊎ Contains changed.greater served → (other : Chain) × Contains after (served.0, other)
      from_place (inl same) = (is, subst (λ (one : DomainName × Chain). Contains after (one.0, is)) same (placed (changed.apex, is) (Contains-append_right changed.lesser _ _ (0, omega arith, refl))))
      from_place (inr behind) = (served.1, placed served (Contains-append_right changed.lesser _ served (contains_behind (changed.apex, is) served changed.greater behind)))

      from : Contains changed.lesser served ⊎ Contains ((changed.apex, was) ∷ changed.greater) served → (other : Chain) × Contains after (served.0, other)
      from (inl left) = (served.1, placed served (Contains-append_left changed.lesser _ served left))
      from (inr right) = from_place (contains_cases (changed.apex, was) served changed.greater right)

    has_still : (one : Given) → HasZone old one.0 → HasZone after one.0
    has_still one (k, served, within, at, same) = let t = still_there served (k, within, at) in any_of after (served.0, t.0) t.1 same

    pub are_changed : AreOfFiles by so files later after
    are_changed = record {
      from_files = All-weaker (Contains after) (IsOfAFile by so files later) each_after after (All-contains_itself after);
      served = All-weaker (λ (one : Given). HasZone old one.0) (λ (one : Given). HasZone after one.0) has_still files are.served;
    }

  -- the first handler of a chain changes, if it is a zone
  module _ (Step : ServedHandler → ServedHandler → Type 0) (apex : DomainName) (changes later : List Change)
      (steps : (file : List ℕ) (zone : ZoneState TsigVerifier) (new : ServedHandler) → Step (Left zone) new → IsZoneAfter by file apex changes zone
      → (after : ZoneState TsigVerifier) × (new ≡ Left after) × IsZoneAfter by file apex later after) where
    stepped : (file : List ℕ) (first after : ServedHandler) (rest : Chain) → Step first after → IsChainAfter by so (Some file) apex changes (first ∷ rest) → IsChainAfter by so (Some file) apex later (after ∷ rest)
    stepped file (Left zone) after rest step (is, lists) =
        let (new, same, then) = steps file zone after step is in
        subst (λ (h : ServedHandler). IsChainAfter by so (Some file) apex later (h ∷ rest)) (sym same) (then, lists)
    stepped file (Right list) after rest step is = absurd is

    first_steps : (file : Option (List ℕ)) (was is : Chain) → IsFirst Step was is → IsChainAfter by so file apex changes was → IsChainAfter by so file apex later is
    first_steps None was is first empty = let no : first.before ∷ first.rest ≡ [] = sym first.was ∙ empty in absurd cc
    first_steps (Some file) was is first after =
        subst (IsChainAfter by so (Some file) apex later) (sym first.is)
        (stepped file first.before first.after first.rest first.changes (subst (IsChainAfter by so (Some file) apex changes) first.was after))

    chain_steps : (file : Option (List ℕ)) (was is : Chain) → FirstChanges Step was is → IsChainAfter by so file apex changes was → IsChainAfter by so file apex later is
    chain_steps file was is (inr first) after = first_steps file was is first after
    chain_steps None was is (inl (none, empty)) after = empty
    chain_steps (Some file) was is (inl (none, empty)) after = absurd (subst (IsChainAfter by so (Some file) apex changes) none after)

  -- ---- zones get their rules

  module _ (files : Files) (updates : Changed) (keys : List Key) (grants : List Grant) where
    -- what zones got once those of these apexes got their rules
    abbrev given_to : List DomainName → Changed
    given_to apexes apex = cond (is_added apexes apex) (with_rules_for keys (rules_for grants apex) (updates apex)) (updates apex)

    -- a name that is not one more name
    not_more : (apexes : List DomainName) (one apex : DomainName) → name_eq one apex ≡ false → given_to (apexes ++ one ∷ []) apex ≡ given_to apexes apex
    not_more apexes one apex differs =
        ap (λ (b : Bool). cond b (with_rules_for keys (rules_for grants apex) (updates apex)) (updates apex)) (added_more apexes one apex ∙ unless_so (is_added apexes apex) (name_eq one apex) differs)

    -- one more name
    and_more : (apexes : List DomainName) (one apex : DomainName) → name_eq one apex ≡ true → given_to (apexes ++ one ∷ []) apex ≡ with_rules_for keys (rules_for grants apex) (updates apex)
    and_more apexes one apex same =
        ap (λ (b : Bool). cond b (with_rules_for keys (rules_for grants apex) (updates apex)) (updates apex)) (added_more apexes one apex ∙ also_so (is_added apexes apex) (name_eq one apex) same)

    -- a zone that gets its rules twice has got them
    got_twice : (file : List ℕ) (apex : DomainName) (changes earlier : List Change) (rules : List Rule) (zone : ZoneState TsigVerifier) → changes ≡ rules_got keys rules ∷ earlier
        → IsZoneAfter by file apex changes zone → IsZoneAfter by file apex changes (updated keys rules zone)
    got_twice file apex _ earlier rules zone same (loads is) = absurd cc
    got_twice file apex _ earlier rules zone same (gets_rules {changes = those} {zone = was} {keys = first} {rules = given} after) =
        let one : first ≡ keys = cc in
        let other : given ≡ rules = cc in
        subst (λ (ks : List Key). IsZoneAfter by file apex (rules_got first given ∷ those) (updated ks rules was)) one
        (subst (λ (rs : List Rule). IsZoneAfter by file apex (rules_got first given ∷ those) (updated first rs was)) other (gets_rules after))
    got_twice file apex _ earlier rules zone same (takes_update after bytes updates) = absurd cc
    got_twice file apex _ earlier rules zone same (opens_journal after opened) = absurd cc
    got_twice file apex changes earlier rules zone same (waits {zone = was} {holds = held} after) =
        waits {zone = updated keys rules was} {holds = held} (got_twice file apex changes earlier rules was same after)
    got_twice file apex _ earlier rules zone same (stops after) = absurd cc

    -- a zone that gets its rules once or twice has got them
    got : (file : List ℕ) (apex : DomainName) (b : Bool) (rule : Rule) (others : List Rule) (zone : ZoneState TsigVerifier)
        → IsZoneAfter by file apex (cond b (rules_got keys (rule ∷ others) ∷ updates apex) (updates apex)) zone
        → IsZoneAfter by file apex (rules_got keys (rule ∷ others) ∷ updates apex) (updated keys (rule ∷ others) zone)
    got file apex true rule others zone after = got_twice file apex (rules_got keys (rule ∷ others) ∷ updates apex) (updates apex) (rule ∷ others) zone refl after
    got file apex false rule others zone after = gets_rules after

    with_rules_of : (apexes : List DomainName) (one : DomainName) (rule : Rule) (others : List Rule) → rules_for grants one ≡ rule ∷ others → (apex : DomainName) → SameName one apex
        → (file : List ℕ) (zone : ZoneState TsigVerifier) (new : ServedHandler) → HandlerGiven keys (rule ∷ others) (Left zone) new → IsZoneAfter by file apex (given_to apexes apex) zone
        → (after : ZoneState TsigVerifier) × (new ≡ Left after) × IsZoneAfter by file apex (given_to (apexes ++ one ∷ []) apex) after
    with_rules_of apexes one rule others are apex same file zone new step after =
        let theirs : rules_for grants apex ≡ rule ∷ others = sym (same_rules grants one apex same) ∙ are in (
          updated keys (rule ∷ others) zone,
          step,
          subst (λ (us : List Change). IsZoneAfter by file apex us (updated keys (rule ∷ others) zone))
              (sym (and_more apexes one apex (same_equal one apex same) ∙ ap (λ (rs : List Rule). with_rules_for keys rs (updates apex)) theirs))
              (got file apex (is_added apexes apex) rule others zone
              (subst (λ (rs : List Rule). IsZoneAfter by file apex (cond (is_added apexes apex) (with_rules_for keys rs (updates apex)) (updates apex)) zone) theirs after)),
        )

    -- if there is no rule for a name, its zone gets none
    no_rules : (apexes : List DomainName) (one apex : DomainName) → rules_for grants one ≡ [] → SameName one apex → given_to (apexes ++ one ∷ []) apex ≡ given_to apexes apex
    no_rules apexes one apex none same =
        let theirs : rules_for grants apex ≡ [] = sym (same_rules grants one apex same) ∙ none in
        and_more apexes one apex (same_equal one apex same) ∙ ap (λ (rs : List Rule). with_rules_for keys rs (updates apex)) theirs
        ∙ sym (ap (λ (rs : List Rule). cond (is_added apexes apex) (with_rules_for keys rs (updates apex)) (updates apex)) theirs ∙ either_way (is_added apexes apex) (updates apex))

    -- where no zone gets rules, all stay
    given_none : (apexes : List DomainName) (one : DomainName) (zones : ZoneChains ServedHandler) → AreOfFiles by so files (given_to apexes) zones
        → ((served : DomainName × Chain) → Contains zones served → (is : IsOfAFile by so files (given_to apexes) served) → given_to (apexes ++ one ∷ []) is.apex ≡ given_to apexes is.apex)
        → AreOfFiles by so files (given_to (apexes ++ one ∷ [])) zones
    given_none apexes one zones are same = record {
      from_files = All-weaker (Contains zones) (IsOfAFile by so files (given_to (apexes ++ one ∷ []))) each zones (All-contains_itself zones);
      served = are.served;
    } where
      each : (served : DomainName × Chain) → Contains zones served → IsOfAFile by so files (given_to (apexes ++ one ∷ [])) served
      each served among =
          let is = All-contains (IsOfAFile by so files (given_to apexes)) zones served are.from_files among in
          moved files files (given_to apexes) (given_to (apexes ++ one ∷ [])) (λ file there. there) served is (same served among is)

    by_name : (apexes : List DomainName) (one apex : DomainName) (b : Bool) → name_eq one apex ≡ b → rules_for grants one ≡ [] → given_to (apexes ++ one ∷ []) apex ≡ given_to apexes apex
    by_name apexes one apex true same none = no_rules apexes one apex none (equal_same one apex same)
    by_name apexes one apex false differs none = not_more apexes one apex differs

    unserved : (apexes : List DomainName) (one : DomainName) (zones : ZoneChains ServedHandler) → ¬ (HasZone zones (lower_name one)) → (served : DomainName × Chain) → Contains zones served
        → (apex : DomainName) → SameName served.0 apex → (b : Bool) → name_eq one apex ≡ b → given_to (apexes ++ one ∷ []) apex ≡ given_to apexes apex
    unserved apexes one zones none served among apex named true same =
        let other = equal_same one apex same in
        absurd (none (any_of zones served among
        (record { labels = named.labels ∙ sym other.labels ∙ sym (lower_labels-twice one.labels); marks = named.marks ∙ sym other.marks })))
    unserved apexes one zones none served among apex named false differs = not_more apexes one apex differs

    given_one : (apexes : List DomainName) (one : DomainName) (rules : List Rule) → rules_for grants one ≡ rules → (old after : ZoneChains ServedHandler) → Gives keys rules one old after
        → AreOfFiles by so files (given_to apexes) old → AreOfFiles by so files (given_to (apexes ++ one ∷ [])) after
    given_one apexes one [] none old after same are =
        subst (λ (zs : ZoneChains ServedHandler). AreOfFiles by so files (given_to (apexes ++ one ∷ [])) zs) (sym same)
        (given_none apexes one old are (λ served among is. by_name apexes one is.apex (name_eq one is.apex) refl none))
    given_one apexes one (rule ∷ others) some old after (inl gives) are =
        are_changed files (given_to apexes) (given_to (apexes ++ one ∷ [])) (lower_name one) gives.before gives.after old after gives.changed are
        (λ apex differs. not_more apexes one apex (lower_differs one apex (name_eq one apex) refl differs))
        (λ file apex same. chain_steps (HandlerGiven keys (rule ∷ others)) apex (given_to apexes apex) (given_to (apexes ++ one ∷ []) apex)
        (with_rules_of apexes one rule others some apex (spelled_as one apex same)) file gives.before gives.after gives.changes)
    given_one apexes one (rule ∷ others) some old after (inr (none, same)) are =
        subst (λ (zs : ZoneChains ServedHandler). AreOfFiles by so files (given_to (apexes ++ one ∷ [])) zs) (sym same)
        (given_none apexes one old are (λ served among is. unserved apexes one old none served among is.apex is.same (name_eq one is.apex) refl))

    given_all : (apexes : List DomainName) (old after : ZoneChains ServedHandler) → AreGiven keys grants apexes old after → AreOfFiles by so files updates old → AreOfFiles by so files (given_to apexes) after
    given_all apexes old after turns.none are = are
    given_all apexes old after (turns.more {those = those} {between = between} apex before gives) are =
        given_one those apex (rules_for grants apex) refl between after gives (given_all those old between before are)

    -- each zone got its rules, if each was added
    pub given_each : (apexes : List DomainName) (old after : ZoneChains ServedHandler) → AreGiven keys grants apexes old after → All (Added apexes) files
        → AreOfFiles by so files updates old → AreOfFiles by so files (λ apex. with_rules_for keys (rules_for grants apex) (updates apex)) after
    given_each apexes old after given added are = record {
      from_files = All-weaker (IsOfAFile by so files (given_to apexes)) (IsOfAFile by so files each) one after all.from_files;
      served = all.served;
    } where
      all : AreOfFiles by so files (given_to apexes) after
      all = given_all apexes old after given are

      each : Changed
      each apex = with_rules_for keys (rules_for grants apex) (updates apex)

      one : (served : DomainName × Chain) → IsOfAFile by so files (given_to apexes) served → IsOfAFile by so files each served
      one served is =
          moved files files (given_to apexes) each (λ file there. there) served is
          (sym (ap (λ (b : Bool). cond b (each is.apex) (updates is.apex)) (All-contains (Added apexes) files (is.apex, is.file) added is.among)))

  -- ---- a zone of a journal

  opened_as : (first second : List ℕ) (zone : ZoneState TsigVerifier) (new : ServedHandler) → HandlerOpens host_disks (of_bytes 0 first) (of_bytes 1 second) (Left zone) new
      → (after : ZoneState TsigVerifier) × (new ≡ Left after) × IsOpened host_disks (of_bytes 0 first) (of_bytes 1 second) zone after
  opened_as first second zone (Left after) opens = (after, refl, opens.1)
  opened_as first second zone (Right list) opens = absurd opens

  failed_as : (first second : List ℕ) (zone : ZoneState TsigVerifier) (new : ServedHandler) → HandlerIsStopped host_disks (of_bytes 0 first) (of_bytes 1 second) (Left zone) new
      → (opened : ZoneState TsigVerifier) × (new ≡ Left (record opened { policy = [] })) × IsOpened host_disks (of_bytes 0 first) (of_bytes 1 second) zone opened
  failed_as first second zone (Left after) (rules, (opened, is, same)) = (opened, ap (λ (state : ZoneState TsigVerifier). let handler : ServedHandler = Left state in handler) same, is)
  failed_as first second zone (Right list) stops_it = absurd stops_it

  module _ (files : Files) (updates : Changed) (old after : ZoneChains ServedHandler) (are : AreOfFiles by so files updates old) where
    -- the zone of one name gets these, and no other
    abbrev and_these : DomainName → List Change → Changed
    and_these one these apex = cond (name_eq one apex) (these ++ updates apex) (updates apex)

    these_at : (one : DomainName) (these : List Change) (apex : DomainName) → SameName one apex → and_these one these apex ≡ these ++ updates apex
    these_at one these apex same = ap (λ (b : Bool). cond b (these ++ updates apex) (updates apex)) (same_equal one apex same)

    not_at : (one : DomainName) (these : List Change) (apex : DomainName) → name_eq one apex ≡ false → and_these one these apex ≡ updates apex
    not_at one these apex differs = ap (λ (b : Bool). cond b (these ++ updates apex) (updates apex)) differs

    -- a zone that gets these is as they say, if its name is that one
    after_these : (one : DomainName) (these : List Change) (apex : DomainName) → SameName one apex → (file : List ℕ) (zone : ZoneState TsigVerifier) → IsZoneAfter by file apex (these ++ updates apex) zone
        → IsZoneAfter by file apex (and_these one these apex) zone
    after_these one these apex same file zone is = subst (λ (us : List Change). IsZoneAfter by file apex us zone) (sym (these_at one these apex same)) is

    opens_so : (apex : DomainName) (first second : List ℕ) → OpensJournal host_disks (of_bytes 0 first) (of_bytes 1 second) (lower_name apex) old after
        → AreOfFiles by so files (and_these apex (journal_read first second ∷ [])) after
    opens_so one first second opens =
        are_changed files updates (and_these one these) (lower_name one) opens.before opens.after old after opens.changed are
        (λ apex differs. not_at one these apex (lower_differs one apex (name_eq one apex) refl differs)) becomes where
          these : List Change
          these = journal_read first second ∷ []

          becomes : (file : Option (List ℕ)) (apex : DomainName) → SameName (lower_name one) apex → IsChainAfter by so file apex (updates apex) opens.before → IsChainAfter by so file apex (and_these one these apex) opens.after
          becomes file apex same =
              first_steps (HandlerOpens host_disks (of_bytes 0 first) (of_bytes 1 second)) apex (updates apex) (and_these one these apex) step file opens.before opens.after opens.changes where
                step : (file : List ℕ) (zone : ZoneState TsigVerifier) (new : ServedHandler) → HandlerOpens host_disks (of_bytes 0 first) (of_bytes 1 second) (Left zone) new → IsZoneAfter by file apex (updates apex) zone
                    → (after : ZoneState TsigVerifier) × (new ≡ Left after) × IsZoneAfter by file apex (and_these one these apex) after
                step file zone new made is =
                    let (opened, new_is, opens_it) = opened_as first second zone new made in
                    (opened, new_is, after_these one these apex (spelled_as one apex same) file opened (opens_journal is opens_it))

    pub failed_so : (name first second : List ℕ) (stays : StaysUnopened name first second old after) → AreOfFiles by so files (λ apex. with_failed name first second old after stays apex (updates apex)) after
    failed_so name first second (inl same) = subst (λ (zs : ZoneChains ServedHandler). AreOfFiles by so files updates zs) (sym same) are
    failed_so name first second (inr (one, spelled, fails)) =
        are_changed files updates (and_these one these) (lower_name one) fails.before fails.after old after fails.changed are
        (λ apex differs. not_at one these apex (lower_differs one apex (name_eq one apex) refl differs)) becomes where
          these : List Change
          these = stopped ∷ journal_read first second ∷ []

          becomes : (file : Option (List ℕ)) (apex : DomainName) → SameName (lower_name one) apex → IsChainAfter by so file apex (updates apex) fails.before → IsChainAfter by so file apex (and_these one these apex) fails.after
          becomes file apex same =
              first_steps (HandlerIsStopped host_disks (of_bytes 0 first) (of_bytes 1 second)) apex (updates apex) (and_these one these apex) step file fails.before fails.after fails.changes where
                step : (file : List ℕ) (zone : ZoneState TsigVerifier) (new : ServedHandler) → HandlerIsStopped host_disks (of_bytes 0 first) (of_bytes 1 second) (Left zone) new → IsZoneAfter by file apex (updates apex) zone
                    → (after : ZoneState TsigVerifier) × (new ≡ Left after) × IsZoneAfter by file apex (and_these one these apex) after
                step file zone new made is =
                    let (opened, new_is, opens_it) = failed_as first second zone new made in
                    (record opened { policy = [] }, new_is, after_these one these apex (spelled_as one apex same) file (record opened { policy = [] }) (stops {zone = opened} (opens_journal is opens_it)))

    stops_at : (one : DomainName) → Stops one old after → AreOfFiles by so files (and_these one (stopped ∷ [])) after
    stops_at one (inl stops_it) =
        are_changed files updates (and_these one (stopped ∷ [])) one stops_it.before stops_it.after old after stops_it.changed are (λ apex differs. not_at one (stopped ∷ []) apex differs)
        (λ file apex same. chain_steps HandlerStops apex (updates apex) (and_these one (stopped ∷ []) apex)
        (λ text zone new made is. (record zone { policy = [] }, made, after_these one (stopped ∷ []) apex same text (record zone { policy = [] }) (stops {zone = zone} is)))
        file stops_it.before stops_it.after stops_it.changes)
    stops_at one (inr (none, same)) =
        subst (λ (zs : ZoneChains ServedHandler). AreOfFiles by so files (and_these one (stopped ∷ [])) zs) (sym same)
        (record { from_files = All-weaker (Contains old) (IsOfAFile by so files (and_these one (stopped ∷ []))) each old (All-contains_itself old); served = are.served }) where
          each : (served : DomainName × Chain) → Contains old served → IsOfAFile by so files (and_these one (stopped ∷ [])) served
          each served among =
              let is = All-contains (IsOfAFile by so files updates) old served are.from_files among in
              moved files files updates (and_these one (stopped ∷ [])) (λ file there. there) served is (not_at one (stopped ∷ []) is.apex (no_true (name_eq one is.apex) (λ equal.
              let other = equal_same one is.apex equal in
              none (any_of old served among (record { labels = is.same.labels ∙ sym other.labels; marks = is.same.marks ∙ sym other.marks })))))

    pub stops_any : (one : Option DomainName) → StopsAny one old after → AreOfFiles by so files (λ apex. with_stop one apex (updates apex)) after
    stops_any None same = subst (λ (zs : ZoneChains ServedHandler). AreOfFiles by so files updates zs) (sym same) are
    stops_any (Some one) stops_it = stops_at one stops_it

  module _ (files : Files) (updates : Changed) where
    holds_one : (holds : Bool) (name : DomainName) (old after : ZoneChains ServedHandler) → Holds holds name old after → AreOfFiles by so files updates old → AreOfFiles by so files updates after
    holds_one holds name old after (inl one) are =
        are_changed files updates updates name one.before one.after old after one.changed are (λ apex differs. refl)
        (λ file apex same. chain_steps (HandlerHolds holds) apex (updates apex) (updates apex) (λ text zone new made is. (record zone { holds = holds }, made, waits {zone = zone} {holds = holds} is))
        file one.before one.after one.changes)
    holds_one holds name old after (inr (none, same)) are = subst (λ (zs : ZoneChains ServedHandler). AreOfFiles by so files updates zs) (sym same) are

    pub all_begin : (names : List DomainName) (old after : ZoneChains ServedHandler) → AllBegin names old after → AreOfFiles by so files updates old → AreOfFiles by so files updates after
    all_begin names old after turns.none are = are
    all_begin names old after (turns.more {those = those} {between = between} name before (holds, one)) are = holds_one holds name between after one (all_begin those old between before are)

    pub all_settle : (names : List DomainName) (old after : ZoneChains ServedHandler) → AllSettle names old after → AreOfFiles by so files updates old → AreOfFiles by so files updates after
    all_settle names old after turns.none are = are
    all_settle names old after (turns.more {those = those} {between = between} name before one) are = holds_one false name between after one (all_settle those old between before are)

  -- ---- a message makes an update, or none

  of_its_bytes : (message : Incoming) (update : TimedRequest) → IsRequestOf message update.0 → IsOfItsBytes update.0
  of_its_bytes message update is = rw is.raw is.stands

  made_so : (files : Files) (updates : Changed) (message : Incoming) (old after : ZoneChains ServedHandler) (taken_is : Taken) → AreMade by message old after taken_is → AreOfFiles by so files updates old
      → AreOfFiles by so files (λ apex. with_taken taken_is apex (updates apex)) after
  made_so files updates message old after None same are = subst (λ (zs : ZoneChains ServedHandler). AreOfFiles by so files updates zs) (sym same) are
  made_so files updates message old after (Some (name, update)) makes are =
      are_changed files updates later name (Left makes.was ∷ makes.others) (Left makes.is ∷ makes.others) old after makes.changed are (λ apex differs. ap (λ (b : Bool). cond b (update_taken update ∷ updates apex) (updates apex)) differs) becomes where
        later : Changed
        later apex = cond (name_eq name apex) (update_taken update ∷ updates apex) (updates apex)

        becomes : (file : Option (List ℕ)) (apex : DomainName) → SameName name apex → IsChainAfter by so file apex (updates apex) (Left makes.was ∷ makes.others) → IsChainAfter by so file apex (later apex) (Left makes.is ∷ makes.others)
        becomes None apex same empty = let no : ◌≡◌ {A = Chain} (Left makes.was ∷ makes.others) [] = empty in absurd cc
        becomes (Some file) apex same (is, lists) = (
          subst (λ (us : List Change). IsZoneAfter by file apex us makes.is) (sym (ap (λ (b : Bool). cond b (update_taken update ∷ updates apex) (updates apex)) (same_equal name apex same)))
              (takes_update is (of_its_bytes message update makes.is_request) makes.updates),
          lists,
        )

-- more lists are so
module _ (by : Verifies TsigVerifier) (so wider : Blocklist → Type 0) (are_wider : (list : Blocklist) → so list → wider list) where
  wider_handler : (handler : ServedHandler) → IsListThat so handler → IsListThat wider handler
  wider_handler (Left zone) is = absurd is
  wider_handler (Right list) is = are_wider list.value is

  wider_chain : (chain : Chain) → IsServedChain so chain → IsServedChain wider chain
  wider_chain [] is = tt
  wider_chain (Left zone ∷ lists) is = All-weaker (IsListThat so) (IsListThat wider) wider_handler lists is
  wider_chain (Right list ∷ others) is = absurd is

  wider_chains : (zones : ZoneChains ServedHandler) → AreServedChains so zones → AreServedChains wider zones
  wider_chains zones are =
      All-weaker (λ (served : DomainName × Chain). IsServedChain so served.1) (λ (served : DomainName × Chain). IsServedChain wider served.1) (λ served. wider_chain served.1) zones are

  wider_after : (file : Option (List ℕ)) (apex : DomainName) (changes : List Change) (chain : Chain) → IsChainAfter by so file apex changes chain → IsChainAfter by wider file apex changes chain
  wider_after None apex changes chain empty = empty
  wider_after (Some file) apex changes [] after = absurd after
  wider_after (Some file) apex changes (Left zone ∷ lists) (after, are) = (after, All-weaker (IsListThat so) (IsListThat wider) wider_handler lists are)
  wider_after (Some file) apex changes (Right list ∷ others) after = absurd after

  wider_files : (files : Files) (updates : Changed) (zones : ZoneChains ServedHandler) → AreOfFiles by so files updates zones → AreOfFiles by wider files updates zones
  wider_files files updates zones are = record {
    from_files = All-weaker (IsOfAFile by so files updates) (IsOfAFile by wider files updates) one zones are.from_files;
    served = are.served;
  } where
    one : (served : DomainName × Chain) → IsOfAFile by so files updates served → IsOfAFile by wider files updates served
    one served is = record { apex = is.apex; file = is.file; among = is.among; same = is.same; after = wider_after is.file is.apex (updates is.apex) served.1 is.after }

-- ---- owner names stay in the zone

module _ (by : Verifies TsigVerifier) (owners : OwnersOfRecords) (stay : OwnersStayByRules by) (file : List ℕ) (apex : DomainName) where
  owned_after : (changes : List Change) (zone : ZoneState TsigVerifier) → has_journal changes ≡ false → IsZoneAfter by file apex changes zone → HoldsIn AreOwned zone.updatable.zone
  owned_after changes zone none (loads {zone = read} (records, is_file, served)) = (owners read.origin read.sets served.2).0 served.1
  owned_after changes zone none (gets_rules {changes = earlier} {zone = was} after) = owned_after earlier was none after
  owned_after changes zone none (takes_update {changes = earlier} {request = request} {old = old} {changed = answer} {context = context} after bytes updates) =
      stay request (Ok answer) context old zone updates bytes (owned_after earlier old none after)
  owned_after changes zone none (opens_journal after opened) = absurd (false≢true (sym none))
  owned_after changes zone none (waits {zone = was} after) = owned_after changes was none after
  owned_after changes zone none (stops {changes = earlier} {zone = was} after) = owned_after earlier was none after

  says_reply : (changes : List Change) (zone : ZoneState TsigVerifier) → has_journal changes ≡ false → IsZoneAfter by file apex changes zone → (request : ReceivedRequest) (question : Query) (contents : Contents)
      → IsSaidByZone zone.updatable.zone request question contents → SaysTheReply zone.updatable.zone request question contents
  says_reply changes zone none after request question contents (by_reply owned says) = says
  says_reply changes zone none after request question contents (by_failure sets not is) =
      absurd (not ((owners zone.updatable.zone.origin zone.updatable.zone.sets sets).1 (owned_after changes zone none after)))

  -- what is said of the zone, with a journal or without one
  pub said_after : (files : Files) (changes : Changed) (zone : ZoneState TsigVerifier) (b : Bool) → has_journal (changes apex) ≡ b → IsZoneAfter by file apex (changes apex) zone
      → (request : ReceivedRequest) (question : Query) (contents : Contents) → IsFor files request (apex, Some file) → IsSaidByZone zone.updatable.zone request question contents
      → IsSaidOf by files changes request question contents
  said_after files changes zone true has after request question contents for_it says = of_journal for_it after has says
  said_after files changes zone false none after request question contents for_it says =
      of_file for_it after (says_reply (changes apex) zone none after request question contents says)

module _ (by : Verifies TsigVerifier) (owners : OwnersOfRecords) (stay : OwnersStayByRules by) (so : Blocklist → Type 0) (files : Files) (updates : Changed) (zones : ZoneChains ServedHandler) (are : AreOfFiles by so files updates zones) where
  the_file : (served : DomainName × Chain) → Contains zones served → IsOfAFile by so files updates served
  the_file served among = All-contains (IsOfAFile by so files updates) zones served are.from_files among

  has_file : (name : DomainName) → HasZone zones name → HasZone files name
  has_file name (k, served, within, at, same) =
      let is = the_file served (k, within, at) in
      any_of files (is.apex, is.file) is.among (record { labels = sym is.same.labels ∙ same.labels; marks = sym is.same.marks ∙ same.marks })

  zone_of : (one : Given) → Contains files one → HasZone zones one.0
  zone_of one among = All-contains (λ (file : Given). HasZone zones file.0) files one are.served among

  has_zone : (name : DomainName) → HasZone files name → HasZone zones name
  has_zone name (k, one, within, at, same) =
      let (n, served, less, there, here) = zone_of one (k, within, at) in
      any_of zones served (n, less, there) (record { labels = here.labels ∙ same.labels; marks = here.marks ∙ same.marks })

  -- the nearest zone is of the nearest file
  nearest_file : (name : DomainName) (served : DomainName × Chain) → IsNearest zones name served → (is : IsOfAFile by so files updates served) → IsNearest files name (is.apex, is.file)
  nearest_file name served nearest is = record {
    among = is.among;
    may_answer = may_as served.0 is.apex name is.same nearest.may_answer;
    longest = All-weaker (λ (one : Given). HasZone zones one.0) (λ (one : Given). MayAnswer one.0 name → length one.0.labels ≤ length is.apex.labels) no_longer files are.served;
  } where
    no_longer : (one : Given) → HasZone zones one.0 → MayAnswer one.0 name → length one.0.labels ≤ length is.apex.labels
    no_longer one (k, other, within, at, same) may =
        let longest : length other.0.labels ≤ length served.0.labels =
        All-contains (λ (z : DomainName × Chain). MayAnswer z.0 name → length z.0.labels ≤ length served.0.labels) zones other nearest.longest (k, within, at)
        (may_as one.0 other.0 name (same_back other.0 one.0 same) may) in
        omega (arith, longest, same_length other.0 one.0 same, same_length served.0 is.apex is.same)

  nearest_zone : (name : DomainName) (one : Given) → IsNearest files name one → (served : DomainName × Chain) × IsNearest zones name served
  nearest_zone name one nearest = from (zone_of one nearest.among) where
    from : HasZone zones one.0 → (served : DomainName × Chain) × IsNearest zones name served
    from (k, served, within, at, same) = (
      served,
      record {
        among = (k, within, at);
        may_answer = may_as one.0 served.0 name (same_back served.0 one.0 same) nearest.may_answer;
        longest = All-weaker (Contains zones) (λ (z : DomainName × Chain). MayAnswer z.0 name → length z.0.labels ≤ length served.0.labels) no_longer zones (All-contains_itself zones);
      },
    ) where
      no_longer : (other : DomainName × Chain) → Contains zones other → MayAnswer other.0 name → length other.0.labels ≤ length served.0.labels
      no_longer other among may =
          let is = the_file other among in
          let longest : length is.apex.labels ≤ length one.0.labels =
          All-contains (λ (f : Given). MayAnswer f.0 name → length f.0.labels ≤ length one.0.labels) files (is.apex, is.file) nearest.longest is.among (may_as other.0 is.apex name is.same may) in
          omega (arith, longest, same_length other.0 is.apex is.same, same_length served.0 one.0 same)

  none_above : (message : MessageRequest) → FindsAbove zones message None → FindsAbove files message None
  none_above message none one asked =
      let (served, nearest) = nearest_zone (above asked.name) one asked.nearest in
      none served (record { name = asked.name; asks = asked.asks; is_apex = has_zone asked.name asked.is_apex; nearest = nearest })

  none_for : (name : DomainName) → Finds zones name None → Finds files name None
  none_for name none = All-weaker (λ (one : Given). HasZone zones one.0) (λ (one : Given). ¬ (MayAnswer one.0 name)) never files are.served where
    never : (one : Given) → HasZone zones one.0 → ¬ (MayAnswer one.0 name)
    never one (k, served, within, at, same) may =
        All-contains (λ (z : DomainName × Chain). ¬ (MayAnswer z.0 name)) zones served none (k, within, at) (may_as one.0 served.0 name (same_back served.0 one.0 same) may)

  is_among : (request : ReceivedRequest) (served : DomainName × Chain) → IsFor zones request served → Contains zones served
  is_among request served (for_laws.above asked) = asked.nearest.among
  is_among request served (for_laws.own _ of_zone) = of_zone.nearest.among

  is_for : (request : ReceivedRequest) (served : DomainName × Chain) → IsFor zones request served → (is : IsOfAFile by so files updates served) → IsFor files request (is.apex, is.file)
  is_for request served (for_laws.above asked) is =
      for_laws.above (record { name = asked.name; asks = asked.asks; is_apex = has_file asked.name asked.is_apex; nearest = nearest_file (above asked.name) served asked.nearest is })
  is_for request served (for_laws.own none of_zone) is =
      for_laws.own (none_above request.message none) (record { query = of_zone.query; asks = of_zone.asks; nearest = nearest_file (lower_name of_zone.query.name) served of_zone.nearest is })

  module _ (request : ReceivedRequest) (question : Query) (contents : Contents) where
    said_first : (apex : DomainName) (file : Option (List ℕ)) → IsFor files request (apex, file) → (zone : ZoneState TsigVerifier) (lists : Chain) → IsChainAfter by so file apex (updates apex) (Left zone ∷ lists)
        → IsSaidByZone zone.updatable.zone request question contents → IsSaidOf by files updates request question contents
    said_first apex None for_it zone lists empty says = let no : ◌≡◌ {A = Chain} (Left zone ∷ lists) [] = empty in absurd cc
    said_first apex (Some file) for_it zone lists after says =
        said_after by owners stay file apex files updates zone (has_journal (updates apex)) refl after.0 request question contents for_it says

    said_empty : (apex : DomainName) (file : Option (List ℕ)) → IsFor files request (apex, file) → IsChainAfter by so file apex (updates apex) []
        → contents ≡ error_contents request.message.metadata code_serv_fail → IsSaidOf by files updates request question contents
    said_empty apex None for_it after is = of_failed for_it is
    said_empty apex (Some file) for_it after is = absurd after

    pub said_of : IsSaidBy zones request question contents → IsSaidOf by files updates request question contents
    said_of (by_none not_above none is) = of_no_file (none_above request.message not_above) (none_for (lower_name question.name) none) is
    said_of (by_zone {apex = apex} {zone = zone} {lists = lists} for_it says) =
        let is = the_file (apex, Left zone ∷ lists) (is_among request (apex, Left zone ∷ lists) for_it) in
        said_first is.apex is.file (is_for request (apex, Left zone ∷ lists) for_it is) zone lists is.after says
    said_of (by_empty {apex = apex} for_it failed) =
        let is = the_file (apex, []) (is_among request (apex, []) for_it) in
        said_empty is.apex is.file (is_for request (apex, []) for_it is) is.after failed

-- ---- the run

-- what holds of a server after these events
pub record HoldsAt (by : Verifies TsigVerifier) (so : Blocklist → Type 0) (files : Files) (updates : Changed) (service : Service) : Type 0 where
  pub zones : AreOfFiles by so files updates (zones_of service)
  pub added : All (Added service.apexes.items) files
  pub listed : (list : Blocklist) → option_map (λ it. it.value) service.list ≡ Some list → so list

-- the list of a later server, which is the same
listed_as : (so : Blocklist → Type 0) (old after : Service) → after.list ≡ old.list → ((list : Blocklist) → option_map (λ it. it.value) old.list ≡ Some list → so list)
    → (list : Blocklist) → option_map (λ it. it.value) after.list ≡ Some list → so list
listed_as so old after same listed list is = listed list (sym (ap (option_map (λ (it : Rc Blocklist Global). it.value)) same) ∙ is)

-- a list of a text, if there is one
of_one_text : (texts : List (List ℕ)) (text : List ℕ) (counts : Counts) (found : Option Blocklist) → IsListOfText text counts found → (list : Blocklist) → found ≡ Some list → IsOfTexts (text ∷ texts) list
of_one_text texts text counts found is list same =
    (text, (0, omega arith, refl), counts, subst (IsListOfText text counts) same is)

of_more_texts : (texts : List (List ℕ)) (text : List ℕ) (list : Blocklist) → IsOfTexts texts list → IsOfTexts (text ∷ texts) list
of_more_texts texts text list (one, among, counts, is) = (one, Contains-append_right (text ∷ []) texts one among, counts, is)

module _ (handler : Ghosts ServedHandler) (signature_for : LeftToServer → Signer) (by : Verifies TsigVerifier) (answered : QueriesAreAnswered handler signature_for) (follow : ZonesAreUpdated handler signature_for by) (read : PlainQueriesAreRead)
    (owners : OwnersOfRecords) (stay : OwnersStayByRules by) where
  -- a message changes the zones by the update that was taken
  module _ (service : Service) (are : AreServedChains (λ list. Unit {0}) (zones_of service)) (message : Incoming) (after : ZoneChains ServedHandler) where
    abbrev Follow : Taken → Type 0
    Follow taken_is = AreMade by message (zones_of service) after taken_is

    of_rules : (rules : Rules) (answer : Answer) (served : ServedBy rules (server_of handler signature_for service.answering.server.server.catalog) message answer after) → Follow (taken_in served)
    of_rules rules answer served = (follow rules service.answering.server.server.catalog message after are).0 answer served

    follow_answer : (answer : Answer) (s : ServedWithKeys (keyed handler signature_for service) (arrived message) answer after) → Follow (taken_by_answer handler signature_for service message answer after s)
    follow_answer answer (unjudged _ served) = of_rules (rules_of service) answer (served message (itself message))
    follow_answer answer (plain _ _ _ served) = of_rules (rules_of service) answer (served message (itself message))
    follow_answer answer (unreadable _ _ _ _ kept) = kept
    follow_answer answer (good {served = first} {theirs = theirs} _ _ _ _ _ served _) = of_rules theirs first (served message (itself message))
    follow_answer answer (bad _ _ _ _ _ _ kept) = kept

    follow_error : (e : ServeError) (left : LeavesWithKeys (keyed handler signature_for service) (arrived message) e after) → Follow (taken_by_error handler signature_for service message e after left)
    follow_error e (inl (memory, kept)) = kept
    follow_error e (inr (inl leaves)) = (follow (rules_of service) service.answering.server.server.catalog message after are).1 e (leaves message (itself message))
    follow_error e (inr (inr (memory, judgement, request, theirs, is_request, for_key, answer, served))) = of_rules theirs answer (served message (itself message))

    follow_outcome : (outcome : Result Answer ServeError) (answers : Answers handler signature_for service message outcome after) → Follow (taken handler signature_for service message outcome after answers)
    follow_outcome (Ok answer) answers = follow_answer answer answers
    follow_outcome (Err e) left = follow_error e left

  kept : (so : Blocklist → Type 0) (files : Files) (updates : Changed) (old after : Service) → HoldsAt by so files updates old → zones_of after ≡ zones_of old → after.apexes ≡ old.apexes → after.list ≡ old.list → HoldsAt by so files updates after
  kept so files updates old after holds zones apexes list = record {
    zones = subst (λ (zs : ZoneChains ServedHandler). AreOfFiles by so files updates zs) (sym zones) holds.zones;
    added = subst (λ (names : Vec DomainName Global). All (Added names.items) files) (sym apexes) holds.added;
    listed = listed_as so old after list holds.listed;
  }

  -- zones change, and no file is added
  changed_to : (so : Blocklist → Type 0) (files : Files) (updates later : Changed) (old after : Service) → HoldsAt by so files updates old → AreOfFiles by so files later (zones_of after) → after.apexes ≡ old.apexes → after.list ≡ old.list
      → HoldsAt by so files later after
  changed_to so files updates _ old after holds zones apexes list = record {
    zones = zones;
    added = subst (λ (names : Vec DomainName Global). All (Added names.items) files) (sym apexes) holds.added;
    listed = listed_as so old after list holds.listed;
  }

  -- a file is added, or one that was not taken
  one_file_more : (so : Blocklist → Type 0) (files : Files) (updates later : Changed) (old after : Service) (apex : DomainName) (file : Option (List ℕ)) → HoldsAt by so files updates old
      → AreOfFiles by so ((apex, file) ∷ files) later (zones_of after) → after.apexes.items ≡ old.apexes.items ++ apex ∷ [] → after.list ≡ old.list → HoldsAt by so ((apex, file) ∷ files) later after
  one_file_more so files updates _ old after apex file holds zones apexes list = record {
    zones = zones;
    added = subst (λ (names : List DomainName). All (Added names) ((apex, file) ∷ files)) (sym apexes)
        (All-cons (Added (old.apexes.items ++ apex ∷ [])) (apex, file) files (one_added old.apexes.items apex)
        (All-weaker (Added old.apexes.items) (Added (old.apexes.items ++ apex ∷ [])) (still_added old.apexes.items apex) files holds.added));
    listed = listed_as so old after list holds.listed;
  }

  -- the lists that were set until then
  abbrev lists_of : List Event → Blocklist → Type 0
  lists_of events = IsOfTexts (texts_of events)

  holds_after : (events : List Event) (service : Service) (run : Run handler signature_for events service) → HoldsAt by (lists_of events) (files_of events) (changes_of handler signature_for run) service
  holds_after events service (starts unset) =
      record {
        zones = subst (λ (zs : ZoneChains ServedHandler). AreOfFiles by (lists_of []) [] (λ apex. []) zs) (sym unset.no_zones)
            (record { from_files = All-nil (IsOfAFile by (lists_of []) [] (λ apex. [])); served = All-nil (λ (one : Given). HasZone {V = Chain} [] one.0) });
        added = All-nil (Added service.apexes.items);
        listed = λ list is. let no : ◌≡◌ {A = Option Blocklist} None (Some list) = sym (ap (option_map (λ (it : Rc Blocklist Global). it.value)) unset.no_list) ∙ is in absurd cc;
      }
  holds_after events service (goes_on {events = earlier} {event = zone_added name file apex} {old = old} run (loads_as, apexes, others)) =
      let holds = holds_after earlier old run in
      let updates = changes_of handler signature_for run in
      let first : IsZoneAfter by file apex (cond (name_eq apex apex) [] (updates apex)) (loaded loads_as.zone) =
      subst (λ (us : List Change). IsZoneAfter by file apex us (loaded loads_as.zone)) (sym (ap (λ (b : Bool). cond b [] (updates apex)) (itself_equal apex))) (loads loads_as.of_file) in
      one_file_more (lists_of earlier) (files_of earlier) updates _ old service apex (Some file) holds
      (are_more by (lists_of earlier) (files_of earlier) updates (λ other. cond (name_eq apex other) [] (updates other)) apex (Some file) loads_as.chain (zones_of old) (zones_of service) holds.zones loads_as.changed
      (λ other differs. ap (λ (b : Bool). cond b [] (updates other)) differs)
      (loaded_so by (lists_of earlier) file apex (cond (name_eq apex apex) [] (updates apex)) (loaded loads_as.zone) first (option_map (λ it. it.value) old.list) loads_as.chain loads_as.chained holds.listed))
      apexes (ap (λ (s : Service). s.list) others)
  holds_after events service (goes_on {events = earlier} {event = zone_failed name apex} {old = old} run (spelled, changed, apexes, others)) =
      let holds = holds_after earlier old run in
      let updates = changes_of handler signature_for run in
      one_file_more (lists_of earlier) (files_of earlier) updates _ old service apex None holds
      (are_more by (lists_of earlier) (files_of earlier) updates updates apex None [] (zones_of old) (zones_of service) holds.zones changed (λ other differs. refl) refl)
      apexes (ap (λ (s : Service). s.list) others)
  holds_after events service (goes_on {events = earlier} {event = list_set text} {old = old} run ((counts, is), others)) =
      let holds = holds_after earlier old run in
      let updates = changes_of handler signature_for run in
      record {
        zones = subst (λ (zs : ZoneChains ServedHandler). AreOfFiles by (lists_of (list_set text ∷ earlier)) (files_of earlier) updates zs) (sym (ap zones_of others))
            (wider_files by (lists_of earlier) (lists_of (list_set text ∷ earlier)) (of_more_texts (texts_of earlier) text) (files_of earlier) updates (zones_of old) holds.zones);
        added = subst (λ (names : Vec DomainName Global). All (Added names.items) (files_of earlier)) (sym (ap (λ (s : Service). s.apexes) others)) holds.added;
        listed = of_one_text (texts_of earlier) text counts (option_map (λ it. it.value) service.list) is;
      }
  holds_after events service (goes_on {events = earlier} {event = keys_set file} {old = old} run (keys, others)) =
      kept (lists_of earlier) (files_of earlier) (changes_of handler signature_for run) old service (holds_after earlier old run) (ap zones_of others) (ap (λ (s : Service). s.apexes) others) (ap (λ (s : Service). s.list) others)
  holds_after events service (goes_on {events = earlier} {event = rule_added zone rule} {old = old} run (grant, others)) =
      kept (lists_of earlier) (files_of earlier) (changes_of handler signature_for run) old service (holds_after earlier old run) (ap zones_of others) (ap (λ (s : Service). s.apexes) others) (ap (λ (s : Service). s.list) others)
  holds_after events service (goes_on {events = earlier} {event = rules_given} {old = old} run (served, others)) =
      let holds = holds_after earlier old run in
      changed_to (lists_of earlier) (files_of earlier) (changes_of handler signature_for run) _ old service holds
      (given_each by (lists_of earlier) (files_of earlier) (changes_of handler signature_for run) old.answering.server.keys old.grants.items old.apexes.items (zones_of old) (zones_of service) served.are_given holds.added holds.zones)
      (ap (λ (s : Service). s.apexes) others) (ap (λ (s : Service). s.list) others)
  holds_after events service (goes_on {events = earlier} {event = journal_opened name first second} {old = old} run (opened, others)) =
      let holds = holds_after earlier old run in
      changed_to (lists_of earlier) (files_of earlier) (changes_of handler signature_for run) _ old service holds
      (opens_so by (lists_of earlier) (files_of earlier) (changes_of handler signature_for run) (zones_of old) (zones_of service) holds.zones opened.apex first second opened.opens)
      (ap (λ (s : Service). s.apexes) others) (ap (λ (s : Service). s.list) others)
  holds_after events service (goes_on {events = earlier} {event = journal_failed name first second} {old = old} run (stays_so, journals, others)) =
      let holds = holds_after earlier old run in
      changed_to (lists_of earlier) (files_of earlier) (changes_of handler signature_for run) _ old service holds
      (failed_so by (lists_of earlier) (files_of earlier) (changes_of handler signature_for run) (zones_of old) (zones_of service) holds.zones name first second stays_so)
      (ap (λ (s : Service). s.apexes) others) (ap (λ (s : Service). s.list) others)
  holds_after events service (goes_on {events = earlier} {event = batch_begun} {old = old} run (begin, others)) =
      let holds = holds_after earlier old run in
      changed_to (lists_of earlier) (files_of earlier) (changes_of handler signature_for run) (changes_of handler signature_for run) old service holds
      (all_begin by (lists_of earlier) (files_of earlier) (changes_of handler signature_for run) old.journals.items (zones_of old) (zones_of service) begin holds.zones)
      (ap (λ (s : Service). s.apexes) others) (ap (λ (s : Service). s.list) others)
  holds_after events service (goes_on {events = earlier} {event = batch_ended} {old = old} run (settle, others)) =
      let holds = holds_after earlier old run in
      changed_to (lists_of earlier) (files_of earlier) (changes_of handler signature_for run) (changes_of handler signature_for run) old service holds
      (all_settle by (lists_of earlier) (files_of earlier) (changes_of handler signature_for run) old.journals.items (zones_of old) (zones_of service) settle holds.zones)
      (ap (λ (s : Service). s.apexes) others) (ap (λ (s : Service). s.list) others)
  holds_after events service (goes_on {events = earlier} {event = updates_stopped journal} {old = old} run (stops_it, others)) =
      let holds = holds_after earlier old run in
      changed_to (lists_of earlier) (files_of earlier) (changes_of handler signature_for run) (λ apex. with_stop (slice_get old.journals.items journal) apex (changes_of handler signature_for run apex)) old service holds
      (stops_any by (lists_of earlier) (files_of earlier) (changes_of handler signature_for run) (zones_of old) (zones_of service) holds.zones (slice_get old.journals.items journal) stops_it)
      (ap (λ (s : Service). s.apexes) others) (ap (λ (s : Service). s.list) others)
  holds_after events service (goes_on {events = earlier} {event = other_set} {old = old} run same) =
      kept (lists_of earlier) (files_of earlier) (changes_of handler signature_for run) old service (holds_after earlier old run) same.zones same.apexes same.list
  holds_after events service (goes_on {events = earlier} {event = message_came message outcome} {old = old} run happens) =
      let holds = holds_after earlier old run in
      let chains = wider_chains by (lists_of earlier) (λ list. Unit {0}) (λ list is. tt) (zones_of old) (are_chains by (lists_of earlier) (files_of earlier) (changes_of handler signature_for run) (zones_of old) holds.zones) in
      changed_to (lists_of earlier) (files_of earlier) (changes_of handler signature_for run) _ old service holds
      (made_so by (lists_of earlier) (files_of earlier) (changes_of handler signature_for run) message (zones_of old) (zones_of service)
      (taken handler signature_for old message outcome (zones_of service) happens.0) (follow_outcome old chains message (zones_of service) outcome happens.0) holds.zones)
      (ap (λ (s : Service). s.apexes) happens.1.others) (ap (λ (s : Service). s.list) happens.1.others)

  -- an unsigned query is served by the zones
  query_served : (service : Service) (message : Incoming) (question : Query) (answer : Answer) (after : ZoneChains ServedHandler) → IsPlainQuery (rules_of service) message question → IsUnsigned service.answering.server.keys message
      → ServedWithKeys (keyed handler signature_for service) (arrived message) answer after → ServedBy (rules_of service) (server_of handler signature_for service.answering.server.server.catalog) message answer after
  query_served service message question answer after is unsigned (unjudged _ served) = served message (itself message)
  query_served service message question answer after is unsigned (plain _ _ _ served) = served message (itself message)
  query_served service message question answer after is unsigned (unreadable {e = e} _ _ fault _ _) = absurd (read (rules_of service) message question e is fault)
  query_served service message question answer after is unsigned (good {judgement = judgement} _ judged course _ _ _ _) =
      let no = sym (ap course_of (unsigned judgement judged)) ∙ course in absurd cc
  query_served service message question answer after is unsigned (bad {judgement = judgement} _ judged course _ _ _ _) =
      let no = sym (ap course_of (unsigned judgement judged)) ∙ course in absurd cc

  pub of_files : RepliesAreOfTheFiles handler signature_for by
  of_files events service message question answer zones run free is unsigned answers =
      let are = (holds_after events service run).zones in
      let chains = wider_chains by (lists_of events) (LetsPass question) free (zones_of service)
      (are_chains by (lists_of events) (files_of events) (changes_of handler signature_for run) (zones_of service) are) in
      let r = answered (rules_of service) service.answering.server.server.catalog message question answer zones chains is
      (query_served service message question answer zones is unsigned answers) in
      let (request, is_request, contents, said, sent) = r in
      (request, is_request, contents, said_of by owners stay (lists_of events) (files_of events) (changes_of handler signature_for run) (zones_of service) are request question contents said, sent)

-- a zone that took no update
pub unchanged : (by : Verifies TsigVerifier) → UnchangedAreOfFiles by
unchanged by file apex changes zone none unread (loads is) = is
unchanged by file apex changes zone none unread (gets_rules {changes = earlier} {zone = was} after) = unchanged by file apex earlier was none unread after
unchanged by file apex changes zone none unread (takes_update after bytes updates) = absurd cc
unchanged by file apex changes zone none unread (opens_journal after opened) = absurd (false≢true (sym unread))
unchanged by file apex changes zone none unread (waits {zone = was} after) = unchanged by file apex changes was none unread after
unchanged by file apex changes zone none unread (stops {changes = earlier} {zone = was} after) = unchanged by file apex earlier was none unread after
