-- Consulting handlers from a place on, and the answer of a chain.
use Rattle.std.proofs.Common.{◌≡◌, ℕ, zero, suc, ◌+◌, ◌-◌, ◌<◌, ◌≤◌, true, false, List, [], ◌∷◌, ◌++◌, length, drop, take, get_or, None, Some, refl, ap, subst, ◌∙◌, arith}
use Rattle.std.proofs.lemmas.List.{drop_all, length-drop, take_all}
use Rattle.std.specs.List.{remove}
use Rattle.std.specs.Option.{option_or, IsSome}
use Rattle.wire_names.specs.rr.domain.NameOrder.{lower_name}
use Rattle.hickory_base.specs.zone_store.Lookups.{Flow, SignerContext, is_continue, result_of}
use Rattle.hickory_base.specs.requests.Requests.{ReceivedRequest, RequestInformation}
use Rattle.hickory_base.specs.declared.zone_store.handler.ZoneHandler.{Ghosts}
use Rattle.hickory_base.specs.declared.zone_store.lookup.LookupControlFlow.TheVariants.{Continue, Break, Skip}
use Rattle.hickory_base.specs.declared.zone_store.lookup.LookupOptions.{LookupOptions}
use Rattle.hickory_catalog.specs.queries.Transcripts.{Asked, Consulted, Follows, Given, IsAnswer, all_consulted, consulted, out_of_memory, nobody, skipped, answered, wants_memory}
use Rattle.hickory_catalog.proofs.lemmas.queries.ChainsFromPlace.{front_at}

-- what is consulted of the rest is consulted of the whole
abbrev pub ConsultedOn : {H : Type 0} → Ghosts H → RequestInformation → LookupOptions → List H → Given → ℕ → Given → Type 0
ConsultedOn handler info options all first i last = (final : Given) → Consulted handler info options (drop i all) last final → Consulted handler info options all first final

module _ {H : Type 0} (handler : Ghosts H) (info : RequestInformation) (options : LookupOptions) (all : List H) (first : Given) where
  pub on_start : ConsultedOn handler info options all first 0 first
  on_start final r = r

  pub on_memory : (i : ℕ) (last : Given) → ConsultedOn handler info options all first i last → wants_memory last.0 ≡ true → Consulted handler info options all first last
  on_memory i last on wants = on last (out_of_memory wants)

  pub on_step : (i : ℕ) (h : H) (last given : Given) (fresh : SignerContext) → ConsultedOn handler info options all first i last
      → i < length all → h ≡ get_or all i h → wants_memory last.0 ≡ false
      → handler.consult_gives h (lower_name info.query.name) info.query.query_type (Some info) options last.0 given.0 fresh
      → given.1 ≡ option_or fresh last.1 → ConsultedOn handler info options all first (i + 1) given
  on_step i h last given fresh on lt is wants gave left final r =
      let e : drop i all ≡ h ∷ drop (i + 1) all = front_at all i h lt is in
      let s = subst (λ (x : SignerContext). Consulted handler info options (drop (i + 1) all) (given.0, x) final) left r in
      on final (rw e (consulted wants gave s))

  pub on_end : (i n : ℕ) (last : Given) → ConsultedOn handler info options all first i last → length all ≡ n → n ≤ i → Consulted handler info options all first last
  on_end i n last on e low =
      let none : drop i all ≡ [] = drop_all i all (omega arith) in
      on last (rw none all_consulted)

module _ {H : Type 0} {handler : Ghosts H} {info : RequestInformation} {options : LookupOptions} where
  memory_stays : {hs : List H} {last final : Given} → wants_memory last.0 ≡ true → Consulted handler info options hs last final → final ≡ last
  memory_stays wants all_consulted = refl
  memory_stays wants (out_of_memory _) = refl
  memory_stays wants (consulted not _ _) = absurd cc

  -- first these, then those
  pub joined : {hs gs : List H} {first second final : Given} → Consulted handler info options hs first second → Consulted handler info options gs second final
      → Consulted handler info options (hs ++ gs) first final
  joined all_consulted r = r
  joined (out_of_memory wants) r =
      let s = memory_stays wants r in
      rw s (out_of_memory wants)
  joined (consulted not gave l) r = consulted not gave (joined l r)

  -- a `Continue` is followed by consulting
  pub continued : {others : List H} (answer : Flow) (context : SignerContext) {final : Given} → is_continue answer ≡ true
      → Consulted handler info options others (answer, context) final → Follows handler info options others (answer, context) final
  continued (Continue _) context is c = c
  continued (Break _) context is c = absurd cc
  continued Skip context is c = absurd cc

-- beside one handler alone nobody stands
pub alone : {H : Type 0} (chain : List H) (place : ℕ) → length chain ≤ 1 → place < length chain → remove chain place ≡ []
alone [] place few lt = absurd (omega (arith, lt))
alone (h ∷ []) zero few lt = refl
alone (h ∷ []) (suc place) few lt = absurd (omega (arith, lt))
alone (h ∷ g ∷ hs) place few lt = absurd (omega (arith, few))

-- the slice from behind a place on is what is left
pub behind_is : {H : Type 0} (chain : List H) (place : ℕ) → take (length chain - (place + 1)) (drop (place + 1) chain) ≡ drop (suc place) chain
behind_is chain place =
    let e : take (length chain - (place + 1)) (drop (place + 1) chain) ≡ drop (place + 1) chain = take_all (length chain - (place + 1)) (drop (place + 1) chain) (omega (arith, length-drop (place + 1) chain)) in
    let q : place + 1 ≡ suc place = omega arith in
    e ∙ ap (λ (n : ℕ). drop n chain) q

-- any other answer stands
pub stands : {H : Type 0} (handler : Ghosts H) (info : RequestInformation) (options : LookupOptions) (others : List H) (answer : Flow) (context : SignerContext) → is_continue answer ≡ false → (answer ≡ Skip → context ≡ None)
    → Follows handler info options others (answer, context) (answer, context)
stands handler info options others (Continue _) context is skip = absurd cc
stands handler info options others (Break _) context is skip = (refl, refl)
stands handler info options others Skip context is skip = (refl, skip refl)

module _ {H : Type 0} {handler : Ghosts H} {request : ReceivedRequest} {options : LookupOptions} where
  pub skip_without_context : {chain : List H} {place : ℕ} {given : Given} → Asked handler request options chain place given → given.0 ≡ Skip → given.1 ≡ None
  skip_without_context nobody e = refl
  skip_without_context (skipped _ r) e = skip_without_context r e
  skip_without_context (answered is _) e = absurd (subst IsAnswer e is)

pub some_is_answer : (answer : Flow) → IsSome (result_of answer) → IsAnswer answer
some_is_answer (Continue _) h = tt
some_is_answer (Break _) h = tt
some_is_answer Skip h = absurd cc

pub continue_is_answer : (answer : Flow) → is_continue answer ≡ true → IsAnswer answer
continue_is_answer (Continue _) h = tt
continue_is_answer (Break _) h = tt
continue_is_answer Skip h = absurd cc
