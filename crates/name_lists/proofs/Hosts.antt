-- The words of a hosts line, one after another.
use Rattle.std.proofs.Common.{◌≡◌, ℕ, Bool, List, [], ◌∷◌, ◌++◌, true, false, refl, sym, ap, ◌∙◌, subst, append_assoc}
use Rattle.std.proofs.lemmas.List.{append-nil}
use Rattle.std.proofs.lemmas.Grind.{flat_map-append}
use Rattle.wire_names.specs.rr.domain.DomainName.{DomainName}
use Rattle.std.specs.Prelude.{MatchBool}
use Rattle.name_lists.specs.Gives.{GivesAlone, GivesHost, GivesHosts, GivesHostsLine, GivesWords, is_root_alias}
use Rattle.name_lists.specs.Names.{GivesName, plain_line, plain_lines}

-- The words at the front of a line gave these names, whose lines stand behind the old ones; the words left give the
-- rest.
pub record HostsSoFar (is_behind_sink : Bool) (words left : List (List ℕ)) (old new : List ℕ) : Type 0 where
  pub given : List DomainName
  pub written : new ≡ old ++ plain_lines given
  pub back : (rest : List DomainName) → GivesHosts is_behind_sink left rest → GivesHosts is_behind_sink words (given ++ rest)
  pub forth : (names : List DomainName) → GivesHosts is_behind_sink words names → (rest : List DomainName) × GivesHosts is_behind_sink left rest

module _ (is_behind_sink : Bool) (words : List (List ℕ)) (old : List ℕ) where
  pub hosts_none : HostsSoFar is_behind_sink words words old old
  hosts_none = record { given = []; written = sym (append-nil old); back = λ rest g. g; forth = λ names g. (names, g) }

  pub hosts_more : (left : List (List ℕ)) (word : List ℕ) (behind : List (List ℕ)) (mid new : List ℕ) (first : List DomainName)
      → HostsSoFar is_behind_sink words left old mid → left ≡ word ∷ behind → GivesHost is_behind_sink word first → new ≡ mid ++ plain_lines first
      → HostsSoFar is_behind_sink words behind old new
  hosts_more left word behind mid new first so e host written =
      let s : HostsSoFar is_behind_sink words (word ∷ behind) old mid = subst (λ ws. HostsSoFar is_behind_sink words ws old mid) e so in
      record {
        given = s.given ++ first;
        written = written ∙ ap (λ r. r ++ plain_lines first) s.written ∙ append_assoc old (plain_lines s.given) (plain_lines first)
            ∙ ap (λ r. old ++ r) (sym (flat_map-append plain_line s.given first));
        back = λ rest g. subst (GivesHosts is_behind_sink words) (sym (append_assoc s.given first rest)) (s.back (first ++ rest) (first, rest, host, g, refl));
        forth = λ names g. let f = s.forth names g in (f.1.1, f.1.3);
      }

  pub hosts_all : (left : List (List ℕ)) (new : List ℕ) → HostsSoFar is_behind_sink words left old new → left ≡ []
      → (names : List DomainName) × GivesHosts is_behind_sink words names × (new ≡ old ++ plain_lines names)
  hosts_all left new so e =
      let s : HostsSoFar is_behind_sink words [] old new = subst (λ ws. HostsSoFar is_behind_sink words ws old new) e so in
      (s.given, subst (GivesHosts is_behind_sink words) (append-nil s.given) (s.back [] refl), s.written)

  pub hosts_not : (left : List (List ℕ)) (word : List ℕ) (behind : List (List ℕ)) (mid : List ℕ) → HostsSoFar is_behind_sink words left old mid → left ≡ word ∷ behind
      → ((first : List DomainName) → ¬ (GivesHost is_behind_sink word first)) → (names : List DomainName) → ¬ (GivesHosts is_behind_sink words names)
  hosts_not left word behind mid so e none names g =
      let s : HostsSoFar is_behind_sink words (word ∷ behind) old mid = subst (λ ws. HostsSoFar is_behind_sink words ws old mid) e so in
      let f = s.forth names g in none f.1.0 f.1.2

-- ---- words by how many they are, for each claim on what they give

module _ (M : (List DomainName → Type 0) → Type 0) (words : List (List ℕ)) (word : List ℕ) where
  pub by_one : words ≡ word ∷ [] → M (GivesAlone word) → M (GivesWords words)
  by_one e m = subst (λ ws. M (GivesWords ws)) (sym e) m

  module _ (behind : List (List ℕ)) (next : List ℕ) (more : List (List ℕ)) (e : words ≡ word ∷ behind) (some : behind ≡ next ∷ more) where
    by_alias_or_hosts : (t : Bool) → is_root_alias behind ≡ t → M (λ names. MatchBool t (GivesName word names) (GivesHostsLine word behind names)) → M (GivesWords words)
    by_alias_or_hosts t is m =
        let both : M (λ names. MatchBool (is_root_alias behind) (GivesName word names) (GivesHostsLine word behind names)) =
        subst (λ b. M (λ names. MatchBool b (GivesName word names) (GivesHostsLine word behind names))) (sym is) m in
        let here : M (GivesWords (word ∷ next ∷ more)) = subst (λ ws. M (λ names. MatchBool (is_root_alias ws) (GivesName word names) (GivesHostsLine word ws names))) some both in
        subst (λ ws. M (GivesWords ws)) (sym (e ∙ ap (λ ws. word ∷ ws) some)) here

    pub by_alias : is_root_alias behind ≡ true → M (GivesName word) → M (GivesWords words)
    by_alias is m = by_alias_or_hosts true is m

    pub by_hosts : is_root_alias behind ≡ false → M (GivesHostsLine word behind) → M (GivesWords words)
    by_hosts is m = by_alias_or_hosts false is m
