-- A line gives one list of names, and a text has one outcome for each of its lines.
use Rattle.std.proofs.Common.{◌≡◌, ℕ, suc, Bool, true, false, List, [], ◌∷◌, ◌++◌, length, Option, Some, None, refl, sym, ap, ◌∙◌, subst}
use Rattle.std.specs.Prelude.{MatchBool, MatchOption}
use Rattle.wire_names.specs.rr.domain.DomainName.{DomainName}
use Rattle.name_lists.specs.Counts.{BecomesOf, BecomeOf, Counts, counts_of, given_names, IsAdapted, lines_in}
use Rattle.name_lists.specs.Gives.{Gives, GivesAlone, GivesHost, GivesHosts, GivesHostsLine, GivesWords, covered_name, is_local, is_root_alias, is_sink}
use Rattle.name_lists.specs.Names.{Spells, IsCovered, GivesName, GivesBelow, ascii_text, wildcard_over, plain_lines}
use Rattle.name_lists.specs.Words.{lines_of, without_mark, words_of_line}
use Rattle.name_lists.proofs.Adapting.{lines_counted}
use Rattle.name_lists.proofs.NameLines.{some_and, same_text, one_name}

one_named : (word : List ℕ) (a b : List DomainName) → GivesName word a → GivesName word b → a ≡ b
one_named word a b g h =
    let x = some_and (ascii_text word) (λ t. (n : DomainName) × Spells t n × (a ≡ n ∷ [])) g in
    let y = some_and (ascii_text word) (λ t. (n : DomainName) × Spells t n × (b ≡ n ∷ [])) h in
    let t : x.0 ≡ y.0 = same_text word x.0 y.0 x.1 y.1 in
    let n : x.2.0 ≡ y.2.0 = one_name y.0 x.2.0 y.2.0 (subst (λ t. Spells t x.2.0) t x.2.1) y.2.1 in
    x.2.2 ∙ ap (λ (d : DomainName). d ∷ []) n ∙ sym y.2.2

one_below : (word : List ℕ) (a b : List DomainName) → GivesBelow word a → GivesBelow word b → a ≡ b
one_below word a b g h =
    let x = some_and (ascii_text word) (λ t. (n : DomainName) × IsCovered t n × (a ≡ n ∷ wildcard_over n.labels ∷ [])) g in
    let y = some_and (ascii_text word) (λ t. (n : DomainName) × IsCovered t n × (b ≡ n ∷ wildcard_over n.labels ∷ [])) h in
    let t : x.0 ≡ y.0 = same_text word x.0 y.0 x.1 y.1 in
    let n : x.2.0 ≡ y.2.0 = one_name y.0 x.2.0 y.2.0 (subst (λ t. Spells t x.2.0) t x.2.1.spells) y.2.1.spells in
    x.2.2 ∙ ap (λ (d : DomainName). d ∷ wildcard_over d.labels ∷ []) n ∙ sym y.2.2

one_host : (is_behind_sink : Bool) (word : List ℕ) (a b : List DomainName) → GivesHost is_behind_sink word a → GivesHost is_behind_sink word b → a ≡ b
one_host is_behind_sink word a b g h = by (is_local word) g h where
  by : (t : Bool) → MatchBool t (a ≡ []) ((is_behind_sink ≡ true) × GivesName word a) → MatchBool t (b ≡ []) ((is_behind_sink ≡ true) × GivesName word b) → a ≡ b
  by true g h = g ∙ sym h
  by false g h = one_named word a b g.1 h.1

one_hosts : (is_behind_sink : Bool) (words : List (List ℕ)) (a b : List DomainName) → GivesHosts is_behind_sink words a → GivesHosts is_behind_sink words b → a ≡ b
one_hosts is_behind_sink [] a b g h = g ∙ sym h
one_hosts is_behind_sink (word ∷ words) a b g h =
    let first : g.0 ≡ h.0 = one_host is_behind_sink word g.0 h.0 g.2 h.2 in
    let rest : g.1 ≡ h.1 = one_hosts is_behind_sink words g.1 h.1 g.3 h.3 in
    g.4 ∙ ap (λ ns. ns ++ g.1) first ∙ ap (λ ns. h.0 ++ ns) rest ∙ sym h.4

one_alone : (word : List ℕ) (a b : List DomainName) → GivesAlone word a → GivesAlone word b → a ≡ b
one_alone word a b g h = by (covered_name word) g h where
  by : (o : Option (List ℕ)) → MatchOption o (GivesHost true word a) (λ name. GivesBelow name a) → MatchOption o (GivesHost true word b) (λ name. GivesBelow name b) → a ≡ b
  by None g h = one_host true word a b g h
  by (Some name) g h = one_below name a b g h

one_by_words : (words : List (List ℕ)) (a b : List DomainName) → GivesWords words a → GivesWords words b → a ≡ b
one_by_words [] a b g h = g ∙ sym h
one_by_words (word ∷ []) a b g h = one_alone word a b g h
one_by_words (word ∷ next ∷ more) a b g h = by (is_root_alias (next ∷ more)) g h where
  by : (t : Bool) → MatchBool t (GivesName word a) (GivesHostsLine word (next ∷ more) a) → MatchBool t (GivesName word b) (GivesHostsLine word (next ∷ more) b) → a ≡ b
  by true g h = one_named word a b g h
  by false g h = one_hosts (is_sink word) (next ∷ more) a b g.1 h.1

pub one_list : (line : List ℕ) (a b : List DomainName) → Gives line a → Gives line b → a ≡ b
one_list line a b g h = one_by_words (words_of_line line) a b g h

one_outcome : (line : List ℕ) (a b : Option (List DomainName)) → BecomesOf line a → BecomesOf line b → a ≡ b
one_outcome line None None g h = refl
one_outcome line None (Some b) g h = absurd (g b h)
one_outcome line (Some a) None g h = absurd (h a g)
one_outcome line (Some a) (Some b) g h = ap (λ ns. Some ns) (one_list line a b g h)

same_outcomes : (ls : List (List ℕ)) (a b : List (Option (List DomainName))) → BecomeOf ls a → BecomeOf ls b → a ≡ b
same_outcomes [] [] [] g h = refl
same_outcomes [] [] (y ∷ b) g h = absurd h
same_outcomes [] (x ∷ a) b g h = absurd g
same_outcomes (l ∷ ls) [] b g h = absurd g
same_outcomes (l ∷ ls) (x ∷ a) [] g h = absurd h
same_outcomes (l ∷ ls) (x ∷ a) (y ∷ b) g h = ap (λ o. o ∷ a) (one_outcome l x y g.0 h.0) ∙ ap (λ os. y ∷ os) (same_outcomes ls a b g.1 h.1)

pub one_adapted : (text p q : List ℕ) (c d : Counts) → IsAdapted text p c → IsAdapted text q d → (p ≡ q) × (c ≡ d)
one_adapted text p q c d g h =
    let same = same_outcomes (lines_of (without_mark text)) g.outcomes h.outcomes g.become h.become in
    (g.handed ∙ ap (λ os. plain_lines (given_names os)) same ∙ sym h.handed, g.counted ∙ ap counts_of same ∙ sym h.counted)

as_many : (ls : List (List ℕ)) (os : List (Option (List DomainName))) → BecomeOf ls os → length os ≡ length ls
as_many [] [] b = refl
as_many [] (o ∷ os) b = absurd b
as_many (l ∷ ls) [] b = absurd b
as_many (l ∷ ls) (o ∷ os) b = ap (λ n. suc n) (as_many ls os b.1)

pub counts_sum : (text p : List ℕ) (c : Counts) → IsAdapted text p c → lines_in c ≡ length (lines_of (without_mark text))
counts_sum text p c a = ap lines_in a.counted ∙ lines_counted a.outcomes ∙ as_many (lines_of (without_mark text)) a.outcomes a.become
