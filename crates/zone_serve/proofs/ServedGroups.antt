-- What becomes of a group goes on by one line, and a group is served by its lines.
use Rattle.std.proofs.Common.{◌≡◌, ◌<◌, ◌+◌, ◌++◌, ◌∷◌, [], ℕ, Bool, true, false, List, Vec, length, get_or, take, refl, sym, ap, subst, ◌∙◌}
use Rattle.std.proofs.lemmas.List.{take_more}
use Rattle.std.specs.Prelude.{◌==◌}
use Rattle.std.specs.declared.alloc.Global.{Global}
use Rattle.wire_names.specs.rr.domain.DomainName.{DomainName}
use Rattle.hickory_catalog.specs.replies.Signing.{Signer}
use Rattle.hickory_base.specs.declared.zone_store.handler.ZoneHandler.{Ghosts}
use Rattle.signed_server.specs.declared.service.SignedServer.{SignedServer}
use Rattle.zone_serve.specs.Groups.{Begun, EachServed, GroupServed, contents}
use Rattle.zone_serve.specs.Groups.EachServed.{more}
use Rattle.zone_serve.specs.Groups.GroupServed.{as_lines, as_one}
use Rattle.signed_server.specs.KeyedServers.{KeyedServer, keyed_of, over}
use Rattle.server.specs.Serving.{Stays}
use Rattle.zone_serve.specs.Served.{LineServed}
use Rattle.server.proofs.Streams.{same_keyed}

true_is_false : false ≡ true → ⊥
true_is_false is = subst (λ (b : Bool). if_true b) (sym is) tt
  where
    if_true : Bool → Type 0
    if_true true = Unit {0}
    if_true false = ⊥

cons_is_nil : {x : List ℕ} {xs : List (List ℕ)} → x ∷ xs ≡ [] → ⊥
cons_is_nil is = subst (λ (l : List (List ℕ)). if_some l) is tt
  where
    if_some : List (List ℕ) → Type 0
    if_some [] = ⊥
    if_some (x ∷ xs) = Unit {0}

contents_append : (first others : List (Vec ℕ Global)) → contents (first ++ others) ≡ contents first ++ contents others
contents_append [] others = refl
contents_append (x ∷ first) others = ap (λ (l : List (List ℕ)). x.items ∷ l) (contents_append first others)

contents_more : (lines : List (Vec ℕ Global)) (i : ℕ) (line : Vec ℕ Global) → i < length lines → line ≡ get_or lines i line → contents (take (i + 1) lines) ≡ contents (take i lines) ++ line.items ∷ []
contents_more lines i line inside is =
    ap (λ (l : List (Vec ℕ Global)). contents l) (take_more lines i line inside ∙ ap (λ (y : Vec ℕ Global). take i lines ++ y ∷ []) (sym is)) ∙ contents_append (take i lines) (line ∷ [])

pub pushed : (before after : List (Vec ℕ Global)) (line : Vec ℕ Global) → after ≡ before ++ line ∷ [] → contents after ≡ contents before ++ line.items ∷ []
pushed before after line is = ap (λ (l : List (Vec ℕ Global)). contents l) is ∙ contents_append before (line ∷ [])

pub some_lines : (lines : List (Vec ℕ Global)) → (length lines == 0) ≡ false → contents lines ≡ [] → ⊥
some_lines [] other is = true_is_false (sym other)
some_lines (x ∷ lines) other is = cons_is_nil is

module _ {S H : Type 0} (handler : Ghosts H) (signature_for : S → Signer) (first middle last : SignedServer S H) (stays : Stays first middle) where
  pub each_more : (lines : List (Vec ℕ Global)) (place : ℕ) (line : Vec ℕ Global) (written back more_written : List ℕ) (tells : Bool) → place < length lines → line ≡ get_or lines place line
      → EachServed (keyed_of handler signature_for first) (contents (take place lines)) written middle.server.catalog.zones
      → LineServed (keyed_of handler signature_for middle) line.items back last.server.catalog.zones tells → more_written ≡ written ++ back
      → EachServed (keyed_of handler signature_for first) (contents (take (place + 1) lines)) more_written last.server.catalog.zones
  each_more lines place line written back more_written tells inside is so_far served appended =
      subst (λ (l : List (List ℕ)). EachServed (keyed_of handler signature_for first) l more_written last.server.catalog.zones) (sym (contents_more lines place line inside is))
      (subst (λ (w : List ℕ). EachServed (keyed_of handler signature_for first) (contents (take place lines) ++ line.items ∷ []) w last.server.catalog.zones) (sym appended)
      (more (contents (take place lines)) written line.items back tells so_far
      (subst (λ (s : KeyedServer H). LineServed s line.items back last.server.catalog.zones tells) (same_keyed handler signature_for first middle stays) served)))

module _ {S H : Type 0} (handler : Ghosts H) (signature_for : S → Signer) (begins settles : List (DomainName × List H) → List (DomainName × List H) → Type 0)
    (first held : SignedServer S H) (stays : Stays first held) (lines : List (List ℕ)) (written : List ℕ) where
  pub settled : (ahead zones : List (DomainName × List H)) → Begun begins first.server.catalog.zones held.server.catalog.zones true → EachServed (keyed_of handler signature_for held) lines written ahead → settles ahead zones
      → GroupServed begins settles (keyed_of handler signature_for first) lines written zones
  settled ahead zones begun served written_out =
      as_one begun (subst (λ (s : KeyedServer H). EachServed s lines written ahead) (same_keyed handler signature_for first held stays) served) written_out

  pub as_ever : (zones : List (DomainName × List H)) → Begun begins first.server.catalog.zones held.server.catalog.zones false → EachServed (keyed_of handler signature_for held) lines written zones
      → GroupServed begins settles (keyed_of handler signature_for first) lines written zones
  as_ever zones same served =
      as_lines (subst (λ (s : KeyedServer H). EachServed s lines written zones)
      (same_keyed handler signature_for first held stays ∙ ap (over (keyed_of handler signature_for first)) same) served)
