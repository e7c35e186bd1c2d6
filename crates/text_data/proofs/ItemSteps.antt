-- Steps through the items of a list.
use Rattle.std.proofs.Common.{◌≡◌, ◌∙◌, ◌+◌, ◌-◌, ◌<◌, ◌≤◌, ℕ, zero, suc, Bool, true, false, List, [], ◌∷◌, ◌++◌, Option, Some, None, length, take, drop, get_or, sym, ap, subst, refl, arith, append_assoc, append-nil, length-drop, inl, inr}
use Rattle.std.specs.Prelude.{◌==◌, ◌&&◌, ◌||◌, not, if◌then◌else◌}
use Rattle.std.proofs.lemmas.Bool.{cases_lt}
use Rattle.std.proofs.lemmas.List.{drop_more, get_or-drop, take_more}
use Rattle.text_data.specs.declared.kinds.ItemKind.{ItemKind}
use Rattle.text_data.specs.ServiceText.{AreItems, AreKeys, HasNone, IsItem, SpellsKey, bytes_before, item_bytes, list_items, own_byte, with_byte}
use Rattle.text_data.specs.ServiceText.AreItems.{none as no_items, more as one_item}
use Rattle.text_data.specs.ServiceText.AreKeys.{none as no_keys, more as one_key}

-- nothing is left behind the end
pub nothing_left : {X : Type 0} (xs : List X) (i : ℕ) → length xs ≤ i → drop i xs ≡ []
nothing_left [] zero long = refl
nothing_left [] (suc i) long = refl
nothing_left (x ∷ xs) zero long = absurd (omega (arith, long))
nothing_left (x ∷ xs) (suc i) long = nothing_left xs i (omega (arith, long))

-- bytes before the first item of a list
abbrev pub with_bytes : List ℕ → List (List ℕ) → List (List ℕ)
with_bytes [] items = items
with_bytes (byte ∷ front) items = with_byte byte (with_bytes front items)

push_byte : (front : List ℕ) (byte : ℕ) (items : List (List ℕ)) → with_bytes (front ++ byte ∷ []) items ≡ with_bytes front (with_byte byte items)
push_byte [] byte items = refl
push_byte (b ∷ front) byte items = ap (with_byte b) (push_byte front byte items)

before_first : (front item : List ℕ) (items : List (List ℕ)) → with_bytes front (item ∷ items) ≡ (front ++ item) ∷ items
before_first [] item items = refl
before_first (b ∷ front) item items = ap (with_byte b) (before_first front item items)

-- the bytes of an item so far, and what is left of the list
abbrev pub Left : List ℕ → ℕ → ℕ → Bool → Type 0
Left text start end escaped = list_items false (drop start text) ≡ with_bytes (take (end - start) (drop start text)) (list_items escaped (drop end text))

pub left_first : (text : List ℕ) (start : ℕ) → Left text start start false
left_first text start = same (start - start) (omega arith) where
  same : (n : ℕ) → n ≡ 0 → list_items false (drop start text) ≡ with_bytes (take n (drop start text)) (list_items false (drop start text))
  same zero e = refl
  same (suc n) e = absurd (omega (arith, e))

one_byte : (escaped : Bool) (byte : ℕ) (text : List ℕ) → (not escaped && (byte == 44)) ≡ false → list_items escaped (byte ∷ text) ≡ with_byte byte (list_items (not escaped && (byte == 92)) text)
one_byte escaped byte text e = ap (λ (b : Bool). if b then [] ∷ list_items false text else with_byte byte (list_items (not escaped && (byte == 92)) text)) e

comma : (escaped : Bool) (byte : ℕ) (text : List ℕ) → (not escaped && (byte == 44)) ≡ true → list_items escaped (byte ∷ text) ≡ [] ∷ list_items false text
comma escaped byte text e = ap (λ (b : Bool). if b then [] ∷ list_items false text else with_byte byte (list_items (not escaped && (byte == 92)) text)) e

pub left_more : (text : List ℕ) (start end byte : ℕ) (escaped next : Bool) → start ≤ end → end < length text → byte ≡ get_or text end 0 → (not escaped && (byte == 44)) ≡ false → next ≡ (not escaped && (byte == 92)) → Left text start end escaped
    → Left text start (end + 1) next
left_more text start end byte escaped next on below is apart step left =
    let front : List ℕ = take (end - start) (drop start text) in
    let rest : drop end text ≡ byte ∷ drop (end + 1) text = drop_more text end 0 below ∙ ap (λ (b : ℕ). b ∷ drop (end + 1) text) (sym is) in
    let own : get_or (drop start text) (end - start) 0 ≡ byte = get_or-drop start text (end - start) 0 ∙ ap (λ (k : ℕ). get_or text k 0) (omega (arith, on)) ∙ sym is in
    let inside : end - start < length (drop start text) = omega (arith, length-drop start text, on, below) in
    let grown : take (end - start + 1) (drop start text) ≡ front ++ byte ∷ [] = take_more (drop start text) (end - start) 0 inside ∙ ap (λ (b : ℕ). front ++ b ∷ []) own in
    let longer : take (end + 1 - start) (drop start text) ≡ front ++ byte ∷ [] = ap (λ (k : ℕ). take k (drop start text)) (omega (arith, on)) ∙ grown in
    let after : list_items escaped (drop end text) ≡ with_byte byte (list_items next (drop (end + 1) text)) =
    ap (list_items escaped) rest ∙ one_byte escaped byte (drop (end + 1) text) apart ∙ ap (λ (b : Bool). with_byte byte (list_items b (drop (end + 1) text))) (sym step) in
    left ∙ ap (with_bytes front) after ∙ sym (push_byte front byte (list_items next (drop (end + 1) text))) ∙ ap (λ (t : List ℕ). with_bytes t (list_items next (drop (end + 1) text))) (sym longer)

pub left_comma : (text : List ℕ) (start end byte : ℕ) (escaped : Bool) → end < length text → byte ≡ get_or text end 0 → (not escaped && (byte == 44)) ≡ true → Left text start end escaped
    → list_items false (drop start text) ≡ take (end - start) (drop start text) ∷ list_items false (drop (end + 1) text)
left_comma text start end byte escaped below is sign left =
    let front : List ℕ = take (end - start) (drop start text) in
    let rest : drop end text ≡ byte ∷ drop (end + 1) text = drop_more text end 0 below ∙ ap (λ (b : ℕ). b ∷ drop (end + 1) text) (sym is) in
    left ∙ ap (with_bytes front) (ap (list_items escaped) rest ∙ comma escaped byte (drop (end + 1) text) sign) ∙ before_first front [] (list_items false (drop (end + 1) text))
    ∙ ap (λ (t : List ℕ). t ∷ list_items false (drop (end + 1) text)) (append-nil front)

pub left_last : (text : List ℕ) (start end : ℕ) (escaped : Bool) → length text ≤ end → Left text start end escaped → list_items false (drop start text) ≡ take (end - start) (drop start text) ∷ []
left_last text start end escaped long left =
    let front : List ℕ = take (end - start) (drop start text) in
    left ∙ ap (λ (t : List ℕ). with_bytes front (list_items escaped t)) (nothing_left text end long) ∙ before_first front [] [] ∙ ap (λ (t : List ℕ). t ∷ []) (append-nil front)

-- the bytes of an item so far, and what is left of it
pub bytes_first : (r : Option (List ℕ)) → bytes_before [] r ≡ r
bytes_first None = refl
bytes_first (Some bytes) = refl

joined : (front own : List ℕ) (r : Option (List ℕ)) → bytes_before front (bytes_before own r) ≡ bytes_before (front ++ own) r
joined front own None = refl
joined front own (Some bytes) = ap (λ (t : List ℕ). Some t) (sym (append_assoc front own bytes))

one_own : (escaped : Bool) (byte : ℕ) (text : List ℕ) → (escaped && not ((byte == 44) || (byte == 92))) ≡ false → item_bytes escaped (byte ∷ text) ≡ bytes_before (own_byte escaped byte) (item_bytes (not escaped && (byte == 92)) text)
one_own escaped byte text e = ap (λ (b : Bool). if b then None else bytes_before (own_byte escaped byte) (item_bytes (not escaped && (byte == 92)) text)) e

wrong_own : (escaped : Bool) (byte : ℕ) (text : List ℕ) → (escaped && not ((byte == 44) || (byte == 92))) ≡ true → item_bytes escaped (byte ∷ text) ≡ None
wrong_own escaped byte text e = ap (λ (b : Bool). if b then None else bytes_before (own_byte escaped byte) (item_bytes (not escaped && (byte == 92)) text)) e

pub bytes_more : (text front after : List ℕ) (i byte : ℕ) (escaped next : Bool) → i < length text → byte ≡ get_or text i 0 → (escaped && not ((byte == 44) || (byte == 92))) ≡ false → next ≡ (not escaped && (byte == 92)) → after ≡ front ++ own_byte escaped byte
    → bytes_before front (item_bytes escaped (drop i text)) ≡ item_bytes false text → bytes_before after (item_bytes next (drop (i + 1) text)) ≡ item_bytes false text
bytes_more text front after i byte escaped next below is right step grown so_far =
    let rest : drop i text ≡ byte ∷ drop (i + 1) text = drop_more text i 0 below ∙ ap (λ (b : ℕ). b ∷ drop (i + 1) text) (sym is) in
    let here : item_bytes escaped (drop i text) ≡ bytes_before (own_byte escaped byte) (item_bytes next (drop (i + 1) text)) =
    ap (item_bytes escaped) rest ∙ one_own escaped byte (drop (i + 1) text) right ∙ ap (λ (b : Bool). bytes_before (own_byte escaped byte) (item_bytes b (drop (i + 1) text))) (sym step) in
    ap (λ (t : List ℕ). bytes_before t (item_bytes next (drop (i + 1) text))) grown ∙ sym (joined front (own_byte escaped byte) (item_bytes next (drop (i + 1) text))) ∙ ap (bytes_before front) (sym here) ∙ so_far

pub bytes_wrong : (text front : List ℕ) (i byte : ℕ) (escaped : Bool) → i < length text → byte ≡ get_or text i 0 → (escaped && not ((byte == 44) || (byte == 92))) ≡ true → bytes_before front (item_bytes escaped (drop i text)) ≡ item_bytes false text → item_bytes false text ≡ None
bytes_wrong text front i byte escaped below is wrong so_far =
    let rest : drop i text ≡ byte ∷ drop (i + 1) text = drop_more text i 0 below ∙ ap (λ (b : ℕ). b ∷ drop (i + 1) text) (sym is) in
    sym so_far ∙ ap (bytes_before front) (ap (item_bytes escaped) rest ∙ wrong_own escaped byte (drop (i + 1) text) wrong)

pub bytes_end : (text front : List ℕ) (i : ℕ) (escaped : Bool) → length text ≤ i → bytes_before front (item_bytes escaped (drop i text)) ≡ item_bytes false text → item_bytes false text ≡ bytes_before front (if escaped then None else Some [])
bytes_end text front i escaped long so_far = sym so_far ∙ ap (λ (t : List ℕ). bytes_before front (item_bytes escaped t)) (nothing_left text i long)

-- one item more
behind : {kind : ItemKind} {text octets : List ℕ} {items : List (List ℕ)} → AreItems kind (text ∷ items) octets → (own : List ℕ) × (rest : List ℕ) × IsItem kind text own × AreItems kind items rest
behind (one_item {own = own} {octets = octets} is others) = (own, octets, is, others)

pub item_step : (kind : ItemKind) (all part others : List (List ℕ)) (text own front after : List ℕ) → part ≡ text ∷ others → IsItem kind text own → after ≡ front ++ own → ((rest : List ℕ) → AreItems kind part rest → AreItems kind all (front ++ rest))
    → (rest : List ℕ) → AreItems kind others rest → AreItems kind all (after ++ rest)
item_step kind all part others text own front after cut is grown so_far rest are =
    subst (AreItems kind all) (sym (ap (λ (t : List ℕ). t ++ rest) grown ∙ append_assoc front own rest)) (so_far (own ++ rest) (subst (λ (ts : List (List ℕ)). AreItems kind ts (own ++ rest)) (sym cut) (one_item is are)))

pub item_last : (kind : ItemKind) (all part : List (List ℕ)) (text own front after : List ℕ) → part ≡ text ∷ [] → IsItem kind text own → after ≡ front ++ own → ((rest : List ℕ) → AreItems kind part rest → AreItems kind all (front ++ rest)) → AreItems kind all after
item_last kind all part text own front after cut is grown so_far = subst (AreItems kind all) (append-nil after) (item_step kind all part [] text own front after cut is grown so_far [] no_items)

pub item_refused : (kind : ItemKind) (all part others : List (List ℕ)) (text : List ℕ) → part ≡ text ∷ others → (HasNone (AreItems kind part) → HasNone (AreItems kind all)) → HasNone (AreItems kind others) → HasNone (AreItems kind all)
item_refused kind all part others text cut so_far none = so_far (λ rest are. let b = behind (subst (λ (ts : List (List ℕ)). AreItems kind ts rest) cut are) in none b.1 b.3)

pub item_none : (kind : ItemKind) (all part others : List (List ℕ)) (text : List ℕ) → part ≡ text ∷ others → (HasNone (AreItems kind part) → HasNone (AreItems kind all)) → HasNone (IsItem kind text) → HasNone (AreItems kind all)
item_none kind all part others text cut so_far none = so_far (λ rest are. let b = behind (subst (λ (ts : List (List ℕ)). AreItems kind ts rest) cut are) in none b.0 b.2)

-- what ends an item is the end of the text, or a comma
pub some_item : (text : List ℕ) (place end : ℕ) → end ≤ length text → (end < length text → list_items false (drop place text) ≡ take (end - place) (drop place text) ∷ list_items false (drop (end + 1) text))
    → (end ≡ length text → list_items false (drop place text) ≡ take (end - place) (drop place text) ∷ []) → (others : List (List ℕ)) × (list_items false (drop place text) ≡ take (end - place) (drop place text) ∷ others)
some_item text place end within more last = elim (cases_lt end (length text)) [ inl below ↦ (list_items false (drop (end + 1) text), more below) | inr above ↦ ([], last (omega (arith, within, above))) ]

-- one key more
key_behind : {text keys : List ℕ} {items : List (List ℕ)} → AreKeys (text ∷ items) keys → (key : ℕ) × (rest : List ℕ) × SpellsKey text key × (0 < key) × AreKeys items rest
key_behind (one_key {keys = keys} {key = key} is some others) = (key, keys, is, some, others)

pub key_step : (all part others : List (List ℕ)) (text front after : List ℕ) (key : ℕ) → part ≡ text ∷ others → SpellsKey text key → 0 < key → after ≡ front ++ key ∷ [] → ((rest : List ℕ) → AreKeys part rest → AreKeys all (front ++ rest))
    → (rest : List ℕ) → AreKeys others rest → AreKeys all (after ++ rest)
key_step all part others text front after key cut is some grown so_far rest are =
    subst (AreKeys all) (sym (ap (λ (t : List ℕ). t ++ rest) grown ∙ append_assoc front (key ∷ []) rest)) (so_far (key ∷ rest) (subst (λ (ts : List (List ℕ)). AreKeys ts (key ∷ rest)) (sym cut) (one_key is some are)))

pub key_last : (all part : List (List ℕ)) (text front after : List ℕ) (key : ℕ) → part ≡ text ∷ [] → SpellsKey text key → 0 < key → after ≡ front ++ key ∷ [] → ((rest : List ℕ) → AreKeys part rest → AreKeys all (front ++ rest)) → AreKeys all after
key_last all part text front after key cut is some grown so_far = subst (AreKeys all) (append-nil after) (key_step all part [] text front after key cut is some grown so_far [] no_keys)

pub key_refused : (all part others : List (List ℕ)) (text : List ℕ) → part ≡ text ∷ others → (HasNone (AreKeys part) → HasNone (AreKeys all)) → HasNone (AreKeys others) → HasNone (AreKeys all)
key_refused all part others text cut so_far none = so_far (λ rest are. let b = key_behind (subst (λ (ts : List (List ℕ)). AreKeys ts rest) cut are) in none b.1 b.4)

pub key_none : (all part others : List (List ℕ)) (text : List ℕ) → part ≡ text ∷ others → (HasNone (AreKeys part) → HasNone (AreKeys all)) → ((key : ℕ) → SpellsKey text key → 0 < key → ⊥) → HasNone (AreKeys all)
key_none all part others text cut so_far none = so_far (λ rest are. let b = key_behind (subst (λ (ts : List (List ℕ)). AreKeys ts rest) cut are) in none b.0 b.2 b.3)
