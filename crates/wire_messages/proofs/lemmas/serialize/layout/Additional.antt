-- Records that are placed one after another make an additional section, and an additional section is what they make.
use Rattle.std.proofs.Common.{◌≡◌, ℕ, List, [], ◌∷◌, ◌++◌, length, map, Bool, true, false, not, cond, eqb, Option, Some, None, Result, Ok, Err, refl, sym, ap, subst, ◌∙◌, append_assoc, arith}
use Rattle.std.specs.Prelude.{filter, option_to_list}
use Rattle.std.proofs.lemmas.Bool.{ne_eqb}
use Rattle.std.proofs.lemmas.List.{append-nil}
use Rattle.wire_messages.specs.op.EdnsFields.{EdnsFields}
use Rattle.wire_messages.specs.serialize.layout.MessageLayout.{is_opt, is_tsig, SaysEdns, HasEdns, tsig_record, AdditionalSection, edns_of}
use Rattle.wire_messages.specs.serialize.reading.Reading.{◌>>=◌}
use Rattle.wire_messages.specs.rr.RecordData.{type_of}
use Rattle.wire_messages.specs.serialize.reading.SectionReading.{Additionals, with_data, placed, add_record, no_additionals}
use Rattle.wire_messages.specs.declared.op.edns.EdnsOption.{EdnsOption}
use Rattle.wire_names.specs.declared.error.DecodeError.{DecodeError}
use Rattle.wire_names.specs.declared.error.DecodeError.TheVariants.{DuplicateEdns, EdnsNameNotRoot}
use Rattle.wire_messages.specs.declared.rr.rdata.RData.{RData}
use Rattle.wire_messages.specs.declared.rr.rdata.RData.TheVariants as rdata
use Rattle.wire_messages.specs.declared.rr.record.Record.{Record}
use Rattle.wire_messages.specs.declared.rr.tsig.TSIG.{TSIG}
use Rattle.wire_messages.proofs.lemmas.serialize.reading.RecordSorts.{Sort, AreSorted}
use Rattle.wire_messages.proofs.lemmas.serialize.reading.RecordSorts.Sort.{an_opt, a_tsig, other}
use Rattle.wire_messages.proofs.lemmas.serialize.reading.StringSteps.{wrap, ok_is, bind_ok, guard_ok}

-- these records, placed one after another
abbrev pub placed_all : Additionals → List (Record RData) → Result Additionals DecodeError
placed_all x [] = Ok x
placed_all x (r ∷ rs) = add_record x r >>= λ y. placed_all y rs

-- what was read before, with no TSIG
abbrev state : List (Record RData) → Option EdnsFields → Additionals
state records edns = record { records = records; edns = edns; signature = None }

-- what the OPT records say, where this was said before
abbrev SaysMore : Option EdnsFields → List (Record RData) → Option EdnsFields → Type 0
SaysMore None opts edns = HasEdns opts edns
SaysMore (Some fields) [] edns = edns ≡ Some fields
SaysMore (Some fields) (r ∷ rs) edns = ⊥

-- the records that are still placed, and what they make
record Rest (records : List (Record RData)) (edns : Option EdnsFields) (all : List (Record RData)) (y : Additionals) : Type 0 where
  pub unsigned : List (Record RData)
  pub signature_last : all ≡ unsigned ++ map tsig_record (option_to_list y.signature)
  pub one_signature : filter is_tsig unsigned ≡ []
  pub others : y.records ≡ records ++ filter (λ r. not (is_opt r)) unsigned
  pub says : SaysMore edns (filter is_opt unsigned) y.edns

-- where no OPT is left, what was said is said
says_none : (edns : Option EdnsFields) → SaysMore edns [] edns
says_none None = refl
says_none (Some fields) = refl

-- no record is left
none_left : (records : List (Record RData)) (edns : Option EdnsFields) (y : Additionals) → wrap (state records edns) ≡ Ok y → Rest records edns [] y
none_left records edns y e =
    subst (Rest records edns []) (ok_is (state records edns) y e)
    (record { unsigned = []; signature_last = refl; one_signature = refl; others = sym (append-nil records); says = says_none edns })

-- a TSIG is the last
record Signed (records : List (Record RData)) (edns : Option EdnsFields) (signature : Record TSIG) (all : List (Record RData)) (y : Additionals) : Type 0 where
  pub none : all ≡ []
  pub same : y ≡ record { records = records; edns = edns; signature = Some signature }

-- behind a TSIG nothing is placed
signed_last : (records : List (Record RData)) (edns : Option EdnsFields) (signature : Record TSIG) (all : List (Record RData)) (y : Additionals)
    → placed_all (record { records = records; edns = edns; signature = Some signature }) all ≡ Ok y → Signed records edns signature all y
unfolding add_record
signed_last records edns signature [] y e = record { none = refl; same = sym (ok_is (record { records = records; edns = edns; signature = Some signature }) y e) }
signed_last records edns signature (r ∷ rs) y e = absurd cc

-- a record whose data are those of a TSIG is that of its data
tsig_same : (r : Record RData) (signature : TSIG) → r.rdata ≡ rdata.TSIG signature → r ≡ tsig_record (with_data r signature)
tsig_same r signature e = ap (λ (d : RData). record r { rdata = d }) e

-- labels of length 0 are none
no_labels : (labels : List (List ℕ)) → not (eqb (length labels) 0) ≡ false → labels ≡ []
no_labels [] e = refl
no_labels (l ∷ ls) e = let t : true ≡ false = ap not (sym (ne_eqb (length (l ∷ ls)) 0 (λ h. omega arith))) ∙ e in absurd cc

-- an OPT record that was placed is at the root, and none was before it
record Opened (records : List (Record RData)) (edns : Option EdnsFields) (r : Record RData) (options : List EdnsOption) (x : Additionals) : Type 0 where
  pub root : r.name.labels ≡ []
  pub first : edns ≡ None
  pub same : x ≡ state records (Some (edns_of r options))

-- a test between two faults is a fault
both_fail : {A : Type 0} (b : Bool) (d f : DecodeError) (x : A) → cond b (Err d) (Err f) ≡ wrap x → ⊥
both_fail true d f x e = cc
both_fail false d f x e = cc

opened : (records : List (Record RData)) (edns : Option EdnsFields) (r : Record RData) (options : List EdnsOption) (x : Additionals) → placed (state records edns) r (rdata.OPT options) ≡ Ok x → Opened records edns r options x
opened records None r options x e =
    let g = guard_ok (not (eqb (length r.name.labels) 0)) EdnsNameNotRoot (state records (Some (edns_of r options))) x e in
    record { root = no_labels r.name.labels g.0; first = refl; same = sym g.1 }
opened records (Some fields) r options x e = absurd (both_fail (not (eqb (length r.name.labels) 0)) EdnsNameNotRoot DuplicateEdns x e)

-- a record that is neither OPT nor TSIG, before the rest
other_first : (records : List (Record RData)) (edns : Option EdnsFields) (r : Record RData) (rs : List (Record RData)) (y : Additionals)
    → eqb (type_of r.rdata) 41 ≡ false → eqb (type_of r.rdata) 250 ≡ false → Rest (records ++ r ∷ []) edns rs y → Rest records edns (r ∷ rs) y
other_first records edns r rs y no_opt no_tsig rest = record {
  unsigned = r ∷ rest.unsigned;
  signature_last = ap (λ l. r ∷ l) rest.signature_last;
  one_signature = rw no_tsig rest.one_signature;
  others = rw no_opt (rest.others ∙ append_assoc records (r ∷ []) (filter (λ r. not (is_opt r)) rest.unsigned));
  says = rw no_opt rest.says;
}

-- no OPT is left behind one
none_more : (fields : EdnsFields) (opts : List (Record RData)) (edns : Option EdnsFields) → SaysMore (Some fields) opts edns → (opts ≡ []) × (edns ≡ Some fields)
none_more fields [] edns s = (refl, s)
none_more fields (r ∷ rs) edns s = absurd s

-- an OPT record before the rest
opt_first : (records : List (Record RData)) (r : Record RData) (rs : List (Record RData)) (options : List EdnsOption) (y : Additionals) → r.rdata ≡ rdata.OPT options → r.name.labels ≡ []
    → Rest records (Some (edns_of r options)) rs y → Rest records None (r ∷ rs) y
opt_first records r rs options y is root rest =
    let kind : type_of r.rdata ≡ 41 = ap type_of is in
    let none = none_more (edns_of r options) (filter is_opt rest.unsigned) y.edns rest.says in
    let fields : SaysEdns r (edns_of r options) = record { root = root; rdata = is; says = refl } in
    record {
      unsigned = r ∷ rest.unsigned;
      signature_last = ap (λ l. r ∷ l) rest.signature_last;
      one_signature = rw kind rest.one_signature;
      others = rw kind rest.others;
      says = rw (kind, none.0) (edns_of r options, fields, none.1);
    }

-- a TSIG, behind which nothing is
tsig_first : (records : List (Record RData)) (edns : Option EdnsFields) (r : Record RData) (rs : List (Record RData)) (signature : TSIG) (y : Additionals) → r.rdata ≡ rdata.TSIG signature
    → Signed records edns (with_data r signature) rs y → Rest records edns (r ∷ rs) y
tsig_first records edns r rs signature y is signed =
    rw (signed.none, signed.same) (record {
      unsigned = [];
      signature_last = ap (λ x. x ∷ []) (tsig_same r signature is);
      one_signature = refl;
      others = sym (append-nil records);
      says = says_none edns;
    })

-- a record that was placed, before the rest
rest_step : (r : Record RData) (rs records : List (Record RData)) (edns : Option EdnsFields) (x y : Additionals) → Sort r.rdata
    → ((records : List (Record RData)) (edns : Option EdnsFields) → placed_all (state records edns) rs ≡ Ok y → Rest records edns rs y)
    → placed (state records edns) r r.rdata ≡ Ok x → placed_all x rs ≡ Ok y → Rest records edns (r ∷ rs) y
rest_step r rs records edns x y (an_opt options is) more e f =
    let o = opened records edns r options x (ap (placed (state records edns) r) (sym is) ∙ e) in
    rw o.first (opt_first records r rs options y is o.root (more records (Some (edns_of r options)) (ap (λ z. placed_all z rs) (sym o.same) ∙ f)))
rest_step r rs records edns x y (a_tsig signature is) more e f =
    let z : Additionals = record { records = records; edns = edns; signature = Some (with_data r signature) } in
    let same : z ≡ x = ok_is z x (ap (placed (state records edns) r) (sym is) ∙ e) in
    tsig_first records edns r rs signature y is (signed_last records edns (with_data r signature) rs y (ap (λ z. placed_all z rs) same ∙ f))
rest_step r rs records edns x y (other no_opt no_tsig place) more e f =
    let z : Additionals = state (records ++ r ∷ []) edns in
    let same : z ≡ x = ok_is z x (sym (place (state records edns) r) ∙ e) in
    other_first records edns r rs y no_opt no_tsig (more (records ++ r ∷ []) edns (ap (λ z. placed_all z rs) same ∙ f))

-- what was placed is a section
rest_found : (all records : List (Record RData)) (edns : Option EdnsFields) (y : Additionals) → AreSorted all → placed_all (state records edns) all ≡ Ok y → Rest records edns all y
unfolding add_record
rest_found [] records edns y sorts e = none_left records edns y e
rest_found (r ∷ rs) records edns y sorts e =
    let b = bind_ok (placed (state records edns) r r.rdata) (λ z. placed_all z rs) y e in
    rest_step r rs records edns b.0 y sorts.0 (λ more said h. rest_found rs more said y sorts.1 h) b.1 b.2

-- records that were placed from nothing make an additional section
pub section_found : (all : List (Record RData)) (y : Additionals) → AreSorted all → placed_all no_additionals all ≡ Ok y → AdditionalSection all y.records y.edns y.signature
section_found all y sorts e =
    let r = rest_found all [] None y sorts e in
    record { unsigned = r.unsigned; opts = filter is_opt r.unsigned; signature_last = r.signature_last; one_signature = r.one_signature; opt_records = refl; others = r.others; one_opt = r.says }

-- a record that is placed, and those behind it
pub then_placed : (x z y : Additionals) (r : Record RData) (rs : List (Record RData)) → add_record x r ≡ Ok z → placed_all z rs ≡ Ok y → placed_all x (r ∷ rs) ≡ Ok y
then_placed x z y r rs e f = rw e f

-- the last record
only_signature : (records : List (Record RData)) (edns : Option EdnsFields) (signature : Option (Record TSIG))
    → placed_all (state records edns) (map tsig_record (option_to_list signature)) ≡ Ok (record { records = records; edns = edns; signature = signature })
unfolding add_record
only_signature records edns None = refl
only_signature records edns (Some s) = refl

-- where no OPT is left, what is said was said before
says_same : (edns said : Option EdnsFields) → SaysMore edns [] said → said ≡ edns
says_same None said s = s
says_same (Some fields) said s = s

-- what the rest makes of a state
Makes : List (Record RData) → Option EdnsFields → List (Record RData) → Option EdnsFields → Option (Record TSIG) → Type 0
Makes unsigned edns records said signature =
    placed_all (state records edns) (unsigned ++ map tsig_record (option_to_list signature)) ≡ Ok (record { records = records ++ filter (λ r. not (is_opt r)) unsigned; edns = said; signature = signature })

-- an OPT at the root is placed where none was before
opt_placed : (records : List (Record RData)) (r : Record RData) (options : List EdnsOption) → r.rdata ≡ rdata.OPT options → r.name.labels ≡ [] → add_record (state records None) r ≡ Ok (state records (Some (edns_of r options)))
unfolding add_record
opt_placed records r options is root = rw (is, root) refl

-- a record that is neither OPT nor TSIG goes behind the records
other_placed : (records : List (Record RData)) (edns : Option EdnsFields) (r : Record RData) → ((x : Additionals) (r' : Record RData) → placed x r' r.rdata ≡ Ok (record x { records = x.records ++ r' ∷ [] })) → add_record (state records edns) r ≡ Ok (state (records ++ r ∷ []) edns)
unfolding add_record
other_placed records edns r place = place (state records edns) r

-- an OPT before others: none was before it, no other is behind it, and it says what is said
first_says : (edns said : Option EdnsFields) (r : Record RData) (options : List EdnsOption) (more : List (Record RData)) → r.rdata ≡ rdata.OPT options → SaysMore edns (r ∷ more) said
    → (edns ≡ None) × (r.name.labels ≡ []) × SaysMore (Some (edns_of r options)) more said
first_says None said r options [] is (fields, says, e) =
    let same : fields.options ≡ options = let h : rdata.OPT fields.options ≡ rdata.OPT options = sym says.rdata ∙ is in cc in
    (refl, says.root, e ∙ ap Some (says.says ∙ ap (edns_of r) same))
first_says None said r options (q ∷ more) is s = absurd s
first_says (Some fields) said r options more is s = absurd s

-- a record of a section is placed, before the rest
back_step : (r : Record RData) (rs : List (Record RData)) → Sort r.rdata → (records : List (Record RData)) (edns said : Option EdnsFields) (signature : Option (Record TSIG))
    → filter is_tsig (r ∷ rs) ≡ [] → SaysMore edns (filter is_opt (r ∷ rs)) said
    → ((records : List (Record RData)) (edns : Option EdnsFields) → filter is_tsig rs ≡ [] → SaysMore edns (filter is_opt rs) said → Makes rs edns records said signature)
    → Makes (r ∷ rs) edns records said signature
unfolding Makes
back_step r rs (an_opt options is) records edns said signature none says more =
    let kind : type_of r.rdata ≡ 41 = ap type_of is in
    let none_behind : filter is_tsig rs ≡ [] = rw kind at none in
    let first = first_says edns said r options (filter is_opt rs) is (rw kind at says) in
    rw (first.0, kind) (then_placed (state records None) (state records (Some (edns_of r options))) (record { records = records ++ filter (λ r. not (is_opt r)) rs; edns = said; signature = signature })
    r (rs ++ map tsig_record (option_to_list signature)) (opt_placed records r options is first.1) (more records (Some (edns_of r options)) none_behind first.2))
back_step r rs (a_tsig t is) records edns said signature none says more =
    let kind : type_of r.rdata ≡ 250 = ap type_of is in
    let some : r ∷ filter is_tsig rs ≡ [] = rw kind at none in
    absurd cc
back_step r rs (other no_opt no_tsig place) records edns said signature none says more =
    let none_behind : filter is_tsig rs ≡ [] = rw no_tsig at none in
    let says_behind : SaysMore edns (filter is_opt rs) said = rw no_opt at says in
    let done = more (records ++ r ∷ []) edns none_behind says_behind in
    rw no_opt (then_placed (state records edns) (state (records ++ r ∷ []) edns) (record { records = records ++ r ∷ filter (λ r. not (is_opt r)) rs; edns = said; signature = signature })
    r (rs ++ map tsig_record (option_to_list signature)) (other_placed records edns r place)
    (done ∙ ap (λ l. Ok (record { records = l; edns = said; signature = signature })) (append_assoc records (r ∷ []) (filter (λ r. not (is_opt r)) rs))))

-- the records of a section are placed one after another
placed_back : (unsigned : List (Record RData)) → AreSorted unsigned → (records : List (Record RData)) (edns said : Option EdnsFields) (signature : Option (Record TSIG))
    → filter is_tsig unsigned ≡ [] → SaysMore edns (filter is_opt unsigned) said → Makes unsigned edns records said signature
unfolding Makes
placed_back [] sorts records edns said signature none says = rw (append-nil records, says_same edns said says) (only_signature records edns signature)
placed_back (r ∷ rs) sorts records edns said signature none says =
    back_step r rs sorts.0 records edns said signature none says (λ before told h s. placed_back rs sorts.1 before told said signature h s)

-- the sorts of the first records of a list
front_sorted : (front back : List (Record RData)) → AreSorted (front ++ back) → AreSorted front
front_sorted [] back s = tt
front_sorted (r ∷ rs) back s = (s.0, front_sorted rs back s.1)

-- a section is what its records make
pub section_placed : (all : List (Record RData)) (y : Additionals) → AreSorted all → AdditionalSection all y.records y.edns y.signature → placed_all no_additionals all ≡ Ok y
unfolding Makes
section_placed all y sorts s =
    let sorted : AreSorted s.unsigned = front_sorted s.unsigned (map tsig_record (option_to_list y.signature)) (subst AreSorted s.signature_last sorts) in
    let says : HasEdns (filter is_opt s.unsigned) y.edns = subst (λ opts. HasEdns opts y.edns) (sym s.opt_records) s.one_opt in
    ap (placed_all no_additionals) s.signature_last ∙ placed_back s.unsigned sorted [] None y.edns y.signature s.one_signature says
    ∙ ap (λ l. Ok (record { records = l; edns = y.edns; signature = y.signature })) (sym s.others)
