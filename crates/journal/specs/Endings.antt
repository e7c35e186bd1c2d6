-- How a file ends behind its entries: by the gate that stands there, and by what stands behind that.
use Rattle.std.specs.Prelude.{ℕ, ◌-◌, cond, nat_eq, nat_lt, List, length, slice_index}
use Rattle.journal.specs.declared.endings.Ending.{Ending}
use Rattle.journal.specs.declared.endings.Ending.TheVariants.{Whole, Behind, Open, Missing}

-- behind a closed gate
abbrev pub behind_closed : ℕ → Ending
behind_closed behind = cond (nat_eq behind 0) Whole (Behind behind)

-- where a gate stands, with so many bytes behind it
abbrev pub behind_gate_at : ℕ → ℕ → Ending
behind_gate_at gate behind = cond (nat_eq gate 1) (Open behind) (behind_closed behind)

-- where the entries end at this place; the empty file has no gate, and is whole
abbrev pub ending_of : ℕ → List ℕ → Ending
ending_of end file = cond (nat_lt end (length file)) (behind_gate_at (slice_index file end) (length file - end - 1)) (cond (nat_eq end 0) Whole Missing)
