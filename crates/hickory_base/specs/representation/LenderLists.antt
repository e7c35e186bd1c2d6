-- The items that a reply keeps while it is written.
use Rattle.std.specs.Prelude.{List, [], ◌∷◌}
use Rattle.std.specs.Mem.{FitsInMemory}
use Rattle.std.specs.Borrow.{RattleType}
use Rattle.hickory_base.specs.declared.responses.lenders.Lenders.{Lenders}
use Rattle.hickory_base.specs.declared.responses.lenders.Lenders.TheVariants.{Empty, One, Many}

-- the items, however they are kept
abbrev pub lender_list : {T : Type 0} → Lenders T → List T
lender_list Empty = []
lender_list (One item) = item ∷ []
lender_list (Many items) = items.items

-- The items can be lent as a slice: one that is kept by itself has a type of a size that a slice can have.
abbrev pub CanLend : {T : Type 0} → RattleType → Lenders T → Type 0
CanLend _ Empty = Unit {0}
CanLend row (One _) = FitsInMemory row
CanLend _ (Many _) = Unit {0}
