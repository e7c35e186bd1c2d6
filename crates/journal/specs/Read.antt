-- What is read of a file.
use Rattle.std.specs.Prelude.{◌≡◌, ℕ, List, ◌++◌, length, map, Vec}
use Rattle.std.specs.declared.alloc.Global.{Global}
use Rattle.journal.specs.Frames.{frames, AreSmall, IsEnd}

-- the bytes of each entry
abbrev pub contents : List (Vec ℕ Global) → List (List ℕ)
contents entries = map (λ (v : Vec ℕ Global). v.items) entries

-- The file is the frames of these entries up to this place, and no whole frame stands there.
pub record IsSplit (file : List ℕ) (entries : List (List ℕ)) (end : ℕ) : Type 0 where
  pub rest : List ℕ
  pub split : file ≡ frames entries ++ rest
  pub place : end ≡ length (frames entries)
  pub small : AreSmall entries
  pub ends : IsEnd rest
