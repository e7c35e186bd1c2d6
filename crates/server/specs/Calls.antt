-- What C gives with a message or with bytes of a stream, and what it is told.
use Rattle.std.specs.Prelude.{ℕ, Bool, List, take}

-- a message as C gives it: its bytes, those of its address, the port, whether it came over a stream, and the moment in
-- seconds since 1970
pub record GivenMessage : Type 0 where
  pub bytes : List ℕ
  pub address : List ℕ
  pub port : ℕ
  pub stream : Bool
  pub now : ℕ

-- bytes of a stream as C gives them
pub record GivenStream : Type 0 where
  pub bytes : List ℕ
  pub address : List ℕ
  pub port : ℕ
  pub now : ℕ

-- what is told of a message: a number, how many bytes of replies were written, and the bytes that they were written to
pub record ToldOfMessage : Type 0 where
  pub number : ℕ
  pub written : ℕ
  pub out : List ℕ

-- what is told of a stream's bytes, and how many of them were taken
pub record ToldOfStream : Type 0 where
  pub number : ℕ
  pub taken : ℕ
  pub written : ℕ
  pub out : List ℕ

-- what was written of replies
abbrev pub replies_in : ToldOfMessage → List ℕ
replies_in told = take told.written told.out
