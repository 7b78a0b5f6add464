-- What a port with a log is seen as.
use Rattle.std.specs.Prelude.{ℕ, List}
use Rattle.std.specs.Borrow.{GName}

pub record Logged (P : Type 0) : Type 0 where
  pub port : P
  pub log : List ℕ
  pub room : ℕ
  pub buffer : GName
  pub refused : ℕ
