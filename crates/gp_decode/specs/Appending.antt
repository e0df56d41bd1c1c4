-- What appending a text leaves, and appending some one after the other (this profile's own rule).
-- Inside: no public contract cites this.
use Rattle.std.specs.Prelude.{◌≡◌, ℕ, ◌+◌, ◌<◌, ◌≤◌, List, ◌++◌, length, Result, OnOk, OnErr, vec_len, vec_capacity}
use Rattle.std.specs.declared.alloc.Global.{Global}
use Rattle.std.specs.declared.alloc.AllocError.{AllocError}
use Rattle.std.specs.declared.vec.Vec.{Vec}

-- what stood before stands in front, and behind it the first part of the text
pub record HasPart (text before after : List ℕ) : Type 0 where
  pub part : List ℕ
  pub rest : List ℕ
  pub is_part : text ≡ part ++ rest
  pub after_is : after ≡ before ++ part

-- the text was appended; or there was no memory where there was no room for it, and then a part of it. Room is not lost
pub record Appends (text : List ℕ) (old new : Vec ℕ Global) (result : Result Unit AllocError) : Type 0 where
  pub whole : OnOk result (new.items ≡ old.items ++ text)
  pub part : OnErr result (HasPart text old.items new.items)
  pub room : OnErr result (vec_capacity old < vec_len old + length text)
  pub capacity : vec_capacity old ≤ vec_capacity new
