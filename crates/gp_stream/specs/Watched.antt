-- The state of a watched writer (this profile's own rule).
-- Inside: no public contract cites this.
use Rattle.std.specs.Prelude.{ℕ, Bool, true, false, List, [], ◌∷◌, Result, Ok, Err, ◌==◌}
use Rattle.gp_stream.specs.declared.watched.Watched.{Watched}

-- the writer below
abbrev pub inner_of : {W : Type 0} → Watched W → W
inner_of watched = watched.inner

-- a write has failed or taken nothing, or a flush has failed
abbrev pub is_stopped : {W : Type 0} → Watched W → Bool
is_stopped watched = watched.stopped

-- nothing was written since the last flush
abbrev pub is_flushed : {W : Type 0} → Watched W → Bool
is_flushed watched = watched.flushed

-- there were bytes to write, and the write failed or took none of them
abbrev pub took_nothing : {E : Type 0} → List ℕ → Result ℕ E → Bool
took_nothing [] result = false
took_nothing (first ∷ rest) (Ok count) = count == 0
took_nothing (first ∷ rest) (Err error) = true
