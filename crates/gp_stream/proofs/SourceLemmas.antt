-- What was read, where the reader tells its bytes.
use Rattle.std.proofs.Common.{◌≡◌, ◌<◌, ◌≤◌, ℕ, List, ◌++◌, length, Option, None, Some, sym, ◌∙◌, ap, subst, append-nil, length-append, arith}
use Rattle.std.specs.Io.KnownBytes.{Consumes, IsAtEnd}
use Rattle.gp_stream.specs.Source.{SourceState, ReadsWhole, ReadsTooMuch}

-- at the end of a known input, all of it was read
pub known_all : (input bytes : List ℕ) (new : Option (List ℕ)) → Consumes (Some input) new bytes → IsAtEnd new → bytes ≡ input
known_all input bytes None p q = absurd p
known_all input bytes (Some ys) p q = sym (p ∙ ap (λ l. bytes ++ l) q ∙ append-nil bytes)

-- no more was read than a known input has
pub known_prefix : (input bytes : List ℕ) (new : Option (List ℕ)) → Consumes (Some input) new bytes → length bytes ≤ length input
known_prefix input bytes None p = absurd p
known_prefix input bytes (Some ys) p = omega (arith, ap length p, length-append bytes ys)

-- the whole input is the known one
pub reads_known : {R : Type 0} (old new : SourceState R) (bytes input : List ℕ) → ReadsWhole old new bytes → old.remaining ≡ Some input → bytes ≡ input
reads_known old new bytes input p e =
    let consumed = subst (λ known. Consumes known new.remaining bytes) e p.consumed in
    known_all input bytes new.remaining consumed p.end

-- a known input of which too much came is too long
pub too_long_known : {R : Type 0} (limit : ℕ) (old new : SourceState R) (input : List ℕ) → ReadsTooMuch limit old new → old.remaining ≡ Some input → limit < length input
too_long_known limit old new input p e =
    let consumed = subst (λ known. Consumes known new.remaining p.bytes) e p.consumed in
    omega (arith, p.more, known_prefix input p.bytes new.remaining consumed)
