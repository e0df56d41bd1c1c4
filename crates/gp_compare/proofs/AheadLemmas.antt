-- A block that is read ahead.
use Rattle.std.specs.Prelude.{◌||◌}
use Rattle.std.proofs.Common.{◌≡◌, ◌≤◌, ◌<◌, ℕ, ◌+◌, ◌-◌, false, List, [], ◌++◌, Ok, min, sym, ap, subst, ◌∙◌, take, drop, length, length-drop, arith, append-nil}
use Rattle.std.proofs.lemmas.List.{drop-drop, drop-take, length-take}
use Rattle.std.specs.List.{slice_range}
use Rattle.std.proofs.KnownBytes.{Consumes-nil}
use Rattle.gp_stream.specs.Source.{SourceState, Reads}
use Rattle.gp_compare.specs.Ahead.{AheadState, Fills}

-- the first of a range are dropped
pub range_drop : (xs : List ℕ) (i n j : ℕ) → n ≤ length (slice_range xs i j) → slice_range xs (i + n) j ≡ drop n (slice_range xs i j)
range_drop xs i n j h =
    let bound : n ≤ min (j - i) (length (drop i xs)) = subst (λ (k : ℕ). n ≤ k) (length-take (j - i) (drop i xs)) h in
    let parts : n + (j - (i + n)) ≡ j - i = omega arith in
    ap (take (j - (i + n))) (sym (drop-drop n i xs)) ∙ sym (drop-take n (j - (i + n)) (drop i xs)) ∙ ap (λ (k : ℕ). drop n (take k (drop i xs))) parts

pub range_none : (xs : List ℕ) (i j : ℕ) → j ≤ i → slice_range xs i j ≡ []
range_none xs i j h = let none : j - i ≡ 0 = omega arith in ap (λ (k : ℕ). take k (drop i xs)) none

pub range_some : (xs : List ℕ) (i j : ℕ) → i < j → j ≤ length xs → slice_range xs i j ≡ [] → ⊥
range_some xs i j low high none =
    let long : length (slice_range xs i j) ≡ min (j - i) (length xs - i) = length-take (j - i) (drop i xs) ∙ ap (min (j - i)) (length-drop i xs) in
    let zero : length (slice_range xs i j) ≡ 0 = ap length none in
    absurd (omega arith)

-- nothing was read, since there is a rest
pub fills_none : {R T E : Type 0} (a : AheadState R) (x : T) → (a.rest ≡ [] → ⊥) → Fills {T = T} {E = E} a a (Ok x)
fills_none a x some = record {
  octets = [];
  reads = record { consumed = Consumes-nil a.source.remaining; rest = sym (append-nil a.rest) };
  over = λ none. absurd (some none);
}

-- a block was read, since there is none
pub fills_read : {R T E F : Type 0} (a : AheadState R) (new : SourceState R) (buffer : List ℕ) (count : ℕ) (x : T) → a.rest ≡ [] → a.source.failed ≡ false
    → Reads {E = F} a.source new buffer (Ok count) → 0 < length buffer → Fills {T = T} {E = E} a (record { source = new; rest = slice_range buffer 0 count }) (Ok x)
fills_read a new buffer count x none unfailed reads some =
    let zero : count - 0 ≡ count = omega arith in
    let whole : slice_range buffer 0 count ≡ take count buffer = ap (λ (n : ℕ). take n buffer) zero in
    record {
      octets = take count buffer;
      reads = record { consumed = reads.bytes.0; rest = whole ∙ sym (ap (λ l. l ++ take count buffer) none) };
      over = λ empty.
          let least : min count (length buffer) ≡ 0 = sym (length-take count buffer) ∙ ap length (sym whole ∙ empty) in
          let end : count ≡ 0 = omega arith in
          record { rest = empty; unfailed = reads.failed ∙ ap (λ b. b || false) unfailed; end = reads.bytes.1 end some };
    }

-- the same of what is seen of it
pub fills_seen : {R T E F : Type 0} (a b : AheadState R) (new : SourceState R) (block buffer : List ℕ) (count : ℕ) (x : T) → block ≡ buffer → b ≡ a → b.rest ≡ [] → b.source.failed ≡ false
    → Reads {E = F} b.source new buffer (Ok count) → 0 < length buffer → Fills {T = T} {E = E} a (record { source = new; rest = slice_range block 0 count }) (Ok x)
fills_seen {R = R} {T = T} {E = E} a b new block buffer count x is same none unfailed reads some =
    subst (λ (l : List ℕ). Fills {T = T} {E = E} a (record { source = new; rest = slice_range l 0 count }) (Ok x)) (sym is)
    (subst (λ (s : AheadState R). Fills {T = T} {E = E} s (record { source = new; rest = slice_range buffer 0 count }) (Ok x)) same
    (fills_read b new buffer count x none unfailed reads some))
