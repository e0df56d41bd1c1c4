-- How a set of names is kept (this profile's own rule): a bit for each name, and the span of the words that may have a
-- 1. No statement of another crate cites it.
-- Inside: no public contract cites this.
use Rattle.std.specs.Prelude.{ℕ, ◌+◌, ◌*◌, ◌^◌, ◌≡◌, ◌<◌, ◌≤◌, ◌⊎◌, List, length, slice_index}
use Rattle.std.specs.Ordering.{nat_cmp}
use Rattle.std.specs.FinSet.{FinSet}
use Rattle.gp_timers.specs.declared.name_set.Span.{Span}

-- names that are all less than `room`
pub record NamesIn : Type 0 where
  pub room : ℕ
  pub members : FinSet nat_cmp

-- each word outside the span is 0
pub record IsOutsideZero (words : List ℕ) (span : Span) : Type 0 where
  pub few : 64 * length words ≤ 2 ^ 16
  pub within : span.end ≤ length words
  pub before : (index : ℕ) → index < span.first → slice_index words index ≡ 0
  pub after : (index : ℕ) → span.end ≤ index → slice_index words index ≡ 0

-- and the first word inside is not
pub record IsSpan (words : List ℕ) (span : Span) : Type 0 where
  pub outside : IsOutsideZero words span
  pub some : span.first < span.end → 0 < slice_index words span.first

-- the span that has a word more, and begins at one of them
pub record IsWithWord (old : Span) (index : ℕ) (new : Span) : Type 0 where
  pub here : (new.first ≤ index) × (index < new.end)
  pub all : old.first < old.end → (new.first ≤ old.first) × (old.end ≤ new.end)
  pub first : (new.first ≡ index) ⊎ ((old.first < old.end) × (new.first ≡ old.first))
  pub end : (new.end ≡ index + 1) ⊎ (new.end ≡ old.end)
