-- Numbers in quarantine (this profile's own rule: a freed ONU-ID is given to no unit for some frames).
use Rattle.std.specs.Prelude.{ℕ, zero, suc, ◌+◌, ◌-◌, ◌%◌, ◌<◌, ◌≤◌, nat_le, if◌then◌else◌, IsTrue, List, [], ◌∷◌, slice_index, refl}
use Rattle.std.specs.Coded.{Coded, code_by, coded×, coded_ℕ}
use Rattle.std.specs.Ordering.{nat_cmp}
use Rattle.std.specs.FinMap as map
use Rattle.std.specs.FinSet as set
use Rattle.gp_ploam.specs.OnuIds.{last_onu}
use Rattle.gp_pools.specs.Limits.{max_quarantine}

-- from each cooling number to the frames that it has left
abbrev pub FramesLeft : Type 0
FramesLeft = map.FinMap nat_cmp ℕ

-- for how many frames a number cools, and which do
pub record Quarantine : Type 0 where
  pub frames : ℕ
  pub cooling : FramesLeft

-- a quarantine is stored as its two parts
abbrev pub quarantine_code : Coded Quarantine
quarantine_code =
    code_by (ℕ × FramesLeft) (coded× coded_ℕ (map.code coded_ℕ coded_ℕ)) (λ q. (q.frames, q.cooling))
    (λ p. record { frames = p.0; cooling = p.1 }) (λ _. refl)

-- the entries with a frame less each, without those whose last it was
abbrev pub entries_after_frame : List (ℕ × ℕ) → List (ℕ × ℕ)
entries_after_frame [] = []
entries_after_frame (e ∷ es) = if nat_le e.1 1 then entries_after_frame es else (e.0, e.1 - 1) ∷ entries_after_frame es

-- each number has a frame less, and leaves at 0
unfoldable pub cooling_after_frame : FramesLeft → FramesLeft
cooling_after_frame cooling = map.from_entries (entries_after_frame (map.entries cooling))

-- nothing cools
abbrev pub fresh_quarantine : ℕ → Quarantine
fresh_quarantine frames = record { frames = frames; cooling = map.empty }

-- a number begins to cool, unless there is no quarantine
abbrev pub quarantine_with : Quarantine → ℕ → Quarantine
quarantine_with q number =
    record q { cooling = if nat_le q.frames 0 then q.cooling else map.insert q.cooling number q.frames }

-- a frame goes by
abbrev pub quarantine_after_frame : Quarantine → Quarantine
quarantine_after_frame q = record q { cooling = cooling_after_frame q.cooling }

-- ---- how it is kept; no public clause cites what follows

-- the frames that a number has left, where its frame of leaving and the present one are counted without their carry
abbrev pub left_at : List ℕ → ℕ → ℕ → ℕ
left_at leaves now number = (slice_index leaves number + 65536 - now) % 65536

-- from each member below `count` to the frames that it has left
unfoldable pub cooling_in : ℕ → set.FinSet nat_cmp → List ℕ → ℕ → FramesLeft
cooling_in zero members leaves now = map.empty
cooling_in (suc n) members leaves now =
    if set.contains members n then map.insert (cooling_in n members leaves now) n (left_at leaves now n)
    else cooling_in n members leaves now

-- what each quarantine keeps: members are ONU-IDs with 1 to `frames` frames left, and none leaves before `wait` more
-- frames
pub record IsCool (frames : ℕ) (members : set.FinSet nat_cmp) (leaves : List ℕ) (now wait : ℕ) : Type 0 where
  pub short : frames ≤ max_quarantine
  pub low : (number : ℕ) → IsTrue (set.contains members number) → number ≤ last_onu
  pub some : (number : ℕ) → IsTrue (set.contains members number) → 1 ≤ left_at leaves now number
  pub most : (number : ℕ) → IsTrue (set.contains members number) → left_at leaves now number ≤ frames
  pub later : (number : ℕ) → IsTrue (set.contains members number) → wait ≤ left_at leaves now number
  pub awaited : (number : ℕ) → IsTrue (set.contains members number) → 1 ≤ wait
  pub soon : wait ≤ frames
  pub fits : (place : ℕ) → slice_index leaves place < 65536
