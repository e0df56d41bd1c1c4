-- The serial numbers that are admitted: a map from each to its port, and to whether it is disabled (this profile's
-- own rule).
use Rattle.std.specs.Prelude.{◌≡◌, ℕ, ◌==◌, ◌<◌, ◌≤◌, false, List, slice_index, count_by}
use Rattle.std.specs.FinMap.{FinMap, values}
use Rattle.gp_ploam.specs.Serials.{serial_cmp}
use Rattle.gp_serial.specs.declared.index.Admission.{Admission}

abbrev pub Admissions : Type 0
Admissions = FinMap serial_cmp Admission

-- admitted on this port, and not disabled
abbrev pub admission_on : ℕ → Admission
admission_on port = record { port = port; disabled = false }

-- how many serial numbers are admitted on this port
abbrev pub count_on : ℕ → Admissions → ℕ
count_on port admissions = count_by (λ a. a.port == port) (values admissions)

-- how many serial numbers are admitted on one port at most
abbrev pub max_on_a_port : ℕ
max_on_a_port = 512

-- these are the counts of all ports, none above the limit
pub record AreCounts (admissions : Admissions) (counts : List ℕ) : Type 0 where
  pub counted : (port : ℕ) → port < 256 → slice_index counts port ≡ count_on port admissions
  pub most : (port : ℕ) → port < 256 → slice_index counts port ≤ max_on_a_port
