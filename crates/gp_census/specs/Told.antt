-- What is told of a unit besides its counts, by what is known at the end (this profile's own rule).
use Rattle.std.specs.Prelude.{ℕ, zero, suc, ◌==◌, Bool, true, false, if◌then◌else◌, List, [], ◌∷◌, ◌++◌, Option, None, Some}
use Rattle.std.specs.FinMap.{get}
use Rattle.std.specs.FinSet.{contains}
use Rattle.gp_ploam.specs.declared.message.Serial.{Serial}
use Rattle.gp_observer.specs.Observer.{some_passes}
use Rattle.gp_observer.specs.Watch.{Watch}
use Rattle.gp_watch.specs.Changes.{onu_held}
use Rattle.gp_census.specs.declared.sighting.Sighting.{Sighting}
use Rattle.gp_census.specs.declared.told.UnitState.{UnitState}
use Rattle.gp_census.specs.declared.told.UnitState.TheVariants.{Disabled, Operating, Assigned, Asking, Gone}

-- the equalization delay that was told with an ONU-ID
abbrev pub delay_with : Watch → Option ℕ → Option ℕ
delay_with watch None = None
delay_with watch (Some onu) = get watch.seen.delay onu

-- how many Alloc-IDs there are
abbrev pub alloc_ids : ℕ
alloc_ids = 4096

-- the further Alloc-IDs below this one that belong to an ONU-ID, in their order
unfoldable pub allocs_below : ℕ → Watch → ℕ → List ℕ
allocs_below zero watch onu = []
allocs_below (suc alloc) watch onu =
    allocs_below alloc watch onu
    ++ (if some_passes (λ owner. owner == onu) (get watch.seen.alloc alloc) then alloc ∷ [] else [])

-- those that belong to an ONU-ID, where there is one
abbrev pub allocs_with : Watch → Option ℕ → List ℕ
allocs_with watch None = []
allocs_with watch (Some onu) = allocs_below alloc_ids watch onu

-- what a unit does, by whether it is disabled, its ONU-ID, its delay, and when it first asked
abbrev pub state_by : Bool → Option ℕ → Option ℕ → Option ℕ → UnitState
state_by true onu delay asked = Disabled
state_by false (Some onu) (Some delay) asked = Operating
state_by false (Some onu) None asked = Assigned
state_by false None delay (Some asked) = Asking
state_by false None delay None = Gone

abbrev pub state_of : Watch → Serial → Sighting → UnitState
state_of watch serial unit =
    state_by (contains watch.seen.disabled serial) (onu_held watch serial)
    (delay_with watch (onu_held watch serial)) unit.first_asked
