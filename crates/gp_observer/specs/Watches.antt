-- An observer that keeps what `Watch` says knows the unit table, once it has heard what is owed too (this profile's own
-- rule).
use Rattle.std.specs.Prelude.{◌≡◌, ◌↔◌, ℕ, nat_lt, true, false, List, [], ◌∷◌, ◌++◌, Some}
use Rattle.std.specs.FinMap.{get, len}
use Rattle.std.specs.FinSet.{FinSet, contains}
use Rattle.gp_ploam.specs.declared.message.Serial.{Serial}
use Rattle.gp_ploam.specs.declared.message.Down.{Down}
use Rattle.gp_ploam.specs.Mask.{mask_value}
use Rattle.gp_ploam.specs.Serials.{serial_cmp}
use Rattle.gp_machine.specs.declared.config.PortConfig.{PortConfig}
use Rattle.gp_machine.specs.declared.entry.Entry.{Entry}
use Rattle.gp_machine.specs.State.{PortState, Rows, opening_of}
use Rattle.gp_machine.specs.Run.{Run, IsReached}
use Rattle.gp_observer.specs.Watch.{Watch, watch_begun, most_followed}
use Rattle.gp_observer.specs.Rules.{is_judged}
use Rattle.gp_observer.specs.Heard.{Heard, HeardDown, watch_after_all}
use Rattle.gp_observer.specs.Knows.{IsKnown, SomeUnit, HoldsOnu, HoldsAlloc, HasDelay}
use Rattle.gp_observer.specs.Fibre.{RunSays}

-- of each ONU-ID of which it is known who holds it, what is known is what is true of the units, no less and no more
pub record KnowsJudged (rows : Rows) (disabled : FinSet serial_cmp) (watch : Watch) : Type 0 where
  pub holder : (onu : ℕ) (serial : Serial) → is_judged watch onu ≡ true
      → (get watch.seen.holder onu ≡ Some serial) ↔ SomeUnit rows (HoldsOnu onu serial)
  pub alloc : (alloc onu : ℕ) → is_judged watch onu ≡ true
      → (get watch.seen.alloc alloc ≡ Some onu) ↔ SomeUnit rows (HoldsAlloc alloc onu)
  pub delay : (onu eqd : ℕ) → is_judged watch onu ≡ true
      → (get watch.seen.delay onu ≡ Some eqd) ↔ SomeUnit rows (HasDelay onu eqd)
  pub disabled_are : (serial : Serial) → contains watch.seen.disabled serial ≡ true → contains disabled serial ≡ true

-- and it is known of each ONU-ID who holds it, where all serial numbers that were heard are followed
abbrev pub KnowsUnits : Rows → FinSet serial_cmp → Watch → Type 0
KnowsUnits rows disabled watch =
    KnowsJudged rows disabled watch
    × (nat_lt (len watch.asks) most_followed ≡ true
    → IsKnown rows disabled watch.seen × ((onu : ℕ) → is_judged watch onu ≡ true))

-- the copies are heard, one after another
abbrev pub copies_said : List Down → List Heard
copies_said [] = []
copies_said (copy ∷ copies) = HeardDown (Some copy) ∷ copies_said copies

-- in every run from an opening, what is said, with the copies that are still owed behind it, tells the units
abbrev pub WatchersKnowUnits : Type 0
WatchersKnowUnits =
    (config : PortConfig) (last : PortState) (entries : List Entry) (said : List Heard)
    → Run (opening_of config) entries last
    → RunSays (mask_value config.mask) entries said
    → KnowsUnits last.rows last.disabled (watch_after_all (watch_begun false) (said ++ copies_said last.owed))

-- one who begins in the middle, wherever that is, knows all units of which it judges
abbrev pub WatchersKnowUnitsMidway : Type 0
WatchersKnowUnitsMidway =
    (config : PortConfig) (begun last : PortState) (entries : List Entry) (said : List Heard)
    → IsReached config begun
    → Run begun entries last
    → RunSays (mask_value config.mask) entries said
    → KnowsJudged last.rows last.disabled (watch_after_all (watch_begun true) (said ++ copies_said last.owed))
