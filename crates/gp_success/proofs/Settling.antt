-- The parts of a frame, where the port does one thing.
use Rattle.std.proofs.Common.{◌≡◌, ℕ, ◌+◌, ◌<◌, ◌==◌, true, false, List, [], ◌∷◌, ◌++◌, length, Option, Some, refl, sym, ap, subst, ◌∙◌, arith}
use Rattle.std.specs.Prelude.{slice_get}
use Rattle.std.proofs.lemmas.Bool.{eq-eqb, ne_eqb}
use Rattle.gp_ploam.specs.declared.message.Down.{Down}
use Rattle.gp_ranging.specs.declared.grant.Grant.{Grant}
use Rattle.gp_machine.specs.declared.entry.Entry.{Entry}
use Rattle.gp_machine.specs.declared.event.Event.TheVariants as event
use Rattle.gp_machine.specs.State.{PortState}
use Rattle.gp_fibre.specs.declared.flight.Flight.{Flight}
use Rattle.gp_fibre.specs.declared.sent_burst.SentBurst.{SentBurst}
use Rattle.gp_fibre.specs.declared.world_step.WorldStep.TheVariants as steps
use Rattle.gp_fibre.specs.World.{FibreUnit, FibreWorld}
use Rattle.gp_fibre.specs.Step.{FibreInput, Whole, PortTakes, world_after_frame}
use Rattle.gp_fibre.specs.Run.{FibreRun}
use Rattle.gp_fibre.specs.Schedule.{WorldState, arrivals, flights_of, flights_after}
use Rattle.gp_fibre.proofs.Keeping.{from_kept}
use Rattle.gp_success.proofs.AllUnits.{units_hearing, units_granted, answers_given}
use Rattle.gp_success.proofs.Ports.{Makes}
use Rattle.gp_success.proofs.Frames.{FrameParts, some_is}

-- the world once the units have heard and answered: the port, the units, the bursts that are to come
pub record Settled (old new : WorldState) (port : PortState) (units : List FibreUnit) (bursts : List SentBurst) (flights : List Flight) : Type 0 where
  pub more : List Entry
  pub answered : FibreWorld
  pub arrived : FibreWorld
  pub port_is : answered.port ≡ port
  pub free_is : answered.free ≡ old.fibre.free
  pub units_is : answered.units ≡ units
  pub bursts_is : answered.bursts ≡ bursts
  pub arrives : FibreRun answered (arrivals [] old.frames flights) more arrived
  pub ends : new.fibre ≡ world_after_frame arrived
  pub frames : new.frames ≡ old.frames + 1
  pub left : new.flights ≡ flights_after old.frames flights

pub settled : (old new : WorldState) (parts : FrameParts old new) (sent : Option Down) (grant : Option Grant) (port : PortState) (us : List FibreUnit)
    → old.fibre.units ≡ us
    → Makes parts.entry parts.sent.port parts.entry.purse_in sent grant port
    → Settled old new port (units_granted grant (units_hearing sent us)) (old.fibre.bursts ++ answers_given grant (units_hearing sent us))
    (old.flights ++ flights_of old.frames (length old.fibre.bursts) (answers_given grant (units_hearing sent us)))
settled old new parts sent grant port us units makes =
    let e = parts.entry in
    let free = parts.takes.free in
    let purse = makes.purse_is in
    let heard : units_hearing e.answer.sent old.fibre.units ≡ units_hearing sent us =
    ap (λ (o : Option Down). units_hearing o old.fibre.units) makes.sent_is ∙ ap (λ (xs : List FibreUnit). units_hearing sent xs) units in
    let given : answers_given e.answer.grant (units_hearing e.answer.sent old.fibre.units) ≡ answers_given grant (units_hearing sent us) =
    ap (λ (o : Option Grant). answers_given o (units_hearing e.answer.sent old.fibre.units)) makes.grant_is ∙ ap (λ (xs : List FibreUnit). answers_given grant xs) heard in
    let flights_are = ap (λ (bs : List SentBurst). old.flights ++ flights_of old.frames (length old.fibre.bursts) bs) given in
    record {
      more = parts.more;
      answered = parts.answered;
      arrived = parts.arrived;
      port_is = ap (λ (w : FibreWorld). w.port) parts.settles ∙ makes.state;
      free_is = ap (λ (w : FibreWorld). w.free) parts.settles ∙ (let same : parts.sent.free ≡ old.fibre.free = omega arith in same);
      units_is =
          ap (λ (w : FibreWorld). w.units) parts.settles
          ∙ ap (λ (o : Option Grant). units_granted o (units_hearing e.answer.sent old.fibre.units)) makes.grant_is
          ∙ ap (λ (xs : List FibreUnit). units_granted grant xs) heard;
      bursts_is = ap (λ (w : FibreWorld). w.bursts) parts.settles ∙ ap (λ (bs : List SentBurst). old.fibre.bursts ++ bs) given;
      arrives = subst (λ (fs : List Flight). FibreRun parts.answered (arrivals [] old.frames fs) parts.more parts.arrived) flights_are parts.arrives;
      ends = parts.ends;
      frames = parts.frames;
      left = parts.left ∙ ap (λ (fs : List Flight). flights_after old.frames fs) flights_are;
    }

-- ---- what arrives

-- nothing is to come
pub nothing_comes : (old new : WorldState) (port : PortState) (us : List FibreUnit) (bs : List SentBurst) (fs : List Flight) → fs ≡ [] → (x : Settled old new port us bs fs)
    → (x.arrived ≡ x.answered) × (new.flights ≡ [])
nothing_comes old new port us bs fs none x =
    let run = subst (λ (xs : List Flight). FibreRun x.answered (arrivals [] old.frames xs) x.more x.arrived) none x.arrives in
    (run.0, x.left ∙ ap (λ (xs : List Flight). flights_after old.frames xs) none)

abbrev pub one_flight : ℕ → ℕ → List Flight
one_flight number due = record { number = number; due = due } ∷ []

-- one burst is to come later
pub comes_later : (old new : WorldState) (port : PortState) (us : List FibreUnit) (bs : List SentBurst) (fs : List Flight) (number due : ℕ) → fs ≡ one_flight number due → old.frames < due
    → (x : Settled old new port us bs fs) → (x.arrived ≡ x.answered) × (new.flights ≡ one_flight number due)
comes_later old new port us bs fs number due one later x =
    let apart : (due == old.frames) ≡ false = ne_eqb due old.frames (λ e. omega arith) in
    let none : arrivals [] old.frames (one_flight number due) ≡ [] = rw apart refl in
    let run = subst (λ (xs : List Flight). FibreRun x.answered (arrivals [] old.frames xs) x.more x.arrived) one x.arrives in
    let silent = subst (λ (is : List FibreInput). FibreRun x.answered is x.more x.arrived) none run in
    let left : flights_after old.frames (one_flight number due) ≡ one_flight number due = rw apart refl in
    (silent.0, x.left ∙ ap (λ (xs : List Flight). flights_after old.frames xs) one ∙ left)

-- one burst comes now: the port takes it
pub record ComesNow (old new : WorldState) (answered arrived : FibreWorld) (b : SentBurst) : Type 0 where
  pub entry : Entry
  pub takes : PortTakes answered (event.Burst b.at b.bytes) entry arrived
  pub left : new.flights ≡ []

pub comes_now : (old new : WorldState) (port : PortState) (us : List FibreUnit) (bs : List SentBurst) (fs : List Flight) (number due : ℕ) (b : SentBurst) → fs ≡ one_flight number due → due ≡ old.frames
    → slice_get bs number ≡ Some b → (x : Settled old new port us bs fs) → ComesNow old new x.answered x.arrived b
comes_now old new port us bs fs number due b one now there x =
    let same : (due == old.frames) ≡ true = eq-eqb due old.frames now in
    let comes : arrivals [] old.frames (one_flight number due) ≡ Whole (steps.Arrive number) ∷ [] = rw same refl in
    let run = subst (λ (xs : List Flight). FibreRun x.answered (arrivals [] old.frames xs) x.more x.arrived) one x.arrives in
    let one_run = subst (λ (is : List FibreInput). FibreRun x.answered is x.more x.arrived) comes run in
    let step = one_run.3 in
    let kept = from_kept x.answered.forgotten.bursts x.answered.bursts number step.1 step.3 in
    let is : step.1 ≡ b = some_is step.1 b (sym kept.there ∙ ap (λ (xs : List SentBurst). slice_get xs number) x.bursts_is ∙ there) in
    let left : flights_after old.frames (one_flight number due) ≡ [] = rw same refl in
    record {
      entry = step.0;
      takes = subst (λ (w : FibreWorld). PortTakes x.answered (event.Burst b.at b.bytes) step.0 w) (sym one_run.4.0)
          (subst (λ (y : SentBurst). PortTakes x.answered (event.Burst y.at y.bytes) step.0 one_run.0) is step.4);
      left = x.left ∙ ap (λ (xs : List Flight). flights_after old.frames xs) one ∙ left;
    }
