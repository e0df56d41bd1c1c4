-- What lasts whatever the actors of a chassis do.
use Rattle.std.proofs.Common.{◌≡◌, ◌≢◌, ◌<◌, ◌≤◌, ◌+◌, ◌-◌, ◌==◌, ◌&&◌, ℕ, Bool, true, false, List, [], ◌∷◌, length, map, get_or, set, refl, sym, ap, subst, ◌∙◌, arith, inl, inr, length-set}
use Rattle.std.specs.Prelude.{Option, Some, All, slice_get, slice_set, sum_by, if◌then◌else◌, nat_lt, option_map}
use Rattle.std.proofs.lemmas.List.{length-map, get_or-set_same, get_or-set_other}
use Rattle.std.proofs.lemmas.List.Sums.{sum_by-cons, sum_by-set}
use Rattle.std.proofs.lemmas.List.Folds.{sum_by-replicate}
use Rattle.std.proofs.lemmas.List.Elements.{All-set, All-map}
use Rattle.std.proofs.lemmas.Option.{slice_get-map, slice_get-get_or, slice_get_within, slice_get_past, get_or_from_slice_get}
use Rattle.std.proofs.lemmas.Bool.{cases_lt}
use Rattle.std.proofs.lemmas.Bool.Decides.{nat_tests, eqb_tells}
use Rattle.std.specs.FinMap.{len-empty}
use Rattle.gp_ploam.specs.Serials.{serial_cmp}
use Rattle.gp_unit.specs.declared.row.Row.{Row}
use Rattle.gp_machine.specs.Config.{is_within_limits}
use Rattle.gp_machine.specs.declared.config.PortConfig.{PortConfig}
use Rattle.gp_machine.specs.declared.entry.Entry.{Entry}
use Rattle.gp_machine.specs.State.{PortState, opening_of, rows_of}
use Rattle.gp_machine.specs.Sound.{IsSound}
use Rattle.gp_machine.specs.Run.{IsStep, Run, IsReached, entry_outcome}
use Rattle.gp_machine.proofs.Steps.{sound_step, step_keeps}
use Rattle.gp_machine.proofs.SoundFrames.{sound_opening}
use Rattle.gp_laws.proofs.WholeRuns.{runs_in_parts}
use Rattle.gp_laws.proofs.HeldNumbers.{no_shared_onu, no_shared_alloc, disabled_no_onu, disabled_no_alloc}
use Rattle.gp_chassis.specs.World.{ChassisWorld, Move, Take, Port, Give, hand, taken, given, PortMoves, ChassisStep, ChassisRun, IsBalanced, BalanceLasts, SoundnessLasts, entry_of, entries_of, PortsReplay, HoldsApart, EveryRunHolds, world_opened}

-- ---- licences

taken_keeps : (licences a : ℕ) (w : ChassisWorld) → a < length w.hands → IsBalanced licences w → IsBalanced licences (taken a w)
taken_keeps licences a w l h =
    elim (cases_lt 0 w.free) [
      | inl some ↦ elim (eqb_tells (hand w a) 0) [
        | inl e ↦
            let b : ((hand w a == 0) && nat_lt 0 w.free) ≡ true = grind (arith, nat_tests) in
            let hands = sum_by-set (λ (n : ℕ). n) w.hands a 1 0 l in
            let none = e.1 in
            subst (λ (t : Bool). IsBalanced licences (if t then record w { free = w.free - 1; hands = slice_set w.hands a 1 } else w)) (sym b) (omega (arith, hands, none, h, some))
        | inr e ↦
            let b : ((hand w a == 0) && nat_lt 0 w.free) ≡ false = grind (arith, nat_tests) in
            subst (λ (t : Bool). IsBalanced licences (if t then record w { free = w.free - 1; hands = slice_set w.hands a 1 } else w)) (sym b) h
      ]
      | inr none ↦
          let b : ((hand w a == 0) && nat_lt 0 w.free) ≡ false = grind (arith, nat_tests) in
          subst (λ (t : Bool). IsBalanced licences (if t then record w { free = w.free - 1; hands = slice_set w.hands a 1 } else w)) (sym b) h
    ]

given_keeps : (licences a : ℕ) (w : ChassisWorld) → a < length w.hands → IsBalanced licences w → IsBalanced licences (given a w)
given_keeps licences a w l h =
    let hands = sum_by-set (λ (n : ℕ). n) w.hands a 0 0 l in
    omega (arith, hands, h)

at_port : (w : ChassisWorld) (port : ℕ) (p : PortState) → All IsSound w.ports → slice_get w.ports port ≡ Some p → IsSound p
at_port w port p sound is =
    let within : port < length w.ports = slice_get_within w.ports port p is in
    subst IsSound (get_or_from_slice_get w.ports port p p is) (sound port p within)

port_keeps : (licences a port : ℕ) (e : Entry) (w v : ChassisWorld) → a < length w.hands → All IsSound w.ports → PortMoves a port e w v → IsBalanced licences w → IsBalanced licences v
port_keeps licences a port e w v l sound m h =
    let within : port < length w.ports = slice_get_within w.ports port m.stood m.is in
    let hands = sum_by-set (λ (n : ℕ). n) w.hands a e.purse_out 0 l in
    let rows = sum_by-set rows_of w.ports port m.next m.stood within in
    let was : rows_of (get_or w.ports port m.stood) ≡ rows_of m.stood = ap rows_of (get_or_from_slice_get w.ports port m.stood m.stood m.is) in
    let same : e.purse_out + rows_of m.next ≡ e.purse_in + rows_of m.stood = step_keeps e.purse_in m.stood e.event (entry_outcome e m.next) (at_port w port m.stood sound m.is) m.step in
    let purse = m.purse in
    subst (λ (x : ChassisWorld). IsBalanced licences x) (sym m.world_is) (omega (arith, hands, rows, was, same, purse, h))

pub move_keeps : (licences : ℕ) (m : Move) (w v : ChassisWorld) → All IsSound w.ports → ChassisStep m w v → IsBalanced licences w → IsBalanced licences v
move_keeps licences (Take a) w v sound s h = subst (λ (x : ChassisWorld). IsBalanced licences x) (sym s.1) (taken_keeps licences a w s.0 h)
move_keeps licences (Give a) w v sound s h = subst (λ (x : ChassisWorld). IsBalanced licences x) (sym s.1) (given_keeps licences a w s.0 h)
move_keeps licences (Port a port e) w v sound s h = port_keeps licences a port e w v s.0 sound s.1 h

-- ---- sound ports

-- taking changes no port
pub taken_ports : (a : ℕ) (w : ChassisWorld) → (taken a w).ports ≡ w.ports
taken_ports a w =
    elim ((hand w a == 0) && nat_lt 0 w.free) as (λ (t : Bool). (if t then record w { free = w.free - 1; hands = slice_set w.hands a 1 } else w).ports ≡ w.ports) [ true ↦ refl | false ↦ refl ]

same_ports : (w v : ChassisWorld) → v.ports ≡ w.ports → All IsSound w.ports → All IsSound v.ports
same_ports w v same sound = subst (λ (ps : List PortState). All IsSound ps) (sym same) sound

pub move_sound : (m : Move) (w v : ChassisWorld) → All IsSound w.ports → ChassisStep m w v → All IsSound v.ports
move_sound (Take a) w v sound s = same_ports w v (ap (λ (x : ChassisWorld). x.ports) s.1 ∙ taken_ports a w) sound
move_sound (Give a) w v sound s = same_ports w v (ap (λ (x : ChassisWorld). x.ports) s.1) sound
move_sound (Port a port e) w v sound s =
    let m = s.1 in
    let next : IsSound m.next = sound_step e.purse_in m.stood e.event (entry_outcome e m.next) (at_port w port m.stood sound m.is) m.step in
    subst (λ (x : ChassisWorld). All IsSound x.ports) (sym m.world_is) (All-set IsSound w.ports port m.next next sound)

pub soundness_lasts : SoundnessLasts
soundness_lasts [] w v sound run = same_ports w v (ap (λ (x : ChassisWorld). x.ports) run) sound
soundness_lasts (m ∷ ms) w v sound run = soundness_lasts ms run.0 v (move_sound m w run.0 sound run.1) run.2

pub balance_lasts : BalanceLasts
balance_lasts licences [] w v sound h run = subst (λ (x : ChassisWorld). IsBalanced licences x) (sym run) h
balance_lasts licences (m ∷ ms) w v sound h run =
    balance_lasts licences ms run.0 v (move_sound m w run.0 sound run.1) (move_keeps licences m w run.0 sound run.1 h) run.2

-- ---- runs of ports

pub set_same : {X : Type 0} (xs : List X) (i : ℕ) (x : X) → i < length xs → slice_get (set xs i x) i ≡ Some x
set_same {X} xs i x l =
    let within : i < length (set xs i x) = rw length-set l in
    slice_get-get_or (set xs i x) i x within ∙ ap (λ (y : X). Some y) (get_or-set_same xs i x x l)

set_other : {X : Type 0} (xs : List X) (i j : ℕ) (x : X) → j ≢ i → slice_get (set xs i x) j ≡ slice_get xs j
set_other {X} xs i j x ne =
    elim (cases_lt j (length xs)) [
      | inl l ↦
          let within : j < length (set xs i x) = rw length-set l in
          slice_get-get_or (set xs i x) j x within ∙ ap (λ (y : X). Some y) (get_or-set_other xs i j x x ne) ∙ sym (slice_get-get_or xs j x l)
      | inr past ↦
          let beyond : length (set xs i x) ≤ j = rw length-set past in
          slice_get_past (set xs i x) j beyond ∙ sym (slice_get_past xs j past)
    ]

some_is : {X : Type 0} (o : Option X) (x y : X) → o ≡ Some x → o ≡ Some y → x ≡ y
some_is o x y p q = let e = sym p ∙ q in cc

-- where a port stands after one move, and the run that led there
SeenAt : ℕ → List Entry → PortState → ChassisWorld → Type 0
SeenAt port entries stood after = (stands : PortState) × (slice_get after.ports port ≡ Some stands) × Run stood entries stands

move_replays : (m : Move) (w v : ChassisWorld) (port : ℕ) (p : PortState) → ChassisStep m w v → slice_get w.ports port ≡ Some p → SeenAt port (entry_of port m) p v
unfolding SeenAt
move_replays (Take a) w v port p s stood =
    let ports : v.ports ≡ w.ports = ap (λ (x : ChassisWorld). x.ports) s.1 ∙ taken_ports a w in
    (p, ap (λ (xs : List PortState). slice_get xs port) ports ∙ stood, refl)
move_replays (Give a) w v port p s stood =
    let ports : v.ports ≡ w.ports = ap (λ (x : ChassisWorld). x.ports) s.1 in
    (p, ap (λ (xs : List PortState). slice_get xs port) ports ∙ stood, refl)
move_replays (Port a at e) w v port p s stood =
    let m = s.1 in
    let ports : v.ports ≡ set w.ports at m.next = ap (λ (y : ChassisWorld). y.ports) m.world_is in
    let G : Bool → Type 0 = λ (t : Bool). (q : PortState) × (slice_get v.ports port ≡ Some q) × Run p (if t then e ∷ [] else []) q in
    elim (eqb_tells at port) [
      | inl same ↦
          let image : m.stood ≡ p = some_is (slice_get w.ports port) m.stood p (ap (slice_get w.ports) (sym same.1) ∙ m.is) stood in
          let short : port < length w.ports = slice_get_within w.ports port p stood in
          let now : slice_get v.ports port ≡ Some m.next =
          ap (λ (xs : List PortState). slice_get xs port) ports ∙ ap (λ (i : ℕ). slice_get (set w.ports i m.next) port) same.1 ∙ set_same w.ports port m.next short in
          let step : IsStep p e m.next = subst (λ (y : PortState). IsStep y e m.next) image m.step in
          subst G (sym same.0) (m.next, now, (m.next, step, refl))
      | inr other ↦
          let differs : port ≢ at = λ h. other.1 (sym h) in
          let now : slice_get v.ports port ≡ Some p = ap (λ (xs : List PortState). slice_get xs port) ports ∙ set_other w.ports at port m.next differs ∙ stood in
          subst G (sym other.0) (p, now, refl)
    ]

run_replays : (ms : List Move) (w v : ChassisWorld) (port : ℕ) (p : PortState) → ChassisRun ms w v → slice_get w.ports port ≡ Some p → SeenAt port (entries_of port ms) p v
unfolding SeenAt
run_replays [] w v port p run stood = (p, ap (λ (x : ChassisWorld). slice_get x.ports port) run ∙ stood, refl)
run_replays (m ∷ ms) w v port p run stood =
    let first = move_replays m w run.0 port p run.1 stood in
    let rest = run_replays ms run.0 v port first.0 run.2 first.1 in
    (rest.0, rest.1, (runs_in_parts p rest.0 (entry_of port m) (entries_of port ms)).1 (first.0, first.2, rest.2))

pub ports_replay : PortsReplay
unfolding SeenAt
ports_replay ms w v port p q run stood stands =
    let seen = run_replays ms w v port p run stood in
    subst (λ (y : PortState). Run p (entries_of port ms) y) (some_is (slice_get v.ports port) seen.0 q seen.1 stands) seen.2

-- ---- from the opening

count_kept : (ms : List Move) (w v : ChassisWorld) → ChassisRun ms w v → length v.ports ≡ length w.ports
count_kept [] w v run = ap (λ (x : ChassisWorld). length x.ports) run
count_kept (Take a ∷ ms) w v run = count_kept ms run.0 v run.2 ∙ ap (λ (x : ChassisWorld). length x.ports) run.1.1 ∙ ap (λ (ps : List PortState). length ps) (taken_ports a w)
count_kept (Give a ∷ ms) w v run = count_kept ms run.0 v run.2 ∙ ap (λ (x : ChassisWorld). length x.ports) run.1.1
count_kept (Port a port e ∷ ms) w v run =
    let m = run.1.1 in
    count_kept ms run.0 v run.2 ∙ ap (λ (x : ChassisWorld). length x.ports) m.world_is ∙ length-set w.ports port m.next

-- the numbers of a port that a run from an opening reaches are apart
pub apart_reached : (c : PortConfig) (p : PortState) → IsReached c p → HoldsApart p
apart_reached c p reached = record {
  onu = λ s t n. no_shared_onu c p s t n reached;
  alloc = λ s t n. no_shared_alloc c p s t n reached;
  disabled_onu = λ s n. disabled_no_onu c p s n reached;
  disabled_alloc = λ s n. disabled_no_alloc c p s n reached;
}

pub opened_sound : (cs : List PortConfig) → All IsSound (map opening_of cs)
opened_sound cs = All-map IsSound opening_of cs (λ k d l. sound_opening (get_or cs k d))

pub opened_units : (cs : List PortConfig) → sum_by rows_of (map opening_of cs) ≡ 0
opened_units [] = refl
opened_units (c ∷ cs) =
    let rest = opened_units cs in
    let none : rows_of (opening_of c) ≡ 0 = len-empty serial_cmp Row in
    let first : sum_by rows_of (opening_of c ∷ map opening_of cs) ≡ rows_of (opening_of c) + sum_by rows_of (map opening_of cs) = sum_by-cons rows_of (opening_of c) (map opening_of cs) in
    first ∙ omega (arith, rest, none)

opened_balance : (cs : List PortConfig) (licences : ℕ) → IsBalanced licences (world_opened cs licences)
opened_balance cs licences =
    let rows = opened_units cs in
    let hands = sum_by-replicate (λ (n : ℕ). n) 64 0 in
    omega (arith, rows, hands)

opened_at : (cs : List PortConfig) (port : ℕ) (c : PortConfig) → slice_get cs port ≡ Some c → slice_get (map opening_of cs) port ≡ Some (opening_of c)
opened_at cs port c is = slice_get-map opening_of cs port ∙ ap (option_map opening_of) is

pub every_run_holds : EveryRunHolds
every_run_holds cs licences ms v within run =
    let w : ChassisWorld = world_opened cs licences in
    let balance : IsBalanced licences v = balance_lasts licences ms w v (opened_sound cs) (opened_balance cs licences) run in
    record {
      replay = λ port c q is stands. record {
        within = subst (λ (x : PortConfig). is_within_limits x ≡ true) (get_or_from_slice_get cs port c c is) (within port c (slice_get_within cs port c is));
        configured = refl;
        run = ports_replay ms w v port (opening_of c) q run (opened_at cs port c is) stands;
      };
      apart = λ port d l. apart_at port d l;
      balance = balance;
      few = omega (arith, balance);
    }
  where
    apart_at : (port : ℕ) (d : PortState) → port < length v.ports → HoldsApart (get_or v.ports port d)
    apart_at port d l =
        let w : ChassisWorld = world_opened cs licences in
        let counted : length v.ports ≡ length cs = count_kept ms w v run ∙ length-map cs opening_of in
        let short : port < length cs = subst (λ (n : ℕ). port < n) counted l in
        let c : PortConfig = get_or cs port d.config in
        let is : slice_get cs port ≡ Some c = slice_get-get_or cs port d.config short in
        let q : PortState = get_or v.ports port d in
        let stands : slice_get v.ports port ≡ Some q = slice_get-get_or v.ports port d l in
        apart_reached c q (entries_of port ms, ports_replay ms w v port (opening_of c) q run (opened_at cs port c is) stands)
