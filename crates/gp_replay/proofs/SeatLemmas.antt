-- A turn of a play: what its port and the book of licences do is what actor 0 does in the turn.
use Rattle.std.proofs.Common.{◌≡◌, ◌<◌, ◌^◌, ◌+◌, ◌-◌, ◌==◌, ◌&&◌, ℕ, Bool, true, false, List, [], ◌∷◌, length, map, get_or, replicate, refl, sym, ap, subst, ◌∙◌, arith, inl, inr, length-set, IsTrue}
use Rattle.std.specs.Prelude.{Option, None, Some, All, min, slice_get, slice_set, slice_index, sum_by, if◌then◌else◌, nat_lt, option_map}
use Rattle.std.proofs.lemmas.List.{get_or-replicate, get_or-set_same, length-map, length-replicate, map-set, append-nil, set-get_or, set-set}
use Rattle.std.proofs.lemmas.List.Elements.{All-get_or, All-map, All-set}
use Rattle.std.proofs.lemmas.List.Folds.{sum_by-replicate}
use Rattle.std.proofs.lemmas.List.Sums.{sum_by-cons}
use Rattle.std.proofs.lemmas.Option.{get_or_from_slice_get, slice_get-map, slice_get_read, same_Some}
use Rattle.std.proofs.lemmas.Bool.{cases_lt}
use Rattle.std.proofs.lemmas.Bool.Decides.{nat_tests}
use Rattle.gp_machine.specs.declared.config.PortConfig.{PortConfig}
use Rattle.gp_machine.specs.declared.answer.Answer.{Answer}
use Rattle.gp_machine.specs.declared.event.Event.{Event}
use Rattle.gp_machine.specs.declared.event.Event.TheVariants.{Frame, Burst, Command}
use Rattle.gp_machine.specs.declared.entry.Entry.{Entry}
use Rattle.gp_machine.specs.Config.{is_within_limits}
use Rattle.gp_machine.specs.State.{PortState, opening_of, rows_of}
use Rattle.gp_machine.specs.Changes.{StepResult}
use Rattle.gp_machine.specs.Step.{Step}
use Rattle.gp_machine.specs.Run.{entry_outcome}
use Rattle.gp_machine.proofs.SoundFrames.{sound_opening}
use Rattle.gp_port.specs.Numbers.{GrantsWish, HandsOut}
use Rattle.gp_chassis.specs.World.{ChassisWorld, ChassisRun, PortMoves, hand, taken, given, IsBalanced}
use Rattle.gp_chassis.specs.Core.{GrantsTurn, moves_of}
use Rattle.gp_fibre.specs.Step.{purse_for}
use Rattle.gp_replay.specs.declared.turn.Turn.{Turn}
use Rattle.gp_replay.specs.Chassis.{IsSoundPort, PlayState, opened_play, owed_of}
use Rattle.gp_replay.specs.Play.{TakesTurns}
use Rattle.gp_replay.specs.Seats.{SeatState, SeatTakes, empty_hands, next_of, play_on, port_of, seat_opened}

-- ---- hands

hands_are : length empty_hands ≡ 64
unfolding empty_hands
hands_are = length-replicate {A = ℕ} 64 0

-- what actor 0 has in hand, where it was given so many
in_hand : (n : ℕ) → slice_index (slice_set empty_hands 0 n) 0 ≡ n
in_hand n = let all = hands_are in get_or-set_same empty_hands 0 n 0 (omega (arith, all))

-- actor 0 with nothing in hand is nobody with anything
none_in_hand : slice_set empty_hands 0 0 ≡ empty_hands
unfolding empty_hands
none_in_hand = ap (λ (n : ℕ). slice_set (replicate 64 0) 0 n) (sym (get_or-replicate 64 0 0 0 (omega arith))) ∙ set-get_or (replicate 64 0) 0 0

-- ---- the moves of a turn

-- the ports, so many free licences, and so many in the hands of actor 0
lending : List PortState → ℕ → ℕ → ChassisWorld
lending ports free count = record { ports = ports; free = free; hands = slice_set empty_hands 0 count }

-- the world with nothing in anybody's hands
idle : List PortState → ℕ → ChassisWorld
idle ports free = record { ports = ports; free = free; hands = empty_hands }

-- what actor 0 does before the port's step
lent_to : Event → ChassisWorld → ChassisWorld
lent_to (Burst at bytes) w = taken 0 w
lent_to Frame w = w
lent_to (Command command) w = w

idle_lends : (ports : List PortState) (free left purse : ℕ) → purse ≡ 0 → left + purse ≡ free → lending ports left purse ≡ idle ports free
unfolding lending idle
idle_lends ports free left purse none sum =
    let all : left ≡ free = omega (arith, none, sum) in
    let W : ℕ → List ℕ → ChassisWorld = λ n hands. record { ports = ports; free = n; hands = hands } in
    ap (λ (n : ℕ). W left (slice_set empty_hands 0 n)) none ∙ ap (W left) none_in_hand ∙ ap (λ (n : ℕ). W n empty_hands) all

taken_lends : (ports : List PortState) (free left purse : ℕ) → purse ≡ min 1 free → left + purse ≡ free → lending ports left purse ≡ taken 0 (idle ports free)
unfolding lending idle
taken_lends ports free left purse lent sum =
    let w : ChassisWorld = record { ports = ports; free = free; hands = empty_hands } in
    let W : ℕ → List ℕ → ChassisWorld = λ n hands. record { ports = ports; free = n; hands = hands } in
    let G : Bool → Type 0 = λ t. lending ports left purse ≡ (if t then record w { free = w.free - 1; hands = slice_set w.hands 0 1 } else w) in
    let none : hand w 0 ≡ 0 = ap (λ (hands : List ℕ). slice_index hands 0) (sym none_in_hand) ∙ in_hand 0 in
    elim (cases_lt 0 free) [
      | inl some ↦
          let b : ((hand w 0 == 0) && nat_lt 0 w.free) ≡ true = grind (arith, nat_tests) in
          let one : purse ≡ 1 = omega (arith, lent, some) in
          let rest : left ≡ free - 1 = omega (arith, one, sum, some) in
          subst G (sym b) (ap (λ (n : ℕ). W left (slice_set empty_hands 0 n)) one ∙ ap (λ (n : ℕ). W n (slice_set empty_hands 0 1)) rest)
      | inr past ↦
          let b : ((hand w 0 == 0) && nat_lt 0 w.free) ≡ false = grind (arith, nat_tests) in
          subst G (sym b) (idle_lends ports free left purse (omega (arith, lent, past)) sum)
    ]

lent_lends : (event : Event) (ports : List PortState) (free left purse : ℕ) → purse ≡ purse_for event free → left + purse ≡ free → lending ports left purse ≡ lent_to event (idle ports free)
unfolding lent_to
lent_lends Frame ports free left purse lent sum = idle_lends ports free left purse lent sum
lent_lends (Command command) ports free left purse lent sum = idle_lends ports free left purse lent sum
lent_lends (Burst at bytes) ports free left purse lent sum = taken_lends ports free left purse lent sum

-- the moves of a turn: where actor 0 was lent what the event asks for, the port makes the step of the entry, and what is
-- then in hand is given back
turn_run : (event : Event) (port : ℕ) (e : Entry) (w mid between : ChassisWorld) → 0 < length w.hands → 0 < length mid.hands → 0 < length between.hands
    → mid ≡ lent_to event w → PortMoves 0 port e mid between → ChassisRun (moves_of event port e) w (given 0 between)
unfolding lent_to
turn_run Frame port e w mid between l lm lb is m = (between, (l, subst (λ (x : ChassisWorld). PortMoves 0 port e x between) is m), (given 0 between, (lb, refl), refl))
turn_run (Command command) port e w mid between l lm lb is m = (between, (l, subst (λ (x : ChassisWorld). PortMoves 0 port e x between) is m), (given 0 between, (lb, refl), refl))
turn_run (Burst at bytes) port e w mid between l lm lb is m = (mid, (l, is), (between, (lm, m), (given 0 between, (lb, refl), refl)))

-- ---- a wish

same_entry : (a b : Entry) → a.purse_in ≡ b.purse_in → a.event ≡ b.event → a.answer ≡ b.answer → a.purse_out ≡ b.purse_out → a ≡ b
same_entry a b h1 h2 h3 h4 =
    let E : ℕ → Event → Answer → ℕ → Entry = λ p e x q. record { purse_in = p; event = e; answer = x; purse_out = q } in
    ap (λ (n : ℕ). E n a.event a.answer a.purse_out) h1 ∙ ap (λ (e : Event). E b.purse_in e a.answer a.purse_out) h2 ∙ ap (λ (x : Answer). E b.purse_in b.event x a.purse_out) h3 ∙ ap (E b.purse_in b.event b.answer) h4

-- a port that moves so that it hands out the wished number, or none, moves as it did
moved_granted : (port : ℕ) (event : Event) (wished : Option ℕ) (e : Entry) (w after : ChassisWorld) (m : PortMoves 0 port e w after) → e.event ≡ event
    → GrantsWish (hand w 0) m.stood event wished (entry_outcome e m.next)
    → (other : Entry) (end : ChassisWorld) → other.event ≡ event → PortMoves 0 port other w end → HandsOut wished other.answer.reply → (e ≡ other) × (after ≡ end)
moved_granted port event wished e w after m is grants other end what n hands =
    let stood : n.stood ≡ m.stood = same_Some _ _ (sym n.is ∙ m.is) in
    let one : Step (hand w 0) n.stood other.event (entry_outcome other n.next) = subst (λ (k : ℕ). Step k n.stood other.event (entry_outcome other n.next)) n.purse n.step in
    let two : Step (hand w 0) n.stood event (entry_outcome other n.next) = subst (λ (x : Event). Step (hand w 0) n.stood x (entry_outcome other n.next)) what one in
    let step : Step (hand w 0) m.stood event (entry_outcome other n.next) = subst (λ (x : PortState). Step (hand w 0) x event (entry_outcome other n.next)) stood two in
    let same : entry_outcome e m.next ≡ entry_outcome other n.next = grants (entry_outcome other n.next) step hands in
    let W : PortState → ℕ → ChassisWorld = λ q k. record { ports = slice_set w.ports port q; free = w.free; hands = slice_set w.hands 0 k } in (
      same_entry e other (m.purse ∙ sym n.purse) (is ∙ sym what) (ap (λ (o : StepResult). o.answer) same) (ap (λ (o : StepResult). o.purse) same),
      m.world_is ∙ ap (λ (o : StepResult). W o.state o.purse) same ∙ sym n.world_is,
    )

turn_granted : (event : Event) (port : ℕ) (wished : Option ℕ) (e : Entry) (w mid between : ChassisWorld) → mid ≡ lent_to event w → (m : PortMoves 0 port e mid between) → e.event ≡ event
    → GrantsWish (hand mid 0) m.stood event wished (entry_outcome e m.next) → GrantsTurn w (given 0 between) port event wished e
unfolding lent_to
turn_granted Frame port wished e w mid between is m this grants other end what run hands =
    let moves : PortMoves 0 port other mid run.0 = subst (λ (x : ChassisWorld). PortMoves 0 port other x run.0) (sym is) run.1.1 in
    let (entry, world) = moved_granted port Frame wished e mid between m this grants other run.0 what moves hands in
    (entry, ap (given 0) world ∙ sym run.2.1.1 ∙ sym run.2.2)
turn_granted (Command command) port wished e w mid between is m this grants other end what run hands =
    let moves : PortMoves 0 port other mid run.0 = subst (λ (x : ChassisWorld). PortMoves 0 port other x run.0) (sym is) run.1.1 in
    let (entry, world) = moved_granted port (Command command) wished e mid between m this grants other run.0 what moves hands in
    (entry, ap (given 0) world ∙ sym run.2.1.1 ∙ sym run.2.2)
turn_granted (Burst at bytes) port wished e w mid between is m this grants other end what run hands =
    let moves : PortMoves 0 port other mid run.2.0 = subst (λ (x : ChassisWorld). PortMoves 0 port other x run.2.0) (run.1.1 ∙ sym is) run.2.1.1 in
    let (entry, world) = moved_granted port (Burst at bytes) wished e mid between m this grants other run.2.0 what moves hands in
    (entry, ap (given 0) world ∙ sym run.2.2.1.1 ∙ sym run.2.2.2)

-- ---- a turn of a play

-- a port takes an event with the licences that are lent for it, and what it leaves of them is free again
pub record SeatsTake (seats : List SeatState) (free port : ℕ) (event : Event) (wished : Option ℕ) (e : Entry) (seat next : SeatState) (left rest : ℕ) : Type 0 where
  pub purse : ℕ
  pub is : slice_get seats port ≡ Some seat
  pub lent : purse ≡ purse_for event free
  pub sum : left + purse ≡ free
  pub takes : SeatTakes seat next purse event wished e rest

-- that is the moves of actor 0, and grants the wish
record IsTurn (seats : List SeatState) (free port : ℕ) (event : Event) (wished : Option ℕ) (e : Entry) (next : SeatState) (left rest : ℕ) : Type 0 where
  pub run : ChassisRun (moves_of event port e) (play_on seats free).world (play_on (slice_set seats port next) (left + rest)).world
  pub grants : GrantsTurn (play_on seats free).world (play_on (slice_set seats port next) (left + rest)).world port event wished e

is_turn : (seats : List SeatState) (free port : ℕ) (event : Event) (wished : Option ℕ) (e : Entry) (seat next : SeatState) (left rest : ℕ)
    → SeatsTake seats free port event wished e seat next left rest → IsTurn seats free port event wished e next left rest
unfolding lending idle
is_turn seats free port event wished e seat next left rest h =
    let t = h.takes in
    let ports : List PortState = map port_of seats in
    let w : ChassisWorld = idle ports free in
    let mid : ChassisWorld = lending ports left h.purse in
    let between : ChassisWorld = record mid { ports = slice_set ports port next.port; hands = slice_set mid.hands 0 e.purse_out } in
    let lent : mid ≡ lent_to event w = lent_lends event ports free left h.purse h.lent h.sum in
    let purse : hand mid 0 ≡ h.purse = in_hand h.purse in
    let moves : PortMoves 0 port e mid between = record {
      stood = seat.port;
      next = next.port;
      is = slice_get-map port_of seats port ∙ ap (option_map port_of) h.is;
      purse = t.purse_in ∙ sym purse;
      step = t.step;
      world_is = refl;
    } in
    let wish : GrantsWish (hand mid 0) seat.port event wished (entry_outcome e next.port) =
    subst (λ (n : ℕ). GrantsWish n seat.port event wished (entry_outcome e next.port)) (sym purse) t.grants in
    let short : 0 < length empty_hands = let all = hands_are in omega (arith, all) in
    let middle : 0 < length mid.hands = subst (λ (n : ℕ). 0 < n) (sym (length-set empty_hands 0 h.purse)) short in
    let last : 0 < length between.hands = subst (λ (n : ℕ). 0 < n) (sym (length-set mid.hands 0 e.purse_out)) middle in
    let image : given 0 between ≡ (play_on (slice_set seats port next) (left + rest)).world = ended seats port next left rest h.purse e.purse_out t.purse_out in
    record {
      run = subst (λ (x : ChassisWorld). ChassisRun (moves_of event port e) w x) image (turn_run event port e w mid between short middle last lent moves);
      grants = subst (λ (x : ChassisWorld). GrantsTurn w x port event wished e) image (turn_granted event port wished e w mid between lent moves t.event_is wish);
    }
  where
    ended : (seats : List SeatState) (port : ℕ) (next : SeatState) (left rest purse out : ℕ) → out ≡ rest
        → given 0 (record { ports = slice_set (map port_of seats) port next.port; free = left; hands = slice_set (slice_set empty_hands 0 purse) 0 out })
        ≡ (play_on (slice_set seats port next) (left + rest)).world
    ended seats port next left rest purse out is =
        let W : List PortState → ℕ → List ℕ → ChassisWorld = λ ports n hands. record { ports = ports; free = n; hands = hands } in
        let ports : List PortState = slice_set (map port_of seats) port next.port in
        let once : slice_set (slice_set empty_hands 0 purse) 0 out ≡ slice_set empty_hands 0 out = set-set empty_hands 0 purse out in
        let count : slice_index (slice_set (slice_set empty_hands 0 purse) 0 out) 0 ≡ rest = ap (λ (hands : List ℕ). slice_index hands 0) once ∙ in_hand out ∙ is in
        let none : slice_set (slice_set (slice_set empty_hands 0 purse) 0 out) 0 0 ≡ empty_hands = ap (λ (hands : List ℕ). slice_set hands 0 0) once ∙ set-set empty_hands 0 out 0 ∙ none_in_hand in
        ap (λ (n : ℕ). W ports (left + n) (slice_set (slice_set (slice_set empty_hands 0 purse) 0 out) 0 0)) count
        ∙ ap (λ (hands : List ℕ). W ports (left + rest) hands) none
        ∙ ap (λ (ps : List PortState). W ps (left + rest) empty_hands) (sym (map-set port_of seats port next))

end_is : (seats : List SeatState) (next : SeatState) (port at sum after : ℕ) → at ≡ port → after ≡ sum → play_on (slice_set seats port next) sum ≡ play_on (slice_set seats at next) after
end_is seats next port at sum after there same = ap (λ (p : ℕ). play_on (slice_set seats p next) sum) (sym there) ∙ ap (λ (n : ℕ). play_on (slice_set seats at next) n) (sym same)

-- the seat that a port number reads
read_seat : (seats : List SeatState) (port at : ℕ) (seat : SeatState) → port < length (map next_of seats) → at ≡ port → seat ≡ get_or seats at seat → slice_get seats port ≡ Some seat
read_seat seats port at seat within is reads =
    let short : port < length seats = subst (λ (n : ℕ). port < n) (length-map seats next_of) within in
    slice_get_read seats (length seats) port seat refl short (subst (λ (n : ℕ). seat ≡ get_or seats n seat) is reads)

-- its next number can be followed by one more
pub room_there : (seats : List SeatState) (port at : ℕ) (seat : SeatState) → port < length (map next_of seats) → at ≡ port → seat ≡ get_or seats at seat
    → All (λ n. n + 1 < 2 ^ 64) (map next_of seats) → seat.next + 1 < 2 ^ 64
room_there seats port at seat within is reads room =
    let number : slice_get (map next_of seats) port ≡ Some seat.next = slice_get-map next_of seats port ∙ ap (option_map next_of) (read_seat seats port at seat within is reads) in
    subst (λ (n : ℕ). n + 1 < 2 ^ 64) (get_or_from_slice_get (map next_of seats) port seat.next seat.next number) (All-get_or (λ n. n + 1 < 2 ^ 64) (map next_of seats) port seat.next within room)

pub seats_take : (seats : List SeatState) (free port at : ℕ) (seat next : SeatState) (event : Event) (wished : Option ℕ) (e : Entry) (purse left rest : ℕ)
    → port < length (map next_of seats) → at ≡ port → seat ≡ get_or seats at seat → purse ≡ purse_for event free → left + purse ≡ free → SeatTakes seat next purse event wished e rest
    → SeatsTake seats free port event wished e seat next left rest
seats_take seats free port at seat next event wished e purse left rest within is reads lent sum takes =
    record { purse = purse; is = read_seat seats port at seat within is reads; lent = lent; sum = sum; takes = takes }

-- and so it is a turn of the play, with the port's next number
pub taken_turn : (seats : List SeatState) (free port at : ℕ) (event : Event) (wished : Option ℕ) (e : Entry) (seat next : SeatState) (left rest after number : ℕ)
    → SeatsTake seats free port event wished e seat next left rest → at ≡ port → after ≡ left + rest → number ≡ seat.next
    → TakesTurns (play_on seats free) (record { port = port; event = event } ∷ []) (record { port = port; number = number; entry = e } ∷ []) (play_on (slice_set seats at next) after)
taken_turn seats free port at event wished e seat next left rest after number h there sum is =
    let what : e.event ≡ event = h.takes.event_is in
    let turn = is_turn seats free port event wished e seat next left rest h in
    let more : next.next ≡ number + 1 = h.takes.next_is ∙ ap (λ (n : ℕ). n + 1) (sym is) in
    let end : PlayState = play_on (slice_set seats port next) (left + rest) in
    let takes : TakesTurns (play_on seats free) (record { port = port; event = event } ∷ []) (record { port = port; number = number; entry = e } ∷ []) end = record {
      told = ap (λ (x : Event). let t : Turn = record { port = port; event = x } in t ∷ []) what;
      run = rw append-nil (subst (λ (x : Event). ChassisRun (moves_of x port e) (play_on seats free).world end.world) (sym what) turn.run);
      numbers = (
        slice_get-map next_of seats port ∙ ap (option_map next_of) h.is ∙ ap (λ (n : ℕ). Some n) (sym is),
        map-set next_of seats port next ∙ ap (λ (n : ℕ). slice_set (map next_of seats) port n) more,
      );
    } in
    subst (λ (p : PlayState). TakesTurns (play_on seats free) (record { port = port; event = event } ∷ []) (record { port = port; number = number; entry = e } ∷ []) p) (end_is seats next port at (left + rest) after there sum) takes

-- and grants the wish
pub granted_turn : (seats : List SeatState) (free port at : ℕ) (event : Event) (wished : Option ℕ) (e : Entry) (seat next : SeatState) (left rest after : ℕ)
    → SeatsTake seats free port event wished e seat next left rest → at ≡ port → after ≡ left + rest
    → GrantsTurn (play_on seats free).world (play_on (slice_set seats at next) after).world port event wished e
granted_turn seats free port at event wished e seat next left rest after h there sum =
    subst (λ (p : PlayState). GrantsTurn (play_on seats free).world p.world port event wished e) (end_is seats next port at (left + rest) after there sum)
    (is_turn seats free port event wished e seat next left rest h).grants

-- every port stays sound
pub seats_stand : (seats : List SeatState) (at : ℕ) (next : SeatState) → IsSoundPort next.port → All (λ (s : SeatState). IsSoundPort s.port) seats → All (λ (s : SeatState). IsSoundPort s.port) (slice_set seats at next)
seats_stand seats at next own all = All-set (λ (s : SeatState). IsSoundPort s.port) seats at next own all

-- ---- the opening

pub opened_shows : (configs : List PortConfig) (licences : ℕ) → play_on (map seat_opened configs) licences ≡ opened_play configs licences
unfolding empty_hands
opened_shows configs licences =
    ap (λ (ps : List PortState). let p : PlayState = record { world = record { ports = ps; free = licences; hands = replicate 64 0 }; next = map next_of (map seat_opened configs) } in p) (ports configs)
    ∙ ap (λ (ns : List ℕ). let p : PlayState = record { world = record { ports = map opening_of configs; free = licences; hands = replicate 64 0 }; next = ns } in p) (numbers configs)
  where
    ports : (cs : List PortConfig) → map port_of (map seat_opened cs) ≡ map opening_of cs
    ports [] = refl
    ports (c ∷ cs) = ap (λ (l : List PortState). opening_of c ∷ l) (ports cs)

    numbers : (cs : List PortConfig) → map next_of (map seat_opened cs) ≡ map (λ (c : PortConfig). 0) cs
    numbers [] = refl
    numbers (c ∷ cs) = ap (λ (l : List ℕ). 0 ∷ l) (numbers cs)

pub opened_stand : (configs : List PortConfig) → All (λ (c : PortConfig). IsTrue (is_within_limits c)) configs → All (λ (s : SeatState). IsSoundPort s.port) (map seat_opened configs)
opened_stand configs within =
    All-map (λ (s : SeatState). IsSoundPort s.port) seat_opened configs (λ k d l. record { sound = sound_opening (get_or configs k d); within = within k d l })

-- ---- what holds of every port, and at the end

pub ports_stand : (seats : List SeatState) → All (λ (s : SeatState). IsSoundPort s.port) seats → All IsSoundPort (map port_of seats)
ports_stand seats all = All-map IsSoundPort port_of seats (λ k d l. all k d l)

-- the licences that are free and those of the ports are all that there are
pub ends_balanced : (seats : List SeatState) (free count : ℕ) → count ≡ free + sum_by (λ (s : SeatState). rows_of s.port) seats → IsBalanced count (play_on seats free).world
unfolding empty_hands
ends_balanced seats free count is =
    let hands = sum_by-replicate (λ (n : ℕ). n) 64 0 in
    let rows = units seats in
    omega (arith, hands, rows, is)
  where
    units : (ss : List SeatState) → sum_by rows_of (map port_of ss) ≡ sum_by (λ (s : SeatState). rows_of s.port) ss
    units [] = refl
    units (s ∷ ss) = sum_by-cons rows_of s.port (map port_of ss) ∙ ap (λ (n : ℕ). rows_of s.port + n) (units ss) ∙ sym (sum_by-cons (λ (s : SeatState). rows_of s.port) s ss)

-- ---- what a port owes

-- a port that is there
pub owed_there : (seats : List SeatState) (port at count : ℕ) (seat : SeatState) → at ≡ port → slice_get seats at ≡ Some seat → count ≡ length seat.port.owed
    → count ≡ owed_of (slice_get (map port_of seats) port)
owed_there seats port at count seat is here told =
    let there : slice_get seats port ≡ Some seat = ap (λ (n : ℕ). slice_get seats n) (sym is) ∙ here in
    told ∙ sym (ap owed_of (slice_get-map port_of seats port ∙ ap (option_map port_of) there))

-- and none
pub owed_nowhere : (seats : List SeatState) (port at : ℕ) → at ≡ port → slice_get seats at ≡ None → 0 ≡ owed_of (slice_get (map port_of seats) port)
owed_nowhere seats port at is missing =
    let none : slice_get seats port ≡ None = ap (λ (n : ℕ). slice_get seats n) (sym is) ∙ missing in
    sym (ap owed_of (slice_get-map port_of seats port ∙ ap (option_map port_of) none))
