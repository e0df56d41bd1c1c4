-- A chassis on one thread: what each call leaves of it.
use Rattle.std.proofs.Common.{◌≡◌, ◌<◌, ◌≤◌, ◌+◌, ◌-◌, ◌==◌, ◌&&◌, ℕ, Bool, true, false, List, [], ◌∷◌, length, map, replicate, set, get_or, refl, sym, ap, subst, ◌∙◌, arith, inl, inr, length-set, IsTrue}
use Rattle.std.specs.Prelude.{Option, Some, slice_get, slice_set, slice_index, sum_by, All, if◌then◌else◌, nat_lt, option_map, ◌↔◌}
use Rattle.std.specs.FinMap.{len-empty}
use Rattle.std.specs.Option.{option_and_then}
use Rattle.std.proofs.lemmas.List.{map-set, set-set, set-get_or, get_or-set_same, length-replicate}
use Rattle.std.proofs.lemmas.List.Elements.{All-set, All-map, All-nil}
use Rattle.std.proofs.lemmas.List.Folds.{sum_by-replicate}
use Rattle.std.proofs.lemmas.List.Sums.{sum_by-cons}
use Rattle.std.proofs.lemmas.Option.{slice_get-map, get_or_from_slice_get, slice_get_read, slice_get_within, same_Some}
use Rattle.std.proofs.lemmas.Bool.{cases_lt}
use Rattle.std.proofs.lemmas.Bool.Decides.{nat_tests, eqb_tells}
use Rattle.gp_ploam.specs.Serials.{serial_cmp}
use Rattle.gp_unit.specs.declared.row.Row.{Row}
use Rattle.gp_machine.specs.declared.config.PortConfig.{PortConfig}
use Rattle.gp_machine.specs.declared.answer.Answer.{Answer}
use Rattle.gp_machine.specs.declared.event.Event.{Event}
use Rattle.gp_machine.specs.declared.event.Event.TheVariants.{Frame, Burst, Command}
use Rattle.gp_machine.specs.declared.entry.Entry.{Entry}
use Rattle.gp_machine.specs.declared.entry.Receipt.{Receipt}
use Rattle.gp_machine.specs.Config.{is_within_limits}
use Rattle.gp_machine.specs.State.{PortState, opening_of, rows_of}
use Rattle.gp_machine.specs.Sound.{IsSound}
use Rattle.gp_machine.specs.Changes.{StepResult}
use Rattle.gp_machine.specs.Step.{Step}
use Rattle.gp_machine.specs.Run.{entry_outcome}
use Rattle.gp_port.specs.Numbers.{GrantsWish, HandsOut}
use Rattle.gp_laws.proofs.WholeRuns.{every_state}
use Rattle.gp_journal.specs.declared.piece.Piece.{Piece}
use Rattle.gp_journal.proofs.Runs.{Replays-opened}
use Rattle.gp_chassis.specs.Desk.{DeskState, DeskStands, HasRoom, opened, Serves, ServesInPlace, Cuts, IsProperEntry, last_kept}
use Rattle.gp_chassis.specs.World.{ChassisWorld, Port, PortMoves, hand, taken, given, ChassisStep, ChassisRun, IsBalanced, HoldsApart, units_of, world_opened}
use Rattle.gp_chassis.specs.Core.{CoreState, Stands, CoreServes, CoreCuts, CoreApplies, AppliesWishing, CoreAppliesInPlace, CoreServesInPlace, GrantsFrom, GrantsTurn, IsBurst, world_of, with_licences, lent, last_kept_at, moves_of, core_opened, IsFullAt, JoinsAt}
use Rattle.gp_chassis.proofs.Desks.{served_last, receipt_is}
use Rattle.gp_chassis.proofs.Worlds.{move_keeps, taken_ports, set_same, apart_reached}

same_desk : (s : CoreState) (p : ℕ) (d e : DeskState) → slice_get s.desks p ≡ Some d → slice_get s.desks p ≡ Some e → d ≡ e
same_desk s p d e f g = let h = sym f ∙ g in cc

set_back : (ds : List DeskState) (p : ℕ) (d : DeskState) → slice_get ds p ≡ Some d → set ds p d ≡ ds
set_back ds p d is = ap (set ds p) (sym (get_or_from_slice_get ds p d d is)) ∙ set-get_or ds p d

hands_kept : (old new : CoreState) (a p : ℕ) (event : Event) (r : Receipt) → a < length old.hands → CoreServes old new a p event r → a < length new.hands
hands_kept old new a p event r l h = subst (λ (n : ℕ). a < n) (sym (ap (λ (s : CoreState). length s.hands) h.core ∙ length-set old.hands a h.rest)) l

pub taken_actors : (s : CoreState) (a : ℕ) → a < length s.hands → a < length (taken a (world_of s)).hands
taken_actors s a l =
    let w : ChassisWorld = world_of s in
    elim ((hand w a == 0) && nat_lt 0 w.free) as (λ (t : Bool). a < length (if t then record w { free = w.free - 1; hands = slice_set w.hands a 1 } else w).hands)
    [ true ↦ subst (λ (n : ℕ). a < n) (sym (length-set w.hands a 1)) l | false ↦ l ]

-- ---- what holds of every chassis

-- every port is sound
ports_sound : (ds : List DeskState) → All DeskStands ds → All IsSound (map (λ (d : DeskState). d.state) ds)
ports_sound ds h =
    All-map IsSound (λ (d : DeskState). d.state) ds (λ k d l. every_state (get_or ds k d).state.config (get_or ds k d).state (h k d l).reached)

-- no two units of a port share a number
pub ports_apart : (s : CoreState) → Stands s → All HoldsApart (world_of s).ports
ports_apart s h =
    All-map HoldsApart (λ (d : DeskState). d.state) s.desks (λ k d l. apart_reached (get_or s.desks k d).state.config (get_or s.desks k d).state (h.desks k d l).reached)

-- no more units than licences
pub units_few : (s : CoreState) → Stands s → units_of (world_of s) ≤ s.licences
units_few s h = let balance = h.balance in omega (arith, balance)

-- ---- a desk serves

-- a desk that serves is one port that moves
pub served_step : (old new : CoreState) (a p : ℕ) (event : Event) (r : Receipt) → a < length old.hands → CoreServes old new a p event r
    → ChassisStep (Port a p r.entry) (world_of old) (world_of new)
served_step old new a p event r l h =
    let f : DeskState → PortState = λ d. d.state in
    let ports : map f (set old.desks p h.next) ≡ set (map f old.desks) p h.next.state = map-set f old.desks p h.next in
    let W : List PortState → List ℕ → ChassisWorld = λ xs ys. record { ports = xs; free = old.free; hands = ys } in (
      l,
      record {
        stood = h.desk.state;
        next = h.next.state;
        is = slice_get-map f old.desks p ∙ ap (option_map f) h.is;
        purse = h.serves.purse_in;
        step = h.serves.step;
        world_is = ap world_of h.core ∙ ap (λ (xs : List PortState). W xs (set old.hands a h.rest)) ports ∙ ap (λ (n : ℕ). W (set (map f old.desks) p h.next.state) (set old.hands a n)) h.serves.rest_is;
      },
    )

pub served_stands : (old new : CoreState) (a p : ℕ) (event : Event) (r : Receipt) → a < length old.hands → Stands old → CoreServes old new a p event r → Stands new
served_stands old new a p event r l s h =
    let balance : IsBalanced old.licences (world_of new) =
    move_keeps old.licences (Port a p r.entry) (world_of old) (world_of new) (ports_sound old.desks s.desks) (served_step old new a p event r l h) s.balance in
    subst Stands (sym h.core) (record {
      desks = All-set DeskStands old.desks p h.next h.serves.stands s.desks;
      balance = subst (λ (t : CoreState). IsBalanced old.licences (world_of t)) h.core balance;
      hands_are = length-set old.hands a h.rest ∙ s.hands_are;
    })

-- the desk of a port serves with what was pulled out of an actor's hands, and the rest is put there
pub served_core : (s : CoreState) (a p q : ℕ) (event : Event) (r : Receipt) (d next : DeskState) (rest purse : ℕ) (h1 h2 : List ℕ)
    → p < length s.desks → q ≡ p → d ≡ get_or s.desks q d → purse ≡ slice_index s.hands a → h1 ≡ set s.hands a 0 → h2 ≡ set h1 a rest → Serves d next p purse event r rest
    → CoreServes s (record s { desks = set s.desks q next; hands = h2 }) a p event r
served_core s a p q event r d next rest purse h1 h2 l is at pulled one two serves =
    let hands : h2 ≡ set s.hands a rest = two ∙ ap (λ (h : List ℕ). set h a rest) one ∙ set-set s.hands a 0 rest in
    record {
      desk = d;
      next = next;
      rest = rest;
      is = slice_get_read s.desks (length s.desks) p d refl l (subst (λ (n : ℕ). d ≡ get_or s.desks n d) is at);
      serves = subst (λ (n : ℕ). Serves d next p n event r rest) pulled serves;
      core = ap (λ (n : ℕ). record s { desks = set s.desks n next; hands = h2 }) is ∙ ap (λ (h : List ℕ). record s { desks = set s.desks p next; hands = h }) hands;
    }

-- it refuses, and all is as it was
pub refused_core : (s : CoreState) (a q : ℕ) (d next : DeskState) (back purse : ℕ) (h1 h2 : List ℕ)
    → d ≡ get_or s.desks q d → purse ≡ slice_index s.hands a → h1 ≡ set s.hands a 0 → h2 ≡ set h1 a back → back ≡ purse → next ≡ d
    → record s { desks = set s.desks q next; hands = h2 } ≡ s
refused_core s a q d next back purse h1 h2 at pulled one two same kept =
    let hands : h2 ≡ s.hands = two ∙ ap (λ (h : List ℕ). set h a back) one ∙ set-set s.hands a 0 back ∙ ap (set s.hands a) (same ∙ pulled) ∙ set-get_or s.hands a 0 in
    let desks : set s.desks q next ≡ s.desks = ap (set s.desks q) (kept ∙ at) ∙ set-get_or s.desks q d in
    ap (λ (ds : List DeskState). record s { desks = ds; hands = h2 }) desks ∙ ap (λ (h : List ℕ). record s { hands = h }) hands

-- the journal that the port has is full just where its desk has no room
pub full_core : (s : CoreState) (p q : ℕ) (d : DeskState) (b : Type 0) → p < length s.desks → q ≡ p → d ≡ get_or s.desks q d → (b ↔ (HasRoom d → ⊥)) → (b ↔ IsFullAt s p)
full_core s p q d b l is at tells =
    let there : slice_get s.desks p ≡ Some d = slice_get_read s.desks (length s.desks) p d refl l (subst (λ (n : ℕ). d ≡ get_or s.desks n d) is at) in (
      λ h. record { desk = d; is = there; full = tells.0 h },
      λ f. tells.1 (subst (λ (x : DeskState). HasRoom x → ⊥) (same_desk s p f.desk d f.is there) f.full),
    )

-- ---- a journal is cut

-- no port moves
pub cut_world : (old new : CoreState) (p : ℕ) (piece : Piece) → CoreCuts old new p piece → world_of new ≡ world_of old
cut_world old new p piece h =
    let f : DeskState → PortState = λ d. d.state in
    let ports : map f (set old.desks p h.next) ≡ map f old.desks =
    map-set f old.desks p h.next ∙ ap (λ (d : DeskState). set (map f old.desks) p d.state) h.cuts.desk
    ∙ sym (map-set f old.desks p h.desk) ∙ ap (map f) (set_back old.desks p h.desk h.is) in
    ap world_of h.core ∙ ap (λ (xs : List PortState). record { ports = xs; free = old.free; hands = old.hands }) ports

pub cut_stands : (old new : CoreState) (p : ℕ) (piece : Piece) → Stands old → CoreCuts old new p piece → Stands new
cut_stands old new p piece s h =
    let cut : CoreState = record old { desks = set old.desks p h.next } in
    let world : world_of cut ≡ world_of old = ap world_of (sym h.core) ∙ cut_world old new p piece h in
    subst Stands (sym h.core) (record {
      desks = All-set DeskStands old.desks p h.next h.cuts.stands s.desks;
      balance = subst (λ (w : ChassisWorld). IsBalanced old.licences w) (sym world) s.balance;
      hands_are = s.hands_are;
    })

pub cut_core : (s : CoreState) (p q : ℕ) (piece : Piece) (d next : DeskState) → p < length s.desks → q ≡ p → d ≡ get_or s.desks q d → Cuts d next piece
    → CoreCuts s (record s { desks = set s.desks q next }) p piece
cut_core s p q piece d next l is at cuts = record {
  desk = d;
  next = next;
  is = slice_get_read s.desks (length s.desks) p d refl l (subst (λ (n : ℕ). d ≡ get_or s.desks n d) is at);
  cuts = cuts;
  core = ap (λ (n : ℕ). record s { desks = set s.desks n next }) is;
}

-- a desk as it was changes nothing
pub same_core : (s : CoreState) (q : ℕ) (d next : DeskState) → d ≡ get_or s.desks q d → next ≡ d → record s { desks = set s.desks q next } ≡ s
same_core s q d next at kept = ap (λ (ds : List DeskState). record s { desks = ds }) (ap (set s.desks q) (kept ∙ at) ∙ set-get_or s.desks q d)

pub cut_joins : (old new : CoreState) (p : ℕ) (piece : Piece) → CoreCuts old new p piece → JoinsAt new p piece
cut_joins old new p piece h =
    let within : p < length old.desks = slice_get_within old.desks p h.desk h.is in
    let desk = h.cuts.desk in
    let of = h.cuts.of in
    let end : piece.to ≡ h.desk.state = ap (λ (x : Piece). x.to) of in
    record {
      desk = h.next;
      is = ap (λ (s : CoreState). slice_get s.desks p) h.core ∙ set_same old.desks p h.next within;
      number = ap (λ (x : Piece). x.first + length x.entries) of ∙ sym (ap (λ (d : DeskState). d.first) desk);
      state = ap (λ (d : DeskState). d.base) desk ∙ ap (λ (q : PortState). Some q) (sym end);
    }

-- ---- it is opened

opened_desks : (limit : ℕ) (cs : List PortConfig) → All (λ (c : PortConfig). IsTrue (is_within_limits c)) cs → All DeskStands (map (opened limit) cs)
opened_desks limit cs h = All-map DeskStands (opened limit) cs (λ k d l. record { replays = Replays-opened (get_or cs k d) (h k d l); reached = ([], refl); proper = All-nil IsProperEntry })

opened_ports : (limit : ℕ) (cs : List PortConfig) → map (λ (d : DeskState). d.state) (map (opened limit) cs) ≡ map opening_of cs
opened_ports limit [] = refl
opened_ports limit (c ∷ cs) = ap (λ (ports : List PortState). opening_of c ∷ ports) (opened_ports limit cs)

-- its world is the one that is opened
pub opened_world : (cs : List PortConfig) (licences limit : ℕ) → world_of (core_opened cs licences limit) ≡ world_opened cs licences
opened_world cs licences limit = ap (λ (ports : List PortState). record { ports = ports; free = licences; hands = replicate 64 0 }) (opened_ports limit cs)

opened_units : (limit : ℕ) (cs : List PortConfig) → sum_by rows_of (map (λ (d : DeskState). d.state) (map (opened limit) cs)) ≡ 0
opened_units limit [] = refl
opened_units limit (c ∷ cs) =
    let rest = opened_units limit cs in
    let none : rows_of (opening_of c) ≡ 0 = len-empty serial_cmp Row in
    let first = sum_by-cons rows_of (opening_of c) (map (λ (d : DeskState). d.state) (map (opened limit) cs)) in
    first ∙ omega (arith, rest, none)

pub opened_stands : (cs : List PortConfig) (licences limit : ℕ) → All (λ (c : PortConfig). IsTrue (is_within_limits c)) cs → Stands (core_opened cs licences limit)
opened_stands cs licences limit h = record {
  desks = opened_desks limit cs h;
  balance = let rows = opened_units limit cs in let hands = sum_by-replicate (λ (n : ℕ). n) 64 0 in omega (arith, rows, hands);
  hands_are = length-replicate {A = ℕ} 64 0;
}

-- ---- take, step, give

took_step : (s : CoreState) (a : ℕ) → world_of (with_licences s (taken a (world_of s))) ≡ taken a (world_of s)
took_step s a =
    let w : ChassisWorld = world_of s in
    ap (λ (xs : List PortState). record { ports = xs; free = (taken a w).free; hands = (taken a w).hands }) (sym (taken_ports a w))

pub applied_run : (old new : CoreState) (p : ℕ) (event : Event) (r : Receipt) → 0 < length old.hands → CoreApplies old new p event r
    → ChassisRun (moves_of event p r.entry) (world_of old) (world_of new)
applied_run old new p Frame r l h =
    let s = served_step old h.between 0 p Frame r l h.serves in
    (world_of h.between, s, (world_of new, (hands_kept old h.between 0 p Frame r l h.serves, ap world_of h.given_is), refl))
applied_run old new p (Command command) r l h =
    let s = served_step old h.between 0 p (Command command) r l h.serves in
    (world_of h.between, s, (world_of new, (hands_kept old h.between 0 p (Command command) r l h.serves, ap world_of h.given_is), refl))
applied_run old new p (Burst at bytes) r l h =
    let mid : CoreState = with_licences old (taken 0 (world_of old)) in
    let short : 0 < length mid.hands = taken_actors old 0 l in
    let s = served_step mid h.between 0 p (Burst at bytes) r short h.serves in
    let t : world_of mid ≡ taken 0 (world_of old) = took_step old 0 in
    (world_of mid, (l, t), (world_of h.between, s, (world_of new, (hands_kept mid h.between 0 p (Burst at bytes) r short h.serves, ap world_of h.given_is), refl)))

-- ---- what is lent for an event

-- lending fills no journal
lent_full : (event : Event) (s : CoreState) (p : ℕ) → IsFullAt (lent event s) p ↔ IsFullAt s p
lent_full (Burst at bytes) s p = (λ f. record { desk = f.desk; is = f.is; full = f.full }, λ f. record { desk = f.desk; is = f.is; full = f.full })
lent_full Frame s p = (λ f. f, λ f. f)
lent_full (Command command) s p = (λ f. f, λ f. f)

-- so what tells that a journal is full tells it of the chassis before
pub full_before : (event : Event) (s : CoreState) (p : ℕ) (b : Type 0) → (b ↔ IsFullAt (lent event s) p) → (b ↔ IsFullAt s p)
full_before event s p b tells = let same = lent_full event s p in (λ h. same.0 (tells.0 h), λ f. tells.1 (same.1 f))

-- ---- a wish

-- the desk of a port serves with what was pulled out of an actor's hands, and grants a wish
pub granted_core : (s : CoreState) (a p q : ℕ) (event : Event) (wished : Option ℕ) (e : Entry) (d next : DeskState) (purse : ℕ) (h2 : List ℕ)
    → p < length s.desks → q ≡ p → d ≡ get_or s.desks q d → purse ≡ slice_index s.hands a → GrantsWish purse d.state event wished (entry_outcome e next.state)
    → GrantsFrom s (record s { desks = set s.desks q next; hands = h2 }) a p event wished e
granted_core s a p q event wished e d next purse h2 l is at pulled grants desk end was now =
    let there : slice_get s.desks p ≡ Some d = slice_get_read s.desks (length s.desks) p d refl l (subst (λ (n : ℕ). d ≡ get_or s.desks n d) is at) in
    let same : d ≡ desk = same_desk s p d desk there was in
    let image : slice_get (set s.desks p next) p ≡ Some end = subst (λ (n : ℕ). slice_get (set s.desks n next) p ≡ Some end) is now in
    let ended : next ≡ end = same_Some _ _ (sym (set_same s.desks p next l) ∙ image) in
    subst (λ (n : ℕ). GrantsWish n desk.state event wished (entry_outcome e end.state)) pulled
    (subst (λ (x : DeskState). GrantsWish purse desk.state event wished (entry_outcome e x.state)) ended
    (subst (λ (x : DeskState). GrantsWish purse x.state event wished (entry_outcome e next.state)) same grants))

same_entry : (a b : Entry) → a.purse_in ≡ b.purse_in → a.event ≡ b.event → a.answer ≡ b.answer → a.purse_out ≡ b.purse_out → a ≡ b
same_entry a b h1 h2 h3 h4 =
    let E : ℕ → Event → Answer → ℕ → Entry = λ p e x q. record { purse_in = p; event = e; answer = x; purse_out = q } in
    ap (λ (n : ℕ). E n a.event a.answer a.purse_out) h1 ∙ ap (λ (e : Event). E b.purse_in e a.answer a.purse_out) h2 ∙ ap (λ (x : Answer). E b.purse_in b.event x a.purse_out) h3 ∙ ap (E b.purse_in b.event b.answer) h4

-- the world that a port leaves which serves
served_world : (old new : CoreState) (a p : ℕ) (event : Event) (r : Receipt) → CoreServes old new a p event r → (next : DeskState) → slice_get new.desks p ≡ Some next
    → world_of new ≡ record (world_of old) { ports = slice_set (world_of old).ports p next.state; hands = slice_set old.hands a r.entry.purse_out }
served_world old new a p event r h next now =
    let f : DeskState → PortState = λ d. d.state in
    let W : List PortState → List ℕ → ChassisWorld = λ xs ys. record { ports = xs; free = old.free; hands = ys } in
    let l : p < length old.desks = slice_get_within old.desks p h.desk h.is in
    let there : slice_get new.desks p ≡ Some h.next = ap (λ (s : CoreState). slice_get s.desks p) h.core ∙ set_same old.desks p h.next l in
    let same : h.next ≡ next = same_Some _ _ (sym there ∙ now) in
    ap world_of h.core ∙ ap (λ (xs : List PortState). W xs (set old.hands a h.rest)) (map-set f old.desks p h.next)
    ∙ ap (λ (n : ℕ). W (set (map f old.desks) p h.next.state) (set old.hands a n)) h.serves.rest_is
    ∙ ap (λ (d : DeskState). W (set (map f old.desks) p d.state) (set old.hands a r.entry.purse_out)) same

-- a port that moves so that it hands out the wished number, or none, moves as it served
step_granted : (old new : CoreState) (a p : ℕ) (event : Event) (wished : Option ℕ) (r : Receipt) → CoreServes old new a p event r → GrantsFrom old new a p event wished r.entry
    → (other : Entry) (end : ChassisWorld) → other.event ≡ event → PortMoves a p other (world_of old) end → HandsOut wished other.answer.reply → (r.entry ≡ other) × (world_of new ≡ end)
step_granted old new a p event wished r h grants other end what m hands =
    let f : DeskState → PortState = λ d. d.state in
    let l : p < length old.desks = slice_get_within old.desks p h.desk h.is in
    let there : slice_get new.desks p ≡ Some h.next = ap (λ (s : CoreState). slice_get s.desks p) h.core ∙ set_same old.desks p h.next l in
    let stood : m.stood ≡ h.desk.state = same_Some _ _ (sym m.is ∙ slice_get-map f old.desks p ∙ ap (option_map f) h.is) in
    let one : Step (hand (world_of old) a) m.stood other.event (entry_outcome other m.next) = subst (λ (n : ℕ). Step n m.stood other.event (entry_outcome other m.next)) m.purse m.step in
    let two : Step (hand (world_of old) a) m.stood event (entry_outcome other m.next) = subst (λ (e : Event). Step (hand (world_of old) a) m.stood e (entry_outcome other m.next)) what one in
    let step : Step (hand (world_of old) a) h.desk.state event (entry_outcome other m.next) =
    subst (λ (x : PortState). Step (hand (world_of old) a) x event (entry_outcome other m.next)) stood two in
    let same : entry_outcome r.entry h.next.state ≡ entry_outcome other m.next = grants h.desk h.next h.is there (entry_outcome other m.next) step hands in
    let entry : r.entry ≡ other =
    same_entry r.entry other (h.serves.purse_in ∙ sym m.purse) (h.serves.event_is ∙ sym what) (ap (λ (o : StepResult). o.answer) same) (ap (λ (o : StepResult). o.purse) same) in
    let W : PortState → ℕ → ChassisWorld = λ q n. record { ports = slice_set (world_of old).ports p q; free = old.free; hands = slice_set old.hands a n } in
    let world : world_of new ≡ end =
    served_world old new a p event r h h.next there ∙ ap (λ (q : PortState). W q r.entry.purse_out) (ap (λ (o : StepResult). o.state) same)
    ∙ ap (W m.next) (ap (λ (o : StepResult). o.purse) same) ∙ sym m.world_is in
    (entry, world)

pub turn_granted : (old between new : CoreState) (p : ℕ) (event : Event) (wished : Option ℕ) (r : Receipt) → 0 < length old.hands
    → CoreServes (lent event old) between 0 p event r → GrantsFrom (lent event old) between 0 p event wished r.entry → new ≡ with_licences between (given 0 (world_of between))
    → GrantsTurn (world_of old) (world_of new) p event wished r.entry
turn_granted old between new p Frame wished r l h grants given_is other end what run hands =
    let (entry, world) = step_granted old between 0 p Frame wished r h grants other run.0 what run.1.1 hands in
    (entry, ap world_of given_is ∙ ap (given 0) world ∙ sym run.2.1.1 ∙ sym run.2.2)
turn_granted old between new p (Command command) wished r l h grants given_is other end what run hands =
    let (entry, world) = step_granted old between 0 p (Command command) wished r h grants other run.0 what run.1.1 hands in
    (entry, ap world_of given_is ∙ ap (given 0) world ∙ sym run.2.1.1 ∙ sym run.2.2)
turn_granted old between new p (Burst at bytes) wished r l h grants given_is other end what run hands =
    let mid : CoreState = with_licences old (taken 0 (world_of old)) in
    let image : run.0 ≡ world_of mid = run.1.1 ∙ sym (took_step old 0) in
    let moves : PortMoves 0 p other (world_of mid) run.2.0 = subst (λ (w : ChassisWorld). PortMoves 0 p other w run.2.0) image run.2.1.1 in
    let (entry, world) = step_granted mid between 0 p (Burst at bytes) wished r h grants other run.2.0 what moves hands in
    (entry, ap world_of given_is ∙ ap (given 0) world ∙ sym run.2.2.1.1 ∙ sym run.2.2.2)

-- ---- what stands in the journal

-- the desk of a port serves with what was pulled out of an actor's hands, and its entry stands in the journal
pub in_place_core : (s : CoreState) (a p q : ℕ) (event : Event) (wished : Option ℕ) (number : ℕ) (d next : DeskState) (rest purse : ℕ) (h1 h2 : List ℕ)
    → p < length s.desks → q ≡ p → d ≡ get_or s.desks q d → purse ≡ slice_index s.hands a → h1 ≡ set s.hands a 0 → h2 ≡ set h1 a rest → ServesInPlace d next purse event wished number rest
    → CoreServesInPlace s (record s { desks = set s.desks q next; hands = h2 }) a p event wished number
in_place_core s a p q event wished number d next rest purse h1 h2 l is at pulled one two k =
    let r : Receipt = record { port = p; number = number; entry = k.entry } in
    let serves : Serves d next p purse event r rest = k.serves p in
    record {
      receipt = r;
      serves = served_core s a p q event r d next rest purse h1 h2 l is at pulled one two serves;
      proper = serves.proper;
      grants = granted_core s a p q event wished k.entry d next purse h2 l is at pulled k.grants;
      is_port = refl;
      is_number = refl;
      kept = ap (λ (n : ℕ). option_and_then last_kept (slice_get (set s.desks n next) p)) is ∙ ap (option_and_then last_kept) (set_same s.desks p next l)
          ∙ served_last d next p purse event r rest serves;
    }

-- a burst is handed no licence only where none is free
burst_served : (old between : CoreState) (p : ℕ) (event : Event) (r : Receipt) → 0 < length old.hands → CoreServes (lent event old) between 0 p event r
    → IsBurst event → r.entry.purse_in ≡ 0 → old.free ≡ 0
burst_served old between p Frame r l h burst none = elim burst [ ]
burst_served old between p (Command command) r l h burst none = elim burst [ ]
burst_served old between p (Burst at bytes) r l h burst none =
    let w : ChassisWorld = world_of old in
    let purse : slice_index (taken 0 w).hands 0 ≡ 0 = sym h.serves.purse_in ∙ none in
    let P : Bool → Type 0 = λ t. slice_index (if t then record w { free = w.free - 1; hands = slice_set w.hands 0 1 } else w).hands 0 ≡ 0 in
    elim (cases_lt 0 w.free) [
      | inl some ↦ elim (eqb_tells (hand w 0) 0) [
        | inl e ↦
            let b : ((hand w 0 == 0) && nat_lt 0 w.free) ≡ true = grind (arith, nat_tests) in
            let zero : slice_index (slice_set w.hands 0 1) 0 ≡ 0 = subst P b purse in
            let one : slice_index (slice_set w.hands 0 1) 0 ≡ 1 = get_or-set_same w.hands 0 1 0 l in
            omega (arith, zero, one)
        | inr e ↦
            let b : ((hand w 0 == 0) && nat_lt 0 w.free) ≡ false = grind (arith, nat_tests) in
            let zero : hand w 0 ≡ 0 = subst P b purse in
            absurd (e.1 zero)
      ]
      | inr none ↦ omega (arith, none)
    ]

-- actor 0 takes, has the event served, and gives: of that the journal keeps the entry
pub kept_applies : (old between new : CoreState) (p : ℕ) (event : Event) (wished : Option ℕ) (number : ℕ) → 0 < length old.hands
    → CoreServesInPlace (lent event old) between 0 p event wished number → new ≡ with_licences between (given 0 (world_of between)) → CoreAppliesInPlace old new p event wished number
kept_applies old between new p event wished number l k given_is =
    let applies : CoreApplies old new p event k.receipt = record { between = between; serves = k.serves; given_is = given_is } in
    record {
      receipt = k.receipt;
      makes = record {
        applies = applies;
        run = applied_run old new p event k.receipt l applies;
        purse = burst_served old between p event k.receipt l k.serves;
        proper = k.proper;
        grants = turn_granted old between new p event wished k.receipt l k.serves k.grants given_is;
      };
      is_port = k.is_port;
      is_number = k.is_number;
      kept = ap (λ (s : CoreState). last_kept_at s p) given_is ∙ k.kept;
    }

-- the receipt with these numbers and the last entry is the one that was served
pub served_in_place : (old new : CoreState) (a p : ℕ) (event : Event) (wished : Option ℕ) (number : ℕ) (r : Receipt) → CoreServesInPlace old new a p event wished number
    → r.port ≡ p → r.number ≡ number → last_kept_at new p ≡ Some r.entry → CoreServes old new a p event r
served_in_place old new a p event wished number r k h1 h2 h3 =
    subst (λ (x : Receipt). CoreServes old new a p event x) (receipt_is k.receipt r (k.is_port ∙ sym h1) (k.is_number ∙ sym h2) (sym k.kept ∙ h3)) k.serves

-- and the one that was applied
pub applied_in_place : (old new : CoreState) (p : ℕ) (event : Event) (wished : Option ℕ) (number : ℕ) (r : Receipt) → CoreAppliesInPlace old new p event wished number
    → r.port ≡ p → r.number ≡ number → last_kept_at new p ≡ Some r.entry → AppliesWishing old new p event wished r
applied_in_place old new p event wished number r k h1 h2 h3 =
    subst (λ (x : Receipt). AppliesWishing old new p event wished x) (receipt_is k.receipt r (k.is_port ∙ sym h1) (k.is_number ∙ sym h2) (sym k.kept ∙ h3)) k.makes
