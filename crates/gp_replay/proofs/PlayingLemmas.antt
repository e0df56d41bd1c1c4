-- Events that are played one after the other on any player.
use Rattle.std.specs.Prelude.{◌↔◌, ◌⊎◌}
use Rattle.std.proofs.Common.{◌≡◌, All, ℕ, zero, suc, ◌+◌, ◌*◌, ◌^◌, ◌<◌, ◌≤◌, Bool, IsTrue, List, [], ◌∷◌, ◌++◌, Some, Result, Ok, Err, IfOk, OnOk, length, map, take, drop, get_or, subst, refl, sym, ap, ◌∙◌, inl, inr, append_assoc, arith}
use Rattle.std.proofs.lemmas.List.{append-nil, length-replicate, take_more, take-append-drop}
use Rattle.gp_ploam.specs.declared.check.Mask.{Mask}
use Rattle.gp_ranging.specs.declared.grant.Grant.{Grant}
use Rattle.gp_machine.specs.declared.config.PortConfig.{PortConfig}
use Rattle.gp_machine.specs.declared.entry.Entry.{Entry}
use Rattle.gp_machine.specs.declared.entry.Receipt.{Receipt}
use Rattle.gp_fibre.specs.Schedule.{WorldState}
use Rattle.gp_script.specs.declared.script.ScriptEvent.{ScriptEvent}
use Rattle.gp_script.specs.declared.script.ScriptEvent.TheVariants as events
use Rattle.gp_script.specs.Lose.{LossesView}
use Rattle.gp_script.specs.Playable.{IsPlayable}
use Rattle.gp_script.specs.Script.{ScriptView}
use Rattle.gp_script.specs.View.{NamesOneOf}
use Rattle.gp_stream.specs.Sink.{SinkState}
use Rattle.gp_trace.specs.Text.{trace_text}
use Rattle.gp_replay.specs.declared.fault.PlayFault.{PlayFault}
use Rattle.gp_replay.specs.declared.fault.PlayFault.TheVariants as faults
use Rattle.gp_replay.specs.declared.turn.Turn.{Turn}
use Rattle.gp_replay.specs.Chassis.{HasRoom, PlayState}
use Rattle.gp_replay.specs.Opening.{OpensFibre}
use Rattle.gp_replay.specs.Play.{TakesAllTurns, TakesSomeTurns, TakesTurns, all_turns, frame_turn, turns_of}
use Rattle.gp_replay.specs.Playing.{HasGrant, HasRoomFor, Keeps, Loses, LossyPlay, MakesGrant, Playing, PlaysAll, PlaysSome, TellsEntries, chassis_playing, count_of, fibre_playing}
use Rattle.gp_replay.specs.WorldPlay.{MakesFrames, WorldTakes, WorldTakesAll, opening_fibre, receipts_from}
use Rattle.gp_replay.specs.WorldWriting.{FibrePlay, HasFibreRoom, Numbered, WorldHappening, WorldTakesPart, WorldTakesPrefix}
use Rattle.gp_replay.specs.Writing.{HandsIn, Happening, PlaysOn, Writes}
use Rattle.gp_replay.proofs.PlayLemmas.{Joins}
use Rattle.gp_replay.proofs.RoomLemmas.{room_for_fewer, room_left}
use Rattle.gp_replay.proofs.RunLemmas.{no_turns, turns_append}
use Rattle.gp_replay.proofs.TurnLemmas.{takes_all}
use Rattle.gp_replay.proofs.WorldLemmas.{WorldJoins, all_are_prefix, numbered_as, numbered_join, numbered_none, part_joins}
use Rattle.gp_replay.proofs.WorldPlayLemmas.{names_one, opening_units}
use Rattle.gp_replay.proofs.WorldRoomLemmas.{room_after_event, units_after_event}
use Rattle.gp_replay.proofs.WorldRoomLemmas.{room_for_fewer as fewer_frames}

-- ---- what happens

pub all_append : {S : Type 0} (p : Playing S) (us vs : List ScriptEvent) → Joins (PlaysAll p us) (PlaysAll p vs) (PlaysAll p (us ++ vs))
all_append p [] vs a b c rs ss h k = subst (λ (l : List Receipt). PlaysAll p vs a (l ++ ss) c) (sym h.1) (subst (λ s. PlaysAll p vs s ss c) h.0 k)
all_append p (u ∷ us) vs a b c rs ss h k = (
  h.0,
  h.1,
  h.2 ++ ss,
  h.3,
  all_append p us vs h.0 b c h.2 ss h.4 k,
  ap (λ (l : List Receipt). l ++ ss) h.5 ∙ append_assoc h.1 h.2 ss,
)

pub all_one : {S : Type 0} (p : Playing S) (e : ScriptEvent) (a b : S) (rs : List Receipt) → p.whole e a rs b → PlaysAll p (e ∷ []) a rs b
all_one p e a b rs h = (b, rs, [], h, (refl, refl), sym (append-nil rs))

-- one event more
pub all_more : {S : Type 0} (p : Playing S) (es : List ScriptEvent) (i : ℕ) (d : ScriptEvent) → i < length es
    → Joins (PlaysAll p (take i es)) (p.whole (get_or es i d)) (PlaysAll p (take (i + 1) es))
all_more p es i d h a b c rs ss x y =
    subst (λ (l : List ScriptEvent). PlaysAll p l a (rs ++ ss) c) (sym (take_more es i d h))
    (all_append p (take i es) (get_or es i d ∷ []) a b c rs ss x (all_one p (get_or es i d) b c ss y))

some_after : {S : Type 0} (p : Playing S) (us : List ScriptEvent) (e : ScriptEvent) (vs : List ScriptEvent)
    → Joins (PlaysAll p us) (p.part e) (PlaysSome p (us ++ e ∷ vs))
some_after p [] e vs a b c rs ss h k =
    inl (subst (λ (l : List Receipt). p.part e a (l ++ ss) c) (sym h.1) (subst (λ s. p.part e s ss c) h.0 k))
some_after p (u ∷ us) e vs a b c rs ss h k = inr (
  h.0,
  h.1,
  h.2 ++ ss,
  h.3,
  some_after p us e vs h.0 b c h.2 ss h.4 k,
  ap (λ (l : List Receipt). l ++ ss) h.5 ∙ append_assoc h.1 h.2 ss,
)

split_at : (es : List ScriptEvent) (i : ℕ) (d : ScriptEvent) → i < length es → es ≡ take i es ++ get_or es i d ∷ drop (i + 1) es
split_at es i d h =
    sym (take-append-drop (i + 1) es) ∙ ap (λ (l : List ScriptEvent). l ++ drop (i + 1) es) (take_more es i d h)
    ∙ append_assoc (take i es) (get_or es i d ∷ []) (drop (i + 1) es)

-- events, and the next one in part
pub some_more : {S : Type 0} (p : Playing S) (es : List ScriptEvent) (i : ℕ) (d : ScriptEvent) → i < length es
    → Joins (PlaysAll p (take i es)) (p.part (get_or es i d)) (PlaysSome p es)
some_more p es i d h a b c rs ss x y =
    subst (λ (l : List ScriptEvent). PlaysSome p l a (rs ++ ss) c) (sym (split_at es i d h))
    (some_after p (take i es) (get_or es i d) (drop (i + 1) es) a b c rs ss x y)

-- all events are some of them
pub all_some : {S : Type 0} (p : Playing S) (es : List ScriptEvent) (a b : S) (rs : List Receipt) → PlaysAll p es a rs b → PlaysSome p es a rs b
all_some p [] a b rs h = h
all_some p (e ∷ es) a b rs h = inr (h.0, h.1, h.2, h.3, all_some p es h.0 b h.2 h.4, h.5)

-- ---- room

pub keeps_none : {S : Type 0} (p : Playing S) (a : S) → Keeps p (0 * 2 ^ 32) a a
keeps_none p a = record { ports = refl; units = refl; room = λ more r. (r.0, omega (arith, r.1), r.2) }

pub keeps_on : {S : Type 0} (p : Playing S) (few step many : ℕ) (a b c : S) → few + step ≤ many → Keeps p few a b → Keeps p step b c → Keeps p many a c
keeps_on p few step many a b c le h k = record {
  ports = k.ports ∙ h.ports;
  units = k.units ∙ h.units;
  room = λ more r. k.room more (h.room (step + more) (r.0, omega (arith, r.1, le), r.2));
}

-- the room that is left
pub room_now : {S : Type 0} (p : Playing S) (done few total : ℕ) (a b : S) → Keeps p done a b → HasRoomFor p total a → done + few ≤ total → HasRoomFor p few b
room_now p done few total a b k r le = k.room few (r.0, omega (arith, r.1, le), r.2)

-- ---- a chassis

-- so many turns are no more than are counted
turns_few : (event : ScriptEvent) → length (turns_of event) ≤ count_of event
turns_few (events.Frames port count) = omega (arith, length-replicate count (frame_turn port))
turns_few (events.Burst port at bytes) = omega arith
turns_few (events.Command port command) = omega arith
turns_few (events.Light unit lit) = omega arith

pub chassis_keeps : (event : ScriptEvent) (old new : PlayState) (rs : List Receipt) → length new.next ≡ length old.next → TakesTurns old (turns_of event) rs new
    → Keeps chassis_playing (count_of event) old new
chassis_keeps event old new rs ports taken = record {
  ports = ports;
  units = refl;
  room = λ more r. (more, omega arith, room_left more r.0 old new (turns_of event) rs taken (let few = turns_few event in omega (arith, r.1, few)) r.2);
}

pub chassis_room : (count : ℕ) (play : PlayState) → HasRoomFor chassis_playing count play → HasRoom count play
chassis_room count play r = room_for_fewer count r.0 play r.1 r.2

-- what is played of a script on a chassis is its turns
pub chassis_all : (es : List ScriptEvent) (a b : PlayState) (rs : List Receipt) → PlaysAll chassis_playing es a rs b → TakesTurns a (all_turns es) rs b
chassis_all [] a b rs h = subst (λ (l : List Receipt). TakesTurns a [] l b) (sym h.1) (subst (λ s. TakesTurns a [] [] s) (sym h.0) (no_turns a))
chassis_all (e ∷ es) a b rs h =
    subst (λ (l : List Receipt). TakesTurns a (turns_of e ++ all_turns es) l b) (sym h.5)
    (turns_append a h.0 b (turns_of e) (all_turns es) h.1 h.2 h.3 (chassis_all es h.0 b h.2 h.4))

pub chassis_some : (es : List ScriptEvent) (a b : PlayState) (rs : List Receipt) → PlaysSome chassis_playing es a rs b → TakesSomeTurns (all_turns es) a rs b
chassis_some [] a b rs h = takes_all [] a b rs (chassis_all [] a b rs h)
chassis_some (e ∷ es) a b rs (inl part) = record {
  done = part.done;
  left = part.left ++ all_turns es;
  split = ap (λ (l : List Turn). l ++ all_turns es) part.split ∙ append_assoc part.done part.left (all_turns es);
  taken = part.taken;
}
chassis_some (e ∷ es) a b rs (inr h) =
    let rest = chassis_some es h.0 b h.2 h.4 in
    subst (λ (l : List Receipt). TakesSomeTurns (turns_of e ++ all_turns es) a l b) (sym h.5) (record {
      done = turns_of e ++ rest.done;
      left = rest.left;
      split = ap (λ (l : List Turn). turns_of e ++ l) rest.split ∙ sym (append_assoc (turns_of e) rest.done rest.left);
      taken = turns_append a h.0 b (turns_of e) rest.done h.1 h.2 h.3 rest.taken;
    })

pub chassis_keeps_on : {W T : Type 0} (mask : Mask) (event : ScriptEvent) (P : Happening PlayState) (old new : PlayState) (x y : SinkState W)
    (r : Result T PlayFault) → length new.next ≡ length old.next → PlaysOn mask (TakesAllTurns (turns_of event)) P old new x y r
    → OnOk r (Keeps chassis_playing (count_of event) old new)
chassis_keeps_on mask event P old new x y (Ok v) ports p = chassis_keeps event old new p.ok.receipts ports p.ok.happened
chassis_keeps_on mask event P old new x y (Err e) ports p = tt

-- one entry makes the grant, where it is the only one
pub one_grants : (grant : Grant) (entry : Entry) (made : Bool) → IsTrue made ↔ (entry.answer.grant ≡ Some grant) → IsTrue made ↔ HasGrant grant (entry ∷ [])
one_grants grant entry made h = (λ t. inl (h.0 t), λ w. elim w [ inl is ↦ h.1 is | inr none ↦ absurd none ])

-- whether the grant is made in what happens is told by its entries
pub makes_told : {S W : Type 0} (mask : Mask) (grant : Grant) (entries : List Entry) (made : Bool) (happens : Happening S) (old new : S) (x y : SinkState W)
    → IsTrue made ↔ HasGrant grant entries → Writes mask (TellsEntries entries happens) old new x y → Writes mask (MakesGrant grant made happens) old new x y
makes_told mask grant entries made happens old new x y h w = record {
  receipts = w.receipts;
  happened = record {
    happened = w.happened.0;
    told = subst (λ (l : List Entry). IsTrue made ↔ HasGrant grant l) (sym w.happened.1) h;
  };
  lines = w.lines;
}

-- an entry that makes the grant is one of them
pub grant_at : (grant : Grant) (es : List Entry) (i : ℕ) (d : Entry) → i < length es → (get_or es i d).answer.grant ≡ Some grant → HasGrant grant es
grant_at grant [] i d h is = absurd (omega (arith, h))
grant_at grant (e ∷ es) zero d h is = inl is
grant_at grant (e ∷ es) (suc i) d h is = inr (grant_at grant es i d (omega (arith, h)) is)

grant_of_parts : (grant : Grant) (es fs : List Entry) → HasGrant grant (es ++ fs) → HasGrant grant es ⊎ HasGrant grant fs
grant_of_parts grant [] fs h = inr h
grant_of_parts grant (e ∷ es) fs (inl is) = inl (inl is)
grant_of_parts grant (e ∷ es) fs (inr more) = elim (grant_of_parts grant es fs more) [ inl first ↦ inl (inr first) | inr rest ↦ inr rest ]

-- where none of the first entries makes it, and the next does not
pub no_grant_more : (grant : Grant) (es : List Entry) (i : ℕ) (d : Entry) → i < length es → (HasGrant grant (take i es) → ⊥)
    → ((get_or es i d).answer.grant ≡ Some grant → ⊥) → HasGrant grant (take (i + 1) es) → ⊥
no_grant_more grant es i d h none next has =
    elim (grant_of_parts grant (take i es) (get_or es i d ∷ []) (subst (HasGrant grant) (take_more es i d h) has)) [
      | inl first ↦ none first
      | inr (inl is) ↦ next is
      | inr (inr more) ↦ more
    ]

-- ---- what one player does, seen as what another does

pub plays_as : {S U W A : Type 0} (mask : Mask) (T P : Happening S) (V Q : Happening U) (a b : S) (c d : U) (x y : SinkState W) (r : Result A PlayFault)
    → ((rs : List Receipt) → T a rs b → V c rs d) → ((rs : List Receipt) (end : S) → P a rs end → (last : U) × Q c rs last)
    → PlaysOn mask T P a b x y r → PlaysOn mask V Q c d x y r
plays_as mask T P V Q a b c d x y (Ok v) whole part p = record {
  ok = record { receipts = p.ok.receipts; happened = whole p.ok.receipts p.ok.happened; lines = p.ok.lines };
  fault = tt;
  stopped = p.stopped;
  refused = p.refused;
  flushed = p.flushed;
}
plays_as mask T P V Q a b c d x y (Err faults.OutOfMemory) whole part p =
    let w = p.fault.1 in
    let last = part w.receipts p.fault.0 w.happened in record {
      ok = tt;
      fault = (last.0, record { receipts = w.receipts; happened = last.1; lines = w.lines });
      stopped = p.stopped;
      refused = p.refused;
      flushed = p.flushed;
    }
plays_as mask T P V Q a b c d x y (Err faults.Write) whole part p =
    let w = p.fault in
    let last = part w.receipts w.end w.happened in record {
      ok = tt;
      fault = record { receipts = w.receipts; end = last.0; happened = last.1; lines = w.lines };
      stopped = p.stopped;
      refused = p.refused;
      flushed = p.flushed;
    }

-- ---- a fibre

-- what happens to its play happens to it, and what is lost stays
pub loses : {W A : Type 0} (mask : Mask) (T P : LossesView → Happening FibrePlay) (losses : LossesView) (old new : FibrePlay) (x y : SinkState W) (r : Result A PlayFault)
    → PlaysOn mask (T losses) (P losses) old new x y r
    → PlaysOn mask (Loses T) (Loses P) (record { play = old; losses = losses }) (record { play = new; losses = losses }) x y r
loses mask T P losses old new x y r p =
    plays_as mask (T losses) (P losses) (Loses T) (Loses P) old new (record { play = old; losses = losses }) (record { play = new; losses = losses }) x y r
    (λ rs h. record { happened = h; losses = refl }) (λ rs end h. (record { play = end; losses = losses }, record { happened = h; losses = refl })) p

pub loses_made : {W E : Type 0} (mask : Mask) (grant : Grant) (T : LossesView → Happening FibrePlay) (losses : LossesView) (old new : FibrePlay) (x y : SinkState W)
    (r : Result Bool E) → IfOk r (λ made. Writes mask (MakesGrant grant made (T losses)) old new x y)
    → IfOk r (λ made. Writes mask (MakesGrant grant made (Loses T)) (record { play = old; losses = losses }) (record { play = new; losses = losses }) x y)
loses_made mask grant T losses old new x y (Ok made) w = record {
  receipts = w.receipts;
  happened = record { happened = record { happened = w.happened.happened; losses = refl }; told = w.happened.told };
  lines = w.lines;
}
loses_made mask grant T losses old new x y (Err e) w = tt

pub fibre_keeps : (event : ScriptEvent) (old new : LossyPlay) (rs : List Receipt) → Loses (λ losses. Numbered (WorldTakes losses event)) old rs new
    → Keeps fibre_playing (count_of event) old new
fibre_keeps event old new rs t = record {
  ports = refl;
  units = units_after_event old.losses event old.play new.play rs t.happened;
  room = λ more r. (more, omega arith, room_after_event old.losses event r.0 more old.play new.play rs t.happened r.1 r.2);
}

pub fibre_keeps_on : {W T : Type 0} (mask : Mask) (event : ScriptEvent) (P : Happening FibrePlay) (losses : LossesView) (old new : FibrePlay) (x y : SinkState W)
    (r : Result T PlayFault) → PlaysOn mask (Numbered (WorldTakes losses event)) P old new x y r
    → OnOk r (Keeps fibre_playing (count_of event) (record { play = old; losses = losses }) (record { play = new; losses = losses }))
fibre_keeps_on mask event P losses old new x y (Ok v) p =
    fibre_keeps event (record { play = old; losses = losses }) (record { play = new; losses = losses }) p.ok.receipts (record { happened = p.ok.happened; losses = refl })
fibre_keeps_on mask event P losses old new x y (Err e) p = tt

pub fibre_room : (count : ℕ) (lossy : LossyPlay) → HasRoomFor fibre_playing count lossy → HasFibreRoom count lossy.play
fibre_room count lossy r = fewer_frames count r.0 lossy.play r.1 r.2

-- the entries of receipts that are numbered from some number on
numbered_entries : (n : ℕ) (es : List Entry) → map (λ (r : Receipt). r.entry) (receipts_from n es) ≡ es
numbered_entries n [] = refl
numbered_entries n (e ∷ es) = ap (λ (l : List Entry). e ∷ l) (numbered_entries (n + 1) es)

pub frames_told : {W T E : Type 0} (mask : Mask) (entries : List Entry) (happens : WorldHappening) (old new : FibrePlay) (n : ℕ) (x y : SinkState W) (v : T)
    → Numbered happens old (receipts_from n entries) new → HandsIn {T = T} {E = E} x y (trace_text mask (receipts_from n entries)) (Ok v)
    → Writes mask (TellsEntries entries (Numbered happens)) old new x y
frames_told mask entries happens old new n x y v numbered w =
    record { receipts = receipts_from n entries; happened = (numbered, numbered_entries n entries); lines = w.ok }

-- what is played of a script on a fibre
pub fibre_all : (es : List ScriptEvent) (a b : LossyPlay) (rs : List Receipt) → PlaysAll fibre_playing es a rs b
    → Loses (λ losses. Numbered (WorldTakesAll losses es)) a rs b
fibre_all [] a b rs h = record {
  happened = subst (λ (l : List Receipt). Numbered (WorldTakesAll a.losses []) a.play l b.play) (sym h.1)
      (subst (λ (s : LossyPlay). Numbered (WorldTakesAll a.losses []) a.play [] s.play) (sym h.0) (numbered_none (WorldTakesAll a.losses []) a.play (λ w. (refl, refl))));
  losses = ap (λ (s : LossyPlay). s.losses) h.0;
}
fibre_all (e ∷ es) a b rs h =
    let rest = fibre_all es h.0 b h.2 h.4 in
    let same : h.0.losses ≡ a.losses = h.3.losses in
    let next : Numbered (WorldTakesAll a.losses es) h.0.play h.2 b.play = subst (λ (l : LossesView). Numbered (WorldTakesAll l es) h.0.play h.2 b.play) same rest.happened in
    record {
      happened = subst (λ (l : List Receipt). Numbered (WorldTakesAll a.losses (e ∷ es)) a.play l b.play) (sym h.5)
          (numbered_join (WorldTakes a.losses e) (WorldTakesAll a.losses es) (WorldTakesAll a.losses (e ∷ es)) (λ u v w xs ys p q. (v, xs, ys, p, q, refl))
          a.play h.0.play b.play h.1 h.2 h.3.happened next);
      losses = rest.losses ∙ same;
    }

prefix_of_event : (losses : LossesView) (e : ScriptEvent) (es : List ScriptEvent) (a b : WorldState) (xs : List Entry) → WorldTakesPart losses e a xs b
    → WorldTakesPrefix losses (e ∷ es) a xs b
prefix_of_event losses e es a b xs t = part_joins losses (e ∷ es) [] es e refl a a b [] xs (refl, refl) t

more_stops : (e : ScriptEvent) (whole left done : List ScriptEvent) → (done ≡ whole) ⊎ MakesFrames whole left done
    → (e ∷ done ≡ e ∷ whole) ⊎ MakesFrames (e ∷ whole) left (e ∷ done)
more_stops e whole left done (inl same) = inl (ap (λ (l : List ScriptEvent). e ∷ l) same)
more_stops e whole left done (inr m) = inr (record {
  port = m.port;
  count = m.count;
  made = m.made;
  more = m.more;
  next = m.next;
  some = m.some;
  done_is = ap (λ (l : List ScriptEvent). e ∷ l) m.done_is;
})

prefix_joins : (losses : LossesView) (e : ScriptEvent) (es : List ScriptEvent)
    → WorldJoins (WorldTakes losses e) (WorldTakesPrefix losses es) (WorldTakesPrefix losses (e ∷ es))
prefix_joins losses e es a b c xs ys p q = (
  e ∷ q.0,
  record {
    whole = e ∷ q.1.whole;
    left = q.1.left;
    split = ap (λ (l : List ScriptEvent). e ∷ l) q.1.split;
    stops = more_stops e q.1.whole q.1.left q.0 q.1.stops;
  },
  (b, xs, ys, p, q.2, refl),
)

pub fibre_some : (es : List ScriptEvent) (a b : LossyPlay) (rs : List Receipt) → PlaysSome fibre_playing es a rs b
    → Loses (λ losses. Numbered (WorldTakesPrefix losses es)) a rs b
fibre_some [] a b rs h =
    let all = fibre_all [] a b rs h in record {
      happened = numbered_as (WorldTakesAll a.losses []) (WorldTakesPrefix a.losses []) (λ u v xs t. all_are_prefix a.losses [] u v xs t) a.play b.play rs all.happened;
      losses = all.losses;
    }
fibre_some (e ∷ es) a b rs (inl part) = record {
  happened = numbered_as (WorldTakesPart a.losses e) (WorldTakesPrefix a.losses (e ∷ es)) (λ u v xs t. prefix_of_event a.losses e es u v xs t) a.play b.play rs part.happened;
  losses = part.losses;
}
fibre_some (e ∷ es) a b rs (inr h) =
    let rest = fibre_some es h.0 b h.2 h.4 in
    let same : h.0.losses ≡ a.losses = h.3.losses in
    let next : Numbered (WorldTakesPrefix a.losses es) h.0.play h.2 b.play = subst (λ (l : LossesView). Numbered (WorldTakesPrefix l es) h.0.play h.2 b.play) same rest.happened in
    record {
      happened = subst (λ (l : List Receipt). Numbered (WorldTakesPrefix a.losses (e ∷ es)) a.play l b.play) (sym h.5)
          (numbered_join (WorldTakes a.losses e) (WorldTakesPrefix a.losses es) (WorldTakesPrefix a.losses (e ∷ es)) (prefix_joins a.losses e es)
          a.play h.0.play b.play h.1 h.2 h.3.happened next);
      losses = rest.losses ∙ same;
    }

-- ---- room on a fibre

-- on a fibre that has just begun no frame was made and no entry has a number
pub opening_fibre_room : (count : ℕ) (script : ScriptView) (config : PortConfig) (play : FibrePlay) → length script.units ≤ 1024 → count ≤ 2 ^ 52 + 2 ^ 51
    → play.world ≡ opening_fibre script config → play.next ≡ 0 → HasFibreRoom count play
opening_fibre_room count script config play few within world next =
    let frames : play.world.frames ≡ 0 = ap (λ (w : WorldState). w.frames) world in
    let flights : length play.world.flights ≡ 0 = ap (λ (w : WorldState). length w.flights) world in
    let units : length play.world.fibre.units ≡ length script.units = ap (λ (w : WorldState). length w.fibre.units) world ∙ opening_units script config in
    record { frames = omega arith; numbers = omega arith; few = omega arith }

-- ---- the fibre that a script opens

-- its events name what is there
pub fibre_names : (script : ScriptView) (start : LossyPlay) → IsPlayable script → 0 < length script.units → OpensFibre script start
    → All (NamesOneOf 1 (length start.play.world.fibre.units)) script.events
fibre_names script start playable some o =
    names_one script 1 (length start.play.world.fibre.units) playable (playable.one_fibre some)
    (ap (λ (w : WorldState). length w.fibre.units) o.world ∙ opening_units script o.config)

-- and there is room
pub opened_fibre_room : (count : ℕ) (script : ScriptView) (start : LossyPlay) → length script.units ≤ 1024 → count ≤ 2 ^ 52 + 2 ^ 51 → OpensFibre script start
    → HasFibreRoom count start.play
opened_fibre_room count script start few within o = opening_fibre_room count script o.config start.play few within o.world o.next
