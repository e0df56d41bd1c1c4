-- What a whole drive comes to.
use Rattle.std.proofs.Common.{◌≡◌, ◌+◌, ℕ, Bool, true, false, List, [], ◌∷◌, ◌++◌, Result, Ok, Err, Option, None, Some, refl, sym, ap, subst, ◌∙◌, append_assoc}
use Rattle.std.proofs.lemmas.List.{append-nil}
use Rattle.gp_ploam.specs.declared.check.Mask.{Mask}
use Rattle.gp_machine.specs.declared.entry.Receipt.{Receipt}
use Rattle.gp_onu.specs.declared.status.UnitStatus.{UnitStatus}
use Rattle.gp_script.specs.declared.script.ScriptEvent.{ScriptEvent}
use Rattle.gp_script.specs.declared.script.ScriptEvent.TheVariants as events
use Rattle.gp_script.specs.Lose.{LossesView}
use Rattle.gp_trace.specs.Text.{trace_text}
use Rattle.gp_lines.specs.declared.fault.LineFault.{LineFault}
use Rattle.gp_lines.specs.declared.turn.Asked.{Asked}
use Rattle.gp_lines.specs.declared.turn.Asked.TheVariants as asked
use Rattle.gp_lines.specs.TurnReading.{turn_of}
use Rattle.gp_flow.specs.Lines.{DoesAll}
use Rattle.gp_replay.specs.Chassis.{opening_play}
use Rattle.gp_replay.specs.Laws.{EachPortRuns}
use Rattle.gp_replay.specs.Lights.{light_if, light_line}
use Rattle.gp_replay.specs.Playing.{Playing, PlaysAll, chassis_playing, fibre_playing}
use Rattle.gp_replay.specs.WorldPlay.{WorldTakesAll}
use Rattle.gp_replay.specs.WorldWriting.{Numbered}
use Rattle.gp_replay.proofs.PlayingLemmas.{all_append, all_one, chassis_all, fibre_all}
use Rattle.gp_replay.proofs.ScriptPlayLemmas.{chassis_stands}
use Rattle.gp_replay.proofs.WorldPlayLemmas.{world_stands}
use Rattle.gp_drive.specs.declared.fault.TurnFault.{TurnFault}
use Rattle.gp_drive.specs.Drive.{AnswersAsked, AnswersTurn, DriveState, Plays, Refuses, Says, begun_in, done_if, done_line, driving, ending, error_line}
use Rattle.gp_drive.specs.Runs.{ChassisDrivesRun, FibreDrivesRun, LineAnswer, Entries, UnitLine, LightLine, ErrorLine, DoneLine, answer_text, answers_text, entries_in, entries_of, followed_by}
use Rattle.gp_drive.specs.Shown.{shown_of, unit_line, unit_line_if}
use Rattle.gp_drive.specs.Turns.{FramesPlayed, PlaysInVain, PlaysTo, PlaysTurn, PlaysUntil, PlaysWithout, all_of, event_of}
use Rattle.gp_ranging.specs.declared.grant.Grant.{Grant}

-- ---- what a line asks for, as events

-- some events are played
record SomePlay {S : Type 0} (playing : Playing S) (old : S) (receipts : List Receipt) (new : S) : Type 0 where
  more : List ScriptEvent
  played : PlaysAll playing more old receipts new

frames_play : {S : Type 0} (playing : Playing S) (port : ℕ) (old new : S) (frames : List (List Receipt)) → FramesPlayed playing port old frames new
    → SomePlay playing old (all_of frames) new
frames_play playing port old new [] same = record { more = []; played = (same, refl) }
frames_play playing port old new (first ∷ frames) h =
    let rest = frames_play playing port h.0 new frames h.2 in
    record { more = events.Frames port 1 ∷ rest.more; played = (h.0, first, all_of frames, h.1, rest.played, refl) }

until_plays : {S : Type 0} (playing : Playing S) (port : ℕ) (grant : Grant) (most : ℕ) (old new : S) (receipts : List Receipt)
    → PlaysUntil playing port grant most old receipts new → SomePlay playing old receipts new
until_plays playing port grant most old new receipts h =
    subst (λ (l : List Receipt). SomePlay playing old l new) (sym h.receipts_are) (frames_play playing port old new (h.before ++ h.last ∷ []) h.played)

vain_plays : {S : Type 0} (playing : Playing S) (port : ℕ) (grant : Grant) (most : ℕ) (old new : S) (receipts : List Receipt)
    → PlaysInVain playing port grant most old receipts new → SomePlay playing old receipts new
vain_plays playing port grant most old new receipts h =
    subst (λ (l : List Receipt). SomePlay playing old l new) (sym h.receipts_are) (frames_play playing port old new h.frames h.played)

one_plays : {S : Type 0} (playing : Playing S) (event : ScriptEvent) (old new : S) (receipts : List Receipt) → playing.whole event old receipts new
    → SomePlay playing old receipts new
one_plays playing event old new receipts h = record { more = event ∷ []; played = all_one playing event old new receipts h }

turn_plays : {S : Type 0} (playing : Playing S) (turn : Asked) (old new : S) (receipts : List Receipt) → PlaysTurn playing turn old receipts new
    → SomePlay playing old receipts new
turn_plays playing asked.Nothing old new receipts h = record { more = []; played = h }
turn_plays playing (asked.Event port event) old new receipts h = one_plays playing (event_of port event) old new receipts h
turn_plays playing (asked.Frames port count) old new receipts h = one_plays playing (events.Frames port count) old new receipts h
turn_plays playing (asked.Until port grant most) old new receipts h = until_plays playing port grant most old new receipts h
turn_plays playing (asked.Light unit lit) old new receipts h = one_plays playing (events.Light unit lit) old new receipts h
turn_plays playing (asked.ShowUnit unit) old new receipts h = record { more = []; played = h }

without_plays : {S : Type 0} (playing : Playing S) (turn : Asked) (old new : S) (receipts : List Receipt) → PlaysWithout playing turn old receipts new
    → SomePlay playing old receipts new
without_plays playing asked.Nothing old new receipts h = absurd h
without_plays playing (asked.Event port event) old new receipts h = absurd h
without_plays playing (asked.Frames port count) old new receipts h = absurd h
without_plays playing (asked.Until port grant most) old new receipts h = vain_plays playing port grant most old new receipts h
without_plays playing (asked.Light unit lit) old new receipts h = absurd h
without_plays playing (asked.ShowUnit unit) old new receipts h = absurd h

told_plays : {S : Type 0} (playing : Playing S) (turn : Asked) (fault : Option TurnFault) (old new : S) (receipts : List Receipt) → PlaysTo playing turn fault old receipts new
    → SomePlay playing old receipts new
told_plays playing turn None old new receipts h = turn_plays playing turn old new receipts h
told_plays playing turn (Some fault) old new receipts h = without_plays playing turn old new receipts h.1

-- ---- parts of answers

answers_joined : (mask : Mask) (xs ys : List LineAnswer) → answers_text mask (xs ++ ys) ≡ answers_text mask xs ++ answers_text mask ys
answers_joined mask [] ys = refl
answers_joined mask (x ∷ xs) ys =
    ap (λ (l : List ℕ). answer_text mask x ++ l) (answers_joined mask xs ys) ∙ sym (append_assoc (answer_text mask x) (answers_text mask xs) (answers_text mask ys))

entries_joined : (xs ys : List LineAnswer) → entries_of (xs ++ ys) ≡ entries_of xs ++ entries_of ys
entries_joined [] ys = refl
entries_joined (x ∷ xs) ys =
    ap (λ (l : List Receipt). entries_in x ++ l) (entries_joined xs ys) ∙ sym (append_assoc (entries_in x) (entries_of xs) (entries_of ys))

-- what ends an answer
abbrev done_parts : Bool → ℕ → List LineAnswer
done_parts false line = []
done_parts true line = DoneLine line ∷ []

abbrev ending_parts : Bool → ℕ → Option TurnFault → List LineAnswer
ending_parts done line None = done_parts done line
ending_parts done line (Some fault) = ErrorLine (error_line line fault) ∷ done_parts done line

done_text : (mask : Mask) (done : Bool) (line : ℕ) → done_if done line ≡ answers_text mask (done_parts done line)
done_text mask false line = refl
done_text mask true line = sym (append-nil (done_line line))

ending_text : (mask : Mask) (done : Bool) (line : ℕ) (fault : Option TurnFault) → ending done line fault ≡ answers_text mask (ending_parts done line fault)
ending_text mask done line None = done_text mask done line
ending_text mask done line (Some fault) = ap (λ (l : List ℕ). error_line line fault ++ l) (done_text mask done line)

done_entries : (done : Bool) (line : ℕ) → entries_of (done_parts done line) ≡ []
done_entries false line = refl
done_entries true line = refl

ending_entries : (done : Bool) (line : ℕ) (fault : Option TurnFault) → entries_of (ending_parts done line fault) ≡ []
ending_entries done line None = done_entries done line
ending_entries done line (Some fault) = done_entries done line

-- what is told of a unit
abbrev unit_parts : ℕ → Option UnitStatus → List LineAnswer
unit_parts unit None = []
unit_parts unit (Some status) = UnitLine unit status ∷ []

-- what is told of light
abbrev light_parts : Bool → ℕ → Bool → List LineAnswer
light_parts false unit lit = []
light_parts true unit lit = LightLine unit lit ∷ []

abbrev shown_parts : {S : Type 0} → Bool → Playing S → Asked → S → List LineAnswer
shown_parts lights playing asked.Nothing state = []
shown_parts lights playing (asked.Event port event) state = []
shown_parts lights playing (asked.Frames port count) state = []
shown_parts lights playing (asked.Until port grant most) state = []
shown_parts lights playing (asked.Light unit lit) state = light_parts lights unit lit
shown_parts lights playing (asked.ShowUnit unit) state = unit_parts unit (playing.status state unit)

unit_text : (mask : Mask) (unit : ℕ) (status : Option UnitStatus) → unit_line_if unit status ≡ answers_text mask (unit_parts unit status)
unit_text mask unit None = refl
unit_text mask unit (Some status) = sym (append-nil (unit_line unit status))

light_text : (mask : Mask) (lights : Bool) (unit : ℕ) (lit : Bool) → light_if lights unit lit ≡ answers_text mask (light_parts lights unit lit)
light_text mask false unit lit = refl
light_text mask true unit lit = sym (append-nil (light_line unit lit))

shown_text : {S : Type 0} (mask : Mask) (lights : Bool) (playing : Playing S) (turn : Asked) (state : S)
    → shown_of lights playing turn state ≡ answers_text mask (shown_parts lights playing turn state)
shown_text mask lights playing asked.Nothing state = refl
shown_text mask lights playing (asked.Event port event) state = refl
shown_text mask lights playing (asked.Frames port count) state = refl
shown_text mask lights playing (asked.Until port grant most) state = refl
shown_text mask lights playing (asked.Light unit lit) state = light_text mask lights unit lit
shown_text mask lights playing (asked.ShowUnit unit) state = unit_text mask unit (playing.status state unit)

unit_entries : (unit : ℕ) (status : Option UnitStatus) → entries_of (unit_parts unit status) ≡ []
unit_entries unit None = refl
unit_entries unit (Some status) = refl

light_entries : (lights : Bool) (unit : ℕ) (lit : Bool) → entries_of (light_parts lights unit lit) ≡ []
light_entries false unit lit = refl
light_entries true unit lit = refl

shown_entries : {S : Type 0} (lights : Bool) (playing : Playing S) (turn : Asked) (state : S) → entries_of (shown_parts lights playing turn state) ≡ []
shown_entries lights playing asked.Nothing state = refl
shown_entries lights playing (asked.Event port event) state = refl
shown_entries lights playing (asked.Frames port count) state = refl
shown_entries lights playing (asked.Until port grant most) state = refl
shown_entries lights playing (asked.Light unit lit) state = light_entries lights unit lit
shown_entries lights playing (asked.ShowUnit unit) state = unit_entries unit (playing.status state unit)

-- what stands behind the lines of entries
abbrev behind_parts : {S : Type 0} → Bool → Playing S → Asked → S → Bool → ℕ → Option TurnFault → List LineAnswer
behind_parts lights playing turn state done line fault = shown_parts lights playing turn state ++ ending_parts done line fault

behind_text : {S : Type 0} (mask : Mask) (lights : Bool) (playing : Playing S) (turn : Asked) (state : S) (done : Bool) (line : ℕ) (fault : Option TurnFault)
    → shown_of lights playing turn state ++ ending done line fault ≡ answers_text mask (behind_parts lights playing turn state done line fault)
behind_text mask lights playing turn state done line fault =
    ap (λ (l : List ℕ). l ++ ending done line fault) (shown_text mask lights playing turn state)
    ∙ ap (λ (l : List ℕ). answers_text mask (shown_parts lights playing turn state) ++ l) (ending_text mask done line fault)
    ∙ sym (answers_joined mask (shown_parts lights playing turn state) (ending_parts done line fault))

behind_entries : {S : Type 0} (lights : Bool) (playing : Playing S) (turn : Asked) (state : S) (done : Bool) (line : ℕ) (fault : Option TurnFault)
    → entries_of (behind_parts lights playing turn state done line fault) ≡ []
behind_entries lights playing turn state done line fault =
    entries_joined (shown_parts lights playing turn state) (ending_parts done line fault)
    ∙ ap (λ (l : List Receipt). l ++ entries_of (ending_parts done line fault)) (shown_entries lights playing turn state)
    ∙ ending_entries done line fault

-- ---- the answer to a line

-- the answer is of entries that some events make, and errors that change nothing of the player
record IsAnswered {S : Type 0} (playing : Playing S) (old : DriveState S) (said : List ℕ) (new : DriveState S) : Type 0 where
  answers : List LineAnswer
  said_is : said ≡ answers_text old.mask answers
  mask : new.mask ≡ old.mask
  plays : SomePlay playing old.player (entries_of answers) new.player

refused : {S : Type 0} (playing : Playing S) (fault : TurnFault) (old : DriveState S) (said : List ℕ) (new : DriveState S) → Refuses fault old said new
    → IsAnswered playing old said new
refused playing fault old said new h = record {
  answers = ending_parts old.done (old.lines + 1) (Some fault);
  said_is = h.said_is ∙ ending_text old.mask old.done (old.lines + 1) (Some fault);
  mask = ap (λ (d : DriveState _). d.mask) h.new_is;
  plays = record { more = []; played = (ap (λ (d : DriveState _). d.player) h.new_is, ending_entries old.done (old.lines + 1) (Some fault)) };
}

played : {S : Type 0} (playing : Playing S) (turn : Asked) (fault : Option TurnFault) (old : DriveState S) (said : List ℕ) (new : DriveState S) → Plays playing turn fault old said new
    → IsAnswered playing old said new
played playing turn fault old said new h =
    let parts = behind_parts old.lights playing turn new.player old.done (old.lines + 1) fault in
    let all : h.receipts ≡ h.receipts ++ entries_of parts =
    sym (append-nil h.receipts) ∙ ap (λ (l : List Receipt). h.receipts ++ l) (sym (behind_entries old.lights playing turn new.player old.done (old.lines + 1) fault)) in
    record {
      answers = Entries h.receipts ∷ parts;
      said_is = h.said_is ∙ ap (λ (l : List ℕ). trace_text old.mask h.receipts ++ l) (behind_text old.mask old.lights playing turn new.player old.done (old.lines + 1) fault);
      mask = h.mask;
      plays = subst (λ (l : List Receipt). SomePlay playing old.player l new.player) all (told_plays playing turn fault old.player new.player h.receipts h.played);
    }

asked_answered : {S : Type 0} (playing : Playing S) (turn : Asked) (missing : Option TurnFault) (old : DriveState S) (said : List ℕ) (new : DriveState S)
    → AnswersAsked playing turn missing old said new → IsAnswered playing old said new
asked_answered playing turn (Some fault) old said new h = refused playing fault old said new h
asked_answered playing turn None old said new h = played playing turn h.0 old said new h.1

turn_answered : {S : Type 0} (playing : Playing S) (read : Result Asked LineFault) (old : DriveState S) (said : List ℕ) (new : DriveState S)
    → AnswersTurn playing read old said new → IsAnswered playing old said new
turn_answered playing (Err fault) old said new h = refused playing _ old said new h
turn_answered playing (Ok turn) old said new h = asked_answered playing turn _ old said new h

line_answered : {S : Type 0} (playing : Playing S) (line : Option (List ℕ)) (old : DriveState S) (said : List ℕ) (new : DriveState S)
    → Says playing old line said new → IsAnswered playing old said new
line_answered playing None old said new h = refused playing _ old said new h
line_answered playing (Some text) old said new h = turn_answered playing (turn_of old.mask text) old said new h

-- ---- the answers to lines

record AreAnswered {S : Type 0} (playing : Playing S) (old : DriveState S) (said : List ℕ) (new : DriveState S) : Type 0 where
  answers : List LineAnswer
  said_is : said ≡ answers_text old.mask answers
  plays : SomePlay playing old.player (entries_of answers) new.player

lines_answered : {S : Type 0} (playing : Playing S) (lines : List (Option (List ℕ))) (old : DriveState S) (said : List ℕ) (new : DriveState S)
    → DoesAll (driving playing) old lines said new → AreAnswered playing old said new
lines_answered playing [] old said new h = record {
  answers = [];
  said_is = h.0;
  plays = record { more = []; played = (ap (λ (d : DriveState _). d.player) h.1, refl) };
}
lines_answered playing (line ∷ lines) old said new h =
    let one = line_answered playing line old h.0 h.2 h.3 in
    let rest = lines_answered playing lines h.2 h.1 new h.4 in
    let others : h.1 ≡ answers_text old.mask rest.answers = rest.said_is ∙ ap (λ (m : Mask). answers_text m rest.answers) one.mask in
    record {
      answers = one.answers ++ rest.answers;
      said_is = h.5 ∙ ap (λ (l : List ℕ). l ++ h.1) one.said_is ∙ ap (λ (l : List ℕ). answers_text old.mask one.answers ++ l) others
          ∙ sym (answers_joined old.mask one.answers rest.answers);
      plays = subst (λ (l : List Receipt). SomePlay playing old.player l new.player) (sym (entries_joined one.answers rest.answers)) (record {
        more = one.plays.more ++ rest.plays.more;
        played = all_append playing one.plays.more rest.plays.more old.player h.2.player new.player (entries_of one.answers) (entries_of rest.answers)
            one.plays.played rest.plays.played;
      });
    }

-- ---- whole drives

pub chassis_drives : EachPortRuns → ChassisDrivesRun
chassis_drives runs manner script receipts mid lines said end none opened spoken =
    let lines = lines_answered chassis_playing lines (begun_in manner mid script.mask) said end spoken in
    let more = lines.plays.more in
    let whole = followed_by script more in
    let all = receipts ++ entries_of lines.answers in
    let took = chassis_all whole.events (opening_play script) end.player all
    (all_append chassis_playing script.events more (opening_play script) mid end.player receipts (entries_of lines.answers) opened lines.plays.played) in
    let stands = (chassis_stands runs whole none).all all end.player took in
    record { more = more; answers = lines.answers; said_is = lines.said_is; plays = stands.0; runs = stands.1 }

pub fibre_drives : FibreDrivesRun
fibre_drives manner script start receipts mid lines said end some opens opened spoken =
    let lines = lines_answered fibre_playing lines (begun_in manner mid script.mask) said end spoken in
    let more = lines.plays.more in
    let whole = followed_by script more in
    let all = receipts ++ entries_of lines.answers in
    let took = fibre_all whole.events start end.player all
    (all_append fibre_playing script.events more start mid end.player receipts (entries_of lines.answers) opened lines.plays.played) in
    let numbered = subst (λ (l : LossesView). Numbered (WorldTakesAll l whole.events) start.play all end.player.play) opens.losses took.happened in
    let stands = (world_stands whole opens.config start.play some opens.one_port opens.world opens.next).all all end.player.play numbered in
    record { more = more; answers = lines.answers; said_is = lines.said_is; plays = stands.0; runs = stands.1 }
