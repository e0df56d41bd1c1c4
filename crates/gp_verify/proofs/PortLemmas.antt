-- What holds of a port whose messages are proper, in every turn: it stays so, and the line of the turn is short.
use Rattle.std.proofs.Common.{◌≡◌, ℕ, ◌<◌, ◌≤◌, List, [], ◌∷◌, ◌++◌, All, Option, None, Some, codes, length, sym, ap, subst, ◌∙◌, arith, length-append}
use Rattle.std.specs.Option.{ForSome, option_to_list}
use Rattle.std.proofs.lemmas.List.{append-nil}
use Rattle.std.proofs.lemmas.List.Elements.{All-append, All-cons, All-get_or, All-head, All-map, All-nil, All-set, All-tail}
use Rattle.std.proofs.lemmas.Option.{get_or_from_slice_get, slice_get_within}
use Rattle.std.specs.Prelude.{get_or}
use Rattle.gp_flow.specs.Lines.{longest_line}
use Rattle.gp_ploam.specs.declared.check.Mask.{Mask}
use Rattle.gp_ploam.specs.declared.message.Down.{Down}
use Rattle.gp_ploam.specs.Down.{IsProperDown}
use Rattle.gp_alarms.specs.declared.alarm.Alarm.{Alarm}
use Rattle.gp_machine.specs.declared.config.PortConfig.{PortConfig}
use Rattle.gp_machine.specs.declared.entry.Entry.{Entry}
use Rattle.gp_machine.specs.declared.entry.Receipt.{Receipt}
use Rattle.gp_machine.specs.declared.event.Event.{Event}
use Rattle.gp_machine.specs.declared.event.Event.TheVariants.{Frame, Burst, Command}
use Rattle.gp_machine.specs.State.{PortState, opening_of}
use Rattle.gp_machine.specs.Changes.{StepResult, owed_by}
use Rattle.gp_machine.specs.Messages.{three_times}
use Rattle.gp_machine.specs.Responses.{changes_with}
use Rattle.gp_machine.specs.Step.{StepOwing, sent_at, state_at}
use Rattle.gp_machine.specs.Run.{IsStep, entry_outcome}
use Rattle.gp_machine.proofs.OwedMessages.{sends_in_order}
use Rattle.gp_machine.proofs.SoundFrames.{sound_opening}
use Rattle.gp_machine.proofs.Steps.{sound_start, sound_step}
use Rattle.gp_laws.specs.Messages.{IsTypedConfig}
use Rattle.gp_laws.proofs.OrderlyFrames.{orderly_step}
use Rattle.gp_laws.proofs.ProperMessages.{all_proper}
use Rattle.gp_laws.proofs.WholeRuns.{start_config, step_config}
use Rattle.gp_chassis.specs.World.{ChassisWorld, PortMoves, ChassisRun}
use Rattle.gp_chassis.specs.Core.{moves_of}
use Rattle.gp_chassis.proofs.Worlds.{taken_ports}
use Rattle.gp_trace.specs.Text.{line_of}
use Rattle.gp_lines.specs.Short.{IsShortAnswer, HasShortReply}
use Rattle.gp_lines.proofs.ShortLemmas.{line_short}
use Rattle.gp_replay.specs.declared.turn.Turn.{Turn}
use Rattle.gp_replay.specs.Chassis.{PlayState, opened_play}
use Rattle.gp_replay.specs.Play.{TakesTurns, moves_told}
use Rattle.gp_verify.specs.Ports.{IsOrderlyPort}
use Rattle.gp_verify.specs.Tells.{TellsNothing}
use Rattle.gp_verify.proofs.ShortTables.{HasShortAlarm, answers_short, response_short}
use Rattle.gp_verify.proofs.TraceLemmas.{Stage, TellAll}

-- ---- one step

three_proper : (ms : List Down) → All IsProperDown ms → All IsProperDown (three_times ms)
three_proper [] h = All-nil IsProperDown
three_proper (m ∷ ms) h =
    let first = All-head IsProperDown m ms h in
    let rest = three_proper ms (All-tail IsProperDown m ms h) in
    All-cons IsProperDown m (m ∷ m ∷ three_times ms) first (All-cons IsProperDown m (m ∷ three_times ms) first (All-cons IsProperDown m (three_times ms) first rest))

step_proper : (u : ℕ) (p : PortState) (e : Event) (o : StepResult) (messages : List Down) → IsOrderlyPort p → StepOwing u p e o messages → All IsProperDown messages
step_proper u p e o messages h s =
    subst (λ (ms : List Down). All IsProperDown ms) (sym s.owes)
    (all_proper (state_at p e) (sound_start p e h.sound) (subst (λ (c : PortConfig). IsTypedConfig c) (sym (start_config p e)) h.typed) (owed_by (changes_with s.response s.picked))
    ((orderly_step u p e s.response s.said).founded s.picked s.may))

-- what is sent, and what is owed behind it
sent_proper : (sent : Option Down) (owed : List Down) → All IsProperDown (option_to_list sent ++ owed) → ForSome sent IsProperDown × All IsProperDown owed
sent_proper None owed h = (λ m is. absurd (none m is), h)
  where
    none : (m : Down) → ◌≡◌ {A = Option Down} None (Some m) → ⊥
    none m is = cc
sent_proper (Some m) owed h = (λ n is. subst IsProperDown (one n is) (All-head IsProperDown m owed h), All-tail IsProperDown m owed h)
  where
    one : (n : Down) → ◌≡◌ {A = Option Down} (Some m) (Some n) → m ≡ n
    one n is = cc

short_alarm : (alarm : Option Alarm) → HasShortAlarm alarm → ForSome alarm (λ a. length a.serial.0 ≡ 8)
short_alarm None h = λ a is. absurd (none a is)
  where
    none : (a : Alarm) → ◌≡◌ {A = Option Alarm} None (Some a) → ⊥
    none a is = cc
short_alarm (Some b) h = λ a is. subst (λ (x : Alarm). length x.serial.0 ≡ 8) (one a is) h
  where
    one : (a : Alarm) → ◌≡◌ {A = Option Alarm} (Some b) (Some a) → b ≡ a
    one a is = cc

-- the answer is short, and the port stays so
record Steps (e : Entry) (q : PortState) : Type 0 where
  pub answer : IsShortAnswer e.answer
  pub port : IsOrderlyPort q

step_orderly : (p q : PortState) (e : Entry) → IsOrderlyPort p → IsStep p e q → Steps e q
step_orderly p q e h step =
    let messages = step.0 in
    let s = step.1 in
    let all : All IsProperDown (option_to_list e.answer.sent ++ q.owed) =
    subst (λ (ms : List Down). All IsProperDown ms) (sym (sends_in_order e.purse_in p e.event (entry_outcome e q) messages s))
    (All-append IsProperDown p.owed (three_times messages) h.proper (three_proper messages (step_proper e.purse_in p e.event (entry_outcome e q) messages h s))) in
    let parts = sent_proper e.answer.sent q.owed all in
    let short : HasShortReply e.answer.reply × HasShortAlarm e.answer.alarm =
    subst (λ (x : StepResult). HasShortReply x.answer.reply × HasShortAlarm x.answer.alarm) (sym s.is)
    (answers_short (sent_at p e.event) s.response s.picked (response_short p h.sound h.typed e.purse_in e.event s.response s.said)) in
    record {
      answer = record { reply = short.0; sent = parts.0; alarm = short_alarm e.answer.alarm short.1 };
      port = record {
        sound = sound_step e.purse_in p e.event (entry_outcome e q) h.sound step;
        typed = subst (λ (c : PortConfig). IsTypedConfig c) (sym (step_config p q e step)) h.typed;
        proper = parts.1;
      };
    }

-- ---- one turn

record Turns (e : Entry) (end : ChassisWorld) : Type 0 where
  pub answer : IsShortAnswer e.answer
  pub ports : All IsOrderlyPort end.ports

moves_orderly : (p : ℕ) (e : Entry) (world end : ChassisWorld) → All IsOrderlyPort world.ports → PortMoves 0 p e world end → Turns e end
moves_orderly p e world end h m =
    let one : IsOrderlyPort m.stood =
    subst IsOrderlyPort (get_or_from_slice_get world.ports p m.stood m.stood m.is) (All-get_or IsOrderlyPort world.ports p m.stood (slice_get_within world.ports p m.stood m.is) h) in
    let steps = step_orderly m.stood m.next e one m.step in
    record {
      answer = steps.answer;
      ports = subst (λ (x : ChassisWorld). All IsOrderlyPort x.ports) (sym m.world_is) (All-set IsOrderlyPort world.ports p m.next steps.port h);
    }

-- giving licences back changes no port
given_orderly : (e : Entry) (world end : ChassisWorld) → end.ports ≡ world.ports → Turns e world → Turns e end
given_orderly e world end same h = record { answer = h.answer; ports = subst (All IsOrderlyPort) (sym same) h.ports }

run_orderly : (event : Event) (p : ℕ) (e : Entry) (world end : ChassisWorld) → All IsOrderlyPort world.ports → ChassisRun (moves_of event p e) world end → Turns e end
run_orderly Frame p e world end h run =
    given_orderly e run.0 end (ap (λ (w : ChassisWorld). w.ports) run.2.2 ∙ ap (λ (w : ChassisWorld). w.ports) run.2.1.1) (moves_orderly p e world run.0 h run.1.1)
run_orderly (Command command) p e world end h run =
    given_orderly e run.0 end (ap (λ (w : ChassisWorld). w.ports) run.2.2 ∙ ap (λ (w : ChassisWorld). w.ports) run.2.1.1) (moves_orderly p e world run.0 h run.1.1)
run_orderly (Burst at bytes) p e world end h run =
    let same : run.0.ports ≡ world.ports = ap (λ (w : ChassisWorld). w.ports) run.1.1 ∙ taken_ports 0 world in
    let rest = run.2 in
    given_orderly e rest.0 end (ap (λ (w : ChassisWorld). w.ports) rest.2.2 ∙ ap (λ (w : ChassisWorld). w.ports) rest.2.1.1)
    (moves_orderly p e run.0 rest.0 (subst (All IsOrderlyPort) (sym same) h) rest.1.1)

turn_orderly : (r : Receipt) (old new : PlayState) → All IsOrderlyPort old.world.ports → ChassisRun (moves_told r ++ []) old.world new.world → Turns r.entry new.world
turn_orderly r old new h run =
    run_orderly r.entry.event r.port r.entry old.world new.world h (subst (λ ms. ChassisRun ms old.world new.world) (append-nil (moves_told r)) run)

-- after a turn the ports stay so
pub turn_ports : (old new : PlayState) (turns : List Turn) (r : Receipt) → TakesTurns old turns (r ∷ []) new → All IsOrderlyPort old.world.ports → All IsOrderlyPort new.world.ports
turn_ports old new turns r taken h = (turn_orderly r old new h taken.run).ports

-- ---- lines

tell_ports : (mask : Mask) (texts : List (List ℕ)) (rs : List Receipt) (old new : PlayState) → TellAll mask old texts rs new → All IsOrderlyPort old.world.ports → All IsOrderlyPort new.world.ports
tell_ports mask [] [] old new told h = subst (λ (x : PlayState). All IsOrderlyPort x.world.ports) (sym told) h
tell_ports mask [] (r ∷ rs) old new told h = absurd told
tell_ports mask (t ∷ ts) [] old new told h = absurd told
tell_ports mask (t ∷ ts) (r ∷ rs) old new told h = tell_ports mask ts rs told.0 new told.2 (turn_ports old told.0 _ r told.1.taken h)

-- a line that is too long tells of no turn
pub long_tells_nothing : (mask : Mask) (start mid : PlayState) (before : List (List ℕ)) (text : List ℕ) → All IsOrderlyPort start.world.ports → Stage mask start before mid
    → longest_line < length text → TellsNothing mask mid text
long_tells_nothing mask start mid before text h stage long r new told =
    let ports = tell_ports mask before stage.receipts start mid stage.tells h in
    let turn = turn_orderly r mid new ports told.taken.run in
    let short : length (line_of mask r) ≤ 4096 = line_short mask r told.told turn.answer in
    let parts = length-append text (codes "\n") in
    let same = ap length told.line in
    absurd (omega (arith, short, parts, same, long))

-- ---- an opening

pub opened_ports : (configs : List PortConfig) (licences : ℕ) (play : PlayState) → play ≡ opened_play configs licences → All IsTypedConfig configs → All IsOrderlyPort play.world.ports
opened_ports configs licences play is typed =
    subst (λ (x : PlayState). All IsOrderlyPort x.world.ports) (sym is)
    (All-map IsOrderlyPort opening_of configs (λ k d within. record { sound = sound_opening (get_or configs k d); typed = typed k d within; proper = All-nil IsProperDown }))
