-- A line tells of the turn that is taken with the number that its answer names, or of none.
use Rattle.std.proofs.Common.{◌-◌, ◌≡◌, ◌↔◌, ℕ, ◌+◌, ◌<◌, ◌≤◌, ◌^◌, List, [], ◌∷◌, ◌++◌, All, Option, Some, Bool, true, false, length, map, codes, refl, sym, ap, subst, ◌∙◌, arith, slice_get, slice_set}
use Rattle.std.proofs.lemmas.List.{append-nil, append_cancel_right}
use Rattle.std.proofs.lemmas.List.Elements.{All-get_or}
use Rattle.std.proofs.lemmas.Option.{get_or_from_slice_get, slice_get_within, same_Some}
use Rattle.gp_ploam.specs.declared.check.Mask.{Mask}
use Rattle.gp_machine.specs.declared.entry.Entry.{Entry}
use Rattle.gp_machine.specs.declared.entry.Receipt.{Receipt}
use Rattle.gp_machine.specs.declared.event.Event.{Event}
use Rattle.gp_machine.specs.declared.event.Event.TheVariants as events
use Rattle.gp_machine.specs.declared.event.Command.TheVariants as commands
use Rattle.gp_machine.specs.declared.reply.Reply.{Reply}
use Rattle.gp_machine.specs.declared.reply.Reply.TheVariants.{Found, Allocated}
use Rattle.gp_port.specs.Numbers.{HandsOut}
use Rattle.gp_chassis.specs.World.{ChassisWorld, ChassisRun}
use Rattle.gp_chassis.specs.Core.{GrantsTurn, moves_of}
use Rattle.gp_trace.specs.Text.{answer_text, line_of}
use Rattle.gp_lines.specs.Spelling.{SpellsParts}
use Rattle.gp_lines.specs.Told.{HasSmallAlloc, IsTold}
use Rattle.gp_lines.specs.Trace.{SplitsLine}
use Rattle.gp_lines.specs.Picks.{HasSmallPick, Picks, picked_by}
use Rattle.gp_lines.proofs.SplitLemmas.{line_split, one_cut}
use Rattle.gp_lines.proofs.PickLemmas.{told_pick}
use Rattle.gp_replay.specs.declared.turn.Turn.{Turn}
use Rattle.gp_replay.specs.Chassis.{HasRoom, IsSoundPort, PlayState, opened_play}
use Rattle.gp_replay.specs.Play.{TakesTurns, turn_of, moves_told}
use Rattle.gp_machine.specs.declared.config.PortConfig.{PortConfig}
use Rattle.std.proofs.Common.{lit<}
use Rattle.std.proofs.lemmas.List.{length-map}
use Rattle.gp_replay.proofs.RoomLemmas.{leave_after_all, opening_room}
use Rattle.gp_verify.specs.Tells.{TellsTurn, TellsAlone, TellsNothing}
use Rattle.gp_verify.specs.Verdicts.{IsNoStep, MovesOn, NamesOtherNumber, PartsOf, SaysInstead}
use Rattle.gp_verify.proofs.SmallLemmas.{run_small}

-- an event that is spelled has an Alloc-ID that a line can tell
pub spelled_small : (parts : List (List ℕ)) (event : Event) → SpellsParts parts event → HasSmallAlloc event
spelled_small parts (events.Command (commands.Dealloc serial alloc)) h = h.5
spelled_small parts (events.Command commands.Search) h = tt
spelled_small parts (events.Command (commands.Alloc serial)) h = tt
spelled_small parts (events.Command (commands.Deactivate serial)) h = tt
spelled_small parts (events.Command (commands.Disable serial)) h = tt
spelled_small parts (events.Command (commands.Enable serial)) h = tt
spelled_small parts (events.Command commands.EnableAll) h = tt
spelled_small parts (events.Command (commands.Popup serial)) h = tt
spelled_small parts (events.Command commands.PopupAll) h = tt
spelled_small parts (events.Command (commands.Show serial)) h = tt
spelled_small parts events.Frame h = tt
spelled_small parts (events.Burst at bytes) h = tt

-- the line of a turn is cut into its parts
pub turn_cut : (mask : Mask) (old new : PlayState) (text : List ℕ) (r : Receipt) → length old.next ≤ 16 → HasRoom 1 old → TellsTurn mask old text r new
    → SplitsLine text r.port r.number r.entry.event (answer_text mask r.entry.answer)
turn_cut mask old new text r few room h =
    let there : slice_get old.next r.port ≡ Some r.number = h.taken.numbers.0 in
    let within : r.port < length old.next = slice_get_within old.next r.port r.number there in
    let counted : r.number + 1 < 2 ^ 64 =
    subst (λ (n : ℕ). n + 1 < 2 ^ 64) (get_or_from_slice_get old.next r.port r.number r.number there) (All-get_or (λ n. n + 1 < 2 ^ 64) old.next r.port r.number within room) in
    let cut = line_split mask r (omega arith) (omega arith) h.told in
    let same : cut.0 ≡ text = append_cancel_right cut.0 text (codes "\n") (sym cut.1 ∙ h.line) in
    subst (λ (t : List ℕ). SplitsLine t r.port r.number r.entry.event (answer_text mask r.entry.answer)) same cut.2

pub no_line : (mask : Mask) (old : PlayState) (text : List ℕ) → length old.next ≤ 16 → HasRoom 1 old
    → ((port number : ℕ) (event : Event) (answer : List ℕ) → SplitsLine text port number event answer → ⊥) → TellsNothing mask old text
no_line mask old text few room none r new h = none r.port r.number r.entry.event (answer_text mask r.entry.answer) (turn_cut mask old new text r few room h)

pub no_port : (mask : Mask) (old : PlayState) (text : List ℕ) (port number : ℕ) (event : Event) (answer : List ℕ) → length old.next ≤ 16 → HasRoom 1 old
    → SplitsLine text port number event answer → length old.next ≤ port → TellsNothing mask old text
no_port mask old text port number event answer few room split past r new h =
    let same = one_cut text port number event answer r.port r.number r.entry.event (answer_text mask r.entry.answer) split (turn_cut mask old new text r few room h) in
    let at : port ≡ r.port = same.0 in
    let within : r.port < length old.next = slice_get_within old.next r.port r.number h.taken.numbers.0 in
    absurd (omega (arith, at, within, past))

-- a reply that picked a number hands out the wished one, if that is the one that it picked
hands_out : (wished : Option ℕ) (reply : Reply) → ((n : ℕ) → picked_by reply ≡ Some n → wished ≡ Some n) → HandsOut wished reply
hands_out wished (Found onu) h = h onu refl
hands_out wished (Allocated alloc) h = h alloc refl
hands_out wished reply h = tt

same_receipt : (a b : Receipt) → a.port ≡ b.port → a.number ≡ b.number → a.entry ≡ b.entry → a ≡ b
same_receipt a b h1 h2 h3 =
    let R : ℕ → ℕ → Entry → Receipt = λ p n e. record { port = p; number = n; entry = e } in
    ap (λ (p : ℕ). R p a.number a.entry) h1 ∙ ap (λ (n : ℕ). R b.port n a.entry) h2 ∙ ap (R b.port b.number) h3

pub same_play : (a b : PlayState) → a.world ≡ b.world → a.next ≡ b.next → a ≡ b
same_play a b h1 h2 =
    let P : ChassisWorld → List ℕ → PlayState = λ w n. record { world = w; next = n } in
    ap (λ (w : ChassisWorld). P w a.next) h1 ∙ ap (P b.world) h2

one_turn : (t u : Turn) → t ∷ [] ≡ u ∷ [] → t ≡ u
one_turn t u h = cc

-- a turn that the line tells of is the one that was taken
pub told_alone : (mask : Mask) (old new : PlayState) (text : List ℕ) (port number : ℕ) (event : Event) (answer : List ℕ) (wished : Option ℕ) (r : Receipt)
    → length old.next ≤ 16 → HasRoom 1 old → All IsSoundPort old.world.ports → SplitsLine text port number event answer
    → ((n : ℕ) → (wished ≡ Some n) ↔ Picks answer n)
    → TakesTurns old (record { port = port; event = event } ∷ []) (r ∷ []) new
    → GrantsTurn old.world new.world port event wished r.entry
    → (other : Receipt) (end : PlayState) → TellsTurn mask old text other end → (other ≡ r) × (end ≡ new)
told_alone mask old new text port number event answer wished r few room sound split wish taken grants other end h =
    let same = one_cut text port number event answer other.port other.number other.entry.event (answer_text mask other.entry.answer) split (turn_cut mask old end text other few room h) in
    let at : other.port ≡ port = sym same.0 in
    let what : other.entry.event ≡ event = sym same.2 in
    let told : ChassisRun (moves_told other) old.world end.world = subst (λ ms. ChassisRun ms old.world end.world) (append-nil (moves_told other)) h.taken.run in
    let one : ChassisRun (moves_of event other.port other.entry) old.world end.world = subst (λ (e : Event). ChassisRun (moves_of e other.port other.entry) old.world end.world) what told in
    let run : ChassisRun (moves_of event port other.entry) old.world end.world = subst (λ (p : ℕ). ChassisRun (moves_of event p other.entry) old.world end.world) at one in
    let small : HasSmallPick other.entry.answer.reply = run_small event port other.entry old.world end.world sound run in
    let hands : HandsOut wished other.entry.answer.reply =
    hands_out wished other.entry.answer.reply (λ n is. (wish n).1 (subst (λ (a : List ℕ). Picks a n) (sym same.3) ((told_pick mask other.entry.answer n small).1 is))) in
    let granted = grants other.entry end.world what run hands in
    let turn : turn_of r ≡ record { port = port; event = event } = one_turn _ _ taken.told in
    let ports : other.port ≡ r.port = at ∙ sym (ap (λ (t : Turn). t.port) turn) in
    let numbers : other.number ≡ r.number = same_Some _ _ (sym h.taken.numbers.0 ∙ ap (slice_get old.next) ports ∙ taken.numbers.0) in
    let next : end.next ≡ new.next =
    h.taken.numbers.1 ∙ ap (λ (p : ℕ). slice_set old.next p (other.number + 1)) ports ∙ ap (λ (n : ℕ). slice_set old.next r.port (n + 1)) numbers ∙ sym taken.numbers.1 in
    (same_receipt other r ports numbers (sym granted.0), same_play end new (sym granted.1) next)

-- so where its line is another, the text tells of none
pub told_nothing : (mask : Mask) (old new : PlayState) (text : List ℕ) (r : Receipt)
    → ((other : Receipt) (end : PlayState) → TellsTurn mask old text other end → (other ≡ r) × (end ≡ new)) → (line_of mask r ≡ text ++ codes "\n" → ⊥) → TellsNothing mask old text
told_nothing mask old new text r alone differs other end h = differs (ap (line_of mask) (sym (alone other end h).0) ∙ h.line)

-- and where it is the text, the text tells of it alone
pub told_it : (mask : Mask) (old new : PlayState) (text : List ℕ) (port : ℕ) (event : Event) (r : Receipt)
    → TakesTurns old (record { port = port; event = event } ∷ []) (r ∷ []) new
    → IsTold event
    → line_of mask r ≡ text ++ codes "\n"
    → ((other : Receipt) (end : PlayState) → TellsTurn mask old text other end → (other ≡ r) × (end ≡ new))
    → TellsAlone mask old text new
told_it mask old new text port event r taken is_told line alone =
    let turn : turn_of r ≡ record { port = port; event = event } = one_turn _ _ taken.told in
    let what : r.entry.event ≡ event = ap (λ (t : Turn). t.event) turn in
    record {
      receipt = r;
      tells = record {
        told = subst IsTold (sym what) is_told;
        taken = record { told = refl; run = taken.run; numbers = taken.numbers };
        line = line;
      };
      alone = alone;
    }

-- the play goes on by the turn that was taken
pub moves_on : (mask : Mask) (old new : PlayState) (turn : Turn) (r : Receipt) (said : List ℕ)
    → TakesTurns old (turn ∷ []) (r ∷ []) new → said ≡ line_of mask r → MovesOn mask old new said
moves_on mask old new turn r said taken line =
    record { receipt = r; taken = record { told = refl; run = taken.run; numbers = taken.numbers }; line = line }

-- a turn has the number that was the next one of its port
turn_number : (old new : PlayState) (port : ℕ) (event : Event) (r : Receipt)
    → TakesTurns old (record { port = port; event = event } ∷ []) (r ∷ []) new → slice_get old.next port ≡ Some r.number
turn_number old new port event r taken =
    let turn : turn_of r ≡ record { port = port; event = event } = one_turn _ _ taken.told in
    let at : r.port ≡ port = ap (λ (t : Turn). t.port) turn in
    sym (ap (slice_get old.next) at) ∙ taken.numbers.0

-- where the machine gives another line, the line's number is another, or the line is no step
module _ (mask : Mask) (old new : PlayState) (text said : List ℕ) (port number : ℕ) (event : Event) (answer : List ℕ) (wished : Option ℕ) (r : Receipt)
    (split : SplitsLine text port number event answer) (wish : (n : ℕ) → (wished ≡ Some n) ↔ Picks answer n)
    (taken : TakesTurns old (record { port = port; event = event } ∷ []) (r ∷ []) new)
    (grants : GrantsTurn old.world new.world port event wished r.entry) (line : said ≡ line_of mask r) where
  says_instead : SaysInstead mask old port event answer said
  says_instead = record { receipt = r; end = new; taken = taken; wished = wished; wish = wish; granted = grants; line = line }

  parts : PartsOf text
  parts = record { port = port; number = number; event = event; answer = answer; split = split }

  pub other_number : port < length old.next → (r.number ≡ number → ⊥) → NamesOtherNumber mask old text said
  unfolding parts
  other_number there differs = record {
    parts = parts;
    there = there;
    other = λ e. differs (same_Some _ _ (sym (turn_number old new port event r taken) ∙ e));
    says = says_instead;
  }

  pub no_step : r.number ≡ number → IsNoStep mask old text said
  unfolding parts
  no_step same = record {
    parts = parts;
    number = turn_number old new port event r taken ∙ ap (λ (n : ℕ). let o : Option ℕ = Some n in o) same;
    says = says_instead;
  }

-- a turn takes the room of one entry
pub turn_room : (old new : PlayState) (t : Turn) (r : Receipt) → TakesTurns old (t ∷ []) (r ∷ []) new → (count : ℕ) → HasRoom (1 + count) old → HasRoom count new
turn_room old new t r taken count room = leave_after_all count (r ∷ []) old.next new.next taken.numbers room

pub not_true : (b : Bool) → b ≡ true → b ≡ false → ⊥
not_true b h k = cc

-- ---- the room that is left

pub one_less : (lines : ℕ) → (lines ≡ 18446744073709551615 → ⊥) → lines < 2 ^ 64 → (play : PlayState) → HasRoom (18446744073709551615 - lines) play → HasRoom (1 + (18446744073709551615 - (lines + 1))) play
one_less lines more fits play room =
    let same : 18446744073709551615 - lines ≡ 1 + (18446744073709551615 - (lines + 1)) = omega arith in
    subst (λ (n : ℕ). HasRoom n play) same room

-- on a chassis that was just opened all lines have room
pub opened_holds : (ports : List PortConfig) (licences : ℕ) (play : PlayState) → play ≡ opened_play ports licences → length ports ≤ 16
    → (length play.next ≤ 16) × HasRoom 18446744073709551615 play
opened_holds ports licences play is few =
    let zero_of : PortConfig → ℕ = λ port. 0 in
    let as_many : length (map zero_of ports) ≡ length ports = length-map ports zero_of in
    let opened : (length (opened_play ports licences).next ≤ 16) × HasRoom 18446744073709551615 (opened_play ports licences) =
    (omega (arith, as_many, few), opening_room 18446744073709551615 ports licences (lit< tt)) in
    subst (λ (p : PlayState). (length p.next ≤ 16) × HasRoom 18446744073709551615 p) (sym is) opened
