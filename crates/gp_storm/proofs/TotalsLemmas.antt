-- Each entry is of a frame, of a burst or of a command.
use Rattle.std.proofs.Common.{◌≡◌, ℕ, ◌+◌, cond, List, [], ◌∷◌, length, map, refl, ap, ◌∙◌, arith}
use Rattle.std.specs.Prelude.{count_by, sum_by}
use Rattle.std.proofs.lemmas.List.Sums.{sum_by-cons}
use Rattle.gp_machine.specs.declared.event.Event.{Event}
use Rattle.gp_machine.specs.declared.event.Event.TheVariants.{Frame, Burst, Command}
use Rattle.gp_machine.specs.declared.entry.Entry.{Entry}
use Rattle.gp_journal.specs.Kept.{Kept}
use Rattle.gp_script.specs.Script.{ScriptView}
use Rattle.gp_workers.specs.declared.totals.Totals.{Totals}
use Rattle.gp_workers.specs.Closing.{Ending}
use Rattle.gp_storm.specs.Plan.{commands_asked, frames_asked}
use Rattle.gp_storm.specs.declared.form.TotalsForm.{TotalsForm}
use Rattle.gp_storm.specs.Totals.{AreTotalsIn, entries_in, totals_in}
use Rattle.gp_workers.specs.Totals.{frame_event, burst_event, command_event, is_frame, is_burst, is_command}

of_one_kind : (event : Event) → cond (frame_event event) 1 0 + cond (burst_event event) 1 0 + cond (command_event event) 1 0 ≡ 1
of_one_kind Frame = refl
of_one_kind (Burst at bytes) = refl
of_one_kind (Command command) = refl

entries_of_port : (entries : List Entry) → count_by is_frame entries + count_by is_burst entries + count_by is_command entries ≡ length entries
entries_of_port [] = refl
entries_of_port (entry ∷ entries) =
    let frames = sum_by-cons (λ (e : Entry). cond (is_frame e) 1 0) entry entries in
    let bursts = sum_by-cons (λ (e : Entry). cond (is_burst e) 1 0) entry entries in
    let commands = sum_by-cons (λ (e : Entry). cond (is_command e) 1 0) entry entries in
    omega (arith, frames, bursts, commands, of_one_kind entry.event, entries_of_port entries)

-- the counts of frames, bursts and commands are those of all entries
pub entries_of_ports : (ports : List (List Entry)) → sum_by (count_by is_frame) ports + sum_by (count_by is_burst) ports + sum_by (count_by is_command) ports ≡ sum_by length ports
entries_of_ports [] = refl
entries_of_ports (port ∷ ports) =
    let frames = sum_by-cons (count_by is_frame) port ports in
    let bursts = sum_by-cons (count_by is_burst) port ports in
    let commands = sum_by-cons (count_by is_command) port ports in
    let all = sum_by-cons (λ (entries : List Entry). length entries) port ports in
    omega (arith, frames, bursts, commands, all, entries_of_port port, entries_of_ports ports)

-- the text with the sum of the counts is the one with the number of entries
pub totals_told : (form : TotalsForm) (script : ScriptView) (journals : List Kept) (totals : Totals) (licences : ℕ) (text : List ℕ) → Ending script.ports journals totals → licences ≡ script.licences
    → totals.frames ≡ frames_asked script → totals.commands ≡ commands_asked script → text ≡ totals_in form totals (totals.frames + totals.bursts + totals.commands) licences → AreTotalsIn form script text
totals_told form script journals totals licences text ending all frames commands says = record {
  journals = journals;
  totals = totals;
  ending = ending;
  frames = frames;
  commands = commands;
  says = says ∙ ap (λ (n : ℕ). totals_in form totals n licences) counted ∙ ap (λ (n : ℕ). totals_in form totals (entries_in journals) n) all;
}
  where
    counted : totals.frames + totals.bursts + totals.commands ≡ entries_in journals
    counted =
        omega (arith, ending.counted.frames, ending.counted.bursts, ending.counted.commands, entries_of_ports (map (λ (journal : Kept). journal.entries) journals))
