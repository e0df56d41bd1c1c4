-- The lines of one port after another.
use Rattle.std.proofs.Common.{◌≡◌, ℕ, suc, ◌+◌, ◌<◌, List, [], ◌∷◌, ◌++◌, Some, length, get_or, slice_get, refl, sym, ap, ◌∙◌, subst, append_assoc, arith}
use Rattle.std.proofs.Math.Numerals.{suc-eq-add-one}
use Rattle.std.proofs.lemmas.Option.{slice_get-get_or}
use Rattle.gp_ploam.specs.declared.check.Mask.{Mask}
use Rattle.gp_machine.specs.State.{PortState}
use Rattle.gp_tally.specs.Tally.{PortTally}
use Rattle.gp_summary.specs.declared.form.SummaryForm.{SummaryForm}
use Rattle.gp_tally.specs.Text.{AreTallies}
use Rattle.gp_audit.specs.Port.{port_of}
use Rattle.gp_audit.specs.Port as audit
use Rattle.gp_summary.specs.Heard.{HeardText, heard_lines}
use Rattle.gp_summary.specs.Summary.{SaysCounted}
use Rattle.gp_summary.specs.Text.{PortsText, licences_line, port_lines}

pub ports_next : (form : SummaryForm) (n : ℕ) (states : List PortState) (tallies : List PortTally) (state : PortState) (d tally : PortTally) (start out next : List ℕ)
    → n < length tallies → slice_get states n ≡ Some state → tally ≡ get_or tallies n d
    → (text : List ℕ) × PortsText form n states tallies text × (out ≡ start ++ text) → next ≡ out ++ port_lines form n state tally
    → (text : List ℕ) × PortsText form (n + 1) states tallies text × (next ≡ start ++ text)
ports_next form n states tallies state d tally start out next within at read had is =
    let here : slice_get tallies n ≡ Some tally = slice_get-get_or tallies n d within ∙ ap (λ (c : PortTally). Some c) (sym read) in
    let text : List ℕ = had.0 ++ port_lines form n state tally in
    let said : PortsText form (suc n) states tallies text = (had.0, state, tally, at, here, had.1, refl) in (
      text,
      subst (λ (m : ℕ). PortsText form m states tallies text) (suc-eq-add-one n) said,
      is ∙ ap (λ (l : List ℕ). l ++ port_lines form n state tally) had.2 ∙ append_assoc start had.0 (port_lines form n state tally),
    )

-- the one port of a fibre
pub one_port : (form : SummaryForm) (mask : Mask) (taken : List ℕ) (ports tallies : List PortTally) (state : PortState) (d tally : PortTally) (free licences : ℕ) (none mid text : List ℕ)
    → AreTallies mask taken tallies → tallies ≡ ports → length tallies ≡ 1 → tally ≡ get_or tallies 0 d → none ≡ []
    → mid ≡ none ++ port_lines form 0 state tally → text ≡ mid ++ licences_line form free licences
    → SaysCounted form mask taken (state ∷ []) (length ports) free licences text
one_port form mask taken ports tallies state d tally free licences none mid text counted same one read empty port rest =
    let within : 0 < length tallies = omega (arith, one) in
    let here : slice_get tallies 0 ≡ Some tally = slice_get-get_or tallies 0 d within ∙ ap (λ (c : PortTally). Some c) (sym read) in
    let lines = port_lines form 0 state tally in
    let said : PortsText form 1 (state ∷ []) tallies lines = ([], state, tally, refl, here, refl, refl) in
    record {
      tallies = tallies;
      counted = counted;
      says = record {
        ports = lines;
        ports_are = subst (λ (n : ℕ). PortsText form n (state ∷ []) tallies lines) (sym (sym (ap length same) ∙ one)) said;
        says = rest ∙ ap (λ (l : List ℕ). l ++ licences_line form free licences) (port ∙ ap (λ (l : List ℕ). l ++ lines) empty);
      };
    }

-- the lines of a trace alone
pub heard_next : (form : SummaryForm) (n : ℕ) (ports : List audit.PortState) (tallies : List PortTally) (d tally : PortTally) (start out next : List ℕ)
    → n < length tallies → tally ≡ get_or tallies n d
    → (text : List ℕ) × HeardText form n ports tallies text × (out ≡ start ++ text)
    → next ≡ out ++ heard_lines form n (port_of ports n).watch (port_of ports n).census tally
    → (text : List ℕ) × HeardText form (n + 1) ports tallies text × (next ≡ start ++ text)
heard_next form n ports tallies d tally start out next within read had is =
    let here : slice_get tallies n ≡ Some tally = slice_get-get_or tallies n d within ∙ ap (λ (c : PortTally). Some c) (sym read) in
    let lines = heard_lines form n (port_of ports n).watch (port_of ports n).census tally in
    let text : List ℕ = had.0 ++ lines in
    let said : HeardText form (suc n) ports tallies text = (had.0, tally, here, had.1, refl) in (
      text,
      subst (λ (m : ℕ). HeardText form m ports tallies text) (suc-eq-add-one n) said,
      is ∙ ap (λ (l : List ℕ). l ++ lines) had.2 ∙ append_assoc start had.0 lines,
    )
