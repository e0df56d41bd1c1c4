use Rattle.std.proofs.Common.{◌≡◌, ◌++◌, if◌then◌else◌, Bool, false, List, [], ℕ, OnOk, sym, ap, ◌∙◌, subst}
use Rattle.std.specs.FinMap.{entries}
use Rattle.std.specs.List.{flat_map}
use Rattle.gp_tally.specs.declared.counts.PortCounts.{PortCounts}
use Rattle.gp_tally.specs.Tally.{Units}
use Rattle.gp_summary.specs.Heard.{heard_lines, heard_port_line, heard_unit_line, holders, is_silent}
use Rattle.gp_summary.proofs.Joined.{join}
use Rattle.gp_summary.proofs.heard.push_port.Goals as goal

pub returns : goal.returns
unfolding heard_lines
returns c =
    let form = c.args.form in
    let number = c.args.number in
    let watch = c.args.watch.now in
    let census = c.args.census.now in
    let old = c.args.out.now.items in
    let r = c.push_units.result in
    let new = c.push_units.new.out.items in
    let tally = c.args.tally.now in
    let heard : is_silent tally.counts ≡ false = ap (λ (n : PortCounts). is_silent n) (sym c.counts.ensures) ∙ sym c.is_silent.ensures ∙ c.if-is_silent.false in
    let many : c.holders-units.result ≡ holders watch tally.units = c.holders-units.ensures ∙ ap (λ (m : Units). holders watch m) c.units.ensures in
    let line = c.in_ok-push_port_line.ensures ∙ ap (λ (n : PortCounts). old ++ heard_port_line form number c.holders-units.result n) c.counts-2.ensures
    ∙ ap (λ (n : ℕ). old ++ heard_port_line form number n tally.counts) many in
    let units = subst (λ (m : Units). OnOk r (new ≡ c.push_port_line.new.out.items ++ flat_map (heard_unit_line form number watch census) (entries m))) c.units-2.ensures c.push_units.ensures in
    let front = heard_port_line form number (holders watch tally.units) tally.counts in
    let told : List ℕ = front ++ flat_map (heard_unit_line form number watch census) (entries tally.units) in
    let all : OnOk r (new ≡ old ++ told) =
    join r old front c.push_port_line.new.out.items (flat_map (heard_unit_line form number watch census) (entries tally.units)) new line units in
    subst (λ (b : Bool). OnOk r (new ≡ old ++ (if b then [] else told))) (sym heard) all
