use Rattle.std.proofs.Common.{◌≡◌, ap, sym, ◌∙◌, ℕ, Option, None, Some, unwrap_or}
use Rattle.gp_machine.specs.declared.entry.Entry.{Entry}
use Rattle.gp_chassis.specs.declared.fault.CoreFault.{CoreFault}
use Rattle.gp_chassis.specs.declared.fault.CoreFault.TheVariants.{NoActor}
use Rattle.gp_ploam.specs.Mask.{mask_value}
use Rattle.gp_c.specs.Answers.{answer_numbers}
use Rattle.gp_c.proofs.engine.Engine.apply.Goals as goal

-- the fault that there is
abbrev fault_in : Option CoreFault → CoreFault
fault_in None = NoActor
fault_in (Some fault) = fault

pub returns-in-Err-clause-refuses : goal.returns-in-Err-clause-refuses
returns-in-Err-clause-refuses g c =
    let told = c.in-Err.ensures.fault in let same = c.fault_of.ensures in
    rw (← c.self.view_is) (record {
      no_port = ((λ h. told.no_port.0 (ap Some (same.no_port.0 h))), (λ h. same.no_port.1 (ap fault_in (told.no_port.1 h))));
      full = λ within. let full = told.full within in ((λ h. full.0 (same.full.0 h)), (λ h. same.full.1 (full.1 h)));
      only = same.only;
    })

pub returns-clause-ok : goal.returns-clause-ok
returns-clause-ok g c =
    let kept = c.in-Ok.ensures.ok in
    let same : c.in-Some-last_entry.entry.now ≡ kept.receipt.entry = ap (λ (o : Option Entry). unwrap_or o kept.receipt.entry) (sym c.in-Some-last_entry.ensures ∙ kept.kept) in
    rw (← c.self.view_is) (record {
      desk = c.in-Some.desk.now;
      is = c.in-Some.ensures;
      receipt = kept.receipt;
      applies = kept.makes.applies;
      told =
          (rw c.config.ensures at c.answer_of.ensures)
          ∙ ap (λ (e : Entry). answer_numbers (mask_value c.in-Some.desk.now.state.config.mask) c.in-Ok.number e.answer) same
          ∙ ap (λ (n : ℕ). answer_numbers (mask_value c.in-Some.desk.now.state.config.mask) n kept.receipt.entry.answer) (sym kept.is_number);
    })
