use Rattle.std.proofs.Common.{sym, ap, ◌∙◌, arith}
use Rattle.gp_serial.specs.Admitted.{count_on}
use Rattle.gp_serial.proofs.IndexLemmas.{count_none}
use Rattle.gp_serial.proofs.admission.AdmissionList.new.Goals as goal

pub invariant_of-result : goal.invariant_of-result
invariant_of-result c = record {
  counted = λ port low. c.no_counts.ensures port low ∙ sym (ap (count_on port) c.new.ensures ∙ count_none port);
  most = λ port low. let none = c.no_counts.ensures port low in omega (arith, none);
}
