-- The status after a code that has a fault.
use Rattle.std.proofs.Common.{◌≡◌, ◌≢◌, ℕ, Bool, List, Result, Err, inr, ap, subst, ◌∙◌}
use Rattle.std.specs.Prelude.{◌↔◌}
use Rattle.gp_ploam.specs.declared.check.Mask.{Mask}
use Rattle.gp_decode.specs.declared.fault.DecodeFault.{DecodeFault}
use Rattle.gp_decode.specs.declared.fault.DecodeFault.TheVariants.{OutOfMemory}
use Rattle.gp_decode.specs.Line.{HasDecodeFault, IsOfText}
use Rattle.gp_report.specs.Report.{code_status}
use Rattle.oltctl.specs.Statuses.{IsDecoded}

module _ (r : Result (Unit {0}) DecodeFault) (f : DecodeFault) (is : r ≡ Err f) where
  -- it ended with one fault
  one_fault : (g : DecodeFault) → r ≡ Err g → f ≡ g
  one_fault g other = cc

  pub decoded_fault : (code : List ℕ) (upstream : Bool) (mask : Mask) (names : Bool) (status : ℕ)
      → (r ≢ Err OutOfMemory → (g : DecodeFault) → IsOfText g → (r ≡ Err g) ↔ HasDecodeFault mask code g) → status ≡ code_status f
      → IsDecoded code upstream mask names status
  decoded_fault code upstream mask names status clause told = record {
    ended = inr (f, told, λ own. (clause (λ memory. subst IsOfText (one_fault OutOfMemory memory) own) f own).0 is);
    faulty = λ other g own has.
        told ∙ ap code_status (one_fault g ((clause (λ memory. other (told ∙ ap code_status (one_fault OutOfMemory memory))) g own).1 has));
  }
