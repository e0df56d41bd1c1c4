-- A code whose check octet is wrong, told again.
use Rattle.std.proofs.Common.{◌≡◌, ◌≢◌, ℕ, Bool, List, ◌++◌, Result, Ok, Err, OnOk, codes, refl, sym, ap, subst, ◌∙◌, append_assoc, inr}
use Rattle.gp_ploam.specs.declared.check.Mask.{Mask}
use Rattle.gp_decode.specs.declared.fault.DecodeFault.{DecodeFault}
use Rattle.gp_decode.specs.declared.fault.DecodeFault.TheVariants as faults
use Rattle.gp_decode.specs.Line.{HasWrongCheck, LacksWords}
use Rattle.gp_audit.specs.Again.{TellsCode, wanted_note}

-- what would be right, behind the bracket
pub told_wrong : {E : Type 0} (r : Result (Unit {0}) E) (upstream : Bool) (mask : Mask) (code out opened full new : List ℕ) (fault : DecodeFault)
    → opened ≡ out ++ codes " (" → fault ≡ faults.Crc → LacksWords upstream mask code fault → (fault ≢ faults.OutOfMemory → full ≡ opened)
    → OnOk r (new ≡ full ++ (wanted_note mask code ++ codes ")")) → OnOk r ((told : List ℕ) × TellsCode upstream mask code told × (new ≡ out ++ told))
told_wrong (Ok x) upstream mask code out opened full new fault first crc lacks kept last =
    let wrong : HasWrongCheck mask code = subst (LacksWords upstream mask code) crc lacks in
    let same : full ≡ opened = kept (λ memory. let clash : faults.Crc ≡ faults.OutOfMemory = sym crc ∙ memory in cc) in
    let rest = wanted_note mask code ++ codes ")" in (
      codes " (" ++ rest,
      inr (wrong, refl),
      last ∙ ap (λ (l : List ℕ). l ++ rest) (same ∙ first) ∙ append_assoc out (codes " (") rest,
    )
told_wrong (Err e) upstream mask code out opened full new fault first crc lacks kept last = tt
