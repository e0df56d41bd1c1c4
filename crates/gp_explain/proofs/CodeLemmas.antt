-- A code whose check octet is wrong.
use Rattle.std.proofs.Common.{◌≡◌, ◌≢◌, ℕ, Bool, List, ◌++◌, Result, Ok, Err, OnOk, codes, refl, sym, ap, subst, ◌∙◌, append_assoc, inr}
use Rattle.gp_ploam.specs.declared.check.Mask.{Mask}
use Rattle.gp_decode.specs.declared.fault.DecodeFault.{DecodeFault}
use Rattle.gp_decode.specs.declared.fault.DecodeFault.TheVariants as faults
use Rattle.gp_decode.specs.Line.{HasWrongCheck, LacksWords}
use Rattle.gp_explain.specs.Words.{TellsOctets}

abbrev garbled : List ℕ → List ℕ
garbled part = codes "garbled " ++ part ++ codes "]"

-- it is told as the line spells it, behind the bracket
pub told_garbled : {E : Type 0} (r : Result (Unit {0}) E) (upstream : Bool) (mask : Mask) (part octets out mid full new : List ℕ) (fault : DecodeFault) → mid ≡ out ++ codes "["
    → fault ≡ faults.Crc → LacksWords upstream mask octets fault → (fault ≢ faults.OutOfMemory → full ≡ mid) → OnOk r (new ≡ full ++ garbled part)
    → OnOk r ((told : List ℕ) × TellsOctets upstream mask part octets told × (new ≡ out ++ told))
told_garbled (Ok x) upstream mask part octets out mid full new fault opened crc lacks kept ended =
    let wrong : HasWrongCheck mask octets = subst (LacksWords upstream mask octets) crc lacks in
    let same : full ≡ mid = kept (λ memory. let clash : faults.Crc ≡ faults.OutOfMemory = sym crc ∙ memory in cc) in
    (codes "[garbled " ++ part ++ codes "]", inr (wrong, refl), ended ∙ ap (λ (l : List ℕ). l ++ garbled part) (same ∙ opened) ∙ append_assoc out (codes "[") (garbled part))
told_garbled (Err e) upstream mask part octets out mid full new fault opened crc lacks kept ended = tt
