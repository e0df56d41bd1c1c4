-- The words of a code and its object, behind what was written.
use Rattle.std.proofs.Common.{◌≡◌, ℕ, Bool, true, false, List, ◌++◌, Result, Ok, Err, OnOk, codes, refl, append_assoc, inl, inr}
use Rattle.std.specs.List.{flat_map}
use Rattle.gp_ploam.specs.declared.check.Mask.{Mask}
use Rattle.gp_ploam.specs.declared.message.Down.{Down}
use Rattle.gp_ploam.specs.declared.message.Up.{Up}
use Rattle.gp_ploam.specs.Down.{ReadsDown}
use Rattle.gp_ploam.specs.Mask.{mask_value}
use Rattle.gp_ploam.specs.Up.{ReadsUp}
use Rattle.gp_decode.specs.Line.{HasWrongCheck}
use Rattle.gp_decode.specs.Message.{down_text, up_text}
use Rattle.gp_json.specs.Fields.{fields_opening, message_opening}
use Rattle.gp_json.specs.Message.{down_object, up_object}
use Rattle.gp_json.specs.Messages.{TellsBoth}
use Rattle.gp_json.specs.Spelling.{escaped, quoted}

-- both stand, where the words are between quotation marks
told : (upstream : Bool) (words fields old opened worded named new : List ℕ) → opened ≡ old ++ (message_opening upstream ++ codes "\"") → worded ≡ opened ++ flat_map escaped words
    → named ≡ worded ++ (codes "\"" ++ fields_opening upstream) → new ≡ named ++ fields
    → new ≡ old ++ (message_opening upstream ++ quoted words ++ fields_opening upstream ++ fields)
told upstream words fields old opened worded named new first second third fourth =
    rw (fourth, third, second, first) (simp append_assoc)

pub told_up : {E : Type 0} (r : Result (Unit {0}) E) (mask : Mask) (octets old opened worded named new : List ℕ) (m : Up) → ReadsUp octets (mask_value mask) m
    → opened ≡ old ++ codes ",\"message\":\"" → worded ≡ opened ++ flat_map escaped (up_text m)
    → named ≡ worded ++ codes "\",\"message_fields\":" → OnOk r (new ≡ named ++ up_object m) → OnOk r (TellsBoth true mask octets old new)
told_up (Ok x) mask octets old opened worded named new m read first second third fourth = record {
  message = quoted (up_text m);
  fields = up_object m;
  tells = inl (up_text m, (m, read, refl), refl);
  shows = inl (m, read, refl);
  stands = told true (up_text m) (up_object m) old opened worded named new first second third fourth;
}
told_up (Err e) mask octets old opened worded named new m read first second third fourth = tt

pub told_down : {E : Type 0} (r : Result (Unit {0}) E) (mask : Mask) (octets old opened worded named new : List ℕ) (m : Down) → ReadsDown octets (mask_value mask) m
    → opened ≡ old ++ codes ",\"sent_message\":\"" → worded ≡ opened ++ flat_map escaped (down_text m)
    → named ≡ worded ++ codes "\",\"sent_fields\":" → OnOk r (new ≡ named ++ down_object m) → OnOk r (TellsBoth false mask octets old new)
told_down (Ok x) mask octets old opened worded named new m read first second third fourth = record {
  message = quoted (down_text m);
  fields = down_object m;
  tells = inl (down_text m, (m, read, refl), refl);
  shows = inl (m, read, refl);
  stands = told false (down_text m) (down_object m) old opened worded named new first second third fourth;
}
told_down (Err e) mask octets old opened worded named new m read first second third fourth = tt

-- neither, where the check octet is wrong
pub told_null : {E : Type 0} (r : Result (Unit {0}) E) (upstream : Bool) (mask : Mask) (octets old new : List ℕ) → HasWrongCheck mask octets
    → OnOk r (new ≡ old ++ (message_opening upstream ++ codes "null" ++ fields_opening upstream ++ codes "null")) → OnOk r (TellsBoth upstream mask octets old new)
told_null (Ok x) upstream mask octets old new wrong is = record {
  message = codes "null";
  fields = codes "null";
  tells = inr (wrong, refl);
  shows = inr (wrong, refl);
  stands = is;
}
told_null (Err e) upstream mask octets old new wrong is = tt
