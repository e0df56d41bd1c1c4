-- Lines of codes that are answered by objects.
use Rattle.std.proofs.Common.{◌≡◌, ℕ, ◌+◌, Bool, false, List, None, Some, Option, Result, Ok, Err, IsErrAnd, inr, refl, sym, subst}
use Rattle.gp_flow.specs.declared.fault.Unanswered.{Unanswered}
use Rattle.gp_flow.specs.declared.fault.Unanswered.TheVariants.{Write}
use Rattle.gp_flow.specs.Lines.{Answers}
use Rattle.gp_flow.proofs.AnswerLemmas.{put_stopped}
use Rattle.gp_stream.specs.declared.sink.WriteStopped.{WriteStopped}
use Rattle.gp_stream.specs.Sink.{SinkState, Puts}
use Rattle.gp_ploam.specs.declared.check.Mask.{Mask}
use Rattle.gp_decode.specs.declared.fault.DecodeFault.{DecodeFault}
use Rattle.gp_decode.specs.declared.fault.DecodeFault.TheVariants as fault
use Rattle.gp_decode.specs.Line.{HasDecodeFault, IsOfSpelling}
use Rattle.gp_decode.specs.LineText.{is_remark, without_return}
use Rattle.gp_decode.specs.Lines.{DecodeState, after, fault_name, faulted}
use Rattle.gp_code_objects.specs.Object.{error_object}
use Rattle.gp_code_objects.specs.Decoded.{Showing, ShowsDigits, ShowsText}

-- digits with a fault that is seen in them are answered by its name
pub of_spelling : (upstream : Bool) (mask : Mask) (line : ℕ) (digits said : List ℕ) (f : DecodeFault) → IsOfSpelling f → HasDecodeFault mask digits f
    → said ≡ error_object line (fault_name f) → ShowsDigits upstream mask line digits (Some f) said
of_spelling upstream mask line digits said fault.Length own h says = (h, says)
of_spelling upstream mask line digits said fault.Digit own h says = (h, says)
of_spelling upstream mask line digits said fault.Crc own h says = absurd own
of_spelling upstream mask line digits said fault.OutOfMemory own h says = absurd own
of_spelling upstream mask line digits said fault.Write own h says = absurd own
of_spelling upstream mask line digits said fault.Direction own h says = absurd own

-- a line of which the writer took a part
pub stopped_line : {W T : Type 0} (old new : DecodeState) (line said : List ℕ) (f : Option DecodeFault) (before after_ : SinkState W) (e : WriteStopped) (r : Result (Unit {0}) Unanswered)
    → is_remark (without_return line) ≡ false → ShowsText old.direction old.mask (old.lines + 1) (without_return line) f said → Puts {T = T} before after_ said (Err e)
    → IsErrAnd r (λ g. g ≡ Write) → Answers Showing (Some line) old new before after_ r
stopped_line old new line said f before after_ e (Ok x) text says puts told = absurd told
stopped_line old new line said f before after_ e (Err g) text says puts told =
    subst (λ (failed : Unanswered). Answers {T = Unit {0}} Showing (Some line) old new before after_ (Err failed)) (sym told)
    (put_stopped Showing (Some line) old new (after f old) before after_ said e (inr (text, f, says, refl)) puts)

-- one of which the writer took a part
pub stopped_long_line : {W T : Type 0} (old new : DecodeState) (said : List ℕ) (before after_ : SinkState W) (e : WriteStopped) (r : Result (Unit {0}) Unanswered)
    → said ≡ error_object (old.lines + 1) (fault_name fault.Length) → Puts {T = T} before after_ said (Err e) → IsErrAnd r (λ g. g ≡ Write) → Answers Showing None old new before after_ r
stopped_long_line old new said before after_ e (Ok x) says puts told = absurd told
stopped_long_line old new said before after_ e (Err g) says puts told =
    subst (λ (failed : Unanswered). Answers {T = Unit {0}} Showing None old new before after_ (Err failed)) (sym told)
    (put_stopped Showing None old new (faulted fault.Length old) before after_ said e (says, refl) puts)
