-- Lines of words that are answered by objects.
use Rattle.std.proofs.Common.{◌≡◌, ℕ, ◌+◌, false, List, None, Some, Option, Result, Ok, Err, IsErrAnd, inr, refl, sym, subst}
use Rattle.gp_flow.specs.declared.fault.Unanswered.{Unanswered}
use Rattle.gp_flow.specs.declared.fault.Unanswered.TheVariants.{Write}
use Rattle.gp_flow.specs.Lines.{Answers}
use Rattle.gp_flow.proofs.AnswerLemmas.{put_stopped}
use Rattle.gp_stream.specs.declared.sink.WriteStopped.{WriteStopped}
use Rattle.gp_stream.specs.Sink.{SinkState, Puts}
use Rattle.gp_lines.specs.declared.fault.LineFault.TheVariants.{Long}
use Rattle.gp_decode.specs.LineText.{is_remark, without_return}
use Rattle.gp_encode.specs.declared.fault.WordsFault.{WordsFault}
use Rattle.gp_encode.specs.declared.fault.WordsFault.TheVariants.{Part}
use Rattle.gp_encode.specs.Lines.{EncodeState, after, fault_name}
use Rattle.gp_code_objects.specs.Object.{error_object}
use Rattle.gp_code_objects.specs.Encoded.{Showing, ShowsWords}

-- a line of which the writer took a part
pub stopped_line : {W T : Type 0} (old new : EncodeState) (line said : List ℕ) (f : Option WordsFault) (before after_ : SinkState W) (e : WriteStopped) (r : Result (Unit {0}) Unanswered)
    → is_remark (without_return line) ≡ false → ShowsWords old.upstream old.mask (old.lines + 1) (without_return line) f said → Puts {T = T} before after_ said (Err e)
    → IsErrAnd r (λ g. g ≡ Write) → Answers Showing (Some line) old new before after_ r
stopped_line old new line said f before after_ e (Ok x) text says puts told = absurd told
stopped_line old new line said f before after_ e (Err g) text says puts told =
    subst (λ (failed : Unanswered). Answers {T = Unit {0}} Showing (Some line) old new before after_ (Err failed)) (sym told)
    (put_stopped Showing (Some line) old new (after f old) before after_ said e (inr (text, f, says, refl)) puts)

-- one that is too long, of which the writer took a part
pub stopped_long_line : {W T : Type 0} (old new : EncodeState) (said : List ℕ) (before after_ : SinkState W) (e : WriteStopped) (r : Result (Unit {0}) Unanswered)
    → said ≡ error_object (old.lines + 1) (fault_name (Part Long)) → Puts {T = T} before after_ said (Err e) → IsErrAnd r (λ g. g ≡ Write) → Answers Showing None old new before after_ r
stopped_long_line old new said before after_ e (Ok x) says puts told = absurd told
stopped_long_line old new said before after_ e (Err g) says puts told =
    subst (λ (failed : Unanswered). Answers {T = Unit {0}} Showing None old new before after_ (Err failed)) (sym told)
    (put_stopped Showing None old new (after (Some (Part Long)) old) before after_ said e (says, refl) puts)
