-- How auditing a log ends.
use Rattle.std.proofs.Common.{◌≡◌, ℕ, true, false, List, [], ◌++◌, Result, Ok, Err, IsErrAnd, inl, inr, refl, length, take, map, sym, ap, subst, ◌∙◌, append_assoc}
use Rattle.std.proofs.Math.Seq.{take-append_seam}
use Rattle.std.specs.Io.KnownBytes.{Appends}
use Rattle.std.proofs.KnownBytes.{Appends-trans}
use Rattle.gp_flow.specs.declared.fault.Unanswered.{Unanswered}
use Rattle.gp_flow.specs.declared.fault.Unanswered.TheVariants.{Write, OutOfMemory, Full}
use Rattle.gp_flow.specs.declared.fault.LinesFault.{LinesFault}
use Rattle.gp_flow.specs.declared.fault.LinesFault.TheVariants as faults
use Rattle.gp_flow.specs.declared.lines.LinesEnd.{LinesEnd}
use Rattle.gp_flow.specs.declared.lines.LinesEnd.TheVariants.{Whole, Open, Over}
use Rattle.gp_flow.specs.Lines.{GetsPrefix, Serves, ServesAll, ServesTo, handed, lines_of, longest_line}
use Rattle.gp_stream.specs.Sink.{SinkState, KeepsNothing, TakesPrefix}
use Rattle.gp_stream.specs.Source.{SourceState}
use Rattle.gp_finding.specs.declared.error.AuditSum.{AuditSum}
use Rattle.gp_audit.specs.Audit.{AuditState, Auditing, never}
use Rattle.gp_audit.specs.Outcome.{AuditsLog, IsAudited, IsRead, LeavesUnended, TellsEnd}
use Rattle.gp_audit.specs.Ending.{end_text}
use Rattle.gp_audit.proofs.CountLemmas.{counts}

-- the whole input was read, and the writer got what is said to its lines
record Spoken {R W : Type 0} (old new : AuditState) (from to : SourceState R) (before after : SinkState W) : Type 0 where
  pub said : List ℕ
  pub audited : IsRead from to old said new
  pub written : Appends before.held after.held (before.gathered ++ said)
  pub kept : KeepsNothing after

untrue : {P : Type 0} → false ≡ true → P
untrue h = absurd (cc)

module _ {R W : Type 0} (old new : AuditState) (from to : SourceState R) (before between after : SinkState W) where
  all_spoken : (whole : _) → ServesAll Auditing longest_line whole from to old new before between → Spoken old new from to before between
  all_spoken whole s = record {
    said = s.said;
    audited = record {
      text = s.bytes;
      read = s.read;
      spoken = s.spoken;
      counts = counts (map (handed longest_line) (lines_of s.bytes)) old new s.said s.spoken;
    };
    written = s.written;
    kept = s.kept;
  }

  spoken : (end : LinesEnd) → ServesTo Auditing never longest_line end from to old new before between → Spoken old new from to before between
  spoken Whole s = all_spoken true s
  spoken Open s = all_spoken false s
  spoken Over s = untrue s.1

  -- ---- the sum

  behind : (sum : List ℕ) → between.gathered ≡ [] → between.gathered ++ sum ≡ sum
  behind sum none = ap (λ (l : List ℕ). l ++ sum) none

  summed : (sum : AuditSum) → Spoken old new from to before between → TellsEnd new between after (Ok tt) → sum ≡ new.sum → IsAudited old new from to before after sum
  summed sum s t same = record {
    said = s.said;
    audited = s.audited;
    sum_is = same;
    written =
        let text = end_text new in
        let both = Appends-trans before.held between.held after.held (before.gathered ++ s.said) (between.gathered ++ text) s.written t.0 in
        subst (Appends before.held after.held)
        (ap (λ (l : List ℕ). (before.gathered ++ s.said) ++ l) (behind text s.kept.0) ∙ append_assoc before.gathered s.said text) both;
    kept = (t.1, t.2 s.kept.1);
  }

  prefix : (said sum : List ℕ) → Appends before.held between.held (before.gathered ++ said) → between.gathered ≡ [] → TakesPrefix between after sum
      → GetsPrefix before after (said ++ sum)
  prefix said sum written none p =
      let front = (before.gathered ++ said) ++ p.written in
      let all : before.gathered ++ (said ++ sum) ≡ front ++ p.unwritten =
      sym (append_assoc before.gathered said sum)
      ∙ ap (λ (l : List ℕ). (before.gathered ++ said) ++ l) (sym (behind sum none) ∙ p.rest)
      ∙ sym (append_assoc (before.gathered ++ said) p.written p.unwritten) in
      record {
        count = length front;
        written = subst (Appends before.held after.held) (sym (ap (take (length front)) all ∙ take-append_seam front p.unwritten))
            (Appends-trans before.held between.held after.held (before.gathered ++ said) p.written written p.appended);
      }

  left : (fault : Unanswered) (s : Spoken old new from to before between) → TellsEnd new between after (Err fault) → LeavesUnended fault before after s.said (end_text new)
  left Write s t = prefix s.said (end_text new) s.written s.kept.0 t
  left OutOfMemory s t =
      subst (λ (x : SinkState W). Appends before.held x.held (before.gathered ++ s.said) × KeepsNothing x) (sym t) (s.written, s.kept)
  left Full s t = t

  not_full : (fault : Unanswered) → fault ≡ Full → TellsEnd new between after (Err fault) → ⊥
  not_full fault is t = subst (λ (f : Unanswered). TellsEnd new between after (Err f)) is t

  unsummed : (fault : Unanswered) → Spoken old new from to before between → TellsEnd new between after (Err fault)
      → AuditsLog old new from to before after (Err (faults.Line fault))
  unsummed fault s t = (inr (record { said = s.said; audited = s.audited; left = left fault s t }), λ is. absurd (not_full fault is t))

-- ---- what audit_log answers

pub audited_as : {R W : Type 0} (old new later : AuditState) (from to : SourceState R) (before between after : SinkState W) (end : LinesEnd) (sum : AuditSum)
    → ServesTo Auditing never longest_line end from to old new before between → TellsEnd new between after (Ok tt) → later ≡ new → sum ≡ later.sum
    → IsAudited old later from to before after sum
audited_as old new later from to before between after end sum s t same counted =
    subst (λ (x : AuditState). IsAudited old x from to before after sum) (sym same)
    (summed old new from to before between after sum (spoken old new from to before between after end s) t (counted ∙ ap (λ (x : AuditState). x.sum) same))

pub unsummed_as : {R W : Type 0} (old new later : AuditState) (from to : SourceState R) (before between after : SinkState W) (end : LinesEnd) (fault : Unanswered)
    (r : Result AuditSum LinesFault) → ServesTo Auditing never longest_line end from to old new before between → TellsEnd new between after (Err fault) → later ≡ new
    → IsErrAnd r (λ f. f ≡ faults.Line fault) → AuditsLog old later from to before after r
unsummed_as old new later from to before between after end fault (Ok sum) s t same told = absurd told
unsummed_as old new later from to before between after end fault (Err f) s t same told =
    subst (λ (x : AuditState). AuditsLog old x from to before after (Err f)) (sym same)
    (subst (λ (x : LinesFault). AuditsLog old new from to before after (Err x)) (sym told)
    (unsummed old new from to before between after fault (spoken old new from to before between after end s) t))

-- the input was not read, or a line not answered
unserved : {R W : Type 0} (old new : AuditState) (from to : SourceState R) (before after : SinkState W) (fault : LinesFault)
    → Serves Auditing never longest_line from to old new before after (Err fault) → AuditsLog old new from to before after (Err fault)
unserved old new from to before after faults.Read s = (s.read refl, s.failed refl)
unserved old new from to before after (faults.Line fault) s =
    (inl (s.fault fault refl), λ is. s.full (ap (λ (f : Unanswered). let r : Result LinesEnd LinesFault = Err (faults.Line f) in r) is))

pub unserved_as : {R W : Type 0} (old new : AuditState) (from to : SourceState R) (before after : SinkState W) (fault : LinesFault) (r : Result AuditSum LinesFault)
    → IsErrAnd r (λ f. f ≡ fault) → Serves Auditing never longest_line from to old new before after (Err fault) → AuditsLog old new from to before after r
unserved_as old new from to before after fault (Ok sum) told s = absurd told
unserved_as old new from to before after fault (Err e) told s =
    subst (λ (f : LinesFault). AuditsLog old new from to before after (Err f)) (sym told) (unserved old new from to before after fault s)
