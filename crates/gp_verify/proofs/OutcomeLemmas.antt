-- How the verification of a text ends.
use Rattle.std.specs.Prelude.{All, IfSome, is_some}
use Rattle.std.proofs.Common.{◌≡◌, ℕ, true, false, List, [], ◌∷◌, ◌++◌, Option, None, Some, Result, Err, length, map, refl, sym, ap, subst, ◌∙◌, append_assoc}
use Rattle.std.proofs.lemmas.List.{append-nil}
use Rattle.std.specs.Io.KnownBytes.{Consumes, IsAtEnd}
use Rattle.gp_flow.specs.declared.fault.Unanswered.{Unanswered}
use Rattle.gp_flow.specs.declared.lines.LinesEnd.{LinesEnd}
use Rattle.gp_flow.specs.declared.lines.LinesEnd.TheVariants.{Whole, Open, Over}
use Rattle.gp_flow.specs.declared.fault.LinesFault.{LinesFault}
use Rattle.gp_flow.specs.declared.fault.LinesFault.TheVariants as faults
use Rattle.gp_flow.specs.Lines.{DoesAll, Serves, ServesTo, ended_lines, handed, lines_of, with_feeds, longest_line}
use Rattle.gp_stream.specs.Sink.{SinkState}
use Rattle.gp_stream.specs.Source.{SourceState, ReadsWhole}
use Rattle.gp_flow.proofs.LineLemmas.{ended_first, handed_none, handed_whole, lines_fed}
use Rattle.gp_ploam.specs.declared.check.Mask.{Mask}
use Rattle.gp_replay.specs.Chassis.{PlayState}
use Rattle.gp_verify.specs.declared.outcome.VerifyFault.{VerifyFault}
use Rattle.gp_verify.specs.declared.outcome.VerifyFault.TheVariants.{Lines}
use Rattle.gp_verify.specs.declared.verdict.Verdict.{Verdict}
use Rattle.gp_verify.specs.declared.verdict.Verdict.TheVariants as verdict
use Rattle.gp_verify.specs.Following.{Following, TellsFrom, has_ended}
use Rattle.gp_verify.specs.Outcome.{Condemns, IsRefused, IsRun, IsUnended, RunsVerify, WritesAll, finding}
use Rattle.gp_verify.specs.Ports.{IsOrderlyPort}
use Rattle.gp_verify.specs.Report.{Reports, ReportsAt}
use Rattle.gp_verify.specs.Tells.{AreTrace, IsTraceText, TellsNothing}
use Rattle.gp_verify.specs.Verdicts.{Judges, VerifyState}
use Rattle.gp_verify.proofs.CourseLemmas.{Course, Fails, Halts, Runs, course, wholes}
use Rattle.gp_verify.proofs.PortLemmas.{long_tells_nothing}
use Rattle.gp_verify.proofs.TextLemmas.{lines_plain, traces_are_lines}
use Rattle.gp_verify.proofs.TraceLemmas.{Stage, refused, stage_begun, stage_ends, stage_trace, tells_lines}

-- ---- lines that were handed on

some_none : {A : Type 0} (x : A) → Some x ≡ None → ⊥
some_none x h = cc

some_cons : {A : Type 0} (x : A) (xs : List A) → x ∷ xs ≡ [] → ⊥
some_cons x xs h = cc

none_cons : {A : Type 0} (x : A) (xs : List A) → [] ≡ x ∷ xs → ⊥
none_cons x xs h = cc

head_same : {A : Type 0} (x y : A) (xs ys : List A) → x ∷ xs ≡ y ∷ ys → x ≡ y
head_same x y xs ys h = cc

tail_same : {A : Type 0} (x y : A) (xs ys : List A) → x ∷ xs ≡ y ∷ ys → xs ≡ ys
tail_same x y xs ys h = cc

cons_same : {A : Type 0} (x y : A) (xs ys : List A) → x ≡ y → xs ≡ ys → x ∷ xs ≡ y ∷ ys
cons_same x y xs ys h k = cc

-- all of them whole
handed_all : (limit : ℕ) (ls texts : List (List ℕ)) → map (handed limit) ls ≡ wholes texts → ls ≡ texts
handed_all limit [] [] h = refl
handed_all limit [] (t ∷ texts) h = absurd (none_cons _ _ h)
handed_all limit (l ∷ ls) [] h = absurd (some_cons _ _ h)
handed_all limit (l ∷ ls) (t ∷ texts) h =
    cons_same l t ls texts (handed_whole limit l t (head_same _ _ _ _ h)) (handed_all limit ls texts (tail_same _ _ _ _ h))

-- the first of them whole, and this one
record Parted (limit : ℕ) (ls before : List (List ℕ)) (line : Option (List ℕ)) : Type 0 where
  pub raw : List ℕ
  pub others : List (List ℕ)
  pub parts : ls ≡ before ++ raw ∷ others
  pub is : handed limit raw ≡ line

parted : (limit : ℕ) (ls before : List (List ℕ)) (line : Option (List ℕ)) (rest : List (Option (List ℕ))) → map (handed limit) ls ≡ wholes before ++ line ∷ rest → Parted limit ls before line
parted limit [] [] line rest h = absurd (none_cons _ _ h)
parted limit [] (t ∷ before) line rest h = absurd (none_cons _ _ h)
parted limit (l ∷ ls) [] line rest h = record { raw = l; others = ls; parts = refl; is = head_same _ _ _ _ h }
parted limit (l ∷ ls) (t ∷ before) line rest h =
    let p = parted limit ls before line rest (tail_same _ _ _ _ h) in
    record { raw = p.raw; others = p.others; parts = cons_same l t ls _ (handed_whole limit l t (head_same _ _ _ _ h)) p.parts; is = p.is }

-- ---- what a trace is in lines

record InLines (mask : Mask) (old : PlayState) (text : List ℕ) : Type 0 where
  pub feeds : text ≡ with_feeds (lines_of text)
  pub trace : AreTrace mask old (lines_of text)

in_lines : (mask : Mask) (old : PlayState) (text : List ℕ) → IsTraceText mask old text → InLines mask old text
in_lines mask old text h =
    let l = (traces_are_lines mask old text).0 h in
    let plain = lines_plain mask l.2.receipts l.0 l.2.run.lines in
    let same : lines_of text ≡ l.0 = ap lines_of l.1 ∙ lines_fed l.0 plain in
    record {
      feeds = l.1 ∙ ap with_feeds (sym same);
      trace = subst (AreTrace mask old) (sym same) l.2;
    }

-- ---- the three ends

module _ {R : Type 0} (limit : ℕ) (from to : SourceState R) (old new : VerifyState) where
  run_found : (text : List ℕ) → ReadsWhole from to text → text ≡ with_feeds (lines_of text)
      → (told : List ℕ) → Runs old.mask old.play (map (handed limit) (lines_of text)) new told → IsRun old from to new.lines
  run_found text read feeds told runs =
      let same : lines_of text ≡ runs.texts = handed_all limit (lines_of text) runs.texts runs.all_is in
      let trace = stage_trace old.mask old.play new.play runs.texts (lines_of text) same runs.stage in
      record { text = text; read = read; trace = (traces_are_lines old.mask old.play text).1 (lines_of text, feeds, trace); count = ap length same ∙ sym runs.lines }

  -- what was read, where the reader tells its bytes
  whole_text : (o p : Option (List ℕ)) (text xs : List ℕ) → Consumes o p text → IsAtEnd p → o ≡ Some xs → xs ≡ text
  whole_text None p text xs came end is = absurd (some_none xs (sym is))
  whole_text (Some ys) None text xs came end is = absurd came
  whole_text (Some ys) (Some zs) text xs came end is =
      let same : ys ≡ xs = cc in
      sym same ∙ came ∙ ap (λ (l : List ℕ). text ++ l) end ∙ append-nil text

  if_some : (o : Option (List ℕ)) (P : List ℕ → Type 0) → ((xs : List ℕ) → o ≡ Some xs → P xs) → IfSome o P
  if_some None P h = tt
  if_some (Some xs) P h = h xs refl

  unended_found : (text : List ℕ) → ReadsWhole from to text → (text ≡ with_feeds (lines_of text) → ⊥)
      → (told : List ℕ) → Runs old.mask old.play (map (handed limit) (lines_of text)) new told → IsUnended old from to new.lines
  unended_found text read unfed told runs =
      let same : lines_of text ≡ runs.texts = handed_all limit (lines_of text) runs.texts runs.all_is in
      record {
        text = text;
        read = read;
        count = ap length same ∙ sym runs.lines;
        none = if_some from.remaining (λ (xs : List ℕ). IsTraceText old.mask old.play xs → ⊥)
            (λ xs is trace. unfed (subst (λ (t : List ℕ). t ≡ with_feeds (lines_of t)) (whole_text from.remaining to.remaining text xs read.consumed read.end is) (in_lines old.mask old.play xs trace).feeds));
      }

  -- a line that ends it
  condemned : (v : Verdict) (line : Option (List ℕ)) (mid : PlayState) (raw : List ℕ) → handed longest_line raw ≡ line → Fails v line old.mask mid new.play new.said → Condemns v old.mask mid raw new.play new.said
  condemned v None mid raw is fails = subst (λ (x : Verdict). Condemns x old.mask mid raw new.play new.said) (sym fails) (handed_none longest_line raw is)
  condemned verdict.Follows (Some text) mid raw is fails = absurd (fails.1 refl)
  condemned verdict.NotALine (Some text) mid raw is fails = subst (λ (t : List ℕ). Judges verdict.NotALine old.mask mid t new.play new.said) (sym (handed_whole longest_line raw text is)) fails.0
  condemned verdict.NoPort (Some text) mid raw is fails = subst (λ (t : List ℕ). Judges verdict.NoPort old.mask mid t new.play new.said) (sym (handed_whole longest_line raw text is)) fails.0
  condemned verdict.WrongNumber (Some text) mid raw is fails = subst (λ (t : List ℕ). Judges verdict.WrongNumber old.mask mid t new.play new.said) (sym (handed_whole longest_line raw text is)) fails.0
  condemned verdict.NotAStep (Some text) mid raw is fails = subst (λ (t : List ℕ). Judges verdict.NotAStep old.mask mid t new.play new.said) (sym (handed_whole longest_line raw text is)) fails.0
  condemned verdict.TooLong (Some text) mid raw is fails = absurd fails.0

  -- the line tells of nothing there
  told_nothing : (v : Verdict) (line : Option (List ℕ)) (mid : PlayState) (done : List (List ℕ)) (raw : List ℕ) → All IsOrderlyPort old.play.world.ports
      → Stage old.mask old.play done mid → handed longest_line raw ≡ line → Fails v line old.mask mid new.play new.said → TellsNothing old.mask mid raw
  told_nothing v None mid done raw ports stage is fails = long_tells_nothing old.mask old.play mid done raw ports stage (handed_none longest_line raw is)
  told_nothing v (Some text) mid done raw ports stage is fails =
      subst (TellsNothing old.mask mid) (sym (handed_whole longest_line raw text is)) (refused v old.mask mid new.play text new.said fails.1 fails.0)

  -- what is told of it
  told_report : (v : Verdict) (line : Option (List ℕ)) (mid : PlayState) (raw told : List ℕ) → handed longest_line raw ≡ line → Fails v line old.mask mid new.play new.said
      → new.ended ≡ Some v → TellsFrom old.form None line new told → Reports old.form v new.lines new raw told
  told_report v None mid raw told is fails ended h =
      subst (λ (x : Verdict). Reports old.form x new.lines new raw told) (sym fails) h
  told_report v (Some text) mid raw told is fails ended h =
      subst (λ (t : List ℕ). Reports old.form v new.lines new t told) (sym (handed_whole longest_line raw text is))
      (subst (λ (e : Option Verdict). ReportsAt old.form e new.lines new text told) ended h)

  refused_found : All IsOrderlyPort old.play.world.ports → (v : Verdict) (told bytes : List ℕ) (ls others : List (List ℕ)) → Consumes from.remaining to.remaining bytes → lines_of bytes ≡ ls ++ others
      → ((xs : List ℕ) → from.remaining ≡ Some xs → (o : List (List ℕ)) × (lines_of xs ≡ ls ++ o))
      → Halts v old.form old.mask old.play (map (handed longest_line) ls) new told → IsRefused old new from to new.lines v told
  refused_found ports v told bytes ls others came is first halts =
      let p = parted longest_line ls halts.before halts.line halts.rest halts.all_is in
      let behind : (o : List (List ℕ)) → ls ++ o ≡ halts.before ++ p.raw ∷ (p.others ++ o) =
      λ o. ap (λ (l : List (List ℕ)). l ++ o) p.parts ∙ append_assoc halts.before (p.raw ∷ p.others) o in
      record {
        bytes = bytes;
        came = came;
        before = halts.before;
        text = p.raw;
        others = p.others ++ others;
        lines = is ∙ behind others;
        number = sym halts.lines;
        receipts = halts.stage.receipts;
        mid = halts.mid;
        run = tells_lines old.mask old.play halts.before halts.stage.receipts halts.mid halts.stage.tells;
        condemned = condemned v halts.line halts.mid p.raw p.is halts.fails;
        told_is = told_report v halts.line halts.mid p.raw told p.is halts.fails halts.ended halts.told_is;
        none = if_some from.remaining (λ (xs : List ℕ). IsTraceText old.mask old.play xs → ⊥)
            (λ xs here trace.
            let o = first xs here in
            stage_ends old.mask old.play halts.mid halts.before p.raw (p.others ++ o.0) (lines_of xs) (o.1 ∙ behind o.0) halts.stage
            (told_nothing v halts.line halts.mid halts.before p.raw ports halts.stage p.is halts.fails) (in_lines old.mask old.play xs trace).trace);
      }

  -- the lines of all that is to come begin with those of what came
  first_lines : (o p : Option (List ℕ)) (bytes xs : List ℕ) → Consumes o p bytes → o ≡ Some xs → (rest : List (List ℕ)) × (lines_of xs ≡ ended_lines bytes ++ rest)
  first_lines None p bytes xs came is = absurd (some_none xs (sym is))
  first_lines (Some ys) None bytes xs came is = absurd came
  first_lines (Some ys) (Some zs) bytes xs came is =
      let same : ys ≡ xs = cc in
      let e = ended_first bytes zs in
      (e.0, ap lines_of (sym same ∙ came) ∙ e.1)

-- ---- what was found

started : (old new : VerifyState) (ls : List (Option (List ℕ))) (said : List ℕ) → old.ended ≡ None → old.lines ≡ 0 → DoesAll Following old ls said new
    → Course new.ended old.form old.mask old.play ls new said
started old new ls said none first h = course old.form old.mask old.play [] ls old new said refl refl none (stage_begun old.mask old.play) first h

never : false ≡ true → ⊥
never h = cc

module _ {R W : Type 0} (from to : SourceState R) (old new : VerifyState) (before after : SinkState W) (told : List ℕ) (written : WritesAll before after told) (ports : All IsOrderlyPort old.play.world.ports) where
  whole : (ended : Option Verdict) → (text : List ℕ) → ReadsWhole from to text → text ≡ with_feeds (lines_of text)
      → Course ended old.form old.mask old.play (map (handed longest_line) (lines_of text)) new told → RunsVerify old new from to before after (finding Whole ended new.lines)
  whole None text read feeds c = record { told = told; verified = (run_found longest_line from to old new text read feeds told c, c.silent); written = written }
  whole (Some v) text read feeds c = record {
    told = told;
    verified = refused_found longest_line from to old new ports v told text (lines_of text) [] read.consumed (sym (append-nil (lines_of text)))
        (λ xs is. ([], ap lines_of (whole_text longest_line from to old new from.remaining to.remaining text xs read.consumed read.end is) ∙ sym (append-nil (lines_of text)))) c;
    written = written;
  }

  unended : (ended : Option Verdict) → (text : List ℕ) → ReadsWhole from to text → (text ≡ with_feeds (lines_of text) → ⊥)
      → Course ended old.form old.mask old.play (map (handed longest_line) (lines_of text)) new told → RunsVerify old new from to before after (finding Open ended new.lines)
  unended None text read unfed c = record { told = told; verified = (unended_found longest_line from to old new text read unfed told c, c.silent); written = written }
  unended (Some v) text read unfed c = record {
    told = told;
    verified = refused_found longest_line from to old new ports v told text (lines_of text) [] read.consumed (sym (append-nil (lines_of text)))
        (λ xs is. ([], ap lines_of (whole_text longest_line from to old new from.remaining to.remaining text xs read.consumed read.end is) ∙ sym (append-nil (lines_of text)))) c;
    written = written;
  }

  over : (ended : Option Verdict) → is_some ended ≡ true → (bytes : List ℕ) → Consumes from.remaining to.remaining bytes
      → Course ended old.form old.mask old.play (map (handed longest_line) (ended_lines bytes)) new told → RunsVerify old new from to before after (finding Over ended new.lines)
  over None is bytes came c = absurd (never is)
  over (Some v) is bytes came c =
      let e = ended_first bytes [] in
      record {
        told = told;
        verified = refused_found longest_line from to old new ports v told bytes (ended_lines bytes) e.0 came (ap lines_of (sym (append-nil bytes)) ∙ e.1)
            (λ xs here. first_lines longest_line from to old new from.remaining to.remaining bytes xs came here) c;
        written = written;
      }

module _ {R W : Type 0} (from to : SourceState R) (old new : VerifyState) (before after : SinkState W) where
  verified : (end : LinesEnd) → All IsOrderlyPort old.play.world.ports → old.ended ≡ None → old.lines ≡ 0 → ServesTo Following has_ended longest_line end from to old new before after
      → RunsVerify old new from to before after (finding end new.ended new.lines)
  verified Whole ports none first s =
      whole from to old new before after s.said (s.written, s.kept) ports new.ended s.bytes s.read (s.feeds.0 refl) (started old new (map (handed longest_line) (lines_of s.bytes)) s.said none first s.spoken)
  verified Open ports none first s =
      unended from to old new before after s.said (s.written, s.kept) ports new.ended s.bytes s.read (λ e. never (s.feeds.1 e))
      (started old new (map (handed longest_line) (lines_of s.bytes)) s.said none first s.spoken)
  verified Over ports none first s =
      over from to old new before after s.0.said (s.0.written, s.0.kept) ports new.ended s.1 s.0.bytes s.0.read
      (started old new (map (handed longest_line) (ended_lines s.0.bytes)) s.0.said none first s.0.spoken)

  pub verified_as : (end : LinesEnd) (found : Option Verdict) (line : ℕ) (answer : Result ℕ VerifyFault) → found ≡ new.ended → line ≡ new.lines → answer ≡ finding end found line
      → All IsOrderlyPort old.play.world.ports → old.ended ≡ None → old.lines ≡ 0 → ServesTo Following has_ended longest_line end from to old new before after → RunsVerify old new from to before after answer
  verified_as end found line answer is many same ports none first s =
      let told : answer ≡ finding end new.ended new.lines = same ∙ ap (λ (f : Option Verdict). finding end f line) is ∙ ap (λ (n : ℕ). finding end new.ended n) many in
      subst (λ (a : Result ℕ VerifyFault). RunsVerify old new from to before after a) (sym told) (verified end ports none first s)

  pub unread : (fault : LinesFault) → Serves Following has_ended longest_line from to old new before after (Err fault) → RunsVerify old new from to before after (Err (Lines fault))
  unread faults.Read s = record { told = []; verified = s.failed refl; written = tt }
  unread (faults.Line fault) s = record {
    told = [];
    verified = λ is. s.full (ap (λ (f : Unanswered). let r : Result LinesEnd LinesFault = Err (faults.Line f) in r) is);
    written = tt;
  }
