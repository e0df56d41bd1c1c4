-- How writing a trace as a log ends.
use Rattle.std.specs.Prelude.{is_some}
use Rattle.std.proofs.Common.{◌≡◌, ℕ, true, false, List, [], ◌∷◌, ◌++◌, Option, None, Some, Result, Ok, Err, IsErrAnd, inl, inr, length, take, map, refl, sym, ap, subst, ◌∙◌, append_assoc, arith}
use Rattle.std.proofs.lemmas.List.{append-nil, take_all}
use Rattle.std.specs.Io.KnownBytes.{Appends, Consumes}
use Rattle.gp_flow.specs.declared.fault.Unanswered.{Unanswered}
use Rattle.gp_flow.specs.declared.fault.Unanswered.TheVariants.{OutOfMemory}
use Rattle.gp_flow.specs.declared.lines.LinesEnd.{LinesEnd}
use Rattle.gp_flow.specs.declared.lines.LinesEnd.TheVariants.{Whole, Open, Over}
use Rattle.gp_flow.specs.declared.fault.LinesFault.{LinesFault}
use Rattle.gp_flow.specs.declared.fault.LinesFault.TheVariants as faults
use Rattle.gp_flow.specs.Lines.{DoesAll, GetsPrefix, Leaves, Serves, ServesTo, ended_lines, handed, lines_of, longest_line}
use Rattle.gp_flow.proofs.LineLemmas.{ended_first, handed_none, handed_whole}
use Rattle.gp_stream.specs.Sink.{SinkState, KeepsNothing}
use Rattle.gp_stream.specs.Source.{SourceState, ReadsWhole}
use Rattle.gp_explain.specs.declared.fault.ExplainFault.{ExplainFault}
use Rattle.gp_explain.specs.declared.fault.ExplainFault.TheVariants.{Lines}
use Rattle.gp_explain.specs.declared.fault.NoLine.{NoLine}
use Rattle.gp_transcribe.specs.Entries.{IsTraceRead}
use Rattle.gp_flow.proofs.AnswerLemmas.{all_of_some}
use Rattle.gp_transcribe.specs.Transcribing.{IsFull, TranscribeState, Transcribing, Says, has_ended, no_frames, opened_state}
use Rattle.gp_transcribe.specs.Outcome.{AreTranscribed, TranscribesTrace, IsBegun, IsNone, IsRefused, finding}
use Rattle.gp_transcribe.proofs.CourseLemmas.{Course, Fails, Halts, course, wholes}

-- ---- lines that were handed on

some_cons : {A : Type 0} (x : A) (xs : List A) → x ∷ xs ≡ [] → ⊥
some_cons x xs h = cc

none_cons : {A : Type 0} (x : A) (xs : List A) → [] ≡ x ∷ xs → ⊥
none_cons x xs h = cc

head_same : {A : Type 0} (x y : A) (xs ys : List A) → x ∷ xs ≡ y ∷ ys → x ≡ y
head_same x y xs ys h = cc

tail_same : {A : Type 0} (x y : A) (xs ys : List A) → x ∷ xs ≡ y ∷ ys → xs ≡ ys
tail_same x y xs ys h = cc

cons_same : {A : Type 0} (x y : A) (xs ys : List A) → x ≡ y → xs ≡ ys → x ∷ xs ≡ y ∷ ys
cons_same x y xs ys h k = cc

never : false ≡ true → ⊥
never h = cc

-- the first of them whole
record First (ls texts : List (List ℕ)) : Type 0 where
  pub others : List (List ℕ)
  pub parts : ls ≡ texts ++ others

first_whole : (limit : ℕ) (ls texts : List (List ℕ)) (rest : List (Option (List ℕ))) → map (handed limit) ls ≡ wholes texts ++ rest → First ls texts
first_whole limit ls [] rest h = record { others = ls; parts = refl }
first_whole limit [] (t ∷ texts) rest h = absurd (none_cons _ _ h)
first_whole limit (l ∷ ls) (t ∷ texts) rest h =
    let more = first_whole limit ls texts rest (tail_same _ _ _ _ h) in
    record { others = more.others; parts = cons_same l t ls _ (handed_whole limit l t (head_same _ _ _ _ h)) more.parts }

-- all of them whole
handed_all : (limit : ℕ) (ls texts : List (List ℕ)) → map (handed limit) ls ≡ wholes texts → ls ≡ texts
handed_all limit [] [] h = refl
handed_all limit [] (t ∷ texts) h = absurd (none_cons _ _ h)
handed_all limit (l ∷ ls) [] h = absurd (some_cons _ _ h)
handed_all limit (l ∷ ls) (t ∷ texts) h =
    cons_same l t ls texts (handed_whole limit l t (head_same _ _ _ _ h)) (handed_all limit ls texts (tail_same _ _ _ _ h))

-- the first of them whole, and this one
record Parted (limit : ℕ) (ls before : List (List ℕ)) (line : Option (List ℕ)) : Type 0 where
  pub raw : List ℕ
  pub others : List (List ℕ)
  pub parts : ls ≡ before ++ raw ∷ others
  pub is : handed limit raw ≡ line

parted : (limit : ℕ) (ls before : List (List ℕ)) (line : Option (List ℕ)) (rest : List (Option (List ℕ))) → map (handed limit) ls ≡ wholes before ++ line ∷ rest → Parted limit ls before line
parted limit [] [] line rest h = absurd (none_cons _ _ h)
parted limit [] (t ∷ before) line rest h = absurd (none_cons _ _ h)
parted limit (l ∷ ls) [] line rest h = record { raw = l; others = ls; parts = refl; is = head_same _ _ _ _ h }
parted limit (l ∷ ls) (t ∷ before) line rest h =
    let p = parted limit ls before line rest (tail_same _ _ _ _ h) in
    record { raw = p.raw; others = p.others; parts = cons_same l t ls _ (handed_whole limit l t (head_same _ _ _ _ h)) p.parts; is = p.is }

-- a line that ends it
none_of : (why : NoLine) (line : Option (List ℕ)) (raw : List ℕ) → handed longest_line raw ≡ line → Fails why line → IsNone why raw
none_of why None raw is fails = subst (λ (w : NoLine). IsNone w raw) (sym fails) (handed_none longest_line raw is)
none_of why (Some text) raw is fails =
    subst (λ (w : NoLine). IsNone w raw) (sym fails.0) (subst (λ (t : List ℕ). IsTraceRead t → ⊥) (sym (handed_whole longest_line raw text is)) fails.1)

-- ---- how it ends

started : (new : TranscribeState) (ls : List (Option (List ℕ))) (said : List ℕ) → DoesAll Transcribing opened_state ls said new
    → Course new.ended no_frames ls said 0 new.lines
started new ls said h = course ls opened_state new said refl h

module _ {R W : Type 0} (from to : SourceState R) (before after : SinkState W) where
  refused_found : (why : NoLine) (bytes : List ℕ) (ls others : List (List ℕ)) (said : List ℕ) (lines : ℕ) → Consumes from.remaining to.remaining bytes
      → lines_of bytes ≡ ls ++ others → Appends before.held after.held (before.gathered ++ said) → KeepsNothing after
      → Halts why no_frames (map (handed longest_line) ls) said 0 lines → IsRefused from to before after lines why
  refused_found why bytes ls others said lines came is written kept halts =
      let p = parted longest_line ls halts.before halts.line halts.rest halts.all_is in
      let many = halts.lines in
      record {
        bytes = bytes;
        came = came;
        first = halts.before;
        text = p.raw;
        others = p.others ++ others;
        lines = is ∙ ap (λ (l : List (List ℕ)). l ++ others) p.parts ∙ append_assoc halts.before (p.raw ∷ p.others) others;
        number = omega (arith, many);
        none = none_of why halts.line p.raw p.is halts.fails;
        said = said;
        transcribed = halts.transcribed;
        written = written;
        kept = kept;
      }

  whole : (ended : Option NoLine) (lines : ℕ) (text said : List ℕ) → ReadsWhole from to text → Appends before.held after.held (before.gathered ++ said) → KeepsNothing after
      → Course ended no_frames (map (handed longest_line) (lines_of text)) said 0 lines → TranscribesTrace from to before after (finding ended lines)
  whole None lines text said read written kept c =
      let same : lines_of text ≡ c.texts = handed_all longest_line (lines_of text) c.texts c.all_is in
      let many = c.lines in
      let long : length (lines_of text) ≡ length c.texts = ap length same in
      record {
        text = text;
        read = read;
        count = omega (arith, many, long);
        said = said;
        transcribed = subst (λ (ts : List (List ℕ)). AreTranscribed no_frames ts said) (sym same) c.transcribed;
        written = written;
        kept = kept;
      }
  whole (Some why) lines text said read written kept c =
      refused_found why text (lines_of text) [] said lines read.consumed (sym (append-nil (lines_of text))) written kept c

  over : (ended : Option NoLine) (lines : ℕ) (bytes said : List ℕ) → is_some ended ≡ true → Consumes from.remaining to.remaining bytes
      → Appends before.held after.held (before.gathered ++ said) → KeepsNothing after
      → Course ended no_frames (map (handed longest_line) (ended_lines bytes)) said 0 lines → TranscribesTrace from to before after (finding ended lines)
  over None lines bytes said is came written kept c = absurd (never is)
  over (Some why) lines bytes said is came written kept c =
      let e = ended_first bytes [] in
      refused_found why bytes (ended_lines bytes) e.0 said lines came (ap lines_of (sym (append-nil bytes)) ∙ e.1) written kept c

  transcribed_to : (end : LinesEnd) (new : TranscribeState) → ServesTo Transcribing has_ended longest_line end from to opened_state new before after
      → TranscribesTrace from to before after (finding new.ended new.lines)
  transcribed_to Whole new s = whole new.ended new.lines s.bytes s.said s.read s.written s.kept (started new (map (handed longest_line) (lines_of s.bytes)) s.said s.spoken)
  transcribed_to Open new s = whole new.ended new.lines s.bytes s.said s.read s.written s.kept (started new (map (handed longest_line) (lines_of s.bytes)) s.said s.spoken)
  transcribed_to Over new s =
      over new.ended new.lines s.0.bytes s.0.said s.1 s.0.read s.0.written s.0.kept (started new (map (handed longest_line) (ended_lines s.0.bytes)) s.0.said s.0.spoken)

  pub transcribed_as : (end : LinesEnd) (old new : TranscribeState) (ended : Option NoLine) (lines : ℕ) (answer : Result ℕ ExplainFault) → old ≡ opened_state
      → ended ≡ new.ended → lines ≡ new.lines → answer ≡ finding ended lines → ServesTo Transcribing has_ended longest_line end from to old new before after
      → TranscribesTrace from to before after answer
  transcribed_as end old new ended lines answer opened is many told s =
      let same : answer ≡ finding new.ended new.lines = told ∙ ap (λ (e : Option NoLine). finding e lines) is ∙ ap (λ (n : ℕ). finding new.ended n) many in
      subst (λ (a : Result ℕ ExplainFault). TranscribesTrace from to before after a) (sym same)
      (transcribed_to end new (subst (λ (o : TranscribeState). ServesTo Transcribing has_ended longest_line end from to o new before after) opened s))

  -- ---- where it was not read, or a line not told

  begun : (leaves : SinkState W → SinkState W → List ℕ → Type 0) (ended : Option NoLine) (bytes : List ℕ) (ls others : List (List ℕ)) (rest : List (Option (List ℕ))) (all : List (Option (List ℕ))) (said : List ℕ) (lines : ℕ)
      → Consumes from.remaining to.remaining bytes → lines_of bytes ≡ ls ++ others → map (handed longest_line) ls ≡ all ++ rest
      → leaves before after said
      → Course ended no_frames all said 0 lines → IsBegun leaves from to before after
  begun leaves None bytes ls others rest all said lines came is parts written c =
      let f = first_whole longest_line ls c.texts rest (parts ∙ ap (λ (l : List (Option (List ℕ))). l ++ rest) c.all_is) in
      record {
        bytes = bytes;
        came = came;
        first = c.texts;
        others = f.others ++ others;
        lines = is ∙ ap (λ (l : List (List ℕ)). l ++ others) f.parts ∙ append_assoc c.texts f.others others;
        said = said;
        transcribed = c.transcribed;
        written = written;
      }
  begun leaves (Some why) bytes ls others rest all said lines came is parts written c =
      let f = first_whole longest_line ls c.before (c.line ∷ c.rest ++ rest)
      (parts ∙ ap (λ (l : List (Option (List ℕ))). l ++ rest) c.all_is ∙ append_assoc (wholes c.before) (c.line ∷ c.rest) rest) in
      record {
        bytes = bytes;
        came = came;
        first = c.before;
        others = f.others ++ others;
        lines = is ∙ ap (λ (l : List (List ℕ)). l ++ others) f.parts ∙ append_assoc c.before f.others others;
        said = said;
        transcribed = c.transcribed;
        written = written;
      }

  all_taken : (said : List ℕ) → Appends before.held after.held (before.gathered ++ said) → GetsPrefix before after said
  all_taken said written =
      let all = before.gathered ++ said in
      let whole : take (length all) all ≡ all = take_all (length all) all (omega arith) in
      record { count = length all; written = subst (λ (l : List ℕ). Appends before.held after.held l) (sym whole) written }

  unread : (fault : LinesFault) (new : TranscribeState) → Serves Transcribing has_ended longest_line from to opened_state new before after (Err fault)
      → TranscribesTrace from to before after (Err (Lines fault))
  unread faults.Read new s =
      let e = s.read refl in
      let first = ended_first e.bytes [] in (
        begun GetsPrefix new.ended e.bytes (ended_lines e.bytes) first.0 [] (map (handed longest_line) (ended_lines e.bytes)) e.said new.lines e.read
            (ap lines_of (sym (append-nil e.bytes)) ∙ first.1) (sym (append-nil _)) (all_taken e.said e.written)
            (started new (map (handed longest_line) (ended_lines e.bytes)) e.said e.spoken),
        s.failed refl,
      )
  unread (faults.Line fault) new s =
      let e = s.fault fault refl in
      let whole = all_of_some IsFull Says opened_state e.begun e.said e.spoken in
      let some = begun (Leaves fault) whole.0.ended e.bytes (lines_of e.bytes) [] e.others e.begun e.said whole.0.lines e.read (sym (append-nil (lines_of e.bytes))) (sym e.all) e.written
      (started whole.0 e.begun e.said whole.1) in
      (inl some, λ is. s.full (ap (λ (f : Unanswered). let r : Result LinesEnd LinesFault = Err (faults.Line f) in r) is))

  pub unread_as : (fault : LinesFault) (old new : TranscribeState) (answer : Result ℕ ExplainFault) → old ≡ opened_state
      → IsErrAnd answer (λ told. told ≡ Lines fault) → Serves Transcribing has_ended longest_line from to old new before after (Err fault) → TranscribesTrace from to before after answer
  unread_as fault old new (Ok lines) opened told s = absurd told
  unread_as fault old new (Err e) opened told s =
      subst (λ (x : ExplainFault). TranscribesTrace from to before after (Err x)) (sym told)
      (unread fault new (subst (λ (o : TranscribeState). Serves Transcribing has_ended longest_line from to o new before after (Err fault)) opened s))

-- nothing was read, for want of memory
pub unbegun : {R W : Type 0} (from : SourceState R) (before : SinkState W) (answer : Result ℕ ExplainFault)
    → IsErrAnd answer (λ told. told ≡ Lines (faults.Line OutOfMemory)) → TranscribesTrace from from before before answer
unbegun from before (Ok lines) told = absurd told
unbegun from before (Err e) told =
    subst (λ (x : ExplainFault). TranscribesTrace from from before before (Err x)) (sym told) (inr (refl, refl, refl), λ is. absurd (cc))
