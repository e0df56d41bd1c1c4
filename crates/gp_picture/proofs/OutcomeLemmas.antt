-- How drawing an input ends.
use Rattle.std.specs.Prelude.{is_some}
use Rattle.std.proofs.Common.{◌≡◌, ◌⊎◌, inl, inr, ℕ, Bool, true, false, List, [], ◌∷◌, ◌++◌, Option, None, Some, Result, Ok, Err, IsErrAnd, length, take, drop, map, refl, sym, ap, subst, ◌∙◌, append_assoc, arith}
use Rattle.std.proofs.lemmas.List.{append-nil, take-append-drop}
use Rattle.std.proofs.KnownBytes.{Appends-trans}
use Rattle.std.specs.Io.KnownBytes.{Appends, Consumes}
use Rattle.gp_flow.specs.declared.fault.Unanswered.{Unanswered}
use Rattle.gp_flow.specs.declared.fault.Unanswered.TheVariants.{Write, OutOfMemory, Full}
use Rattle.gp_flow.specs.declared.lines.LinesEnd.{LinesEnd}
use Rattle.gp_flow.specs.declared.lines.LinesEnd.TheVariants.{Whole, Open, Over}
use Rattle.gp_flow.specs.declared.fault.LinesFault.{LinesFault}
use Rattle.gp_flow.specs.declared.fault.LinesFault.TheVariants as faults
use Rattle.gp_flow.specs.Lines.{DoesAll, DoesSome, GetsAll, GetsPrefix, Leaves, Serves, ServesTo, ended_lines, handed, lines_of, longest_line}
use Rattle.gp_flow.proofs.LineLemmas.{ended_first, handed_none, handed_whole}
use Rattle.line_columns.specs.Layout.{LayoutState, plain_of}
use Rattle.gp_stream.specs.Sink.{SinkState, KeepsNothing}
use Rattle.gp_stream.specs.Source.{SourceState, ReadsWhole}
use Rattle.gp_stream.proofs.SinkLemmas.{takes_whole}
use Rattle.gp_explain.specs.declared.fault.ExplainFault.{ExplainFault}
use Rattle.gp_explain.specs.declared.fault.ExplainFault.TheVariants.{Refused, Lines}
use Rattle.gp_explain.specs.declared.fault.NoLine.{NoLine}
use Rattle.gp_ploam.specs.declared.check.Mask.{Mask}
use Rattle.gp_finding.specs.declared.codes.Codes.{Codes}
use Rattle.gp_finding.specs.Codes.{CodesLead, no_codes}
use Rattle.gp_picture.specs.declared.running.PictureSum.{PictureSum}
use Rattle.gp_times.specs.declared.frames.Frames.{Frames}
use Rattle.gp_times.specs.Lines.{AreRead, IsUnread, Lead}
use Rattle.gp_times.specs.Times.{outside_of, times_begun}
use Rattle.gp_picture.specs.Drawing.{DrawState, Drawing, has_ended, opened, plains}
use Rattle.gp_picture.specs.Outcome.{DrawsTrace, EndsAs, Ends, IsBegun, IsNone, IsRefused, WritesPicture}
use Rattle.gp_picture.proofs.CourseLemmas.{Course, Fails, Halts, Runs, course, wholes}

-- ---- lines that were handed on

some_cons : {A : Type 0} (x : A) (xs : List A) → x ∷ xs ≡ [] → ⊥
some_cons x xs h = cc

none_cons : {A : Type 0} (x : A) (xs : List A) → [] ≡ x ∷ xs → ⊥
none_cons x xs h = cc

head_same : {A : Type 0} (x y : A) (xs ys : List A) → x ∷ xs ≡ y ∷ ys → x ≡ y
head_same x y xs ys h = cc

tail_same : {A : Type 0} (x y : A) (xs ys : List A) → x ∷ xs ≡ y ∷ ys → xs ≡ ys
tail_same x y xs ys h = cc

cons_same : {A : Type 0} (x y : A) (xs ys : List A) → x ≡ y → xs ≡ ys → x ∷ xs ≡ y ∷ ys
cons_same x y xs ys h k = cc

never : false ≡ true → ⊥
never h = cc

-- all of them whole
handed_all : (limit : ℕ) (ls texts : List (List ℕ)) → map (handed limit) ls ≡ wholes texts → ls ≡ texts
handed_all limit [] [] h = refl
handed_all limit [] (t ∷ texts) h = absurd (none_cons _ _ h)
handed_all limit (l ∷ ls) [] h = absurd (some_cons _ _ h)
handed_all limit (l ∷ ls) (t ∷ texts) h =
    cons_same l t ls texts (handed_whole limit l t (head_same _ _ _ _ h)) (handed_all limit ls texts (tail_same _ _ _ _ h))

-- the first of them whole, and this one
record Parted (limit : ℕ) (ls before : List (List ℕ)) (line : Option (List ℕ)) : Type 0 where
  pub raw : List ℕ
  pub others : List (List ℕ)
  pub parts : ls ≡ before ++ raw ∷ others
  pub is : handed limit raw ≡ line

parted : (limit : ℕ) (ls before : List (List ℕ)) (line : Option (List ℕ)) (rest : List (Option (List ℕ))) → map (handed limit) ls ≡ wholes before ++ line ∷ rest → Parted limit ls before line
parted limit [] [] line rest h = absurd (none_cons _ _ h)
parted limit [] (t ∷ before) line rest h = absurd (none_cons _ _ h)
parted limit (l ∷ ls) [] line rest h = record { raw = l; others = ls; parts = refl; is = head_same _ _ _ _ h }
parted limit (l ∷ ls) (t ∷ before) line rest h =
    let p = parted limit ls before line rest (tail_same _ _ _ _ h) in
    record { raw = p.raw; others = p.others; parts = cons_same l t ls _ (handed_whole limit l t (head_same _ _ _ _ h)) p.parts; is = p.is }

-- a line that ends it
none_of : (layout : LayoutState) (why : NoLine) (line : Option (List ℕ)) (raw : List ℕ) → handed longest_line raw ≡ line → Fails layout why line → IsNone layout why raw
none_of layout why None raw is fails = subst (λ (w : NoLine). IsNone layout w raw) (sym fails) (handed_none longest_line raw is)
none_of layout why (Some text) raw is fails =
    subst (λ (w : NoLine). IsNone layout w raw) (sym fails.0) (subst (λ (t : List ℕ). IsUnread (plain_of layout t)) (sym (handed_whole longest_line raw text is)) fails.1)

-- nothing is said to lines
silent : (ls : List (Option (List ℕ))) (old new : DrawState) (said : List ℕ) → DoesAll Drawing old ls said new → said ≡ []
silent [] old new said h = h.0
silent (line ∷ ls) old new said h = h.5 ∙ ap (λ (l : List ℕ). l ++ h.1) h.3.0 ∙ silent ls h.2 new h.1 h.4

silent_some : (ls : List (Option (List ℕ))) (old : DrawState) (said : List ℕ) → DoesSome Drawing old ls said → said ≡ []
silent_some [] old said h = h
silent_some (line ∷ ls) old said (inl h) = h.5 ∙ ap (λ (l : List ℕ). l ++ h.1) h.3.0 ∙ silent_some ls h.2 h.1 h.4
silent_some (line ∷ ls) old said (inr h) = absurd h.2

started : (layout : LayoutState) (mask : Mask) (new : DrawState) (ls : List (Option (List ℕ))) (said : List ℕ) → DoesAll Drawing (opened mask layout) ls said new
    → Course layout new.ended ls said (opened mask layout) new
started layout mask new ls said h = course layout ls (opened mask layout) new said refl refl h

-- ---- behind the last line

module _ {R W : Type 0} (layout : LayoutState) (frames : Frames) (mask : Mask) (from to : SourceState R) (before mid after : SinkState W) where
  -- what was gathered before is written, and nothing else
  only_gathered : (said : List ℕ) → said ≡ [] → Appends before.held mid.held (before.gathered ++ said) → Appends before.held mid.held before.gathered
  only_gathered said none h = subst (λ (l : List ℕ). Appends before.held mid.held l) (ap (λ (l : List ℕ). before.gathered ++ l) none ∙ append-nil before.gathered) h

  refused : (why : NoLine) (new : DrawState) (bytes : List ℕ) (ls others : List (List ℕ)) (said : List ℕ) (answer : Result PictureSum ExplainFault)
      → Consumes from.remaining to.remaining bytes → lines_of bytes ≡ ls ++ others → Halts layout why (map (handed longest_line) ls) said (opened mask layout) new
      → Appends before.held mid.held (before.gathered ++ said) → KeepsNothing mid → (answer ≡ Err (Refused new.lines why)) × (after ≡ mid)
      → DrawsTrace layout frames mask from to before after answer
  refused why new bytes ls others said answer came is halts written kept ends =
      let p = parted longest_line ls halts.before halts.line halts.rest halts.all_is in
      let many = halts.lines in
      let there : IsRefused layout from to before mid new.lines why = record {
        bytes = bytes;
        came = came;
        first = halts.before;
        text = p.raw;
        others = p.others ++ others;
        lines = is ∙ ap (λ (l : List (List ℕ)). l ++ others) p.parts ∙ append_assoc halts.before (p.raw ∷ p.others) others;
        all = halts.read;
        number = omega (arith, many);
        none = none_of layout why halts.line p.raw p.is halts.fails;
        written = only_gathered said halts.silent written;
        kept = kept;
      } in
      let here : IsRefused layout from to before after new.lines why = subst (λ (s : SinkState W). IsRefused layout from to before s new.lines why) (sym ends.1) there in
      subst (λ (a : Result PictureSum ExplainFault). DrawsTrace layout frames mask from to before after a) (sym ends.0) here

  whole : (new : DrawState) (text said : List ℕ) (answer : Result PictureSum ExplainFault) → ReadsWhole from to text
      → Runs layout (map (handed longest_line) (lines_of text)) said (opened mask layout) new → Appends before.held mid.held (before.gathered ++ said) → KeepsNothing mid
      → EndsAs frames None new mid after answer → DrawsTrace layout frames mask from to before after answer
  whole new text said (Ok sum) read runs written kept ends =
      let first = only_gathered said runs.silent written in
      let same : lines_of text ≡ runs.texts = handed_all longest_line (lines_of text) runs.texts runs.all_is in
      let many = runs.lines in
      let told = ends.0 in
      let long : length (lines_of text) ≡ length runs.texts = ap length same in
      let heard : sum.heard ≡ runs.told = ends.1 ∙ runs.heard in
      let w = ends.5.2 in
      let lead = subst (λ (ls : List (List ℕ)). Lead (plains layout ls) times_begun new.times) (sym same) runs.lead in
      record {
        text = text;
        read = read;
        outside = record { times = new.times; lead = lead; is = ends.2 };
        fallen = record { times = new.times; lead = lead; is = ends.3 };
        codes = subst (λ (s : Codes). CodesLead mask (plains layout (lines_of text)) no_codes s) (sym ends.4)
            (subst (λ (ls : List (List ℕ)). CodesLead mask (plains layout ls) no_codes new.codes) (sym same) runs.codes);
        all = subst (λ (b : Bool). AreRead (plains layout (lines_of text)) b) (sym heard) (subst (λ (ls : List (List ℕ)). AreRead (plains layout ls) runs.told) (sym same) runs.read);
        count = omega (arith, many, told, long);
        picture = ends.5.0;
        svg = ends.5.1;
        written = Appends-trans before.held mid.held after.held before.gathered ends.5.0 first (takes_whole mid after ends.5.0 w.gives.ok kept.0 w.empty);
        kept = (w.empty, w.gives.flushed kept.1);
      }
  whole new text said (Err (Refused line why)) read runs written kept ends = absurd ends
  whole new text said (Err (Lines faults.Read)) read runs written kept ends = absurd ends
  whole new text said (Err (Lines (faults.Line fault))) read runs written kept (other, inl same) =
      let first = only_gathered said runs.silent written in (
        inl (record {
          bytes = text;
          came = read.consumed;
          picture = [];
          svg = inl refl;
          written = before.gathered;
          unwritten = [];
          all = refl;
          appended = subst (λ (s : SinkState W). Appends before.held s.held before.gathered) (sym same) first;
        }),
        λ is. absurd (other is),
      )
  whole new text said (Err (Lines (faults.Line fault))) read runs written kept (other, inr (picture, svg, stopped, w)) =
      let first = only_gathered said runs.silent written in
      let p = w.gives.error in
      let rest : picture ≡ p.written ++ p.unwritten = ap (λ (l : List ℕ). l ++ picture) (sym kept.0) ∙ p.rest in (
        inl (record {
          bytes = text;
          came = read.consumed;
          picture = picture;
          svg = inr svg;
          written = before.gathered ++ p.written;
          unwritten = p.unwritten;
          all = append_assoc before.gathered p.written p.unwritten ∙ ap (λ (l : List ℕ). before.gathered ++ l) (sym rest);
          appended = Appends-trans before.held mid.held after.held before.gathered p.written first p.appended;
        }),
        λ is. absurd (other is),
      )

  ended_whole : (ended : Option NoLine) (new : DrawState) (text said : List ℕ) (answer : Result PictureSum ExplainFault) → ReadsWhole from to text
      → Course layout ended (map (handed longest_line) (lines_of text)) said (opened mask layout) new → Appends before.held mid.held (before.gathered ++ said) → KeepsNothing mid
      → EndsAs frames ended new mid after answer → DrawsTrace layout frames mask from to before after answer
  ended_whole None new text said answer read c written kept ends = whole new text said answer read c written kept ends
  ended_whole (Some why) new text said answer read c written kept ends =
      refused why new text (lines_of text) [] said answer read.consumed (sym (append-nil (lines_of text))) c written kept ends

  ended_over : (ended : Option NoLine) (new : DrawState) (bytes said : List ℕ) (answer : Result PictureSum ExplainFault) → is_some ended ≡ true
      → Consumes from.remaining to.remaining bytes → Course layout ended (map (handed longest_line) (ended_lines bytes)) said (opened mask layout) new
      → Appends before.held mid.held (before.gathered ++ said) → KeepsNothing mid → EndsAs frames ended new mid after answer → DrawsTrace layout frames mask from to before after answer
  ended_over None new bytes said answer some came c written kept ends = absurd (never some)
  ended_over (Some why) new bytes said answer some came c written kept ends =
      let e = ended_first bytes [] in
      refused why new bytes (ended_lines bytes) e.0 said answer came (ap lines_of (sym (append-nil bytes)) ∙ e.1) c written kept ends

  drawn : (end : LinesEnd) (new : DrawState) (answer : Result PictureSum ExplainFault) → ServesTo Drawing has_ended longest_line end from to (opened mask layout) new before mid → Ends frames new mid after answer
      → DrawsTrace layout frames mask from to before after answer
  drawn Whole new answer s ends =
      ended_whole new.ended new s.bytes s.said answer s.read (started layout mask new (map (handed longest_line) (lines_of s.bytes)) s.said s.spoken) s.written s.kept ends
  drawn Open new answer s ends =
      ended_whole new.ended new s.bytes s.said answer s.read (started layout mask new (map (handed longest_line) (lines_of s.bytes)) s.said s.spoken) s.written s.kept ends
  drawn Over new answer s ends =
      ended_over new.ended new s.0.bytes s.0.said answer s.1 s.0.read (started layout mask new (map (handed longest_line) (ended_lines s.0.bytes)) s.0.said s.0.spoken) s.0.written s.0.kept ends

  pub drawn_as : (end : LinesEnd) (old new : DrawState) (answer : Result PictureSum ExplainFault) → old ≡ opened mask layout
      → ServesTo Drawing has_ended longest_line end from to old new before mid → Ends frames new mid after answer → DrawsTrace layout frames mask from to before after answer
  drawn_as end old new answer opens s ends = drawn end new answer (subst (λ (o : DrawState). ServesTo Drawing has_ended longest_line end from to o new before mid) opens s) ends

-- ---- where it was not read, or a line not drawn

module _ {R W : Type 0} (layout : LayoutState) (frames : Frames) (mask : Mask) (from to : SourceState R) (before after : SinkState W) where
  begun_prefix : (bytes said : List ℕ) → said ≡ [] → Consumes from.remaining to.remaining bytes → GetsPrefix before after said → IsBegun from to before after
  begun_prefix bytes said none came p = record {
    bytes = bytes;
    came = came;
    picture = said;
    svg = inl none;
    written = take p.count (before.gathered ++ said);
    unwritten = drop p.count (before.gathered ++ said);
    all = take-append-drop p.count (before.gathered ++ said);
    appended = p.written;
  }

  begun_all : (bytes said : List ℕ) → said ≡ [] → Consumes from.remaining to.remaining bytes → Appends before.held after.held (before.gathered ++ said) → IsBegun from to before after
  begun_all bytes said none came written = record {
    bytes = bytes;
    came = came;
    picture = said;
    svg = inl none;
    written = before.gathered ++ said;
    unwritten = [];
    all = append-nil (before.gathered ++ said);
    appended = written;
  }

  begun_either : (bytes said : List ℕ) → said ≡ [] → Consumes from.remaining to.remaining bytes → GetsAll before after said ⊎ (GetsPrefix before after said × (after.stopped ≡ true))
      → IsBegun from to before after
  begun_either bytes said none came (inl all) = begun_all bytes said none came all.written
  begun_either bytes said none came (inr p) = begun_prefix bytes said none came p.0

  begun_by : (fault : Unanswered) (bytes said : List ℕ) → said ≡ [] → Consumes from.remaining to.remaining bytes → Leaves fault before after said → IsBegun from to before after
  begun_by Write bytes said none came left = begun_prefix bytes said none came left
  begun_by OutOfMemory bytes said none came left = begun_either bytes said none came left
  begun_by Full bytes said none came left = begun_either bytes said none came left

  unread : (fault : LinesFault) (new : DrawState) → Serves Drawing has_ended longest_line from to (opened mask layout) new before after (Err fault)
      → DrawsTrace layout frames mask from to before after (Err (Lines fault))
  unread faults.Read new s =
      let e = s.read refl in
      (begun_all e.bytes e.said (silent (map (handed longest_line) (ended_lines e.bytes)) (opened mask layout) new e.said e.spoken) e.read e.written, s.failed refl)
  unread (faults.Line fault) new s =
      let e = s.fault fault refl in (
        inl (begun_by fault e.bytes e.said (silent_some e.begun (opened mask layout) e.said e.spoken) e.read e.written),
        λ is. s.full (ap (λ (f : Unanswered). let r : Result LinesEnd LinesFault = Err (faults.Line f) in r) is),
      )

  pub unread_as : (fault : LinesFault) (old new : DrawState) (answer : Result PictureSum ExplainFault) → old ≡ opened mask layout
      → IsErrAnd answer (λ told. told ≡ Lines fault) → Serves Drawing has_ended longest_line from to old new before after (Err fault) → DrawsTrace layout frames mask from to before after answer
  unread_as fault old new (Ok lines) opens told s = absurd told
  unread_as fault old new (Err e) opens told s =
      subst (λ (x : ExplainFault). DrawsTrace layout frames mask from to before after (Err x)) (sym told)
      (unread fault new (subst (λ (o : DrawState). Serves Drawing has_ended longest_line from to o new before after (Err fault)) opens s))

-- nothing was read, for want of memory
pub unbegun : {R W : Type 0} (layout : LayoutState) (frames : Frames) (mask : Mask) (from : SourceState R) (before : SinkState W) (answer : Result PictureSum ExplainFault)
    → IsErrAnd answer (λ told. told ≡ Lines (faults.Line OutOfMemory)) → DrawsTrace layout frames mask from from before before answer
unbegun layout frames mask from before (Ok lines) told = absurd told
unbegun layout frames mask from before (Err e) told =
    subst (λ (x : ExplainFault). DrawsTrace layout frames mask from from before before (Err x)) (sym told) (inr (refl, refl, refl), λ is. absurd (cc))

-- behind the last line the picture was written
pub ends_whole : {W : Type 0} (frames : Frames) (drawn : DrawState) (sum : PictureSum) (before after : SinkState W) → drawn.ended ≡ None → sum.lines ≡ drawn.lines
    → sum.heard ≡ drawn.heard → sum.outside ≡ outside_of frames drawn.times → sum.fallen ≡ drawn.times.fallen
    → sum.codes ≡ drawn.codes → WritesPicture before after (Ok (tt {0})) → Ends frames drawn before after (Ok sum)
ends_whole frames drawn sum before after none many heard outside fallen coded written =
    subst (λ (e : Option NoLine). EndsAs frames e drawn before after (Ok sum)) (sym none) (many, heard, outside, fallen, coded, written)
