-- Where the lines of a trace lead.
use Rattle.std.proofs.Common.{◌≡◌, ℕ, ◌+◌, List, [], ◌∷◌, ◌++◌, Option, None, Some, length, map, refl, sym, ap, subst, ◌∙◌, arith, inl, inr}
use Rattle.gp_flow.specs.Lines.{DoesAll}
use Rattle.gp_explain.specs.declared.fault.NoLine.{NoLine}
use Rattle.gp_explain.specs.declared.fault.NoLine.TheVariants.{NotALine, TooLong}
use Rattle.gp_transcribe.specs.Entries.{IsTraceRead, Transcribes}
use Rattle.gp_transcribe.specs.Transcribing.{TranscribeState, Transcribing, SaysFrom, SaysToText, ended_by}
use Rattle.gp_transcribe.specs.Outcome.{AreTranscribed}

-- lines that are handed on whole
abbrev pub wholes : List (List ℕ) → List (Option (List ℕ))
wholes texts = map (λ (text : List ℕ). let line : Option (List ℕ) = Some text in line) texts

-- all of them are transcribed
pub record Runs (frames : List ℕ) (all : List (Option (List ℕ))) (said : List ℕ) (from to : ℕ) : Type 0 where
  pub texts : List (List ℕ)
  pub all_is : all ≡ wholes texts
  pub transcribed : AreTranscribed frames texts said
  pub lines : to ≡ from + length texts

-- why a line ends it
abbrev pub Fails : NoLine → Option (List ℕ) → Type 0
Fails why None = why ≡ TooLong
Fails why (Some text) = (why ≡ NotALine) × (IsTraceRead text → ⊥)

-- one of them ends it
pub record Halts (why : NoLine) (frames : List ℕ) (all : List (Option (List ℕ))) (said : List ℕ) (from to : ℕ) : Type 0 where
  pub before : List (List ℕ)
  pub line : Option (List ℕ)
  pub rest : List (Option (List ℕ))
  pub all_is : all ≡ wholes before ++ line ∷ rest
  pub transcribed : AreTranscribed frames before said
  pub lines : to ≡ from + (length before + 1)
  pub fails : Fails why line

abbrev pub Course : Option NoLine → List ℕ → List (Option (List ℕ)) → List ℕ → ℕ → ℕ → Type 0
Course None frames all said from to = Runs frames all said from to
Course (Some why) frames all said from to = Halts why frames all said from to

-- once it has ended nothing is said, and it stays as it is
stuck : (ls : List (Option (List ℕ))) (state new : TranscribeState) (said : List ℕ) (why : NoLine) → state.ended ≡ Some why → DoesAll Transcribing state ls said new
    → (said ≡ []) × (new ≡ state)
stuck [] state new said why is h = h
stuck (line ∷ ls) state new said why is h =
    let here : SaysFrom (Some why) state line h.0 h.2 = subst (λ (e : Option NoLine). SaysFrom e state line h.0 h.2) is h.3 in
    let more = stuck ls h.2 new h.1 why (ap (λ (s : TranscribeState). s.ended) here.1 ∙ is) h.4 in
    (h.5 ∙ ap (λ (l : List ℕ). l ++ h.1) here.0 ∙ more.0, more.1 ∙ here.1)

halted : (line : Option (List ℕ)) (ls : List (Option (List ℕ))) (state next new : TranscribeState) (said first rest : List ℕ) (why : NoLine)
    → first ≡ [] → next ≡ ended_by why state → Fails why line → said ≡ first ++ rest → DoesAll Transcribing next ls rest new
    → Course new.ended state.frames (line ∷ ls) said state.lines new.lines
halted line ls state next new said first rest why nothing is fails parts h =
    let ended : next.ended ≡ Some why = ap (λ (s : TranscribeState). s.ended) is in
    let end = stuck ls next new rest why ended h in
    let silent : said ≡ [] = parts ∙ ap (λ (l : List ℕ). l ++ rest) nothing ∙ end.0 in
    let many : new.lines ≡ state.lines + 1 = ap (λ (s : TranscribeState). s.lines) end.1 ∙ ap (λ (s : TranscribeState). s.lines) is in
    let there : Course (Some why) state.frames (line ∷ ls) said state.lines new.lines =
    record { before = []; line = line; rest = ls; all_is = refl; transcribed = silent; lines = many; fails = fails } in
    subst (λ (e : Option NoLine). Course e state.frames (line ∷ ls) said state.lines new.lines) (sym (ap (λ (s : TranscribeState). s.ended) end.1 ∙ ended)) there

-- one line more at the head
onto : (ended : Option NoLine) (frames next : List ℕ) (text : List ℕ) (ls : List (Option (List ℕ))) (said first rest : List ℕ) (from to : ℕ)
    → Transcribes frames text first next → said ≡ first ++ rest → Course ended next ls rest (from + 1) to → Course ended frames (Some text ∷ ls) said from to
onto None frames next text ls said first rest from to tells parts c = record {
  texts = text ∷ c.texts;
  all_is = ap (λ (l : List (Option (List ℕ))). Some text ∷ l) c.all_is;
  transcribed = (first, rest, next, tells, c.transcribed, parts);
  lines = let many = c.lines in omega (arith, many);
}
onto (Some why) frames next text ls said first rest from to tells parts c = record {
  before = text ∷ c.before;
  line = c.line;
  rest = c.rest;
  all_is = ap (λ (l : List (Option (List ℕ))). Some text ∷ l) c.all_is;
  transcribed = (first, rest, next, tells, c.transcribed, parts);
  lines = let many = c.lines in omega (arith, many);
  fails = c.fails;
}

none_done : (n : ℕ) → n ≡ n + 0
none_done n = omega arith

text_course : (text : List ℕ) (ls : List (Option (List ℕ))) (old next new : TranscribeState) (said first rest : List ℕ) → old.ended ≡ None
    → SaysToText old text first next → said ≡ first ++ rest → DoesAll Transcribing next ls rest new
    → (next.ended ≡ None → Course new.ended next.frames ls rest next.lines new.lines) → Course new.ended old.frames (Some text ∷ ls) said old.lines new.lines
text_course text ls old next new said first rest none (inl told) parts h more =
    let is = told.2 in
    let before : Course new.ended next.frames ls rest next.lines new.lines = more (ap (λ (s : TranscribeState). s.ended) is ∙ none) in
    let there : Course new.ended told.0 ls rest (old.lines + 1) new.lines =
    subst (λ (s : TranscribeState). Course new.ended s.frames ls rest s.lines new.lines) is before in
    onto new.ended old.frames told.0 text ls said first rest old.lines new.lines told.1 parts there
text_course text ls old next new said first rest none (inr none_of) parts h more =
    halted (Some text) ls old next new said first rest NotALine none_of.1 none_of.2 (refl, none_of.0) parts h

pub course : (ls : List (Option (List ℕ))) (old new : TranscribeState) (said : List ℕ) → old.ended ≡ None → DoesAll Transcribing old ls said new
    → Course new.ended old.frames ls said old.lines new.lines
course [] old new said none h =
    let there : Course None old.frames [] said old.lines old.lines = record { texts = []; all_is = refl; transcribed = h.0; lines = none_done old.lines } in
    let here : Course old.ended old.frames [] said old.lines old.lines = subst (λ (e : Option NoLine). Course e old.frames [] said old.lines old.lines) (sym none) there in
    subst (λ (s : TranscribeState). Course s.ended old.frames [] said old.lines s.lines) (sym h.1) here
course (None ∷ ls) old new said none h =
    let long : SaysFrom None old None h.0 h.2 = subst (λ (e : Option NoLine). SaysFrom e old None h.0 h.2) none h.3 in
    halted None ls old h.2 new said h.0 h.1 TooLong long.0 long.1 refl h.5 h.4
course (Some text ∷ ls) old new said none h =
    text_course text ls old h.2 new said h.0 h.1 none (subst (λ (e : Option NoLine). SaysFrom e old (Some text) h.0 h.2) none h.3) h.5 h.4
    (λ still. course ls h.2 new h.1 still h.4)
