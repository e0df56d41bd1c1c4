-- Where the lines of an input lead.
use Rattle.std.proofs.Common.{◌≡◌, ℕ, ◌+◌, ◌||◌, not, Bool, false, List, [], ◌∷◌, ◌++◌, Option, None, Some, length, map, Ok, refl, sym, ap, subst, ◌∙◌, arith, inl, inr}
use Rattle.std.proofs.Math.Bool.{or_assoc, or-false}
use Rattle.std.proofs.lemmas.List.Elements.{All-cons, All-nil}
use Rattle.std.specs.List.{All}
use Rattle.gp_flow.specs.Lines.{DoesAll}
use Rattle.gp_explain.specs.declared.fault.NoLine.{NoLine}
use Rattle.gp_explain.specs.declared.fault.NoLine.TheVariants.{NotALine, TooLong}
use Rattle.gp_log.specs.Line.{Reads, says_nothing}
use Rattle.line_columns.specs.Layout.{LayoutState, plain_of}
use Rattle.gp_log.specs.declared.line.LogLine.{LogLine}
use Rattle.gp_ploam.specs.declared.check.Mask.{Mask}
use Rattle.gp_finding.specs.declared.codes.Codes.{Codes}
use Rattle.gp_finding.specs.Codes.{CodesLead, codes_after}
use Rattle.gp_times.specs.Lines.{AreRead, IsRead, IsUnread, Lead}
use Rattle.gp_times.specs.Times.{TimesState, times_after}
use Rattle.gp_picture.specs.Drawing.{DrawState, Drawing, DrawsFrom, DrawsText, ended_by, plains}

-- lines that are handed on whole
abbrev pub wholes : List (List ℕ) → List (Option (List ℕ))
wholes texts = map (λ (text : List ℕ). let line : Option (List ℕ) = Some text in line) texts

-- all of them are read
pub record Runs (layout : LayoutState) (all : List (Option (List ℕ))) (said : List ℕ) (from to : DrawState) : Type 0 where
  pub texts : List (List ℕ)
  pub told : Bool
  pub all_is : all ≡ wholes texts
  pub read : AreRead (plains layout texts) told
  pub silent : said ≡ []
  pub lines : to.lines ≡ from.lines + length texts
  pub heard : to.heard ≡ (from.heard || told)
  pub lead : Lead (plains layout texts) from.times to.times
  pub codes : CodesLead from.mask (plains layout texts) from.codes to.codes

-- why a line ends it
abbrev pub Fails : LayoutState → NoLine → Option (List ℕ) → Type 0
Fails layout why None = why ≡ TooLong
Fails layout why (Some text) = (why ≡ NotALine) × IsUnread (plain_of layout text)

-- one of them ends it
pub record Halts (layout : LayoutState) (why : NoLine) (all : List (Option (List ℕ))) (said : List ℕ) (from to : DrawState) : Type 0 where
  pub before : List (List ℕ)
  pub line : Option (List ℕ)
  pub rest : List (Option (List ℕ))
  pub all_is : all ≡ wholes before ++ line ∷ rest
  pub read : All IsRead (plains layout before)
  pub silent : said ≡ []
  pub lines : to.lines ≡ from.lines + (length before + 1)
  pub fails : Fails layout why line

abbrev pub Course : LayoutState → Option NoLine → List (Option (List ℕ)) → List ℕ → DrawState → DrawState → Type 0
Course layout None all said from to = Runs layout all said from to
Course layout (Some why) all said from to = Halts layout why all said from to

-- nothing behind nothing
both_silent : (said first rest : List ℕ) → said ≡ first ++ rest → first ≡ [] → rest ≡ [] → said ≡ []
both_silent said first rest parts one other = parts ∙ ap (λ (l : List ℕ). l ++ rest) one ∙ other

-- once it has ended nothing is said, and it stays as it is
stuck : (ls : List (Option (List ℕ))) (state new : DrawState) (said : List ℕ) (why : NoLine) → state.ended ≡ Some why → DoesAll Drawing state ls said new
    → (said ≡ []) × (new ≡ state)
stuck [] state new said why is h = h
stuck (line ∷ ls) state new said why is h =
    let here : DrawsFrom (Some why) state line h.2 = subst (λ (e : Option NoLine). DrawsFrom e state line h.2) is h.3.1 in
    let more = stuck ls h.2 new h.1 why (ap (λ (s : DrawState). s.ended) here ∙ is) h.4 in
    (both_silent said h.0 h.1 h.5 h.3.0 more.0, more.1 ∙ here)

halted : (layout : LayoutState) (line : Option (List ℕ)) (ls : List (Option (List ℕ))) (state next new : DrawState) (said first rest : List ℕ) (why : NoLine)
    → first ≡ [] → next ≡ ended_by why state → Fails layout why line → said ≡ first ++ rest → DoesAll Drawing next ls rest new
    → Course layout new.ended (line ∷ ls) said state new
halted layout line ls state next new said first rest why nothing is fails parts h =
    let ended : next.ended ≡ Some why = ap (λ (s : DrawState). s.ended) is in
    let end = stuck ls next new rest why ended h in
    let silent : said ≡ [] = both_silent said first rest parts nothing end.0 in
    let many : new.lines ≡ state.lines + 1 = ap (λ (s : DrawState). s.lines) end.1 ∙ ap (λ (s : DrawState). s.lines) is in
    let there : Course layout (Some why) (line ∷ ls) said state new =
    record { before = []; line = line; rest = ls; all_is = refl; read = All-nil IsRead; silent = silent; lines = many; fails = fails } in
    subst (λ (e : Option NoLine). Course layout e (line ∷ ls) said state new) (sym (ap (λ (s : DrawState). s.ended) end.1 ∙ ended)) there

-- one line more at the head
onto : (layout : LayoutState) (ended : Option NoLine) (text : List ℕ) (ls : List (Option (List ℕ))) (said first rest : List ℕ) (from next to : DrawState) (line : LogLine)
    → Reads (plain_of layout text) (Ok line) → next.lines ≡ from.lines + 1 → next.heard ≡ (from.heard || not (says_nothing line))
    → next.times ≡ times_after line from.times → next.mask ≡ from.mask → next.codes ≡ codes_after from.mask line from.codes
    → first ≡ [] → said ≡ first ++ rest → Course layout ended ls rest next to → Course layout ended (Some text ∷ ls) said from to
onto layout None text ls said first rest from next to line reads one heard timed masked coded nothing parts c = record {
  texts = text ∷ c.texts;
  told = not (says_nothing line) || c.told;
  all_is = ap (λ (l : List (Option (List ℕ))). Some text ∷ l) c.all_is;
  read = (line, c.told, reads, c.read, refl);
  silent = both_silent said first rest parts nothing c.silent;
  lines = let many = c.lines in omega (arith, many, one);
  heard = c.heard ∙ ap (λ (b : Bool). b || c.told) heard ∙ or_assoc from.heard (not (says_nothing line)) c.told;
  lead = (line, reads, subst (λ (t : TimesState). Lead (plains layout c.texts) t to.times) timed c.lead);
  codes = (
    line,
    reads,
    subst (λ (m : Mask). CodesLead m (plains layout c.texts) (codes_after from.mask line from.codes) to.codes) masked
        (subst (λ (s : Codes). CodesLead next.mask (plains layout c.texts) s to.codes) coded c.codes),
  );
}
onto layout (Some why) text ls said first rest from next to line reads one heard timed masked coded nothing parts c = record {
  before = text ∷ c.before;
  line = c.line;
  rest = c.rest;
  all_is = ap (λ (l : List (Option (List ℕ))). Some text ∷ l) c.all_is;
  read = All-cons IsRead (plain_of layout text) (plains layout c.before) (line, reads) c.read;
  silent = both_silent said first rest parts nothing c.silent;
  lines = let many = c.lines in omega (arith, many, one);
  fails = c.fails;
}

none_done : (n : ℕ) → n ≡ n + 0
none_done n = omega arith

text_course : (layout : LayoutState) (text : List ℕ) (ls : List (Option (List ℕ))) (old next new : DrawState) (said first rest : List ℕ) → old.ended ≡ None → old.layout ≡ layout → first ≡ []
    → DrawsText old (plain_of layout text) next → said ≡ first ++ rest → DoesAll Drawing next ls rest new
    → (next.ended ≡ None → next.layout ≡ layout → Course layout new.ended ls rest next new) → Course layout new.ended (Some text ∷ ls) said old new
text_course layout text ls old next new said first rest none there nothing (inl drawn) parts h more =
    let is = drawn.2 in
    let before : Course layout new.ended ls rest next new = more (ap (λ (s : DrawState). s.ended) is ∙ none) (ap (λ (s : DrawState). s.layout) is ∙ there) in
    onto layout new.ended text ls said first rest old next new drawn.0 drawn.1 (ap (λ (s : DrawState). s.lines) is) (ap (λ (s : DrawState). s.heard) is)
    (ap (λ (s : DrawState). s.times) is) (ap (λ (s : DrawState). s.mask) is) (ap (λ (s : DrawState). s.codes) is) nothing parts before
text_course layout text ls old next new said first rest none there nothing (inr unread) parts h more =
    halted layout (Some text) ls old next new said first rest NotALine nothing unread.1 (refl, unread.0) parts h

pub course : (layout : LayoutState) (ls : List (Option (List ℕ))) (old new : DrawState) (said : List ℕ) → old.ended ≡ None → old.layout ≡ layout → DoesAll Drawing old ls said new
    → Course layout new.ended ls said old new
course layout [] old new said none laid h =
    let there : Course layout None [] said old old =
    record {
      texts = [];
      told = false;
      all_is = refl;
      read = refl;
      silent = h.0;
      lines = none_done old.lines;
      heard = sym (or-false old.heard);
      lead = refl;
      codes = refl;
    } in
    let here : Course layout old.ended [] said old old = subst (λ (e : Option NoLine). Course layout e [] said old old) (sym none) there in
    subst (λ (s : DrawState). Course layout s.ended [] said old s) (sym h.1) here
course layout (None ∷ ls) old new said none laid h =
    let long : DrawsFrom None old None h.2 = subst (λ (e : Option NoLine). DrawsFrom e old None h.2) none h.3.1 in
    halted layout None ls old h.2 new said h.0 h.1 TooLong h.3.0 long refl h.5 h.4
course layout (Some text ∷ ls) old new said none laid h =
    text_course layout text ls old h.2 new said h.0 h.1 none laid h.3.0
    (subst (λ (l : LayoutState). DrawsText old (plain_of l text) h.2) laid (subst (λ (e : Option NoLine). DrawsFrom e old (Some text) h.2) none h.3.1)) h.5 h.4
    (λ still same. course layout ls h.2 new h.1 still same h.4)
