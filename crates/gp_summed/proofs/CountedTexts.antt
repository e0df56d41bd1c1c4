-- What was counted of a whole text, by what was found of it.
use Rattle.std.specs.Prelude.{All, IfSome, is_some}
use Rattle.std.specs.Io.KnownBytes.{Consumes, IsAtEnd}
use Rattle.std.proofs.Common.{◌≡◌, ◌⊎◌, inl, inr, ℕ, ◌+◌, ◌==◌, Bool, true, false, List, [], ◌∷◌, ◌++◌, Option, None, Some, Result, codes, length, map, refl, sym, ap, ◌∙◌, subst, append_assoc, arith}
use Rattle.std.proofs.lemmas.Bool.{eqb-true}
use Rattle.std.proofs.lemmas.List.{append-nil, append_cancel_right}
use Rattle.gp_stream.specs.Sink.{SinkState}
use Rattle.gp_stream.specs.Source.{SourceState, ReadsWhole}
use Rattle.gp_flow.specs.declared.lines.LinesEnd.{LinesEnd}
use Rattle.gp_flow.specs.declared.lines.LinesEnd.TheVariants.{Whole, Open, Over}
use Rattle.gp_flow.specs.Lines.{DoesAll, ServesAll, ServesEnded, ServesTo, Speech, ended_lines, handed, lines_of, longest_line, onto_line, with_feeds}
use Rattle.gp_flow.proofs.LineLemmas.{ended_first, true_or_false}
use Rattle.gp_verify.specs.declared.outcome.VerifyFault.{VerifyFault}
use Rattle.gp_verify.specs.declared.verdict.Verdict.{Verdict}
use Rattle.gp_verify.specs.Outcome.{IsRefused, IsRun, IsUnended, RunsVerify, finding}
use Rattle.gp_verify.specs.Ports.{IsOrderlyPort}
use Rattle.gp_verify.specs.Tells.{IsTraceText}
use Rattle.gp_verify.specs.Verdicts.{VerifyState}
use Rattle.gp_verify.proofs.OutcomeLemmas.{verified_as}
use Rattle.gp_summed.specs.Verifying.{CountingVerifyState, JudgesCounting, CountsText, is_over, said_by}
use Rattle.gp_summed.proofs.CountedLines.{CountedTo, counted_to, lines_counted, served}

-- ---- lists

head_same : {A : Type 0} (x y : A) (xs ys : List A) → x ∷ xs ≡ y ∷ ys → x ≡ y
head_same x y xs ys h = cc

tail_same : {A : Type 0} (x y : A) (xs ys : List A) → x ∷ xs ≡ y ∷ ys → xs ≡ ys
tail_same x y xs ys h = cc

cons_same : {A : Type 0} (x y : A) (xs ys : List A) → x ≡ y → xs ≡ ys → x ∷ xs ≡ y ∷ ys
cons_same x y xs ys h k = cc

-- of two ways to part a list those are one whose first parts are of one length
parted_so : {A : Type 0} (xs ys : List A) (x y : A) (us vs : List A) → xs ++ x ∷ us ≡ ys ++ y ∷ vs → length xs ≡ length ys → xs ≡ ys
parted_so [] [] x y us vs same long = refl
parted_so [] (b ∷ ys) x y us vs same long = absurd (grind arith)
parted_so (a ∷ xs) [] x y us vs same long = absurd (grind arith)
parted_so (a ∷ xs) (b ∷ ys) x y us vs same long =
    let shorter : length xs ≡ length ys = grind arith in
    cons_same a b xs ys (head_same _ _ _ _ same) (parted_so xs ys x y us vs (tail_same _ _ _ _ same) shorter)

-- ---- the last line's line feed

open_onto : (b : ℕ) (lines : List (List ℕ)) (bytes : List ℕ) → (with_feeds lines ≡ bytes) ⊎ (with_feeds lines ≡ bytes ++ codes "\n")
    → (with_feeds (onto_line b lines) ≡ b ∷ bytes) ⊎ (with_feeds (onto_line b lines) ≡ (b ∷ bytes) ++ codes "\n")
open_onto b [] [] (inl same) = inr refl
open_onto b [] (c ∷ bytes) (inl same) = absurd (cc)
open_onto b [] [] (inr same) = absurd (cc)
open_onto b [] (c ∷ bytes) (inr same) = absurd (cc)
open_onto b (line ∷ lines) bytes (inl same) = inl (ap (λ (l : List ℕ). b ∷ l) same)
open_onto b (line ∷ lines) bytes (inr same) = inr (ap (λ (l : List ℕ). b ∷ l) same)

-- a text is its lines with a line feed behind each, or all but the last line feed
feeds_or_open : (bytes : List ℕ) → (with_feeds (lines_of bytes) ≡ bytes) ⊎ (with_feeds (lines_of bytes) ≡ bytes ++ codes "\n")
feeds_or_open [] = inl refl
feeds_or_open (b ∷ bytes) =
    elim (true_or_false (b == 10)) [
      | inl feed ↦
          rw feed (elim (feeds_or_open bytes) [
            | inl same ↦ inl (cons_same 10 b (with_feeds (lines_of bytes)) bytes (sym (eqb-true b 10 feed)) same)
            | inr same ↦ inr (cons_same 10 b (with_feeds (lines_of bytes)) (bytes ++ codes "\n") (sym (eqb-true b 10 feed)) same)
          ])
      | inr other ↦ rw other (open_onto b (lines_of bytes) bytes (feeds_or_open bytes))
    ]

open_text : (bytes : List ℕ) → (bytes ≡ with_feeds (lines_of bytes) → ⊥) → with_feeds (lines_of bytes) ≡ bytes ++ codes "\n"
open_text bytes unfed =
    elim (feeds_or_open bytes) [
      | inl same ↦ absurd (unfed (sym same))
      | inr same ↦ same
    ]

-- ---- a source that tells its octets

-- what is still to come, as far as it is told
abbrev rest_of : Option (List ℕ) → List ℕ
rest_of None = []
rest_of (Some rest) = rest

abbrev telling : {R : Type 0} → SourceState R → List ℕ → SourceState R
telling source bytes = record source { remaining = Some bytes }

-- of what came from a source all holds of these octets and those behind them
told_so : (o p : Option (List ℕ)) (bytes : List ℕ) (P : List ℕ → Type 0) → Consumes o p bytes → P (bytes ++ rest_of p) → IfSome o P
told_so None p bytes P came holds = tt
told_so (Some all) None bytes P came holds = absurd came
told_so (Some all) (Some rest) bytes P came holds = subst P (sym came) holds

nothing_left : (p : Option (List ℕ)) → IsAtEnd p → rest_of p ≡ []
nothing_left None end = refl
nothing_left (Some rest) end = end

module _ {S R W : Type 0} (does : Speech S) (limit : ℕ) (from to : SourceState R) (old new : S) (before after : SinkState W) where
  told_all : (whole : Bool) (s : ServesAll does limit whole from to old new before after)
      → ServesAll does limit whole (telling from (s.bytes ++ rest_of to.remaining)) (telling to (rest_of to.remaining)) old new before after
  told_all whole s = record {
    bytes = s.bytes;
    read = record { consumed = refl; end = nothing_left to.remaining s.read.end; unfailed = s.read.unfailed };
    feeds = s.feeds;
    said = s.said;
    spoken = s.spoken;
    written = s.written;
    kept = s.kept;
  }

  told_ended : (s : ServesEnded does limit from to old new before after)
      → ServesEnded does limit (telling from (s.bytes ++ rest_of to.remaining)) (telling to (rest_of to.remaining)) old new before after
  told_ended s = record {
    bytes = s.bytes;
    read = refl;
    said = s.said;
    spoken = s.spoken;
    written = s.written;
    kept = s.kept;
  }

-- what is found of one that tells its octets is found of one of which they came
module _ {R : Type 0} (from to : SourceState R) (old new : VerifyState) (bytes taken : List ℕ) (came : Consumes from.remaining to.remaining bytes) where
  abbrev known : SourceState R
  known = telling from (bytes ++ rest_of to.remaining)

  abbrev behind : SourceState R
  behind = telling to (rest_of to.remaining)

  these : (octets : List ℕ) → Consumes known.remaining behind.remaining octets → bytes ≡ octets
  these octets is = append_cancel_right bytes octets (rest_of to.remaining) is

  no_run : IfSome known.remaining (λ text. IsTraceText old.mask old.play text → ⊥) → IfSome from.remaining (λ text. IsTraceText old.mask old.play text → ⊥)
  no_run none = told_so from.remaining to.remaining bytes (λ (text : List ℕ). IsTraceText old.mask old.play text → ⊥) came none

  run_of : (lines : ℕ) → ReadsWhole from to bytes → taken ≡ bytes → IsRun old known behind lines → (run : IsRun old from to lines) × (taken ≡ run.text)
  run_of lines read is r =
      let same = these r.text r.read.consumed in (
        record {
          text = bytes;
          read = read;
          trace = subst (λ (t : List ℕ). IsTraceText old.mask old.play t) (sym same) r.trace;
          count = ap (λ (t : List ℕ). length (lines_of t)) same ∙ r.count;
        },
        is,
      )

  unended_of : (line : ℕ) → ReadsWhole from to bytes → taken ≡ bytes ++ codes "\n" → IsUnended old known behind line
      → (unended : IsUnended old from to line) × (taken ≡ unended.text ++ codes "\n")
  unended_of line read is u =
      let same = these u.text u.read.consumed in (
        record {
          text = bytes;
          read = read;
          count = ap (λ (t : List ℕ). length (lines_of t)) same ∙ u.count;
          none = no_run u.none;
        },
        is,
      )

  refused_of : (line : ℕ) (why : Verdict) (told : List ℕ) → IsRefused old new known behind line why told → IsRefused old new from to line why told
  refused_of line why told r = record {
    bytes = r.bytes;
    came = subst (λ (t : List ℕ). Consumes from.remaining to.remaining t) (these r.bytes r.came) came;
    before = r.before;
    text = r.text;
    others = r.others;
    lines = r.lines;
    number = r.number;
    receipts = r.receipts;
    mid = r.mid;
    run = r.run;
    condemned = r.condemned;
    told_is = r.told_is;
    none = no_run r.none;
  }

-- ---- a text

same_number : (a b line lines was : ℕ) → a + 1 ≡ line → line ≡ lines → lines ≡ was + (b + 1) → was ≡ 0 → b ≡ a
same_number a b line lines was h i j k = omega arith

never : {P : Type 0} → false ≡ true → P
never h = absurd (cc)

module _ {R W : Type 0} (from to : SourceState R) (old new : CountingVerifyState) (before after : SinkState W) (ports : All IsOrderlyPort old.verify.play.world.ports) (none : old.verify.ended ≡ None)
    (first : old.verify.lines ≡ 0) (nothing : old.counter.taken ≡ []) where
  abbrev told_from : List ℕ → SourceState R
  told_from bytes = telling from (bytes ++ rest_of to.remaining)

  abbrev told_to : SourceState R
  told_to = telling to (rest_of to.remaining)

  -- nothing was counted before
  from_nothing : (taken : List ℕ) → new.counter.taken ≡ old.counter.taken ++ taken → new.counter.taken ≡ taken
  from_nothing taken is = is ∙ ap (λ (t : List ℕ). t ++ taken) nothing

  refused_counts : (why : Verdict) (bytes : List ℕ) (ls others : List (List ℕ)) → new.verify.ended ≡ Some why → Consumes from.remaining to.remaining bytes → lines_of bytes ≡ ls ++ others
      → CountedTo ls old new why → RunsVerify old.verify new.verify (told_from bytes) told_to before after (finding Whole (Some why) new.verify.lines)
      → CountsText old.verify new.verify from to (finding Whole (Some why) new.verify.lines) new.counter.taken
  unfolding refused_of
  refused_counts why bytes ls others ended came is c r =
      let found : IsRefused old.verify new.verify (told_from bytes) told_to new.verify.lines why r.told = r.verified in
      let same : lines_of bytes ≡ lines_of found.bytes = ap lines_of (these from to old.verify new.verify bytes new.counter.taken came found.bytes found.came) in
      let parts : c.before ++ c.text ∷ (c.others ++ others) ≡ found.before ++ found.text ∷ found.others =
      sym (append_assoc c.before (c.text ∷ c.others) others) ∙ ap (λ (l : List (List ℕ)). l ++ others) (sym c.parts) ∙ sym is ∙ same ∙ found.lines in
      let count : length c.before ≡ length found.before =
      same_number (length found.before) (length c.before) new.verify.lines new.verify.lines old.verify.lines found.number refl c.lines first in
      let lines : c.before ≡ found.before = parted_so c.before found.before c.text found.text (c.others ++ others) found.others parts count in (
        r.told,
        refused_of from to old.verify new.verify bytes new.counter.taken came new.verify.lines why r.told found,
        from_nothing (with_feeds c.before ++ said_by why new.verify.said) c.taken ∙ ap (λ (b : List (List ℕ)). with_feeds b ++ said_by why new.verify.said) lines,
      )

  all_counted : (bytes said : List ℕ) → new.verify.ended ≡ None → DoesAll JudgesCounting old (map (handed longest_line) (lines_of bytes)) said new → new.counter.taken ≡ with_feeds (lines_of bytes)
  all_counted bytes said on spoken = from_nothing (with_feeds (lines_of bytes)) (lines_counted longest_line (lines_of bytes) old new said none spoken on)

  text_counts : (end : LinesEnd) (ended : Option Verdict) → new.verify.ended ≡ ended → ServesTo JudgesCounting is_over longest_line end from to old new before after
      → CountsText old.verify new.verify from to (finding end ended new.verify.lines) new.counter.taken
  text_counts Whole None is s =
      let r = verified_as (told_from s.bytes) told_to old.verify new.verify before after Whole None new.verify.lines (finding Whole None new.verify.lines) (sym is) refl refl ports none first
      (served (told_from s.bytes) told_to old new before after longest_line Whole (told_all JudgesCounting longest_line from to old new before after true s)) in
      run_of from to old.verify new.verify s.bytes new.counter.taken s.read.consumed new.verify.lines s.read (all_counted s.bytes s.said is s.spoken ∙ sym (s.feeds.0 refl)) r.verified.0
  text_counts Whole (Some why) is s =
      refused_counts why s.bytes (lines_of s.bytes) [] is s.read.consumed (sym (append-nil (lines_of s.bytes))) (counted_to longest_line (lines_of s.bytes) old new s.said why none is s.spoken)
      (verified_as (told_from s.bytes) told_to old.verify new.verify before after Whole (Some why) new.verify.lines (finding Whole (Some why) new.verify.lines) (sym is) refl refl ports none first
      (served (told_from s.bytes) told_to old new before after longest_line Whole (told_all JudgesCounting longest_line from to old new before after true s)))
  text_counts Open None is s =
      let r = verified_as (told_from s.bytes) told_to old.verify new.verify before after Open None new.verify.lines (finding Open None new.verify.lines) (sym is) refl refl ports none first
      (served (told_from s.bytes) told_to old new before after longest_line Open (told_all JudgesCounting longest_line from to old new before after false s)) in
      unended_of from to old.verify new.verify s.bytes new.counter.taken s.read.consumed new.verify.lines s.read
      (all_counted s.bytes s.said is s.spoken ∙ open_text s.bytes (λ e. never (s.feeds.1 e))) r.verified.0
  text_counts Open (Some why) is s =
      refused_counts why s.bytes (lines_of s.bytes) [] is s.read.consumed (sym (append-nil (lines_of s.bytes))) (counted_to longest_line (lines_of s.bytes) old new s.said why none is s.spoken)
      (verified_as (told_from s.bytes) told_to old.verify new.verify before after Open (Some why) new.verify.lines (finding Open (Some why) new.verify.lines) (sym is) refl refl ports none first
      (served (told_from s.bytes) told_to old new before after longest_line Open (told_all JudgesCounting longest_line from to old new before after false s)))
  text_counts Over None is s = never (ap is_some (sym is) ∙ s.1)
  text_counts Over (Some why) is s =
      let e = ended_first s.0.bytes [] in
      refused_counts why s.0.bytes (ended_lines s.0.bytes) e.0 is s.0.read (ap lines_of (sym (append-nil s.0.bytes)) ∙ e.1)
      (counted_to longest_line (ended_lines s.0.bytes) old new s.0.said why none is s.0.spoken)
      (verified_as (told_from s.0.bytes) told_to old.verify new.verify before after Over (Some why) new.verify.lines (finding Over (Some why) new.verify.lines) (sym is) refl refl ports none first
      (served (told_from s.0.bytes) told_to old new before after longest_line Over (told_ended JudgesCounting longest_line from to old new before after s.0, s.1)))

  -- what was counted of a text, by what was found of it
  pub counted_as : (end : LinesEnd) (found : Option Verdict) (line : ℕ) (answer : Result ℕ VerifyFault) → found ≡ new.verify.ended → line ≡ new.verify.lines → answer ≡ finding end found line
      → ServesTo JudgesCounting is_over longest_line end from to old new before after → CountsText old.verify new.verify from to answer new.counter.taken
  counted_as end found line answer is many same s =
      let told : answer ≡ finding end new.verify.ended new.verify.lines = same ∙ ap (λ (f : Option Verdict). finding end f line) is ∙ ap (λ (n : ℕ). finding end new.verify.ended n) many in
      subst (λ (a : Result ℕ VerifyFault). CountsText old.verify new.verify from to a new.counter.taken) (sym told) (text_counts end new.verify.ended refl s)
