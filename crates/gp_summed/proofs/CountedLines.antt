-- What a verifier that counts says to lines, and what was counted of lines.
use Rattle.std.proofs.Common.{◌≡◌, ℕ, ◌+◌, ◌⊎◌, inl, inr, List, [], ◌∷◌, ◌++◌, Option, None, Some, Result, Err, codes, map, length, refl, sym, ap, ◌∙◌, subst, append_assoc, add-one, arith}
use Rattle.std.proofs.lemmas.List.{append-nil}
use Rattle.gp_stream.specs.Sink.{SinkState}
use Rattle.gp_stream.specs.Source.{SourceState}
use Rattle.gp_flow.specs.declared.fault.Unanswered.{Unanswered}
use Rattle.gp_flow.specs.declared.fault.LinesFault.{LinesFault}
use Rattle.gp_flow.specs.declared.fault.LinesFault.TheVariants.{Read, Line}
use Rattle.gp_flow.specs.declared.lines.LinesEnd.{LinesEnd}
use Rattle.gp_flow.specs.declared.lines.LinesEnd.TheVariants.{Whole, Open, Over}
use Rattle.gp_flow.specs.Lines.{DoesAll, Serves, ServesFull, ServesTo, ended_lines, handed, lines_of, longest_line, with_feeds}
use Rattle.gp_flow.proofs.LineLemmas.{handed_whole}
use Rattle.gp_verify.specs.declared.verdict.Verdict.{Verdict}
use Rattle.gp_verify.specs.declared.verdict.Verdict.TheVariants as verdict
use Rattle.gp_verify.specs.Following.{Following, Follows, JudgesLine, TakesFrom, has_ended}
use Rattle.gp_verify.specs.declared.outcome.VerifyFault.TheVariants.{Lines}
use Rattle.gp_verify.specs.Outcome.{RunsVerify}
use Rattle.gp_verify.specs.Report.{Reports}
use Rattle.gp_verify.specs.Verdicts.{Judges, VerifyState, ending}
use Rattle.gp_verify.proofs.FollowingLemmas.{told_line}
use Rattle.gp_summed.specs.Verifying.{CountingVerifyState, JudgesCounting, Counts, CountsFrom, counted_of, is_over, said_by}

-- ---- as a verifier that doesn't count

pub as_verified : (ls : List (Option (List ℕ))) (old new : CountingVerifyState) (said : List ℕ) → DoesAll JudgesCounting old ls said new → DoesAll Following old.verify ls said new.verify
as_verified [] old new said h = (h.0, ap (λ (s : CountingVerifyState). s.verify) h.1)
as_verified (l ∷ ls) old new said h = (h.0, h.1, h.2.verify, h.3.follows, as_verified ls h.2 new h.1 h.4, h.5)

-- ---- what was counted

-- behind its end nothing more is counted
pub still : (ls : List (Option (List ℕ))) (old new : CountingVerifyState) (said : List ℕ) (why : Verdict) → old.verify.ended ≡ Some why → DoesAll JudgesCounting old ls said new
    → (new.verify ≡ old.verify) × (new.counter.taken ≡ old.counter.taken)
still [] old new said why is h = (ap (λ (s : CountingVerifyState). s.verify) h.1, ap (λ (s : CountingVerifyState). s.counter.taken) h.1)
still (l ∷ ls) old new said why is h =
    let same : h.2.verify ≡ old.verify = subst (λ (e : Option Verdict). TakesFrom e old.verify l h.2.verify) is h.3.follows.1 in
    let taken : h.2.counter.taken ≡ old.counter.taken = subst (λ (e : Option Verdict). CountsFrom e old l h.2) is h.3.counted in
    let rest = still ls h.2 new h.1 why (ap (λ (s : VerifyState). s.ended) same ∙ is) h.4 in
    (rest.0 ∙ same, rest.1 ∙ taken)

-- a line was counted, and it goes on behind it
pub record GoesOn (line : List ℕ) (old new : CountingVerifyState) : Type 0 where
  pub ended : new.verify.ended ≡ None
  pub lines : new.verify.lines ≡ old.verify.lines + 1
  pub taken : new.counter.taken ≡ old.counter.taken ++ (line ++ codes "\n")

-- or it ended there
pub record EndsThere (old new : CountingVerifyState) : Type 0 where
  pub why : Verdict
  pub ended : new.verify.ended ≡ Some why
  pub lines : new.verify.lines ≡ old.verify.lines + 1
  pub taken : new.counter.taken ≡ old.counter.taken ++ said_by why new.verify.said

line_judged : (line text told : List ℕ) (old new : CountingVerifyState) (found : Option Verdict) → new.verify.ended ≡ found → line ≡ text → JudgesLine old.verify text new.verify
    → new.counter.taken ≡ old.counter.taken ++ counted_of new.verify.ended text new.verify.said → GoesOn line old new ⊎ EndsThere old new
line_judged line text told old new None is same j taken = inl (record {
  ended = is;
  lines = j.lines;
  taken = taken ∙ ap (λ (e : Option Verdict). old.counter.taken ++ counted_of e text new.verify.said) is ∙ ap (λ (t : List ℕ). old.counter.taken ++ (t ++ codes "\n")) (sym same);
})
line_judged line text told old new (Some why) is same j taken = inr (record {
  why = why;
  ended = is;
  lines = j.lines;
  taken = taken ∙ ap (λ (e : Option Verdict). old.counter.taken ++ counted_of e text new.verify.said) is;
})

line_taken : (limit : ℕ) (line told : List ℕ) (old new : CountingVerifyState) (handed_on : Option (List ℕ)) → handed limit line ≡ handed_on → TakesFrom None old.verify handed_on new.verify
    → CountsFrom None old handed_on new → GoesOn line old new ⊎ EndsThere old new
line_taken limit line told old new None is long same = inr (record {
  why = verdict.TooLong;
  ended = ap (λ (s : VerifyState). s.ended) long;
  lines = ap (λ (s : VerifyState). s.lines) long;
  taken = same ∙ sym (append-nil old.counter.taken);
})
line_taken limit line told old new (Some text) is j taken = line_judged line text told old new new.verify.ended refl (handed_whole limit line text is) j taken

-- behind a line, where it had not ended before
pub line_counted : (limit : ℕ) (line told : List ℕ) (old new : CountingVerifyState) → old.verify.ended ≡ None → Counts old (handed limit line) told new → GoesOn line old new ⊎ EndsThere old new
line_counted limit line told old new none c =
    line_taken limit line told old new (handed limit line) refl (subst (λ (e : Option Verdict). TakesFrom e old.verify (handed limit line) new.verify) none c.follows.1)
    (subst (λ (e : Option Verdict). CountsFrom e old (handed limit line) new) none c.counted)

some_none : {A : Type 0} {P : Type 0} (x : A) → Some x ≡ None → P
some_none x h = absurd (cc)

same_verdict : (v w : Verdict) → Some v ≡ Some w → v ≡ w
same_verdict v w h = cc

-- where it goes on behind lines, each of them was counted
pub lines_counted : (limit : ℕ) (ls : List (List ℕ)) (old new : CountingVerifyState) (said : List ℕ) → old.verify.ended ≡ None → DoesAll JudgesCounting old (map (handed limit) ls) said new
    → new.verify.ended ≡ None → new.counter.taken ≡ old.counter.taken ++ with_feeds ls
lines_counted limit [] old new said none h on = ap (λ (s : CountingVerifyState). s.counter.taken) h.1 ∙ sym (append-nil old.counter.taken)
lines_counted limit (l ∷ ls) old new said none h on =
    elim (line_counted limit l h.0 old h.2 none h.3) [
      | inl first ↦ lines_counted limit ls h.2 new h.1 first.ended h.4 on ∙ ap (λ (t : List ℕ). t ++ with_feeds ls) first.taken ∙ append_assoc old.counter.taken (l ++ codes "\n") (with_feeds ls)
      | inr last ↦
          let same = still (map (handed limit) ls) h.2 new h.1 last.why last.ended h.4 in
          some_none last.why (sym last.ended ∙ ap (λ (s : VerifyState). s.ended) (sym same.0) ∙ on)
    ]

-- the lines before the one that ended it, and what was counted of them and in its place
pub record CountedTo (ls : List (List ℕ)) (old new : CountingVerifyState) (why : Verdict) : Type 0 where
  pub before : List (List ℕ)
  pub text : List ℕ
  pub others : List (List ℕ)
  pub parts : ls ≡ before ++ text ∷ others
  pub lines : new.verify.lines ≡ old.verify.lines + (length before + 1)
  pub taken : new.counter.taken ≡ old.counter.taken ++ (with_feeds before ++ said_by why new.verify.said)

one_more : (a b n m k : ℕ) → a ≡ b + (n + 1) → b ≡ k + 1 → m ≡ n + 1 → a ≡ k + (m + 1)
one_more a b n m k h i j = omega arith

pub counted_to : (limit : ℕ) (ls : List (List ℕ)) (old new : CountingVerifyState) (said : List ℕ) (why : Verdict) → old.verify.ended ≡ None → new.verify.ended ≡ Some why
    → DoesAll JudgesCounting old (map (handed limit) ls) said new → CountedTo ls old new why
counted_to limit [] old new said why none is h = some_none why (sym is ∙ ap (λ (s : CountingVerifyState). s.verify.ended) h.1 ∙ none)
counted_to limit (l ∷ ls) old new said why none is h =
    elim (line_counted limit l h.0 old h.2 none h.3) [
      | inl first ↦
          let rest = counted_to limit ls h.2 new h.1 why first.ended is h.4 in
          let behind = with_feeds rest.before ++ said_by why new.verify.said in
          record {
            before = l ∷ rest.before;
            text = rest.text;
            others = rest.others;
            parts = ap (λ (o : List (List ℕ)). l ∷ o) rest.parts;
            lines = one_more new.verify.lines h.2.verify.lines (length rest.before) (length (l ∷ rest.before)) old.verify.lines rest.lines first.lines (sym (add-one (length rest.before)));
            taken = rest.taken ∙ ap (λ (t : List ℕ). t ++ behind) first.taken ∙ append_assoc old.counter.taken (l ++ codes "\n") behind
                ∙ ap (λ (t : List ℕ). old.counter.taken ++ t) (sym (append_assoc (l ++ codes "\n") (with_feeds rest.before) (said_by why new.verify.said)));
          }
      | inr last ↦
          let same = still (map (handed limit) ls) h.2 new h.1 last.why last.ended h.4 in
          let verdict_is : last.why ≡ why = same_verdict last.why why (sym last.ended ∙ ap (λ (s : VerifyState). s.ended) (sym same.0) ∙ is) in
          record {
            before = [];
            text = l;
            others = ls;
            parts = refl;
            lines = ap (λ (s : VerifyState). s.lines) same.0 ∙ last.lines;
            taken = same.1 ∙ last.taken ∙ ap (λ (v : Verdict). old.counter.taken ++ said_by v h.2.verify.said) verdict_is
                ∙ ap (λ (s : VerifyState). old.counter.taken ++ said_by why s.said) (sym same.0);
          }
    ]

-- ---- a line

-- what was counted of a line, by what is said of it
counted_by : (why : Verdict) (text before after said : List ℕ) → after ≡ before ++ said_by why said → (why ≡ verdict.Follows → said ≡ text ++ codes "\n")
    → after ≡ before ++ counted_of (ending why) text said
counted_by verdict.Follows text before after said taken line = taken ∙ ap (λ (t : List ℕ). before ++ t) (line refl)
counted_by verdict.NotALine text before after said taken line = taken
counted_by verdict.NoPort text before after said taken line = taken
counted_by verdict.WrongNumber text before after said taken line = taken
counted_by verdict.NotAStep text before after said taken line = taken
counted_by verdict.TooLong text before after said taken line = taken

module _ (old new : CountingVerifyState) (text : List ℕ) where
  counts_line : (told : List ℕ) (why : Verdict) → Follows old.verify (Some text) told new.verify → old.verify.ended ≡ None → new.verify.ended ≡ ending why
      → new.counter.taken ≡ old.counter.taken ++ said_by why new.verify.said → (why ≡ verdict.Follows → new.verify.said ≡ text ++ codes "\n") → Counts old (Some text) told new
  counts_line told why follows none ends taken line = record {
    follows = follows;
    counted = subst (λ (e : Option Verdict). CountsFrom e old (Some text) new) (sym none)
        (counted_by why text old.counter.taken new.counter.taken new.verify.said taken line
        ∙ ap (λ (e : Option Verdict). old.counter.taken ++ counted_of e text new.verify.said) (sym ends));
  }

  -- a line that was judged, and its report
  pub counts_told : (told : List ℕ) (why : Verdict) → old.verify.ended ≡ None → Judges why old.verify.mask old.verify.play text new.verify.play new.verify.said
      → new.verify.ended ≡ ending why → new.verify.lines ≡ old.verify.lines + 1 → new.verify.mask ≡ old.verify.mask → new.verify.form ≡ old.verify.form
      → new.counter.taken ≡ old.counter.taken ++ said_by why new.verify.said → (why ≡ verdict.Follows → new.verify.said ≡ text ++ codes "\n")
      → Reports new.verify.form why new.verify.lines new.verify text told → Counts old (Some text) told new
  counts_told told why none judged ends lines mask form taken line is =
      counts_line told why (told_line old.verify new.verify text told why none (λ x. judged) (λ x. ends) (λ x. lines) mask form is) none ends taken line

  -- of a line that follows nothing is told
  pub follows_silently : (why : Verdict) → why ≡ verdict.Follows → old.verify.ended ≡ None → Judges why old.verify.mask old.verify.play text new.verify.play new.verify.said
      → new.verify.ended ≡ ending why → new.verify.lines ≡ old.verify.lines + 1 → new.verify.mask ≡ old.verify.mask → new.verify.form ≡ old.verify.form
      → new.counter.taken ≡ old.counter.taken ++ said_by why new.verify.said → (why ≡ verdict.Follows → new.verify.said ≡ text ++ codes "\n") → Counts old (Some text) [] new
  follows_silently why follows none judged ends lines mask form taken line =
      let report : Reports new.verify.form why new.verify.lines new.verify text [] =
      subst (λ (v : Verdict). Reports new.verify.form v new.verify.lines new.verify text []) (sym follows) refl in
      counts_told [] why none judged ends lines mask form taken line report

-- ---- a text

module _ {R W : Type 0} (from to : SourceState R) (old new : CountingVerifyState) (before after : SinkState W) (limit : ℕ) where
  pub served : (end : LinesEnd) → ServesTo JudgesCounting is_over limit end from to old new before after
      → ServesTo Following has_ended limit end from to old.verify new.verify before after
  served Whole s = record {
    bytes = s.bytes;
    read = s.read;
    feeds = s.feeds;
    said = s.said;
    spoken = as_verified (map (handed limit) (lines_of s.bytes)) old new s.said s.spoken;
    written = s.written;
    kept = s.kept;
  }
  served Open s = record {
    bytes = s.bytes;
    read = s.read;
    feeds = s.feeds;
    said = s.said;
    spoken = as_verified (map (handed limit) (lines_of s.bytes)) old new s.said s.spoken;
    written = s.written;
    kept = s.kept;
  }
  served Over s = (
    record {
      bytes = s.0.bytes;
      read = s.0.read;
      said = s.0.said;
      spoken = as_verified (map (handed limit) (ended_lines s.0.bytes)) old new s.0.said s.0.spoken;
      written = s.0.written;
      kept = s.0.kept;
    },
    s.1,
  )

-- no more lines can be taken where none can without counting
full_so : {R : Type 0} (limit : ℕ) (from to : SourceState R) (old : CountingVerifyState) → ServesFull JudgesCounting limit from to old → ServesFull Following limit from to old.verify
full_so limit from to old s = record {
  bytes = s.bytes;
  read = s.read;
  at = record {
    answered = s.at.answered;
    said = s.at.said;
    next = s.at.next.verify;
    spoken = as_verified s.at.answered old s.at.next s.at.said s.at.spoken;
    line = s.at.line;
    others = s.at.others;
    all = s.at.all;
    why = s.at.why;
  };
}

-- a text that was not read, or a line not judged
pub unread_so : {R W : Type 0} (from to : SourceState R) (old new : CountingVerifyState) (before after : SinkState W) (fault : LinesFault)
    → Serves JudgesCounting is_over longest_line from to old new before after (Err fault) → RunsVerify old.verify new.verify from to before after (Err (Lines fault))
unread_so from to old new before after Read s = record { told = []; verified = s.failed refl; written = tt }
unread_so from to old new before after (Line fault) s = record {
  told = [];
  verified = λ is. full_so longest_line from to old (s.full (ap (λ (f : Unanswered). let r : Result LinesEnd LinesFault = Err (Line f) in r) is));
  written = tt;
}
