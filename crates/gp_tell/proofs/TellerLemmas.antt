-- What the writer below a teller has when more is handed to it.
use Rattle.std.specs.List.{All, AllByRecursion}
use Rattle.std.specs.Result.{is_err}
use Rattle.std.proofs.Common.{◌≡◌, ◌≤◌, ◌<◌, ◌+◌, ◌-◌, ℕ, Bool, true, false, List, [], ◌∷◌, ◌++◌, Option, None, Some, Result, Ok, Err, refl, sym, ap, subst, ◌∙◌, append_assoc, append-nil, arith, length, length-append, take}
use Rattle.std.proofs.lemmas.List.{take_all}
use Rattle.std.proofs.lemmas.List.Elements.{recursion_from_All}
use Rattle.std.proofs.Math.Seq.{take-append_seam}
use Rattle.std.specs.Io.KnownBytes.{Appends}
use Rattle.std.proofs.KnownBytes.{Appends-trans}
use Rattle.gp_flow.specs.Lines.{longest_line}
use Rattle.gp_stream.specs.Sink.{SinkState, Gives, Takes, TakesPrefix}
use Rattle.gp_stream.specs.Sink as sink
use Rattle.gp_stream.proofs.SinkLemmas.{gives_unstopped}
use Rattle.gp_flow.proofs.LineLemmas.{NoFeed}
use Rattle.gp_lines.specs.Trace.{is_feed}
use Rattle.gp_stream.specs.declared.sink.WriteStopped.{WriteStopped}
use Rattle.gp_explain.specs.Telling.{Manner, TellsOneLine}
use Rattle.gp_tell.specs.declared.fault.TellFault.{TellFault}
use Rattle.gp_tell.specs.declared.fault.TellFault.TheVariants.{Write, OutOfMemory}
use Rattle.gp_tell.specs.Ending.{Ends, EndsLine}
use Rattle.gp_tell.specs.Octets.{TellsOctets, open_line}
use Rattle.gp_tell.specs.Teller.{Finishes, HasAll, HasPrefix, Holds, Runs, TellerState, TellsBy}
use Rattle.gp_tell.proofs.OctetsLemmas.{kept_fed, kept_more, open_fed, open_more, passed_fed, passed_more, passed_on}

-- more was taken by the sink
pub holds_more : {W : Type 0} (first : Option (List ℕ)) (old new : SinkState W) (said bytes : List ℕ) → Holds first old said → Takes old new bytes → Holds first new (said ++ bytes)
holds_more first old new said bytes h t = record {
  written = h.written ++ t.written;
  appended = Appends-trans first old.held new.held h.written t.written h.appended t.appended;
  rest = ap (λ (l : List ℕ). l ++ bytes) h.rest ∙ append_assoc h.written old.gathered bytes ∙ ap (λ (l : List ℕ). h.written ++ l) t.rest ∙ sym (append_assoc h.written t.written new.gathered);
}

-- of more a prefix was written
pub holds_part : {W : Type 0} (first : Option (List ℕ)) (old new : SinkState W) (said bytes : List ℕ) → Holds first old said → TakesPrefix old new bytes
    → (count : ℕ) × Appends first new.held (take count (said ++ bytes))
holds_part first old new said bytes h t =
    let written = h.written ++ t.written in
    let all : said ++ bytes ≡ written ++ t.unwritten =
    ap (λ (l : List ℕ). l ++ bytes) h.rest ∙ append_assoc h.written old.gathered bytes ∙ ap (λ (l : List ℕ). h.written ++ l) t.rest ∙ sym (append_assoc h.written t.written t.unwritten) in
    let prefix : take (length written) (said ++ bytes) ≡ written = ap (take (length written)) all ∙ take-append_seam written t.unwritten in
    (length written, subst (λ (l : List ℕ). Appends first new.held l) (sym prefix) (Appends-trans first old.held new.held h.written t.written h.appended t.appended))

-- all was written
pub holds_whole : {W : Type 0} (first : Option (List ℕ)) (below : SinkState W) (said : List ℕ) → Holds first below said → below.gathered ≡ [] → Appends first below.held said
holds_whole first below said h none =
    subst (λ (l : List ℕ). Appends first below.held l) (sym (h.rest ∙ ap (λ (l : List ℕ). h.written ++ l) none ∙ append-nil h.written)) h.appended

-- it runs where it has no fault
pub runs_of : {W : Type 0} (fault : Option TellFault) (began : Manner) (first : Option (List ℕ)) (taken : List ℕ) (manner : Manner) (below : SinkState W) (long : Bool) (line : List ℕ) → fault ≡ None
    → TellsBy fault began first taken manner below long line → Runs began first taken manner below long line
runs_of None began first taken manner below long line is h = h
runs_of (Some f) began first taken manner below long line is h = absurd (let none : Some f ≡ None = is in cc)

-- and else it doesn't
pub tells_of : {W : Type 0} (fault : Option TellFault) (began : Manner) (first : Option (List ℕ)) (taken : List ℕ) (manner : Manner) (below : SinkState W) (long : Bool) (line : List ℕ) → fault ≡ None
    → Runs began first taken manner below long line → TellsBy fault began first taken manner below long line
tells_of fault began first taken manner below long line is h = subst (λ (f : Option TellFault). TellsBy f began first taken manner below long line) (sym is) h

module _ {W : Type 0} (began : Manner) (first : Option (List ℕ)) (taken : List ℕ) (manner : Manner) (old new : SinkState W) (long : Bool) (line : List ℕ) where
  -- all was written out
  pub finished : {T E : Type 0} (x : T) → Runs began first taken manner old long line → sink.Finishes {E = E} old new (Ok x) → Runs began first taken manner new long line
  finished x h f = record {
    said = h.said;
    told = h.told;
    holds = subst (λ (l : List ℕ). Holds first new l) (append-nil h.said) (holds_more first old new h.said [] h.holds f.gives.ok);
    running = gives_unstopped old new [] (Ok x) f.gives;
    kept = h.kept;
  }

  pub finished_all : {T E : Type 0} (x : T) → Runs began first taken manner old long line → sink.Finishes {E = E} old new (Ok x) → HasAll began taken first new.held
  finished_all x h f =
      let now = finished x h f in
      record { said = now.said; manner = manner; told = now.told; written = holds_whole first new now.said now.holds f.empty }

  -- or a prefix
  pub finished_part : {T E : Type 0} (e : E) → Runs began first taken manner old long line → sink.Finishes {T = T} old new (Err e) → HasPrefix began taken first new.held
  finished_part e h f =
      let all = holds_part first old new h.said [] h.holds f.gives.error in
      record { said = h.said; manner = manner; told = h.told; written = (all.0, subst (λ (l : List ℕ). Appends first new.held (take all.0 l)) (append-nil h.said) all.1) }

module _ {W : Type 0} (began : Manner) (first : Option (List ℕ)) (seen old new : TellerState W) where
  -- it tells
  telling_still : {P : Type 0} (fault : TellFault) → seen ≡ old → seen.fault ≡ None → old.fault ≡ Some fault → P
  telling_still fault same none some =
      let clash : None ≡ Some fault = sym none ∙ ap (λ (s : TellerState W). s.fault) same ∙ some in cc

  pub finishes_ok : seen ≡ old → seen.fault ≡ None → new.taken ≡ seen.taken → HasAll began new.taken first new.below.held → new.fault ≡ None → Finishes began first old new (Ok tt)
  finishes_ok same none still all now = record {
    taken = still ∙ ap (λ (s : TellerState W). s.taken) same;
    ok = (all, now);
    error = tt;
    unwritten = λ tells. tt;
    refused = λ fault some. telling_still fault same none some;
  }

  pub finishes_err : (fault : TellFault) → fault ≡ Write → seen ≡ old → seen.fault ≡ None → new.taken ≡ seen.taken → HasPrefix began new.taken first new.below.held → new.fault ≡ Some fault
      → Finishes began first old new (Err fault)
  finishes_err fault is same none still part now = record {
    taken = still ∙ ap (λ (s : TellerState W). s.taken) same;
    ok = tt;
    error = (part, now);
    unwritten = λ tells. is;
    refused = λ f some. telling_still f same none some;
  }

-- a part without a line feed
pub part_fed : (part : List ℕ) → All (λ octet. is_feed octet ≡ false) part → NoFeed part
part_fed part h = by_recursion part (recursion_from_All (λ octet. is_feed octet ≡ false) part h)
  where
    by_recursion : (xs : List ℕ) → AllByRecursion (λ octet. is_feed octet ≡ false) xs → NoFeed xs
    by_recursion [] h = tt
    by_recursion (x ∷ xs) h = (h.0, by_recursion xs h.1)

module _ {W : Type 0} (began : Manner) (first : Option (List ℕ)) (taken : List ℕ) (manner : Manner) (old new : SinkState W) (line part : List ℕ) where
  -- a part is kept
  pub part_kept : Runs began first taken manner old false line → NoFeed part → length part + length line ≤ longest_line → Runs began first (taken ++ part) manner old false (line ++ part)
  part_kept h none fits =
      let same : line ++ part ≡ open_line taken ++ part = ap (λ (l : List ℕ). l ++ part) h.kept.0 in
      let short : length (line ++ part) ≤ longest_line = let long = length-append line part in omega arith in
      record {
        said = h.said;
        told = kept_more began taken h.said manner part none h.told (subst (λ (l : List ℕ). length l ≤ longest_line) same short);
        holds = h.holds;
        running = h.running;
        kept = (same ∙ sym (open_more taken part none), short);
      }

  -- all that is told of a part that isn't kept
  passed_told : (long : Bool) → (long ≡ false → longest_line < length (line ++ part)) → NoFeed part → (h : Runs began first taken manner old long line)
      → TellsOctets began (taken ++ part) (h.said ++ (line ++ part)) manner × (longest_line < length (open_line (taken ++ part)))
  passed_told false over none h =
      let same : line ++ part ≡ open_line taken ++ part = ap (λ (l : List ℕ). l ++ part) h.kept.0 in
      let more : longest_line < length (open_line taken ++ part) = subst (λ (l : List ℕ). longest_line < length l) same (over refl) in
      let short : length (open_line taken) ≤ longest_line = subst (λ (l : List ℕ). length l ≤ longest_line) h.kept.0 h.kept.1 in (
        subst (λ (l : List ℕ). TellsOctets began (taken ++ part) (h.said ++ l) manner) (sym same) (passed_on began taken h.said manner part none h.told short more),
        subst (λ (l : List ℕ). longest_line < length l) (sym (open_more taken part none)) more,
      )
  passed_told true over none h =
      let same : line ++ part ≡ part = ap (λ (l : List ℕ). l ++ part) h.kept.0 in
      let more : longest_line < length (open_line taken ++ part) = let all = length-append (open_line taken) part in let long = h.kept.1 in omega arith in (
        subst (λ (l : List ℕ). TellsOctets began (taken ++ part) (h.said ++ l) manner) (sym same) (passed_more began taken h.said manner part none h.told h.kept.1),
        subst (λ (l : List ℕ). longest_line < length l) (sym (open_more taken part none)) more,
      )

  -- a part is passed on
  pub part_passed : {T E : Type 0} (long : Bool) (x : T) → (long ≡ false → longest_line < length (line ++ part)) → NoFeed part → Runs began first taken manner old long line
      → Gives {E = E} old new (line ++ part) (Ok x) → Runs began first (taken ++ part) manner new true []
  part_passed long x over none h gives =
      let now = passed_told long over none h in
      record {
        said = h.said ++ (line ++ part);
        told = now.0;
        holds = holds_more first old new h.said (line ++ part) h.holds gives.ok;
        running = gives_unstopped old new (line ++ part) (Ok x) gives;
        kept = (refl, now.1);
      }

  pub part_lost : {T E : Type 0} (long : Bool) (e : E) → (long ≡ false → longest_line < length (line ++ part)) → NoFeed part → Runs began first taken manner old long line
      → Gives {T = T} old new (line ++ part) (Err e) → HasPrefix began (taken ++ part) first new.held
  part_lost long e over none h gives =
      let now = passed_told long over none h in
      record { said = h.said ++ (line ++ part); manner = manner; told = now.0; written = holds_part first old new h.said (line ++ part) h.holds gives.error }

module _ {W : Type 0} (began : Manner) (first : Option (List ℕ)) (taken : List ℕ) (manner : Manner) (old new : SinkState W) (line : List ℕ) where
  -- what is told at a line feed
  ended_told : (long : Bool) (said : List ℕ) (next : Manner) → (h : Runs began first taken manner old long line) → Ends long line manner said next → TellsOctets began (taken ++ 10 ∷ []) (h.said ++ said) next
  ended_told false said next h ends =
      kept_fed began taken h.said manner said next h.told (subst (λ (l : List ℕ). length l ≤ longest_line) h.kept.0 h.kept.1) (subst (λ (l : List ℕ). TellsOneLine manner l said next) h.kept.0 ends)
  ended_told true said next h ends =
      subst (λ (l : List ℕ). TellsOctets began (taken ++ 10 ∷ []) (h.said ++ l) next) (sym ends.0)
      (subst (λ (m : Manner). TellsOctets began (taken ++ 10 ∷ []) (h.said ++ 10 ∷ []) m) (sym ends.1) (passed_fed began taken h.said manner h.told h.kept.1))

  -- a line is told
  pub line_told : (long : Bool) (next : Manner) → Runs began first taken manner old long line → EndsLine long line manner next old new (Ok tt) → Runs began first (taken ++ 10 ∷ []) next new false []
  line_told long next h ends = record {
    said = h.said ++ ends.0;
    told = ended_told long ends.0 next h ends.1;
    holds = holds_more first old new h.said ends.0 h.holds ends.2;
    running = ends.3;
    kept = (sym (open_fed taken), omega arith);
  }

  pub line_lost : (long : Bool) (next : Manner) → Runs began first taken manner old long line → EndsLine long line manner next old new (Err Write) → HasPrefix began (taken ++ 10 ∷ []) first new.held
  line_lost long next h ends =
      record { said = h.said ++ ends.0; manner = ends.1; told = ended_told long ends.0 ends.1 h ends.2; written = holds_part first old new h.said ends.0 h.holds ends.3 }

  -- without memory for a line, what was told before is written out, or a prefix of it
  pub memory_lost : (long : Bool) (r : Result (Unit {0}) WriteStopped) → Runs began first taken manner old long line → sink.Finishes old new r → HasPrefix began taken first new.held
  memory_lost long (Ok x) h f =
      let all = finished_all began first taken manner old new long line x h f in
      record { said = all.said; manner = all.manner; told = all.told; written = (length all.said, subst (λ (l : List ℕ). Appends first new.held l) (sym (take_all (length all.said) all.said (omega arith))) all.written) }
  memory_lost long (Err e) h f = finished_part began first taken manner old new long line e h f

-- ---- the same of a teller's fields, by what its calls ensure

module _ {W : Type 0} (fault : Option TellFault) (began : Manner) (first : Option (List ℕ)) (taken noted : List ℕ) (manner : Manner) (old : SinkState W) (line part : List ℕ) (long : Bool) (none : fault ≡ None) (h : TellsBy fault began first taken manner old long line) (free : All (λ octet. is_feed octet ≡ false) part) (note : noted ≡ taken ++ part) where
  runs : Runs began first taken manner old long line
  runs = runs_of fault began first taken manner old long line none h

  pub keeps_part : (new : List ℕ) → long ≡ false → length part ≤ longest_line - length line → new ≡ line ++ part → TellsBy fault began first noted manner old long new
  keeps_part new short room grown =
      let before : Runs began first taken manner old false line = subst (λ (b : Bool). Runs began first taken manner old b line) short runs in
      let fits : length part + length line ≤ longest_line = let most = before.kept.1 in omega arith in
      let now = part_kept began first taken manner old old line part before (part_fed part free) fits in
      tells_of fault began first noted manner old long new none
      (subst (λ (t : List ℕ). Runs began first t manner old long new) (sym note) (subst (λ (l : List ℕ). Runs began first (taken ++ part) manner old long l) (sym grown) (subst (λ (b : Bool). Runs began first (taken ++ part) manner old b (line ++ part)) (sym short) now)))

  pub passes_part : (r : Result (Unit {0}) WriteStopped) (new : SinkState W) (handed cleared : List ℕ) → handed ≡ line → cleared ≡ [] → (long ≡ false → longest_line < length (line ++ part)) → is_err r ≡ false
      → Gives old new (handed ++ part) r → TellsBy fault began first noted manner new true cleared
  passes_part (Ok x) new handed cleared same empty over ok gives =
      let all : Gives {E = WriteStopped} old new (line ++ part) (Ok x) = subst (λ (l : List ℕ). Gives {E = WriteStopped} old new (l ++ part) (Ok x)) same gives in
      let now = part_passed began first taken manner old new line part long x over (part_fed part free) runs all in
      tells_of fault began first noted manner new true cleared none
      (subst (λ (t : List ℕ). Runs began first t manner new true cleared) (sym note) (subst (λ (l : List ℕ). Runs began first (taken ++ part) manner new true l) (sym empty) now))
  passes_part (Err e) new handed cleared same empty over ok gives = absurd (let no : true ≡ false = ok in cc)

  pub loses_part : (r : Result (Unit {0}) WriteStopped) (new : SinkState W) (handed : List ℕ) → handed ≡ line → (long ≡ false → longest_line < length (line ++ part)) → is_err r ≡ true
      → Gives old new (handed ++ part) r → HasPrefix began noted first new.held
  loses_part (Ok x) new handed same over err gives = absurd (let no : false ≡ true = err in cc)
  loses_part (Err e) new handed same over err gives =
      let all : Gives {T = Unit {0}} old new (line ++ part) (Err e) = subst (λ (l : List ℕ). Gives {T = Unit {0}} old new (l ++ part) (Err e)) same gives in
      subst (λ (t : List ℕ). HasPrefix began t first new.held) (sym note) (part_lost began first taken manner old new line part long e over (part_fed part free) runs all)

module _ {W : Type 0} (fault : Option TellFault) (began : Manner) (first : Option (List ℕ)) (taken : List ℕ) (manner next : Manner) (old new : SinkState W) (line handed : List ℕ) (long : Bool) (none : fault ≡ None) (h : TellsBy fault began first taken manner old long line) (same : handed ≡ line) where
  told_so_far : Runs began first taken manner old long line
  told_so_far = runs_of fault began first taken manner old long line none h

  pub ends_told : (noted cleared : List ℕ) (begun : Bool) → noted ≡ taken ++ 10 ∷ [] → cleared ≡ [] → begun ≡ false → EndsLine long handed manner next old new (Ok tt)
      → TellsBy fault began first noted next new begun cleared
  ends_told noted cleared begun note empty short ends =
      let now = line_told began first taken manner old new line long next told_so_far (subst (λ (l : List ℕ). EndsLine long l manner next old new (Ok tt)) same ends) in
      tells_of fault began first noted next new begun cleared none
      (subst (λ (t : List ℕ). Runs began first t next new begun cleared) (sym note) (subst (λ (l : List ℕ). Runs began first (taken ++ 10 ∷ []) next new begun l) (sym empty) (subst (λ (b : Bool). Runs began first (taken ++ 10 ∷ []) next new b []) (sym short) now)))

  pub ends_lost : (noted : List ℕ) (why : TellFault) → noted ≡ taken ++ 10 ∷ [] → why ≡ Write → EndsLine long handed manner next old new (Err why) → HasPrefix began noted first new.held
  ends_lost noted why note is ends =
      let lost : EndsLine long line manner next old new (Err Write) = subst (λ (f : TellFault). EndsLine long line manner next old new (Err f)) is (subst (λ (l : List ℕ). EndsLine long l manner next old new (Err why)) same ends) in
      subst (λ (t : List ℕ). HasPrefix began t first new.held) (sym note) (line_lost began first taken manner old new line long next told_so_far lost)

  pub ends_unsaid : (why : TellFault) (after : SinkState W) (r : Result (Unit {0}) WriteStopped) → why ≡ OutOfMemory → EndsLine long handed manner next old new (Err why) → sink.Finishes new after r
      → HasPrefix began taken first after.held
  ends_unsaid why after r is ends f =
      let lost : EndsLine long handed manner next old new (Err OutOfMemory) = subst (λ (e : TellFault). EndsLine long handed manner next old new (Err e)) is ends in
      memory_lost began first taken manner old after line long r told_so_far (subst (λ (s : SinkState W). sink.Finishes s after r) lost.1 f)

-- ---- the same of a line that stands whole, and of which nothing was taken before

module _ {W : Type 0} (fault : Option TellFault) (began : Manner) (first : Option (List ℕ)) (taken noted all : List ℕ) (manner next : Manner) (old new : SinkState W) (line part : List ℕ) (long : Bool) (none : fault ≡ None) (h : TellsBy fault began first taken manner old long line) (free : All (λ octet. is_feed octet ≡ false) part) (short : long ≡ false) (empty : line ≡ []) (fits : length part ≤ longest_line) (note : noted ≡ taken ++ part) (feed : all ≡ noted ++ 10 ∷ []) where
  nothing_kept : Runs began first taken manner old false []
  nothing_kept =
      subst (λ (b : Bool). Runs began first taken manner old b []) short
      (subst (λ (l : List ℕ). Runs began first taken manner old long l) empty (runs_of fault began first taken manner old long line none h))

  whole_kept : Runs began first noted manner old false part
  whole_kept = subst (λ (t : List ℕ). Runs began first t manner old false part) (sym note) (part_kept began first taken manner old old [] part nothing_kept (part_fed part free) (omega (arith, fits)))

  pub whole_told : EndsLine false part manner next old new (Ok tt) → TellsBy fault began first all next new long line
  whole_told ends =
      tells_of fault began first all next new long line none
      (subst (λ (t : List ℕ). Runs began first t next new long line) (sym feed) (subst (λ (b : Bool). Runs began first (noted ++ 10 ∷ []) next new b line) (sym short) (subst (λ (l : List ℕ). Runs began first (noted ++ 10 ∷ []) next new false l) (sym empty) (line_told began first noted manner old new part false next whole_kept ends))))

  pub whole_lost : (why : TellFault) → why ≡ Write → EndsLine false part manner next old new (Err why) → HasPrefix began all first new.held
  whole_lost why is ends =
      subst (λ (t : List ℕ). HasPrefix began t first new.held) (sym feed)
      (line_lost began first noted manner old new part false next whole_kept (subst (λ (f : TellFault). EndsLine false part manner next old new (Err f)) is ends))

-- without memory for it nothing of it was taken
pub whole_unsaid : {W : Type 0} (fault : Option TellFault) (began : Manner) (first : Option (List ℕ)) (taken : List ℕ) (manner next : Manner) (old new : SinkState W) (line part : List ℕ) (long : Bool) → fault ≡ None
    → TellsBy fault began first taken manner old long line → (why : TellFault) (after : SinkState W) (r : Result (Unit {0}) WriteStopped) → why ≡ OutOfMemory → EndsLine false part manner next old new (Err why)
    → sink.Finishes new after r → HasPrefix began taken first after.held
whole_unsaid fault began first taken manner next old new line part long none h why after r is ends f =
    let lost : EndsLine false part manner next old new (Err OutOfMemory) = subst (λ (e : TellFault). EndsLine false part manner next old new (Err e)) is ends in
    memory_lost began first taken manner old after line long r (runs_of fault began first taken manner old long line none h) (subst (λ (s : SinkState _). sink.Finishes s after r) lost.1 f)
