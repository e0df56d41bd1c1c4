-- Lines that are handed to an auditor.
use Rattle.std.proofs.Common.{◌≡◌, inl, inr, refl, ℕ, ◌+◌, List, ◌++◌, Option, Some, Result, Ok, Err, IsErrAnd, sym, ap, subst, ◌∙◌}
use Rattle.gp_flow.specs.declared.fault.Unanswered.{Unanswered}
use Rattle.gp_flow.specs.declared.fault.Unanswered.TheVariants.{Write}
use Rattle.gp_flow.specs.Lines.{Answers, most_lines}
use Rattle.gp_flow.proofs.AnswerLemmas.{no_memory, no_room, put_stopped}
use Rattle.gp_stream.specs.declared.sink.WriteStopped.{WriteStopped}
use Rattle.gp_stream.specs.Sink.{SinkState, Puts}
use Rattle.gp_ploam.specs.declared.check.Mask.{Mask}
use Rattle.gp_log.specs.declared.fault.LogFault.{LogFault}
use Rattle.gp_log.specs.declared.line.LogLine.{LogLine}
use Rattle.gp_log.specs.Line.{Reads}
use Rattle.line_columns.specs.Layout.{LayoutState, plain_of}
use Rattle.gp_finding.specs.declared.error.AuditSum.{AuditSum}
use Rattle.gp_audit.specs.declared.book.Book.{Book}
use Rattle.gp_audit.specs.declared.fault.AuditFault.{AuditFault}
use Rattle.gp_audit.specs.declared.fault.AuditFault.TheVariants as audits
use Rattle.gp_watch.specs.declared.fault.WatchFault.TheVariants as watches
use Rattle.gp_audit.specs.Failing.{LineFails}
use Rattle.gp_audit.specs.Faults.{unanswered}
use Rattle.gp_audit.specs.declared.options.AuditForm.{AuditForm}
use Rattle.gp_audit.specs.Again.{TellsAgain}
use Rattle.gp_audit.specs.Audit.{AuditState, Auditing, Audits, CannotCount, IsFull, ReadsLine, TellsLineAgain, next_told}
use Rattle.gp_audit.specs.Book.{TellingFails, TellsNotices}
use Rattle.gp_audit.specs.Hearing.{ports_after, told_of}
use Rattle.gp_audit.specs.Notice.{notices_text, sum_behind, sum_with}
use Rattle.gp_audit.specs.Port.{PortState}

-- where it stands behind a line
abbrev pub stands : AuditState → List PortState → AuditSum → AuditState
stands old ports sum = record old { ports = ports; sum = sum }

-- what is read of a line is what is read of the text that its layout makes of it
pub reads_plain : (layout : LayoutState) (line plain : List ℕ) (read : Result LogLine LogFault) → plain ≡ plain_of layout line → Reads plain read → ReadsLine layout (Some line) read
reads_plain layout line plain read same reads = subst (λ (text : List ℕ). Reads text read) same reads

-- what the book says of a line is what is said to it
pub audited : (old : AuditState) (line : Option (List ℕ)) (read : Result LogLine LogFault) (again : List ℕ) (a b : Book) (ports : List PortState)
    → ReadsLine old.layout line read → TellsLineAgain old.options old.layout line read again → a.said.items ≡ again → a.sum ≡ sum_behind old.sum
    → TellsNotices old.options (next_told old read) a b → ports ≡ ports_after old.options old.ports read → Audits old line b.said.items (stands old ports b.sum)
audited old line read again a b ports reads tells first begun told noted =
    let sums = told.sum ∙ ap (λ (s : AuditSum). sum_with s (next_told old read)) begun in (
      read,
      reads,
      record {
        again = again;
        tells = tells;
        said_is = told.said ∙ ap (λ (l : List ℕ). l ++ notices_text old.options (next_told old read)) first;
        next = λ i. stands old (noted i) (sums i);
      },
    )

-- the same of a line with this number, and how it stood before it
pub line_says : (old now : AuditState) (line : Option (List ℕ)) (read : Result LogLine LogFault) (again said : List ℕ) (number : ℕ) (a b : Book) (ports : List PortState) → old ≡ now
    → ReadsLine old.layout line read → TellsLineAgain old.options old.layout line read again → a.said.items ≡ again → a.sum ≡ sum_behind old.sum → number ≡ old.sum.lines + 1
    → TellsNotices old.options (told_of old.options old.ports number read) a b → ports ≡ ports_after old.options old.ports read → said ≡ b.said.items
    → Audits now line said (stands old ports b.sum)
line_says old now line read again said number a b ports is reads tells first begun counted told noted all =
    let here = subst (λ (n : ℕ). TellsNotices old.options (told_of old.options old.ports n read) a b) counted told in
    let says = audited old line read again a b ports reads tells first begun here noted in
    subst (λ (o : AuditState). Audits o line said (stands old ports b.sum)) is
    (subst (λ (l : List ℕ). Audits old line l (stands old ports b.sum)) (sym all) says)

-- a line is told again with the mask and the text that it has
pub again_told : (form : AuditForm) (m mask : Mask) (t text : List ℕ) (read : Result LogLine LogFault) (out : List ℕ) → m ≡ mask → t ≡ text → TellsAgain form m t read out
    → TellsAgain form mask text read out
again_told form m mask t text read out masked same h =
    subst (λ (x : Mask). TellsAgain form x text read out) masked (subst (λ (x : List ℕ). TellsAgain form m x read out) same h)

-- a line of which the writer took a part
pub stopped_as : {W T : Type 0} (line : Option (List ℕ)) (old new next : AuditState) (before after : SinkState W) (said : List ℕ) (e : WriteStopped) (r : Result (Unit {0}) Unanswered)
    → Audits old line said next → Puts {T = T} before after said (Err e) → IsErrAnd r (λ f. f ≡ Write) → Answers Auditing line old new before after r
stopped_as line old new next before after said e (Ok x) says puts told = absurd told
stopped_as line old new next before after said e (Err f) says puts told =
    subst (λ (g : Unanswered). Answers {T = Unit {0}} Auditing line old new before after (Err g)) (sym told)
    (put_stopped Auditing line old new next before after said e says puts)

-- a line of which nothing is said
pub unaudited : {W : Type 0} (line : Option (List ℕ)) (old new : AuditState) (before : SinkState W) (fault : AuditFault) (r : Result (Unit {0}) Unanswered)
    → IsErrAnd r (λ f. f ≡ unanswered fault) → (fault ≡ audits.Full → IsFull old line) → Answers Auditing line old new before before r
unaudited line old new before fault (Ok x) told why = absurd told
unaudited line old new before audits.OutOfMemory (Err f) told why =
    subst (λ (e : Unanswered). Answers {T = Unit {0}} Auditing line old new before before (Err e)) (sym told) (no_memory Auditing line old new before)
unaudited line old new before audits.Full (Err f) told why =
    subst (λ (e : Unanswered). Answers {T = Unit {0}} Auditing line old new before before (Err e)) (sym told) (no_room Auditing line old new before (why refl))

cannot_count : (old : AuditState) (read : Result LogLine LogFault) (sum : AuditSum) (number : ℕ) (fault : AuditFault) → sum ≡ sum_behind old.sum → number ≡ old.sum.lines + 1
    → TellingFails sum (told_of old.options old.ports number read) (LineFails old.options old.ports read watches.Full) fault → fault ≡ audits.Full → CannotCount old read
cannot_count old read sum number audits.OutOfMemory begun counted h is = absurd (cc)
cannot_count old read sum number audits.Full begun counted h is =
    let here : TellingFails sum (next_told old read) (LineFails old.options old.ports read watches.Full) audits.Full =
    subst (λ (n : ℕ). TellingFails sum (told_of old.options old.ports n read) (LineFails old.options old.ports read watches.Full) audits.Full) counted h in
    subst (λ (s : AuditSum). TellingFails s (next_told old read) (LineFails old.options old.ports read watches.Full) audits.Full) begun here

-- since a count can't go on with it
pub overfull : (old now : AuditState) (line : Option (List ℕ)) (read : Result LogLine LogFault) (sum : AuditSum) (number : ℕ) (fault : AuditFault) → old ≡ now → ReadsLine old.layout line read
    → sum ≡ sum_behind old.sum → number ≡ old.sum.lines + 1
    → TellingFails sum (told_of old.options old.ports number read) (LineFails old.options old.ports read watches.Full) fault → fault ≡ audits.Full → IsFull now line
overfull old now line read sum number fault is reads begun counted h full =
    subst (λ (o : AuditState). IsFull o line) is (inr (read, reads, cannot_count old read sum number fault begun counted h full))

-- or so many lines have come as can be counted
pub all_counted : (old now : AuditState) (line : Option (List ℕ)) → old ≡ now → old.sum.lines ≡ most_lines → IsFull now line
all_counted old now line is most = subst (λ (o : AuditState). IsFull o line) is (inl most)
