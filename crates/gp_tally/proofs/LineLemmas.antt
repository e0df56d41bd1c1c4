-- The line of an entry tells what the entry tells, so what is counted of a trace is what is counted of its entries.
use Rattle.std.proofs.Common.{◌≡◌, ℕ, false, List, [], ◌∷◌, ◌++◌, length, codes, refl, sym, ap, subst, ◌∙◌, inl, inr, arith, append_assoc, replicate}
use Rattle.std.proofs.lemmas.List.Elements.{All-head, All-tail}
use Rattle.std.proofs.lemmas.List.{append_cancel_right}
use Rattle.std.specs.List.{All, flat_map}
use Rattle.gp_ploam.specs.declared.check.Mask.{Mask}
use Rattle.gp_machine.specs.declared.entry.Receipt.{Receipt}
use Rattle.gp_trace.specs.Text.{answer_text, line_of, trace_text}
use Rattle.gp_lines.specs.Trace.{SplitsLine, is_feed}
use Rattle.gp_lines.proofs.EndLemmas.{ended_once}
use Rattle.gp_lines.proofs.SplitLemmas.{line_split, one_cut}
use Rattle.gp_tally.specs.declared.told.Told.{Told}
use Rattle.gp_tally.specs.Entries.{AreCountsOf, CountsEntries, CountsEntry, IsWithinLimits, TellsEntry}
use Rattle.gp_tally.specs.Ports.{CountsLine, CountsLines, told_at}
use Rattle.gp_tally.specs.Tally.{PortTally, no_tally}
use Rattle.gp_tally.specs.Text.{AreTallies, IsOneLine, fed}
use Rattle.gp_tally.specs.Told.{HappensAs, TellsLine, answered_in}
use Rattle.gp_tally.proofs.AnswerLemmas.{answer_told}

-- ---- one line

-- the line of an entry, cut into its parts
pub line_cut : (mask : Mask) (r : Receipt) (text : List ℕ) → IsWithinLimits r → line_of mask r ≡ text ++ codes "\n"
    → SplitsLine text r.port r.number r.entry.event (answer_text mask r.entry.answer)
line_cut mask r text limits is =
    let split = line_split mask r limits.port limits.number limits.event in
    subst (λ (t : List ℕ). SplitsLine t r.port r.number r.entry.event (answer_text mask r.entry.answer)) (append_cancel_right split.0 text (codes "\n") (sym split.1 ∙ is)) split.2

pub line_tells : (mask : Mask) (r : Receipt) (text : List ℕ) → IsWithinLimits r → line_of mask r ≡ text ++ codes "\n" → (port : ℕ) (told : Told)
    → (port ≡ r.port) × TellsEntry mask r.entry told → TellsLine mask text port told
line_tells mask r text limits is port told tells = record {
  number = r.number;
  event = r.entry.event;
  answer = answer_text mask r.entry.answer;
  split = subst (λ (p : ℕ). SplitsLine text p r.number r.entry.event (answer_text mask r.entry.answer)) (sym tells.0) (line_cut mask r text limits is);
  happened = tells.1.happened;
  answered_is = tells.1.answered_is ∙ sym (answer_told mask r.entry.answer limits.found limits.alarm);
}

pub entry_told : (mask : Mask) (r : Receipt) (text : List ℕ) → IsWithinLimits r → line_of mask r ≡ text ++ codes "\n" → (port : ℕ) (told : Told)
    → TellsLine mask text port told → (port ≡ r.port) × TellsEntry mask r.entry told
entry_told mask r text limits is port told t =
    let same = one_cut text port t.number t.event t.answer r.port r.number r.entry.event (answer_text mask r.entry.answer) t.split (line_cut mask r text limits is) in (
      same.0,
      record {
        happened = subst (λ e. HappensAs mask e told.happened) same.2 t.happened;
        answered_is = t.answered_is ∙ ap answered_in same.3 ∙ answer_told mask r.entry.answer limits.found limits.alarm;
      },
    )

line_counts : (mask : Mask) (r : Receipt) (text : List ℕ) (old new : List PortTally) → IsWithinLimits r → line_of mask r ≡ text ++ codes "\n"
    → CountsLine mask text old new → CountsEntry mask r old new
line_counts mask r text old new limits is (inl it) =
    let told = entry_told mask r text limits is it.port it.told it.tells in
    record { told = it.told; tells = told.1; counted = it.counted ∙ ap (λ (p : ℕ). told_at old p it.told) told.0 }
line_counts mask r text old new limits is (inr none) = absurd (none.0 r.port r.number r.entry.event (answer_text mask r.entry.answer) (line_cut mask r text limits is))

-- ---- the lines of a text

one_head : (octet : ℕ) (octets : List ℕ) → IsOneLine (octet ∷ octets) → is_feed octet ≡ false
one_head octet octets one = All-head (λ (o : ℕ). is_feed o ≡ false) octet octets one

one_tail : (octet : ℕ) (octets : List ℕ) → IsOneLine (octet ∷ octets) → IsOneLine octets
one_tail octet octets one = All-tail (λ (o : ℕ). is_feed o ≡ false) octet octets one

-- a text is cut in one way at its first line feed
pub cut_once : (one other rest others : List ℕ) → IsOneLine one → IsOneLine other → one ++ 10 ∷ rest ≡ other ++ 10 ∷ others → (one ≡ other) × (rest ≡ others)
cut_once [] [] rest others first second is = (refl, cc is)
cut_once [] (octet ∷ other) rest others first second is =
    let feed : 10 ≡ octet = cc is in
    let no : is_feed 10 ≡ false = subst (λ (o : ℕ). is_feed o ≡ false) (sym feed) (one_head octet other second) in
    cc no
cut_once (octet ∷ one) [] rest others first second is =
    let feed : octet ≡ 10 = cc is in
    let no : is_feed 10 ≡ false = subst (λ (o : ℕ). is_feed o ≡ false) feed (one_head octet one first) in
    cc no
cut_once (octet ∷ one) (next ∷ other) rest others first second is =
    let same : octet ≡ next = cc is in
    let behind : one ++ 10 ∷ rest ≡ other ++ 10 ∷ others = cc is in
    let cut = cut_once one other rest others (one_tail octet one first) (one_tail next other second) behind in
    (ap (λ (o : ℕ). o ∷ one) same ∙ ap (λ (t : List ℕ). next ∷ t) cut.0, cut.1)

-- no line feed is in one line
pub no_feed : (line rest last : List ℕ) → IsOneLine last → line ++ 10 ∷ rest ≡ last → ⊥
no_feed [] rest last one is =
    let no : is_feed 10 ≡ false = one_head 10 rest (subst IsOneLine (sym is) one) in
    cc no
no_feed (octet ∷ line) rest last one is = no_feed line rest (line ++ 10 ∷ rest) (one_tail octet (line ++ 10 ∷ rest) (subst IsOneLine (sym is) one)) refl

pub fed_shape : (line rest : List ℕ) → fed line ++ rest ≡ line ++ 10 ∷ rest
fed_shape line rest = append_assoc line (10 ∷ []) rest

-- the lines of a trace are those of its entries
counts_lines : (mask : Mask) (rs : List Receipt) (lines : List (List ℕ)) (last : List ℕ) (old new : List PortTally) → All IsWithinLimits rs
    → trace_text mask rs ≡ flat_map fed lines ++ last → All IsOneLine lines → IsOneLine last → CountsLines mask lines old new → CountsEntries mask rs old new
counts_lines mask [] [] last old new limits is each one counts = counts
counts_lines mask [] (line ∷ lines) last old new limits is each one counts =
    absurd (no_feed line (flat_map fed lines ++ last) [] (λ k d within. absurd (omega (arith, within)))
    (sym (is ∙ append_assoc (fed line) (flat_map fed lines) last ∙ fed_shape line (flat_map fed lines ++ last))))
counts_lines mask (r ∷ rs) [] last old new limits is each one counts =
    let split = line_split mask r (All-head IsWithinLimits r rs limits).port (All-head IsWithinLimits r rs limits).number (All-head IsWithinLimits r rs limits).event in
    absurd (no_feed split.0 (trace_text mask rs) last one
    (sym (fed_shape split.0 (trace_text mask rs)) ∙ ap (λ (t : List ℕ). t ++ trace_text mask rs) (sym split.1) ∙ is))
counts_lines mask (r ∷ rs) (line ∷ lines) last old new limits is each one counts =
    let here = All-head IsWithinLimits r rs limits in
    let split = line_split mask r here.port here.number here.event in
    let rest = trace_text mask rs in
    let others = flat_map fed lines ++ last in
    let both : split.0 ++ 10 ∷ rest ≡ line ++ 10 ∷ others =
    sym (fed_shape split.0 rest) ∙ ap (λ (t : List ℕ). t ++ rest) (sym split.1) ∙ is ∙ append_assoc (fed line) (flat_map fed lines) last ∙ fed_shape line others in
    let cut = cut_once split.0 line rest others (ended_once mask r split.0 split.1) (All-head IsOneLine line lines each) both in
    let text : line_of mask r ≡ line ++ codes "\n" = split.1 ∙ ap (λ (t : List ℕ). t ++ codes "\n") cut.0 in (
      counts.0,
      line_counts mask r line old counts.0 here text counts.1,
      counts_lines mask rs lines last counts.0 new (All-tail IsWithinLimits r rs limits) cut.1 (All-tail IsOneLine line lines each) one counts.2,
    )

pub entries_counted : (mask : Mask) (rs : List Receipt) (ports : List PortTally) → All IsWithinLimits rs → AreTallies mask (trace_text mask rs) ports → AreCountsOf mask rs ports
entries_counted mask rs ports limits t =
    counts_lines mask rs t.counts.lines t.last (replicate (length ports) no_tally) ports limits t.counts.has.split t.counts.has.each t.counts.has.one t.counts.counted
