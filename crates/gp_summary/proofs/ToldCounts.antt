-- What is counted of what is told of a play is what is counted of its entries: lines of light count for nothing.
use Rattle.std.proofs.Common.{◌≡◌, ◌+◌, ℕ, Bool, true, false, List, [], ◌∷◌, ◌++◌, codes, length, refl, sym, ap, subst, ◌∙◌, inl, inr, arith, append_assoc, replicate}
use Rattle.std.proofs.lemmas.List.Elements.{All-cons, All-head, All-nil, All-tail}
use Rattle.std.specs.List.{All, flat_map}
use Rattle.gp_ploam.specs.declared.check.Mask.{Mask}
use Rattle.gp_machine.specs.declared.entry.Receipt.{Receipt}
use Rattle.gp_trace.specs.Text.{answer_text, line_of, trace_text}
use Rattle.gp_script.specs.Script.{ScriptView}
use Rattle.gp_lines.proofs.EndLemmas.{ended_once}
use Rattle.gp_lines.proofs.SplitLemmas.{line_split}
use Rattle.gp_replay.specs.Chassis.{opening_play}
use Rattle.gp_replay.specs.Lights.{IsTold, IsTraceWithLights, ToldByChassis, ToldByFibre, ToldPart, entries_of, light_line, parts_text}
use Rattle.gp_replay.specs.Lights.ToldPart.{Entries, LightLine}
use Rattle.gp_replay.specs.Playing.{chassis_playing, fibre_playing}
use Rattle.gp_replay.proofs.LightLemmas.{told_with_lights}
use Rattle.gp_replay.proofs.ToldLemmas.{plain_text}
use Rattle.gp_tally.specs.Entries.{AreCountsOf, CountsEntries, CountsEntry, IsWithinLimits}
use Rattle.gp_tally.specs.Ports.{CountsLine, CountsLines, told_at}
use Rattle.gp_tally.specs.Tally.{PortTally, no_tally}
use Rattle.gp_tally.specs.Text.{AreTallies, IsOneLine, fed}
use Rattle.gp_tally.proofs.LineLemmas.{cut_once, entries_counted, entry_told, fed_shape, line_cut, no_feed}
use Rattle.gp_summary.proofs.LightLines.{light_body, light_counts, light_fed, light_one}

-- ---- a text behind what was counted of it

-- entries or a line of light were counted, and these lines are left
record Counted (mask : Mask) (receipts : List Receipt) (rest last : List ℕ) (old new : List PortTally) : Type 0 where
  pub lines : List (List ℕ)
  pub mid : List PortTally
  pub entries : CountsEntries mask receipts old mid
  pub is : rest ≡ flat_map fed lines ++ last
  pub each : All IsOneLine lines
  pub counts : CountsLines mask lines mid new

line_counts : (mask : Mask) (r : Receipt) (text : List ℕ) (old new : List PortTally) → IsWithinLimits r → line_of mask r ≡ text ++ codes "\n"
    → CountsLine mask text old new → CountsEntry mask r old new
line_counts mask r text old new limits is (inl it) =
    let told = entry_told mask r text limits is it.port it.told it.tells in
    record { told = it.told; tells = told.1; counted = it.counted ∙ ap (λ (p : ℕ). told_at old p it.told) told.0 }
line_counts mask r text old new limits is (inr none) =
    absurd (none.0 r.port r.number r.entry.event (answer_text mask r.entry.answer) (line_cut mask r text limits is))

-- lines, with the first of them apart
lines_shape : (line : List ℕ) (lines : List (List ℕ)) (last : List ℕ) → flat_map fed (line ∷ lines) ++ last ≡ line ++ 10 ∷ (flat_map fed lines ++ last)
lines_shape line lines last = append_assoc (fed line) (flat_map fed lines) last ∙ fed_shape line (flat_map fed lines ++ last)

-- what stands behind the line of an entry
entry_shape : (mask : Mask) (r : Receipt) (rs : List Receipt) (text rest : List ℕ) → line_of mask r ≡ text ++ codes "\n"
    → trace_text mask (r ∷ rs) ++ rest ≡ text ++ 10 ∷ (trace_text mask rs ++ rest)
entry_shape mask r rs text rest is =
    append_assoc (line_of mask r) (trace_text mask rs) rest ∙ ap (λ (l : List ℕ). l ++ (trace_text mask rs ++ rest)) is
    ∙ fed_shape text (trace_text mask rs ++ rest)

behind_entries : (mask : Mask) (rs : List Receipt) (rest last : List ℕ) (lines : List (List ℕ)) (old new : List PortTally) → All IsWithinLimits rs
    → trace_text mask rs ++ rest ≡ flat_map fed lines ++ last → All IsOneLine lines → IsOneLine last → CountsLines mask lines old new
    → Counted mask rs rest last old new
behind_entries mask [] rest last lines old new limits is each one counts =
    record { lines = lines; mid = old; entries = refl; is = is; each = each; counts = counts }
behind_entries mask (r ∷ rs) rest last [] old new limits is each one counts =
    let here = All-head IsWithinLimits r rs limits in
    let split = line_split mask r here.port here.number here.event in
    absurd (no_feed split.0 (trace_text mask rs ++ rest) last one (sym (entry_shape mask r rs split.0 rest split.1) ∙ is))
behind_entries mask (r ∷ rs) rest last (line ∷ lines) old new limits is each one counts =
    let here = All-head IsWithinLimits r rs limits in
    let split = line_split mask r here.port here.number here.event in
    let both : split.0 ++ 10 ∷ (trace_text mask rs ++ rest) ≡ line ++ 10 ∷ (flat_map fed lines ++ last) =
    sym (entry_shape mask r rs split.0 rest split.1) ∙ is ∙ lines_shape line lines last in
    let cut = cut_once split.0 line (trace_text mask rs ++ rest) (flat_map fed lines ++ last) (ended_once mask r split.0 split.1) (All-head IsOneLine line lines each) both in
    let text : line_of mask r ≡ line ++ codes "\n" = split.1 ∙ ap (λ (t : List ℕ). t ++ codes "\n") cut.0 in
    let more = behind_entries mask rs rest last lines counts.0 new (All-tail IsWithinLimits r rs limits) cut.1 (All-tail IsOneLine line lines each) one counts.2 in
    record {
      lines = more.lines;
      mid = more.mid;
      entries = (counts.0, line_counts mask r line old counts.0 here text counts.1, more.entries);
      is = more.is;
      each = more.each;
      counts = more.counts;
    }

light_shape : (unit : ℕ) (lit : Bool) (rest : List ℕ) → light_line unit lit ++ rest ≡ light_body unit lit ++ 10 ∷ rest
light_shape unit lit rest = ap (λ (l : List ℕ). l ++ rest) (light_fed unit lit) ∙ fed_shape (light_body unit lit) rest

behind_light : (mask : Mask) (unit : ℕ) (lit : Bool) (rest last : List ℕ) (lines : List (List ℕ)) (old new : List PortTally)
    → light_line unit lit ++ rest ≡ flat_map fed lines ++ last → All IsOneLine lines → IsOneLine last → CountsLines mask lines old new
    → Counted mask [] rest last old new
behind_light mask unit lit rest last [] old new is each one counts =
    absurd (no_feed (light_body unit lit) rest last one (sym (light_shape unit lit rest) ∙ is))
behind_light mask unit lit rest last (line ∷ lines) old new is each one counts =
    let both : light_body unit lit ++ 10 ∷ rest ≡ line ++ 10 ∷ (flat_map fed lines ++ last) =
    sym (light_shape unit lit rest) ∙ is ∙ lines_shape line lines last in
    let cut = cut_once (light_body unit lit) line rest (flat_map fed lines ++ last) (light_one unit lit) (All-head IsOneLine line lines each) both in
    let here : CountsLine mask (light_body unit lit) old counts.0 = subst (λ (t : List ℕ). CountsLine mask t old counts.0) (sym cut.0) counts.1 in
    record {
      lines = lines;
      mid = counts.0;
      entries = light_counts mask unit lit old counts.0 here;
      is = cut.1;
      each = All-tail IsOneLine line lines each;
      counts = counts.2;
    }

-- ---- entries with lines of light between them

front_all : (xs ys : List Receipt) → All IsWithinLimits (xs ++ ys) → All IsWithinLimits xs
front_all [] ys h = All-nil IsWithinLimits
front_all (x ∷ xs) ys h =
    All-cons IsWithinLimits x xs (All-head IsWithinLimits x (xs ++ ys) h) (front_all xs ys (All-tail IsWithinLimits x (xs ++ ys) h))

behind_all : (xs ys : List Receipt) → All IsWithinLimits (xs ++ ys) → All IsWithinLimits ys
behind_all [] ys h = h
behind_all (x ∷ xs) ys h = behind_all xs ys (All-tail IsWithinLimits x (xs ++ ys) h)

counts_both : (mask : Mask) (xs ys : List Receipt) (old mid new : List PortTally) → CountsEntries mask xs old mid → CountsEntries mask ys mid new
    → CountsEntries mask (xs ++ ys) old new
counts_both mask [] ys old mid new first rest = subst (λ (p : List PortTally). CountsEntries mask ys p new) first rest
counts_both mask (x ∷ xs) ys old mid new first rest = (first.0, first.1, counts_both mask xs ys first.0 mid new first.2 rest)

parts_counted : (mask : Mask) (parts : List ToldPart) (lines : List (List ℕ)) (last : List ℕ) (old new : List PortTally) → All IsWithinLimits (entries_of parts)
    → parts_text mask parts ≡ flat_map fed lines ++ last → All IsOneLine lines → IsOneLine last → CountsLines mask lines old new
    → CountsEntries mask (entries_of parts) old new
parts_counted mask [] [] last old new limits is each one counts = counts
parts_counted mask [] (line ∷ lines) last old new limits is each one counts =
    absurd (no_feed line (flat_map fed lines ++ last) [] (λ k d within. absurd (omega (arith, within))) (sym (is ∙ lines_shape line lines last)))
parts_counted mask (Entries rs ∷ parts) lines last old new limits is each one counts =
    let c = behind_entries mask rs (parts_text mask parts) last lines old new (front_all rs (entries_of parts) limits) is each one counts in
    counts_both mask rs (entries_of parts) old c.mid new c.entries
    (parts_counted mask parts c.lines last c.mid new (behind_all rs (entries_of parts) limits) c.is c.each one c.counts)
parts_counted mask (LightLine unit lit ∷ parts) lines last old new limits is each one counts =
    let c = behind_light mask unit lit (parts_text mask parts) last lines old new is each one counts in
    counts_both mask [] (entries_of parts) old c.mid new c.entries (parts_counted mask parts c.lines last c.mid new limits c.is c.each one c.counts)

with_lights : (script : ScriptView) (rs : List Receipt) (t : List ℕ) → IsTold true script rs t → IsTraceWithLights script.mask script.events rs t
with_lights script rs t (ToldByChassis none end h) = told_with_lights script.mask chassis_playing script.events (opening_play script) end rs t h
with_lights script rs t (ToldByFibre some start opens end h) = told_with_lights script.mask fibre_playing script.events start end rs t h

pub told_counted : (lights : Bool) (script : ScriptView) (rs : List Receipt) (t : List ℕ) (ports : List PortTally) → IsTold lights script rs t → All IsWithinLimits rs
    → AreTallies script.mask t ports → AreCountsOf script.mask rs ports
told_counted false script rs t ports told limits tallies =
    entries_counted script.mask rs ports limits (subst (λ (l : List ℕ). AreTallies script.mask l ports) (plain_text script rs t told) tallies)
told_counted true script rs t ports told limits tallies =
    let w = with_lights script rs t told in
    let c = tallies.counts in
    let start = replicate (length ports) no_tally in
    subst (λ (l : List Receipt). CountsEntries script.mask l start ports) w.entries
    (parts_counted script.mask w.parts c.lines tallies.last start ports (subst (All IsWithinLimits) (sym w.entries) limits) (sym w.text_is ∙ c.has.split) c.has.each
    c.has.one c.counted)
