-- The text of a trace, and its lines.
use Rattle.std.proofs.Common.{◌≡◌, ℕ, List, [], ◌∷◌, ◌++◌, map, codes, decimal, refl, sym, ap, ◌∙◌, append_assoc}
use Rattle.gp_ploam.specs.declared.check.Mask.{Mask}
use Rattle.gp_machine.specs.declared.entry.Receipt.{Receipt}
use Rattle.gp_trace.specs.Text.{answer_text, event_text, line_of, trace_text}
use Rattle.gp_verify.specs.Tells.{TracesAreLines, joined}
use Rattle.std.proofs.Common.{subst}
use Rattle.std.proofs.lemmas.List.{append_cancel_right}
use Rattle.gp_flow.proofs.LineLemmas.{NoFeed, NoFeeds}
use Rattle.gp_verify.proofs.FeedLemmas.{front_plain}
use Rattle.gp_verify.proofs.TraceLemmas.{first_same, rest_same, both_same, more_some, none_some}

-- a line without its line feed
front : Mask → Receipt → List ℕ
front mask r = decimal r.port ++ codes " " ++ decimal r.number ++ codes " " ++ event_text r.entry.event ++ codes " = " ++ answer_text mask r.entry.answer

line_front : (mask : Mask) (r : Receipt) → line_of mask r ≡ front mask r ++ codes "\n"
unfolding line_of front
line_front mask r = simp append_assoc

lines_front : (mask : Mask) (rs : List Receipt) → map (line_of mask) rs ≡ map (λ (text : List ℕ). text ++ codes "\n") (map (front mask) rs)
lines_front mask [] = refl
lines_front mask (r ∷ rs) = both_same _ _ _ _ (line_front mask r) (lines_front mask rs)

text_front : (mask : Mask) (rs : List Receipt) → trace_text mask rs ≡ joined (map (front mask) rs)
text_front mask [] = refl
text_front mask (r ∷ rs) =
    ap (λ (l : List ℕ). l ++ trace_text mask rs) (line_front mask r) ∙ ap (λ (l : List ℕ). (front mask r ++ codes "\n") ++ l) (text_front mask rs)

joined_text : (mask : Mask) (rs : List Receipt) (ts : List (List ℕ)) → map (line_of mask) rs ≡ map (λ (text : List ℕ). text ++ codes "\n") ts → joined ts ≡ trace_text mask rs
joined_text mask [] [] h = refl
joined_text mask [] (t ∷ ts) h = absurd (none_some _ _ h)
joined_text mask (r ∷ rs) [] h = absurd (more_some _ _ h)
joined_text mask (r ∷ rs) (t ∷ ts) h =
    ap (λ (l : List ℕ). l ++ joined ts) (sym (first_same _ _ _ _ h)) ∙ ap (λ (l : List ℕ). line_of mask r ++ l) (joined_text mask rs ts (rest_same _ _ _ _ h))

pub traces_are_lines : TracesAreLines
traces_are_lines mask old text = (
  λ h. (
    map (front mask) h.receipts,
    h.text_is ∙ text_front mask h.receipts,
    record { receipts = h.receipts; end = h.end; run = record { told = h.told; taken = h.taken; lines = lines_front mask h.receipts } },
  ),
  λ h. record {
    receipts = h.2.receipts;
    end = h.2.end;
    told = h.2.run.told;
    taken = h.2.run.taken;
    text_is = h.1 ∙ joined_text mask h.2.receipts h.0 h.2.run.lines;
  },
)

-- ---- no line feed inside

front_no_feed : (mask : Mask) (r : Receipt) → NoFeed (front mask r)
unfolding front
front_no_feed mask r = front_plain mask r

-- the lines of a run have no line feed inside
pub lines_plain : (mask : Mask) (rs : List Receipt) (ts : List (List ℕ)) → map (line_of mask) rs ≡ map (λ (text : List ℕ). text ++ codes "\n") ts → NoFeeds ts
lines_plain mask [] [] h = tt
lines_plain mask [] (t ∷ ts) h = absurd (none_some _ _ h)
lines_plain mask (r ∷ rs) [] h = absurd (more_some _ _ h)
lines_plain mask (r ∷ rs) (t ∷ ts) h =
    let same : front mask r ≡ t = append_cancel_right (front mask r) t (codes "\n") (sym (line_front mask r) ∙ first_same _ _ _ _ h) in
    (subst NoFeed same (front_no_feed mask r), lines_plain mask rs ts (rest_same _ _ _ _ h))
