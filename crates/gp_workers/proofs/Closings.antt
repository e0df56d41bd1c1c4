-- What desks leave when they are closed or cut.
use Rattle.std.proofs.Common.{◌≡◌, ◌+◌, ℕ, List, [], ◌∷◌, ◌++◌, map, refl, sym, ap, subst, ◌∙◌, length, arith, append_assoc}
use Rattle.std.specs.Prelude.{sum_by, Option}
use Rattle.std.specs.List.{AllZip}
use Rattle.std.proofs.lemmas.List.Sums.{sum_by-cons}
use Rattle.gp_machine.specs.declared.config.PortConfig.{PortConfig}
use Rattle.gp_machine.specs.declared.entry.Entry.{Entry}
use Rattle.gp_machine.specs.State.{PortState, rows_of}
use Rattle.gp_journal.specs.Kept.{Kept, History, history_of}
use Rattle.gp_journal.specs.Replays.{Replays}
use Rattle.gp_journal.specs.declared.piece.Piece.{Piece}
use Rattle.gp_journal.specs.Piece.{IsRunOfPiece, history_of_piece}
use Rattle.gp_chassis.specs.Desk.{DeskState, history_of_desk, piece_of}
use Rattle.gp_workers.specs.declared.totals.Totals.{Totals}
use Rattle.gp_workers.specs.Totals.{AreTotals}
use Rattle.gp_workers.specs.Closing.{AreRunsTo, Ending, CutEnding, IsJournalOf, AreJournalsOf, IsPieceOf, ArePiecesOf, desk_rows}

abbrev config_of : DeskState → PortConfig
config_of desk = desk.state.config

abbrev state_of : DeskState → PortState
state_of desk = desk.state

-- ---- one desk more

pub journals_more : (all now rest : List DeskState) (js more : List Kept) (d : DeskState) (j : Kept) → now ≡ d ∷ rest → more ≡ js ++ j ∷ [] → IsJournalOf d j
    → ((left : List Kept) → AreJournalsOf now left → AreJournalsOf all (js ++ left)) → (left : List Kept) → AreJournalsOf rest left → AreJournalsOf all (more ++ left)
journals_more all now rest js more d j first push of so left h =
    let whole : AreJournalsOf all (js ++ j ∷ left) = so (j ∷ left) (subst (λ (w : List DeskState). AreJournalsOf w (j ∷ left)) (sym first) (of, h)) in
    subst (λ (w : List Kept). AreJournalsOf all w) (sym (ap (λ (w : List Kept). w ++ left) push ∙ append_assoc js (j ∷ []) left)) whole

pub pieces_more : (all now rest : List DeskState) (ps more : List Piece) (d : DeskState) (p : Piece) → now ≡ d ∷ rest → more ≡ ps ++ p ∷ [] → IsPieceOf d p
    → ((left : List Piece) → ArePiecesOf now left → ArePiecesOf all (ps ++ left)) → (left : List Piece) → ArePiecesOf rest left → ArePiecesOf all (more ++ left)
pieces_more all now rest ps more d p first push of so left h =
    let whole : ArePiecesOf all (ps ++ p ∷ left) = so (p ∷ left) (subst (λ (w : List DeskState). ArePiecesOf w (p ∷ left)) (sym first) (of, h)) in
    subst (λ (w : List Piece). ArePiecesOf all w) (sym (ap (λ (w : List Piece). w ++ left) push ∙ append_assoc ps (p ∷ []) left)) whole

pub images_rest : (ds rest : List DeskState) (qs more : List PortState) (d : DeskState) (q : PortState) → qs ≡ map state_of ds → ds ≡ d ∷ rest → qs ≡ q ∷ more → (q ≡ d.state) × (more ≡ map state_of rest)
images_rest ds rest qs more d q is first item =
    let e : q ∷ more ≡ d.state ∷ map state_of rest = sym item ∙ is ∙ ap (map state_of) first in
    (cc, cc)

pub empty_is : {X : Type 0} (xs : List X) → length xs ≡ 0 → xs ≡ []
empty_is [] l = refl
empty_is (x ∷ xs) l = absurd (omega (arith, l))

-- ---- the journals of all desks

run_of : (d : DeskState) (j : Kept) → IsJournalOf d j → Replays d.state.config j.base j.entries d.state
run_of d j h =
    subst (λ (b : Option PortState). Replays d.state.config b j.entries d.state) (sym h.base)
    (subst (λ (es : List Entry). Replays d.state.config d.base es d.state) (sym h.entries) h.stands.replays)

journals_run : (ds : List DeskState) (js : List Kept) → AreJournalsOf ds js → AreRunsTo (map config_of ds) js (map state_of ds)
journals_run [] [] h = tt
journals_run [] (j ∷ js) h = absurd h
journals_run (d ∷ ds) [] h = absurd h
journals_run (d ∷ ds) (j ∷ js) h = (run_of d j h.0, journals_run ds js h.1)

journal_entries : (ds : List DeskState) (js : List Kept) → AreJournalsOf ds js → map (λ (d : DeskState). d.entries) ds ≡ map (λ (j : Kept). j.entries) js
journal_entries [] [] h = refl
journal_entries [] (j ∷ js) h = absurd h
journal_entries (d ∷ ds) [] h = absurd h
journal_entries (d ∷ ds) (j ∷ js) h = ap (λ (w : List Entry). w ∷ map (λ (d : DeskState). d.entries) ds) (sym h.0.entries) ∙ ap (λ (w : List (List Entry)). j.entries ∷ w) (journal_entries ds js h.1)

rows_map : (ds : List DeskState) → sum_by rows_of (map state_of ds) ≡ sum_by desk_rows ds
rows_map [] = refl
rows_map (d ∷ ds) =
    sum_by-cons rows_of d.state (map state_of ds) ∙ ap (λ (n : ℕ). rows_of d.state + n) (rows_map ds) ∙ sym (sum_by-cons desk_rows d ds)

pub journals_ending : (cs : List PortConfig) (ds : List DeskState) (js : List Kept) (t : Totals) → map config_of ds ≡ cs → AreJournalsOf ds js
    → AreTotals t (map (λ (d : DeskState). d.entries) ds) (sum_by desk_rows ds) → Ending cs js t
journals_ending cs ds js t same of totals = record {
  ends = map state_of ds;
  runs = subst (λ (w : List PortConfig). AreRunsTo w js (map state_of ds)) same (journals_run ds js of);
  counted = subst (λ (w : List (List Entry)). AreTotals t w (sum_by rows_of (map state_of ds))) (journal_entries ds js of)
      (subst (λ (n : ℕ). AreTotals t (map (λ (d : DeskState). d.entries) ds) n) (sym (rows_map ds)) totals);
}

pub journals_histories : (ds : List DeskState) (js : List Kept) → AreJournalsOf ds js → map history_of_desk ds ≡ map history_of js
journals_histories [] [] h = refl
journals_histories [] (j ∷ js) h = absurd h
journals_histories (d ∷ ds) [] h = absurd h
journals_histories (d ∷ ds) (j ∷ js) h =
    let first = h.0.first in
    let entries = h.0.entries in
    let same : history_of_desk d ≡ history_of j = cc in
    ap (λ (w : History). w ∷ map history_of_desk ds) same ∙ ap (λ (w : List History). history_of j ∷ w) (journals_histories ds js h.1)

-- ---- the pieces of all desks

pieces_are : (ds : List DeskState) (ps : List Piece) → ArePiecesOf ds ps → ps ≡ map piece_of ds
pieces_are [] [] h = refl
pieces_are [] (p ∷ ps) h = absurd h
pieces_are (d ∷ ds) [] h = absurd h
pieces_are (d ∷ ds) (p ∷ ps) h = ap (λ (w : Piece). w ∷ ps) h.0.is ∙ ap (λ (w : List Piece). piece_of d ∷ w) (pieces_are ds ps h.1)

pieces_run : (ds : List DeskState) (ps : List Piece) → ArePiecesOf ds ps → AllZip IsRunOfPiece (map config_of ds) (map piece_of ds)
pieces_run [] [] h = tt
pieces_run [] (p ∷ ps) h = absurd h
pieces_run (d ∷ ds) [] h = absurd h
pieces_run (d ∷ ds) (p ∷ ps) h = (h.0.stands.replays, pieces_run ds ps h.1)

piece_entries : (ds : List DeskState) → map (λ (p : Piece). p.entries) (map piece_of ds) ≡ map (λ (d : DeskState). d.entries) ds
piece_entries [] = refl
piece_entries (d ∷ ds) = ap (λ (w : List (List Entry)). d.entries ∷ w) (piece_entries ds)

piece_rows : (ds : List DeskState) → sum_by (λ (p : Piece). rows_of p.to) (map piece_of ds) ≡ sum_by desk_rows ds
piece_rows [] = refl
piece_rows (d ∷ ds) =
    sum_by-cons (λ (p : Piece). rows_of p.to) (piece_of d) (map piece_of ds) ∙ ap (λ (n : ℕ). rows_of d.state + n) (piece_rows ds) ∙ sym (sum_by-cons desk_rows d ds)

piece_histories : (ds : List DeskState) → map history_of_piece (map piece_of ds) ≡ map history_of_desk ds
piece_histories [] = refl
piece_histories (d ∷ ds) = ap (λ (w : List History). history_of_desk d ∷ w) (piece_histories ds)

pub pieces_histories : (ds : List DeskState) (ps : List Piece) → ArePiecesOf ds ps → map history_of_desk ds ≡ map history_of_piece ps
pieces_histories ds ps of = sym (ap (map history_of_piece) (pieces_are ds ps of) ∙ piece_histories ds)

pub pieces_ending : (cs : List PortConfig) (ds : List DeskState) (ps : List Piece) (t : Totals) → map config_of ds ≡ cs → ArePiecesOf ds ps
    → AreTotals t (map (λ (d : DeskState). d.entries) ds) (sum_by desk_rows ds) → CutEnding cs ps t
pieces_ending cs ds ps t same of totals =
    let made : CutEnding cs (map piece_of ds) t = record {
      runs = subst (λ (w : List PortConfig). AllZip IsRunOfPiece w (map piece_of ds)) same (pieces_run ds ps of);
      counted = subst (λ (w : List (List Entry)). AreTotals t w (sum_by (λ (p : Piece). rows_of p.to) (map piece_of ds))) (sym (piece_entries ds))
          (subst (λ (n : ℕ). AreTotals t (map (λ (d : DeskState). d.entries) ds) n) (sym (piece_rows ds)) totals);
    } in
    subst (λ (w : List Piece). CutEnding cs w t) (sym (pieces_are ds ps of)) made
