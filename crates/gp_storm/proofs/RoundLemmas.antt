-- What the rounds of a storm tell together.
use Rattle.std.proofs.Common.{◌≡◌, ◌<◌, ◌+◌, ℕ, suc, zero, Bool, true, false, cond, get_or, List, [], ◌∷◌, ◌++◌, length, map, refl, sym, ap, subst, ◌∙◌, add-one, arith}
use Rattle.std.specs.Prelude.{All, Option, None, Some, count_by, sum_by, take}
use Rattle.std.specs.List.{AllZip, list_all}
use Rattle.std.proofs.lemmas.List.{length-map}
use Rattle.std.proofs.lemmas.List.Elements.{All-head, All-tail}
use Rattle.std.proofs.lemmas.List.Sums.{AllPass-from_list_all, sum_by-append, sum_by-cons}
use Rattle.gp_alarms.specs.declared.alarm.AlarmKind.TheVariants.{Los, Loam, Loa, Suf, Df, Dg}
use Rattle.gp_machine.specs.declared.config.PortConfig.{PortConfig}
use Rattle.gp_machine.specs.declared.entry.Entry.{Entry}
use Rattle.gp_machine.specs.State.{PortState, rows_of}
use Rattle.gp_journal.specs.declared.piece.Piece.{Piece}
use Rattle.gp_journal.specs.Kept.{Kept}
use Rattle.gp_journal.specs.Piece.{IsRunOfPiece}
use Rattle.gp_journal.specs.Replays.{Replays}
use Rattle.gp_journal.proofs.Runs.{Replays-append}
use Rattle.gp_workers.specs.declared.totals.Totals.{Totals}
use Rattle.gp_workers.specs.Closing.{AreRunsTo, CutEnding}
use Rattle.gp_workers.specs.Totals.{AreTotals, is_burst, is_command, is_frame, raises}
use Rattle.gp_storm.specs.Rounds.{AddUp, AreRunsFrom, GoOn, IsEnding, IsSoFar, begins_port, ends_of, is_opening}

abbrev entries_of : Piece → List Entry
entries_of piece = piece.entries

abbrev rows_at : Piece → ℕ
rows_at piece = rows_of piece.to

-- the units where the ports stand are those at the ends of the pieces
rows_at_ends : (pieces : List Piece) → sum_by rows_of (ends_of pieces) ≡ sum_by rows_at pieces
rows_at_ends [] = refl
rows_at_ends (piece ∷ pieces) = omega (arith, sum_by-cons rows_of piece.to (ends_of pieces), sum_by-cons rows_at piece pieces, rows_at_ends pieces)

-- ---- the first round

opening : (from : Option PortState) → is_opening from ≡ true → from ≡ None
opening None is = refl
opening (Some from) is = let no : false ≡ true = is in cc

begun_runs : (configs : List PortConfig) (pieces : List Piece) → All (λ piece. begins_port piece ≡ true) pieces → AllZip IsRunOfPiece configs pieces → AreRunsFrom configs (map entries_of pieces) (ends_of pieces)
begun_runs [] [] begin runs = tt
begun_runs [] (piece ∷ pieces) begin runs = absurd runs
begun_runs (config ∷ configs) [] begin runs = absurd runs
begun_runs (config ∷ configs) (piece ∷ pieces) begin runs = (
  subst (λ (from : Option PortState). Replays config from piece.entries piece.to) (opening piece.from (All-head (λ piece. begins_port piece ≡ true) piece pieces begin)) runs.0,
  begun_runs configs pieces (All-tail (λ piece. begins_port piece ≡ true) piece pieces begin) runs.1,
)

-- what pieces tell that begin at the openings of their ports
pub begun_so_far : (configs : List PortConfig) (pieces : List Piece) (totals : Totals) → list_all begins_port pieces ≡ true → CutEnding configs pieces totals → IsSoFar configs (ends_of pieces) totals
begun_so_far configs pieces totals begin ending = record {
  histories = map entries_of pieces;
  runs = begun_runs configs pieces (AllPass-from_list_all begins_port pieces begin) ending.runs;
  counted = subst (AreTotals totals (map entries_of pieces)) (sym (rows_at_ends pieces)) ending.counted;
}

-- ---- a further round

-- piece by piece
goes_on_next : (ends : List PortState) (pieces : List Piece) (port : ℕ) (end : PortState) (piece : Piece) → port < length ends → port < length pieces → GoOn (take port ends) (take port pieces)
    → (get_or pieces port piece).from ≡ Some (get_or ends port end) → GoOn (take (suc port) ends) (take (suc port) pieces)
goes_on_next [] pieces port end piece l more go is = absurd (omega (arith, l))
goes_on_next (e ∷ ends) [] port end piece l more go is = absurd (omega (arith, more))
goes_on_next (e ∷ ends) (p ∷ pieces) zero end piece l more go is = (is, tt)
goes_on_next (e ∷ ends) (p ∷ pieces) (suc port) end piece l more go is =
    (go.0, goes_on_next ends pieces port end piece (omega (arith, l)) (omega (arith, more)) go.1 is)

pub goes_on_more : (ends : List PortState) (pieces : List Piece) (port : ℕ) (end : PortState) (piece : Piece) → port < length ends → port < length pieces → GoOn (take port ends) (take port pieces)
    → (get_or pieces port piece).from ≡ Some (get_or ends port end) → GoOn (take (port + 1) ends) (take (port + 1) pieces)
goes_on_more ends pieces port end piece l more go is =
    subst (λ (n : ℕ). GoOn (take n ends) (take n pieces)) (sym (add-one port)) (goes_on_next ends pieces port end piece l more go is)

pub goes_on_at : (ends : List PortState) (pieces : List Piece) (port : ℕ) (end : PortState) (piece : Piece) → GoOn ends pieces → port < length pieces → (get_or pieces port piece).from ≡ Some (get_or ends port end)
goes_on_at [] [] port end piece go l = absurd (omega (arith, l))
goes_on_at [] (p ∷ pieces) port end piece go l = absurd go
goes_on_at (e ∷ ends) [] port end piece go l = absurd go
goes_on_at (e ∷ ends) (p ∷ pieces) zero end piece go l = go.0
goes_on_at (e ∷ ends) (p ∷ pieces) (suc port) end piece go l = goes_on_at ends pieces port end piece go.1 (omega (arith, l))

-- the entries of each port, and more behind them
abbrev joined : List (List Entry) → List (List Entry) → List (List Entry)
joined [] more = []
joined (entries ∷ histories) [] = []
joined (entries ∷ histories) (later ∷ more) = (entries ++ later) ∷ joined histories more

joined_runs : (configs : List PortConfig) (histories : List (List Entry)) (ends : List PortState) (pieces : List Piece) → AreRunsFrom configs histories ends → GoOn ends pieces → AllZip IsRunOfPiece configs pieces
    → AreRunsFrom configs (joined histories (map entries_of pieces)) (ends_of pieces)
joined_runs [] [] [] [] before go runs = tt
joined_runs [] [] [] (piece ∷ pieces) before go runs = absurd go
joined_runs [] [] (end ∷ ends) pieces before go runs = absurd before
joined_runs [] (entries ∷ histories) ends pieces before go runs = absurd before
joined_runs (config ∷ configs) [] ends pieces before go runs = absurd before
joined_runs (config ∷ configs) (entries ∷ histories) [] pieces before go runs = absurd before
joined_runs (config ∷ configs) (entries ∷ histories) (end ∷ ends) [] before go runs = absurd go
joined_runs (config ∷ configs) (entries ∷ histories) (end ∷ ends) (piece ∷ pieces) before go runs = (
  Replays-append config None end piece.to entries piece.entries before.0 (subst (λ (from : Option PortState). Replays config from piece.entries piece.to) go.0 runs.0),
  joined_runs configs histories ends pieces before.1 go.1 runs.1,
)

as_many_ends : (configs : List PortConfig) (histories : List (List Entry)) (ends : List PortState) → AreRunsFrom configs histories ends → length histories ≡ length ends
as_many_ends [] [] [] runs = refl
as_many_ends [] [] (end ∷ ends) runs = absurd runs
as_many_ends [] (entries ∷ histories) ends runs = absurd runs
as_many_ends (config ∷ configs) [] ends runs = absurd runs
as_many_ends (config ∷ configs) (entries ∷ histories) [] runs = absurd runs
as_many_ends (config ∷ configs) (entries ∷ histories) (end ∷ ends) runs = omega (arith, as_many_ends configs histories ends runs.1)

pub as_many_pieces : (ends : List PortState) (pieces : List Piece) → GoOn ends pieces → length ends ≡ length pieces
as_many_pieces [] [] go = refl
as_many_pieces [] (piece ∷ pieces) go = absurd go
as_many_pieces (end ∷ ends) [] go = absurd go
as_many_pieces (end ∷ ends) (piece ∷ pieces) go = omega (arith, as_many_pieces ends pieces go.1)

joined_count : (p : Entry → Bool) (histories more : List (List Entry)) → length histories ≡ length more
    → sum_by (count_by p) (joined histories more) ≡ sum_by (count_by p) histories + sum_by (count_by p) more
joined_count p [] [] same = refl
joined_count p [] (later ∷ more) same = absurd (omega (arith, same))
joined_count p (entries ∷ histories) [] same = absurd (omega (arith, same))
joined_count p (entries ∷ histories) (later ∷ more) same =
    omega (
      arith,
      sum_by-cons (count_by p) (entries ++ later) (joined histories more),
      sum_by-cons (count_by p) entries histories,
      sum_by-cons (count_by p) later more,
      sum_by-append (λ (entry : Entry). cond (p entry) 1 0) entries later,
      joined_count p histories more (omega (arith, same)),
    )

joined_totals : (before later all : Totals) (histories more : List (List Entry)) (active now : ℕ) → length histories ≡ length more → AddUp before later all → AreTotals before histories active
    → AreTotals later more now → AreTotals all (joined histories more) now
joined_totals before later all histories more active now same sum old new = record {
  frames = omega (arith, sum.frames, old.frames, new.frames, joined_count is_frame histories more same);
  bursts = omega (arith, sum.bursts, old.bursts, new.bursts, joined_count is_burst histories more same);
  commands = omega (arith, sum.commands, old.commands, new.commands, joined_count is_command histories more same);
  los = omega (arith, sum.los, old.los, new.los, joined_count (raises Los) histories more same);
  loam = omega (arith, sum.loam, old.loam, new.loam, joined_count (raises Loam) histories more same);
  loa = omega (arith, sum.loa, old.loa, new.loa, joined_count (raises Loa) histories more same);
  suf = omega (arith, sum.suf, old.suf, new.suf, joined_count (raises Suf) histories more same);
  df = omega (arith, sum.df, old.df, new.df, joined_count (raises Df) histories more same);
  dg = omega (arith, sum.dg, old.dg, new.dg, joined_count (raises Dg) histories more same);
  units = sum.units ∙ new.units;
}

-- what pieces tell that begin where the ports stood, with what was told before
pub joined_so_far : (configs : List PortConfig) (ends : List PortState) (pieces : List Piece) (before later all : Totals) → GoOn ends pieces → AddUp before later all → IsSoFar configs ends before
    → CutEnding configs pieces later → IsSoFar configs (ends_of pieces) all
joined_so_far configs ends pieces before later all go sum so_far ending = record {
  histories = joined so_far.histories (map entries_of pieces);
  runs = joined_runs configs so_far.histories ends pieces so_far.runs go ending.runs;
  counted =
      subst (AreTotals all (joined so_far.histories (map entries_of pieces))) (sym (rows_at_ends pieces))
      (joined_totals before later all so_far.histories (map entries_of pieces) (sum_by rows_of ends) (sum_by rows_at pieces)
      (as_many_ends configs so_far.histories ends so_far.runs ∙ as_many_pieces ends pieces go ∙ sym (length-map pieces entries_of)) sum so_far.counted ending.counted);
}

-- ---- the end

abbrev kept_of : List Entry → Kept
kept_of entries = record { first = 0; base = None; entries = entries; room = 0 }

abbrev entries_in : Kept → List Entry
entries_in journal = journal.entries

kept_runs : (configs : List PortConfig) (histories : List (List Entry)) (ends : List PortState) → AreRunsFrom configs histories ends → AreRunsTo configs (map kept_of histories) ends
kept_runs [] [] [] runs = tt
kept_runs [] [] (end ∷ ends) runs = absurd runs
kept_runs [] (entries ∷ histories) ends runs = absurd runs
kept_runs (config ∷ configs) [] ends runs = absurd runs
kept_runs (config ∷ configs) (entries ∷ histories) [] runs = absurd runs
kept_runs (config ∷ configs) (entries ∷ histories) (end ∷ ends) runs = (runs.0, kept_runs configs histories ends runs.1)

kept_entries : (histories : List (List Entry)) → map entries_in (map kept_of histories) ≡ histories
kept_entries [] = refl
kept_entries (entries ∷ histories) = ap (λ (rest : List (List Entry)). entries ∷ rest) (kept_entries histories)

-- what was told so far is the ending of journals that were never cut
pub ending_of : (configs : List PortConfig) (ends : List PortState) (totals : Totals) → IsSoFar configs ends totals → IsEnding configs totals
ending_of configs ends totals so_far = record {
  journals = map kept_of so_far.histories;
  ending = record {
    ends = ends;
    runs = kept_runs configs so_far.histories ends so_far.runs;
    counted = subst (λ (histories : List (List Entry)). AreTotals totals histories (sum_by rows_of ends)) (sym (kept_entries so_far.histories)) so_far.counted;
  };
}
