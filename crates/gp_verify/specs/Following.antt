-- What a verifier does with the lines that it is handed (this profile's own rule).
use Rattle.std.specs.Prelude.{◌≡◌, ℕ, ◌+◌, Bool, List, [], Option, None, Some, is_some}
use Rattle.gp_flow.specs.Lines.{Speech, WholeLines}
use Rattle.gp_explain.specs.declared.form.Form.{Form}
use Rattle.gp_verify.specs.declared.verdict.Verdict.{Verdict}
use Rattle.gp_verify.specs.declared.verdict.Verdict.TheVariants.{TooLong}
use Rattle.gp_verify.specs.Report.{ReportsAt}
use Rattle.gp_verify.specs.Verdicts.{Judges, VerifyState, ending, most_lines}

-- the line was judged
pub record JudgesLine (old : VerifyState) (text : List ℕ) (new : VerifyState) : Type 0 where
  pub verdict : Verdict
  pub judged : Judges verdict old.mask old.play text new.play new.said
  pub ended : new.ended ≡ ending verdict
  pub lines : new.lines ≡ old.lines + 1
  pub mask : new.mask ≡ old.mask
  pub form : new.form ≡ old.form

-- by what ended it before: nothing is judged any more; a line that is too long ends it; any other is judged
abbrev pub TakesFrom : Option Verdict → VerifyState → Option (List ℕ) → VerifyState → Type 0
TakesFrom (Some verdict) old line new = new ≡ old
TakesFrom None old None new = new ≡ record old { lines = old.lines + 1; ended = Some TooLong }
TakesFrom None old (Some text) new = JudgesLine old text new

-- what is told of it in this form, by what ended it before: nothing, but of the line that ends it
abbrev pub TellsFrom : Form → Option Verdict → Option (List ℕ) → VerifyState → List ℕ → Type 0
TellsFrom form (Some verdict) line new told = told ≡ []
TellsFrom form None None new told = told ≡ []
TellsFrom form None (Some text) new told = ReportsAt form new.ended new.lines new text told

-- the line is taken, and that is told of it
abbrev pub Follows : VerifyState → Option (List ℕ) → List ℕ → VerifyState → Type 0
Follows old line told new = TellsFrom old.form old.ended line new told × TakesFrom old.ended old line new

-- why no more lines can be taken: it has not ended, and so many were judged as can be
abbrev pub IsFull : VerifyState → Option (List ℕ) → Type 0
IsFull old line = (old.ended ≡ None) × (old.lines ≡ most_lines)

-- what a verifier does with a line, which it answers whole or not at all
abbrev pub Following : Speech VerifyState
Following = WholeLines IsFull Follows

-- it has ended
abbrev pub has_ended : VerifyState → Bool
has_ended state = is_some state.ended
