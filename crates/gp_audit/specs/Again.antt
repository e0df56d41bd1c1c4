-- A line that is told again in words (this profile's own rule). It comes without its line feed.
use Rattle.std.specs.Prelude.{◌≡◌, ◌⊎◌, ℕ, Bool, true, false, List, [], ◌++◌, drop, codes, Result, Ok, Err}
use Rattle.gp_ploam.specs.declared.check.Mask.{Mask}
use Rattle.gp_decode.specs.Line.{HasWords, HasWrongCheck}
use Rattle.gp_decode.specs.Lines.{check_note}
use Rattle.gp_explain.specs.Words.{TellsLine}
use Rattle.gp_log.specs.declared.fault.LogFault.{LogFault}
use Rattle.gp_log.specs.declared.line.LogLine.{LogLine}
use Rattle.gp_log.specs.declared.line.LogLine.TheVariants as line
use Rattle.gp_log.specs.declared.said.Said.{Said}
use Rattle.gp_log.specs.declared.said.Said.TheVariants as said
use Rattle.gp_audit.specs.declared.options.AuditForm.{AuditForm}
use Rattle.gp_audit.specs.declared.options.AuditForm.TheVariants as forms

-- what would be right of a code whose check octet is wrong under the mask
abbrev pub wanted_note : Mask → List ℕ → List ℕ
wanted_note mask code = drop 2 (check_note mask code)

-- a code in the words that `decode` has for it, or, where its check octet is wrong, what would be right
abbrev pub TellsCode : Bool → Mask → List ℕ → List ℕ → Type 0
TellsCode upstream mask code told =
    ((words : List ℕ) × HasWords upstream mask code words × (told ≡ codes " (" ++ words ++ codes ")"))
    ⊎ (HasWrongCheck mask code × (told ≡ codes " (" ++ wanted_note mask code ++ codes ")"))

-- what stands behind a line of a log: a grant is in words already
abbrev pub TellsSaid : Mask → Said → List ℕ → Type 0
TellsSaid mask (said.Down code) told = TellsCode false mask code told
TellsSaid mask (said.Up code delay) told = TellsCode true mask code told
TellsSaid mask (said.Grant grant) told = told ≡ []

-- a line, by what was read of it: one of a log with its code in words behind it, one of a trace with its codes in
-- words, and any other as it is
abbrev pub TellsRead : Mask → List ℕ → Result LogLine LogFault → List ℕ → Type 0
TellsRead mask text (Ok line.Remark) told = told ≡ text ++ codes "\n"
TellsRead mask text (Ok (line.Log port time said)) told =
    (words : List ℕ) × TellsSaid mask said words × (told ≡ text ++ words ++ codes "\n")
TellsRead mask text (Ok (line.Trace port is_frame first second)) told = TellsLine mask text told
TellsRead mask text (Err fault) told = told ≡ text ++ codes "\n"

-- it is told again in one form only
abbrev pub TellsAgain : AuditForm → Mask → List ℕ → Result LogLine LogFault → List ℕ → Type 0
TellsAgain forms.Text mask text read told = told ≡ []
TellsAgain forms.Words mask text read told = TellsRead mask text read told
TellsAgain forms.Json mask text read told = told ≡ []
