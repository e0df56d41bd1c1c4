-- What a storm writes of the chassis that it closed (this profile's own rule).
use Rattle.std.specs.Prelude.{◌≡◌, ℕ, List, ◌++◌, map, length, sum_by, codes, decimal}
use Rattle.gp_journal.specs.Kept.{Kept}
use Rattle.gp_workers.specs.declared.totals.Totals.{Totals}
use Rattle.gp_workers.specs.Closing.{Ending}
use Rattle.gp_script.specs.Script.{ScriptView}
use Rattle.gp_storm.specs.declared.form.TotalsForm.{TotalsForm}
use Rattle.gp_storm.specs.declared.form.TotalsForm.TheVariants as forms
use Rattle.gp_storm.specs.Plan.{commands_asked, frames_asked}

-- how many entries the journals keep, all together
abbrev pub entries_in : List Kept → ℕ
entries_in journals = sum_by length (map (λ (journal : Kept). journal.entries) journals)

-- the five lines: what the journals tell of, how many entries they keep, and how many licences came back
abbrev pub totals_text : Totals → ℕ → ℕ → List ℕ
totals_text totals entries licences =
    codes "frames "
    ++ (decimal totals.frames
    ++ (codes "\nbursts "
    ++ (decimal totals.bursts ++ (codes "\ncommands " ++ (decimal totals.commands ++ (codes "\nentries "
    ++ (decimal entries ++ (codes "\nlicences " ++ (decimal licences ++ codes "\n")))))))))

-- the same as a JSON object on a line of its own
abbrev pub totals_object : Totals → ℕ → ℕ → List ℕ
totals_object totals entries licences =
    codes "{\"frames\":"
    ++ (decimal totals.frames
    ++ (codes ",\"bursts\":"
    ++ (decimal totals.bursts ++ (codes ",\"commands\":" ++ (decimal totals.commands ++ (codes ",\"entries\":"
    ++ (decimal entries ++ (codes ",\"licences\":" ++ (decimal licences ++ codes "}\n")))))))))

-- as lines or as an object
abbrev pub totals_in : TotalsForm → Totals → ℕ → ℕ → List ℕ
totals_in forms.Lines totals entries licences = totals_text totals entries licences
totals_in forms.Object totals entries licences = totals_object totals entries licences

-- a chassis with the ports and the licences of the script was closed: its journals are runs of the ports'
-- configurations and have all frames and all commands of the script, and the text is in this form that of what they add
-- up to, with all the licences
pub record AreTotalsIn (form : TotalsForm) (script : ScriptView) (text : List ℕ) : Type 0 where
  pub journals : List Kept
  pub totals : Totals
  pub ending : Ending script.ports journals totals
  pub frames : totals.frames ≡ frames_asked script
  pub commands : totals.commands ≡ commands_asked script
  pub says : text ≡ totals_in form totals (entries_in journals) script.licences
