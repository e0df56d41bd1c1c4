-- What may be unknown, since a log begins in the middle (this profile's own rule).
use Rattle.std.specs.Prelude.{ℕ, ◌==◌, Bool, true, false, not}
use Rattle.hear_rules.specs.declared.rule.Verdict.{Verdict}
use Rattle.hear_rules.specs.declared.rule.Verdict.TheVariants.{Kept, Broken, NotJudged}

-- a number, a unit, a delay: it isn't known, or it is known that there is none, or which it is
pub data Fact (X : Type 0) : Type 0 where
  Unknown : Fact X
  Nothing : Fact X
  Is : (value : X) → Fact X

-- whether something is so
pub data Sure : Type 0 where
  Yes : Sure
  No : Sure
  Unsure : Sure

abbrev pub sure : Bool → Sure
sure true = Yes
sure false = No

-- ---- verdicts

abbrev pub broken_if : Bool → Verdict
broken_if true = Broken
broken_if false = Kept

-- broken where it is so
abbrev pub broken_where : Sure → Verdict
broken_where Yes = Broken
broken_where No = Kept
broken_where Unsure = NotJudged

-- it is judged only where this is sure
abbrev pub given : Sure → Verdict → Verdict
given Yes verdict = verdict
given No verdict = NotJudged
given Unsure verdict = NotJudged

-- it is judged but where this is sure not to be so
abbrev pub but_not : Sure → Verdict → Verdict
but_not Yes verdict = verdict
but_not No verdict = NotJudged
but_not Unsure verdict = verdict

-- it is judged only where this is sure not to be so
abbrev pub unless : Sure → Verdict → Verdict
unless Yes verdict = NotJudged
unless No verdict = verdict
unless Unsure verdict = NotJudged

-- broken where there is known to be none
abbrev pub broken_without : {X : Type 0} → Fact X → Verdict
broken_without Unknown = NotJudged
broken_without Nothing = Broken
broken_without (Is value) = Kept

-- broken where it is known not to be this number
abbrev pub broken_unless : Fact ℕ → ℕ → Verdict
broken_unless Unknown number = NotJudged
broken_unless Nothing number = Broken
broken_unless (Is value) number = broken_if (not (value == number))

-- it is known to be another number than this one, or none
abbrev pub is_other : Fact ℕ → ℕ → Sure
is_other Unknown number = Unsure
is_other Nothing number = Yes
is_other (Is value) number = sure (not (value == number))
