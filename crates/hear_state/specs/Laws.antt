-- Where the same is known, it stays so, and the same is judged. So what is kept may be noted message by message.
use Rattle.std.specs.Prelude.{◌≡◌, List}
use Rattle.gp_observer.specs.Heard.{Heard}
use Rattle.hear_rules.specs.declared.rule.Rule.{Rule}
use Rattle.hear_rules.specs.Known.{Known, known_after, known_after_all}
use Rattle.hear_rules.specs.Rules.{Settings, judge_known}
use Rattle.hear_state.specs.Kept.{SameKnown}

abbrev pub SameStaysSame : Type 0
SameStaysSame =
    (one other : Known) (heard : Heard) → SameKnown one other
    → SameKnown (known_after one heard) (known_after other heard)

abbrev pub SameStaysSameInRuns : Type 0
SameStaysSameInRuns =
    (one other : Known) (heard : List Heard) → SameKnown one other
    → SameKnown (known_after_all one heard) (known_after_all other heard)

abbrev pub SameIsJudgedSame : Type 0
SameIsJudgedSame =
    (settings : Settings) (one other : Known) (heard : Heard) (rule : Rule) → SameKnown one other
    → judge_known settings one heard rule ≡ judge_known settings other heard rule
