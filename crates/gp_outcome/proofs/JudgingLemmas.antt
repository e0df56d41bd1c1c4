-- What becomes of octets, by what they say.
use Rattle.std.specs.Prelude.{if◌then◌else◌}
use Rattle.std.proofs.Common.{◌≡◌, ℕ, List, None, Some, Result, Ok, Err, IfOk, sym, ◌∙◌}
use Rattle.gp_script.specs.Mistake.{MistakeView}
use Rattle.gp_script.specs.Script.{ScriptView, script_or_mistake}
use Rattle.gp_check.specs.Check.{IsOfBytes, Places, found_text, is_script, said_by}
use Rattle.gp_check.specs.declared.found.Found.{Found}
use Rattle.gp_check.specs.declared.found.Found.TheVariants as kinds
use Rattle.gp_check.specs.declared.checking.Purpose.TheVariants as purposes
use Rattle.gp_outcome.specs.declared.judging.Expected.{Expected}
use Rattle.gp_outcome.specs.declared.outcome.Outcome.{Outcome}
use Rattle.gp_outcome.specs.Judging.{IsJudged, IsJudgedRight, IsJudgedWrong}
use Rattle.gp_outcome.specs.Judging.IsJudged.{Right, Wrong}

pub right_judged : {R E : Type 0} (octets : List ℕ) (script : ScriptView) (expected : Expected R) (r : Result Outcome E) → said_by purposes.Replay octets ≡ Ok script → IfOk r (IsJudgedRight script expected)
    → IfOk r (IsJudged octets expected)
right_judged octets script expected (Ok outcome) says h = Right script says h
right_judged octets script expected (Err e) says h = tt

pub wrong_judged : {R E : Type 0} (octets told : List ℕ) (expected : Expected R) (r : Result Outcome E) → Places purposes.Replay octets (Some told) → IfOk r (IsJudgedWrong told expected)
    → IfOk r (IsJudged octets expected)
wrong_judged octets told expected (Ok outcome) says h = Wrong told says h
wrong_judged octets told expected (Err e) says h = tt

-- what is told of octets with a mistake is not nothing
by_found : (octets : List ℕ) (mistake : MistakeView) (found : Found) → script_or_mistake octets ≡ Err mistake → IsOfBytes purposes.Replay octets found
    → None ≡ (if is_script found then None else Some (found_text found)) → ⊥
by_found octets mistake (kinds.Script ports units events) says is tells = let both : Err mistake ≡ Ok is.script = sym says ∙ is.says in absurd (cc)
by_found octets mistake kinds.Unread says is tells = absurd is
by_found octets mistake kinds.TooLong says is tells = absurd is
by_found octets mistake (kinds.Wrong wrong line) says is tells = absurd (cc)

pub mistake_told : (octets : List ℕ) (mistake : MistakeView) → script_or_mistake octets ≡ Err mistake → Places purposes.Replay octets None → ⊥
mistake_told octets mistake says h = by_found octets mistake h.found says h.is h.tells
