-- Where the lines of a text lead.
use Rattle.std.proofs.Common.{◌≡◌, ◌⊎◌, inl, inr, ℕ, ◌+◌, List, [], ◌∷◌, ◌++◌, Option, None, Some, length, map, refl, sym, ap, subst, ◌∙◌, append_assoc}
use Rattle.std.proofs.lemmas.List.{append-nil, map-append, length-append}
use Rattle.gp_explain.specs.declared.form.Form.{Form}
use Rattle.gp_flow.specs.Lines.{DoesAll}
use Rattle.gp_ploam.specs.declared.check.Mask.{Mask}
use Rattle.gp_replay.specs.Chassis.{PlayState}
use Rattle.gp_verify.specs.declared.verdict.Verdict.{Verdict}
use Rattle.gp_verify.specs.declared.verdict.Verdict.TheVariants as verdict
use Rattle.gp_verify.specs.Following.{Following, JudgesLine, TakesFrom, TellsFrom}
use Rattle.gp_verify.specs.Report.{ReportsAt}
use Rattle.gp_verify.specs.Verdicts.{Judges, VerifyState, ending}
use Rattle.gp_verify.proofs.TraceLemmas.{Stage, stage_on, followed}

-- lines that are handed on whole
abbrev pub wholes : List (List ℕ) → List (Option (List ℕ))
wholes texts = map (λ (text : List ℕ). let line : Option (List ℕ) = Some text in line) texts

-- all of them follow
pub record Runs (mask : Mask) (start : PlayState) (all : List (Option (List ℕ))) (new : VerifyState) (told : List ℕ) : Type 0 where
  pub texts : List (List ℕ)
  pub all_is : all ≡ wholes texts
  pub stage : Stage mask start texts new.play
  pub lines : new.lines ≡ length texts
  pub silent : told ≡ []

-- why a line ends it
abbrev pub Fails : Verdict → Option (List ℕ) → Mask → PlayState → PlayState → List ℕ → Type 0
Fails v None mask mid new said = v ≡ verdict.TooLong
Fails v (Some text) mask mid new said = Judges v mask mid text new said × (v ≡ verdict.Follows → ⊥)

-- one of them ends it
pub record Halts (v : Verdict) (form : Form) (mask : Mask) (start : PlayState) (all : List (Option (List ℕ))) (new : VerifyState) (told : List ℕ) : Type 0 where
  pub before : List (List ℕ)
  pub line : Option (List ℕ)
  pub rest : List (Option (List ℕ))
  pub all_is : all ≡ wholes before ++ line ∷ rest
  pub mid : PlayState
  pub stage : Stage mask start before mid
  pub lines : new.lines ≡ length before + 1
  pub fails : Fails v line mask mid new.play new.said
  pub ended : new.ended ≡ Some v
  pub told_is : TellsFrom form None line new told

abbrev pub Course : Option Verdict → Form → Mask → PlayState → List (Option (List ℕ)) → VerifyState → List ℕ → Type 0
Course None form mask start all new told = Runs mask start all new told
Course (Some v) form mask start all new told = Halts v form mask start all new told

-- once it has ended it stays as it is
stuck : (ls : List (Option (List ℕ))) (state new : VerifyState) (said : List ℕ) (v : Verdict) → state.ended ≡ Some v → DoesAll Following state ls said new → new ≡ state
stuck [] state new said v is h = h.1
stuck (line ∷ ls) state new said v is h =
    let same : h.2 ≡ state = subst (λ (e : Option Verdict). TakesFrom e state line h.2) is h.3.1 in
    stuck ls h.2 new h.1 v (ap (λ (s : VerifyState). s.ended) same ∙ is) h.4 ∙ same

silent : (ls : List (Option (List ℕ))) (state new : VerifyState) (said : List ℕ) (v : Verdict) → state.ended ≡ Some v → DoesAll Following state ls said new → said ≡ []
silent [] state new said v is h = h.0
silent (line ∷ ls) state new said v is h =
    let same : h.2 ≡ state = subst (λ (e : Option Verdict). TakesFrom e state line h.2) is h.3.1 in
    let first : h.0 ≡ [] = subst (λ (e : Option Verdict). TellsFrom state.form e line h.2 h.0) is h.3.0 in
    h.5 ∙ ap (λ (l : List ℕ). l ++ h.1) first ∙ silent ls h.2 new h.1 v (ap (λ (s : VerifyState). s.ended) same ∙ is) h.4

halted : (form : Form) (mask : Mask) (start : PlayState) (done : List (List ℕ)) (line : Option (List ℕ)) (ls : List (Option (List ℕ))) (state next new : VerifyState) (first rest said : List ℕ) (v : Verdict)
    → Stage mask start done state.play → state.lines ≡ length done → next.lines ≡ state.lines + 1 → next.ended ≡ Some v
    → Fails v line mask state.play next.play next.said → TellsFrom form None line next first → DoesAll Following next ls rest new → said ≡ first ++ rest
    → Course new.ended form mask start (wholes done ++ line ∷ ls) new said
halted form mask start done line ls state next new first rest said v stage counted more is fails told h parts =
    let all = wholes done ++ line ∷ ls in
    let only : said ≡ first = parts ∙ ap (λ (l : List ℕ). first ++ l) (silent ls next new rest v is h) ∙ append-nil first in
    let there : Course (Some v) form mask start all next said =
    record { before = done; line = line; rest = ls; all_is = refl; mid = state.play; stage = stage; lines = more ∙ ap (λ (n : ℕ). n + 1) counted; fails = fails; ended = is; told_is = subst (λ (t : List ℕ). TellsFrom form None line next t) (sym only) told } in
    let ended : Course next.ended form mask start all next said = subst (λ (e : Option Verdict). Course e form mask start all next said) (sym is) there in
    subst (λ (s : VerifyState). Course s.ended form mask start all s said) (sym (stuck ls next new rest v is h)) ended

-- a verdict follows or ends it
either : (v : Verdict) → (v ≡ verdict.Follows) ⊎ ((v ≡ verdict.Follows → ⊥) × (ending v ≡ Some v))
either verdict.Follows = inl refl
either verdict.NotALine = inr (λ e. cc, refl)
either verdict.NoPort = inr (λ e. cc, refl)
either verdict.WrongNumber = inr (λ e. cc, refl)
either verdict.NotAStep = inr (λ e. cc, refl)
either verdict.TooLong = inr (λ e. cc, refl)

regroup : (done : List (List ℕ)) (text : List ℕ) (ls : List (Option (List ℕ))) → wholes (done ++ text ∷ []) ++ ls ≡ wholes done ++ Some text ∷ ls
regroup done text ls =
    ap (λ (l : List (Option (List ℕ))). l ++ ls) (map-append (λ (t : List ℕ). let line : Option (List ℕ) = Some t in line) done (text ∷ []))
    ∙ append_assoc (wholes done) (Some text ∷ []) ls

-- of a line that follows nothing is told
follows_silent : (form : Form) (next : VerifyState) (text told : List ℕ) (v : Verdict) → v ≡ verdict.Follows → next.ended ≡ ending v → TellsFrom form None (Some text) next told → told ≡ []
follows_silent form next text told v follows is h =
    subst (λ (e : Option Verdict). ReportsAt form e next.lines next text told) (is ∙ ap ending follows) h

-- from where these lines were done, the others lead here
pub course : (form : Form) (mask : Mask) (start : PlayState) (done : List (List ℕ)) (ls : List (Option (List ℕ))) (state new : VerifyState) (said : List ℕ)
    → state.form ≡ form → state.mask ≡ mask → state.ended ≡ None → Stage mask start done state.play → state.lines ≡ length done → DoesAll Following state ls said new
    → Course new.ended form mask start (wholes done ++ ls) new said
course form mask start done [] state new said formed masked none stage counted h =
    let all = wholes done ++ [] in
    let there : Course None form mask start all state said = record { texts = done; all_is = append-nil (wholes done); stage = stage; lines = counted; silent = h.0 } in
    let here : Course state.ended form mask start all state said = subst (λ (e : Option Verdict). Course e form mask start all state said) (sym none) there in
    subst (λ (s : VerifyState). Course s.ended form mask start all s said) (sym h.1) here
course form mask start done (None ∷ ls) state new said formed masked none stage counted h =
    let long : TakesFrom None state None h.2 = subst (λ (e : Option Verdict). TakesFrom e state None h.2) none h.3.1 in
    let told : TellsFrom form None None h.2 h.0 = subst (λ (f : Form). TellsFrom f None None h.2 h.0) formed (subst (λ (e : Option Verdict). TellsFrom state.form e None h.2 h.0) none h.3.0) in
    halted form mask start done None ls state h.2 new h.0 h.1 said verdict.TooLong stage counted (ap (λ (s : VerifyState). s.lines) long) (ap (λ (s : VerifyState). s.ended) long) refl told h.4 h.5
course form mask start done (Some text ∷ ls) state new said formed masked none stage counted h =
    let j : JudgesLine state text h.2 = subst (λ (e : Option Verdict). TakesFrom e state (Some text) h.2) none h.3.1 in
    let told : TellsFrom form None (Some text) h.2 h.0 =
    subst (λ (f : Form). TellsFrom f None (Some text) h.2 h.0) formed (subst (λ (e : Option Verdict). TellsFrom state.form e (Some text) h.2 h.0) none h.3.0) in
    let judged : Judges j.verdict mask state.play text h.2.play h.2.said = subst (λ (m : Mask). Judges j.verdict m state.play text h.2.play h.2.said) masked j.judged in
    elim (either j.verdict) [
      | inl follows ↦
          let rest : said ≡ h.1 = h.5 ∙ ap (λ (l : List ℕ). l ++ h.1) (follows_silent form h.2 text h.0 j.verdict follows j.ended told) in
          subst (λ (l : List (Option (List ℕ))). Course new.ended form mask start l new said) (regroup done text ls)
          (subst (λ (t : List ℕ). Course new.ended form mask start (wholes (done ++ text ∷ []) ++ ls) new t) (sym rest)
          (course form mask start (done ++ text ∷ []) ls h.2 new h.1 (j.form ∙ formed) (j.mask ∙ masked) (j.ended ∙ ap ending follows)
          (stage_on mask start state.play h.2.play done text (done ++ text ∷ []) refl stage (followed j.verdict mask state.play h.2.play text h.2.said follows judged))
          (j.lines ∙ ap (λ (n : ℕ). n + 1) counted ∙ sym (length-append done (text ∷ []))) h.4))
      | inr other ↦ halted form mask start done (Some text) ls state h.2 new h.0 h.1 said j.verdict stage counted j.lines (j.ended ∙ other.1) (judged, other.0) told h.4 h.5
    ]
