-- Lines that tell of turns one after the other.
use Rattle.std.proofs.Common.{◌≡◌, ℕ, ◌+◌, List, [], ◌∷◌, ◌++◌, map, refl, sym, subst, ◌∙◌, slice_set}
use Rattle.std.proofs.lemmas.List.{append-nil}
use Rattle.std.proofs.lemmas.List.Elements.{All-nil, All-cons, All-head, All-tail}
use Rattle.gp_ploam.specs.declared.check.Mask.{Mask}
use Rattle.gp_machine.specs.declared.entry.Receipt.{Receipt}
use Rattle.gp_chassis.specs.World.{ChassisWorld, ChassisRun, Move}
use Rattle.gp_lines.specs.Told.{IsTold}
use Rattle.gp_replay.specs.Chassis.{PlayState}
use Rattle.gp_replay.specs.Play.{TakesTurns, all_moves, moves_told, turn_of}
use Rattle.gp_replay.proofs.RunLemmas.{no_turns, turns_append}
use Rattle.gp_verify.specs.Tells.{AreLinesOf, AreTrace, TellsTurn, TellsAlone, TellsNothing}
use Rattle.gp_verify.specs.declared.verdict.Verdict.{Verdict}
use Rattle.gp_verify.specs.declared.verdict.Verdict.TheVariants as verdict
use Rattle.gp_verify.specs.Verdicts.{Judges}
use Rattle.gp_verify.proofs.JudgingLemmas.{same_play}

-- ---- one line after the other

-- the texts tell of these turns, each from where the one before it ended
abbrev pub TellAll : Mask → PlayState → List (List ℕ) → List Receipt → PlayState → Type 0
TellAll mask old [] [] new = new ≡ old
TellAll mask old [] (r ∷ rs) new = ⊥
TellAll mask old (t ∷ ts) [] new = ⊥
TellAll mask old (t ∷ ts) (r ∷ rs) new = (mid : PlayState) × TellsTurn mask old t r mid × TellAll mask mid ts rs new

tell_append : (mask : Mask) (xs ys : List (List ℕ)) (rs ss : List Receipt) (a b c : PlayState) → TellAll mask a xs rs b → TellAll mask b ys ss c → TellAll mask a (xs ++ ys) (rs ++ ss) c
tell_append mask [] ys [] ss a b c h k = subst (λ (x : PlayState). TellAll mask x ys ss c) h k
tell_append mask [] ys (r ∷ rs) ss a b c h k = absurd h
tell_append mask (x ∷ xs) ys [] ss a b c h k = absurd h
tell_append mask (x ∷ xs) ys (r ∷ rs) ss a b c h k = (h.0, h.1, tell_append mask xs ys rs ss h.0 b c h.2 k)

-- where the first texts end, and the others go on
record Splits (mask : Mask) (old : PlayState) (xs ys : List (List ℕ)) (new : PlayState) : Type 0 where
  pub mid : PlayState
  pub first : List Receipt
  pub rest : List Receipt
  pub before : TellAll mask old xs first mid
  pub behind : TellAll mask mid ys rest new

tell_split : (mask : Mask) (xs ys : List (List ℕ)) (rs : List Receipt) (a c : PlayState) → TellAll mask a (xs ++ ys) rs c → Splits mask a xs ys c
tell_split mask [] ys rs a c h = record { mid = a; first = []; rest = rs; before = refl; behind = h }
tell_split mask (x ∷ xs) ys [] a c h = absurd h
tell_split mask (x ∷ xs) ys (r ∷ rs) a c h =
    let s = tell_split mask xs ys rs h.0 c h.2 in
    record { mid = s.mid; first = r ∷ s.first; rest = s.rest; before = (h.0, h.1, s.before); behind = s.behind }

-- ---- a run in parts

run_split : (ms ns : List Move) (a c : ChassisWorld) → ChassisRun (ms ++ ns) a c → (b : ChassisWorld) × ChassisRun ms a b × ChassisRun ns b c
run_split [] ns a c h = (a, refl, h)
run_split (m ∷ ms) ns a c h = let rest = run_split ms ns h.0 c h.2 in (rest.0, (h.0, h.1, rest.1), rest.2)

pub first_same : {A : Type 0} (a b : A) (xs ys : List A) → a ∷ xs ≡ b ∷ ys → a ≡ b
first_same a b xs ys h = cc

pub rest_same : {A : Type 0} (a b : A) (xs ys : List A) → a ∷ xs ≡ b ∷ ys → xs ≡ ys
rest_same a b xs ys h = cc

pub both_same : {A : Type 0} (a b : A) (xs ys : List A) → a ≡ b → xs ≡ ys → a ∷ xs ≡ b ∷ ys
both_same a b xs ys h k = cc

pub more_some : {A : Type 0} (a : A) (xs : List A) → a ∷ xs ≡ [] → ⊥
more_some a xs h = cc

pub none_some : {A : Type 0} (a : A) (xs : List A) → [] ≡ a ∷ xs → ⊥
none_some a xs h = cc

-- the lines of a run tell of its turns, one after the other
lines_tell : (mask : Mask) (old : PlayState) (ts : List (List ℕ)) (rs : List Receipt) (new : PlayState) → AreLinesOf mask old ts rs new → TellAll mask old ts rs new
lines_tell mask old [] [] new h = same_play new old h.taken.run h.taken.numbers
lines_tell mask old [] (r ∷ rs) new h = absurd (more_some _ _ h.lines)
lines_tell mask old (t ∷ ts) [] new h = absurd (none_some _ _ h.lines)
lines_tell mask old (t ∷ ts) (r ∷ rs) new h =
    let run = run_split (moves_told r) (all_moves rs) old.world new.world h.taken.run in
    let mid : PlayState = record { world = run.0; next = slice_set old.next r.port (r.number + 1) } in (
      mid,
      record {
        told = All-head (λ receipt. IsTold receipt.entry.event) r rs h.told;
        taken = record { told = refl; run = rw append-nil run.1; numbers = (h.taken.numbers.0, refl) };
        line = first_same _ _ _ _ h.lines;
      },
      lines_tell mask mid ts rs new (record {
        told = All-tail (λ receipt. IsTold receipt.entry.event) r rs h.told;
        taken = record { told = refl; run = run.2; numbers = h.taken.numbers.1 };
        lines = rest_same _ _ _ _ h.lines;
      }),
    )

pub tells_lines : (mask : Mask) (old : PlayState) (ts : List (List ℕ)) (rs : List Receipt) (new : PlayState) → TellAll mask old ts rs new → AreLinesOf mask old ts rs new
tells_lines mask old [] [] new h = record { told = All-nil (λ receipt. IsTold receipt.entry.event); taken = subst (λ (x : PlayState). TakesTurns old [] [] x) (sym h) (no_turns old); lines = refl }
tells_lines mask old [] (r ∷ rs) new h = absurd h
tells_lines mask old (t ∷ ts) [] new h = absurd h
tells_lines mask old (t ∷ ts) (r ∷ rs) new h =
    let rest = tells_lines mask h.0 ts rs new h.2 in
    record {
      told = All-cons (λ receipt. IsTold receipt.entry.event) r rs h.1.told rest.told;
      taken = turns_append old h.0 new (turn_of r ∷ []) (map turn_of rs) (r ∷ []) rs h.1.taken rest.taken;
      lines = both_same _ _ _ _ h.1.line rest.lines;
    }

-- ---- how far a verification has come

-- these texts tell of turns that end here, and whatever turns they tell of end here
pub record Stage (mask : Mask) (start : PlayState) (texts : List (List ℕ)) (play : PlayState) : Type 0 where
  pub receipts : List Receipt
  pub tells : TellAll mask start texts receipts play
  pub alone : (others : List Receipt) (end : PlayState) → TellAll mask start texts others end → end ≡ play

no_text : (mask : Mask) (start : PlayState) (others : List Receipt) (end : PlayState) → TellAll mask start [] others end → end ≡ start
no_text mask start [] end h = h
no_text mask start (r ∷ rs) end h = absurd h

pub stage_begun : (mask : Mask) (start : PlayState) → Stage mask start [] start
stage_begun mask start = record { receipts = []; tells = refl; alone = no_text mask start }

last_alone : (mask : Mask) (play new : PlayState) (text : List ℕ) (rest : List Receipt) (end : PlayState) → TellsAlone mask play text new → TellAll mask play (text ∷ []) rest end → end ≡ new
last_alone mask play new text [] end k h = absurd h
last_alone mask play new text (r ∷ []) end k h = h.2 ∙ (k.alone r h.0 h.1).1
last_alone mask play new text (r ∷ q ∷ rs) end k h = absurd h.2

pub stage_on : (mask : Mask) (start play new : PlayState) (texts : List (List ℕ)) (text : List ℕ) (all : List (List ℕ)) → all ≡ texts ++ text ∷ []
    → Stage mask start texts play → TellsAlone mask play text new → Stage mask start all new
stage_on mask start play new texts text all is h k =
    subst (λ (ts : List (List ℕ)). Stage mask start ts new) (sym is) (record {
      receipts = h.receipts ++ k.receipt ∷ [];
      tells = tell_append mask texts (text ∷ []) h.receipts (k.receipt ∷ []) start play new h.tells (new, k.tells, refl);
      alone = λ others end t.
          let s = tell_split mask texts (text ∷ []) others start end t in
          last_alone mask play new text s.rest end k (subst (λ (x : PlayState). TellAll mask x (text ∷ []) s.rest end) (h.alone s.first s.mid s.before) s.behind);
    })

first_fails : (mask : Mask) (play : PlayState) (text : List ℕ) (rest : List (List ℕ)) (rs : List Receipt) (end : PlayState) → TellsNothing mask play text → TellAll mask play (text ∷ rest) rs end → ⊥
first_fails mask play text rest [] end none h = h
first_fails mask play text rest (r ∷ rs) end none h = none r h.0 h.1

-- a line that tells of nothing there ends it: no trace begins so
pub stage_ends : (mask : Mask) (start play : PlayState) (texts : List (List ℕ)) (text : List ℕ) (rest all : List (List ℕ)) → all ≡ texts ++ text ∷ rest
    → Stage mask start texts play → TellsNothing mask play text → AreTrace mask start all → ⊥
stage_ends mask start play texts text rest all is h none trace =
    let told : TellAll mask start (texts ++ text ∷ rest) trace.receipts trace.end =
    subst (λ (ts : List (List ℕ)). TellAll mask start ts trace.receipts trace.end) is (lines_tell mask start all trace.receipts trace.end trace.run) in
    let s = tell_split mask texts (text ∷ rest) trace.receipts start trace.end told in
    first_fails mask play text rest s.rest trace.end none (subst (λ (x : PlayState). TellAll mask x (text ∷ rest) s.rest trace.end) (h.alone s.first s.mid s.before) s.behind)

-- and after the last line it is a trace
pub stage_trace : (mask : Mask) (start play : PlayState) (texts all : List (List ℕ)) → all ≡ texts → Stage mask start texts play → AreTrace mask start all
stage_trace mask start play texts all is h =
    subst (AreTrace mask start) (sym is) (record { receipts = h.receipts; end = play; run = tells_lines mask start texts h.receipts play h.tells })

-- ---- verdicts

pub refused : (v : Verdict) (mask : Mask) (old new : PlayState) (text said : List ℕ) → (v ≡ verdict.Follows → ⊥) → Judges v mask old text new said → TellsNothing mask old text
refused verdict.Follows mask old new text said isnt h = absurd (isnt refl)
refused verdict.NotALine mask old new text said isnt h = h.0
refused verdict.NoPort mask old new text said isnt h = h.0
refused verdict.WrongNumber mask old new text said isnt h = h.0
refused verdict.NotAStep mask old new text said isnt h = h.0
refused verdict.TooLong mask old new text said isnt h = absurd h

pub followed : (v : Verdict) (mask : Mask) (old new : PlayState) (text said : List ℕ) → v ≡ verdict.Follows → Judges v mask old text new said → TellsAlone mask old text new
followed v mask old new text said is h = subst (λ (x : Verdict). Judges x mask old text new said) is h
