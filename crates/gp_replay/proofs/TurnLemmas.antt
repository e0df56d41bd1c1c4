-- Turns taken one after the other.
use Rattle.std.proofs.Common.{◌≡◌, ℕ, ◌+◌, ◌-◌, ◌<◌, List, [], ◌∷◌, ◌++◌, length, take, drop, get_or, replicate, subst, refl, sym, ap, ◌∙◌, append_assoc, arith}
use Rattle.std.proofs.lemmas.Grind.{flat_map-append}
use Rattle.std.proofs.lemmas.List.{append-nil, replicate-append-replicate, take_more, take-append-drop}
use Rattle.gp_machine.specs.declared.entry.Receipt.{Receipt}
use Rattle.gp_script.specs.declared.script.ScriptEvent.{ScriptEvent}
use Rattle.gp_replay.specs.declared.turn.Turn.{Turn}
use Rattle.gp_replay.specs.Chassis.{PlayState}
use Rattle.gp_replay.specs.Play.{TakesAllTurns, TakesSomeTurns, TakesTurns, all_turns, turns_of}
use Rattle.gp_replay.proofs.RunLemmas.{no_turns, turns_append}
use Rattle.gp_replay.proofs.PlayLemmas.{Joins}

-- no turn of these was taken
pub takes_none : (turns : List Turn) (a : PlayState) → TakesSomeTurns turns a [] a
takes_none turns a = record { done = []; left = turns; split = refl; taken = no_turns a }

-- all of these turns are some of them
pub takes_all : (turns : List Turn) (a b : PlayState) (rs : List Receipt) → TakesTurns a turns rs b → TakesSomeTurns turns a rs b
takes_all turns a b rs h = record { done = turns; left = []; split = sym (append-nil turns); taken = h }

-- turns, and then turns, where all of them are known by an equation
pub turns_join : (ts us all : List Turn) → all ≡ ts ++ us → Joins (TakesAllTurns ts) (TakesAllTurns us) (TakesAllTurns all)
turns_join ts us all e a b c rs ss p q = subst (λ (l : List Turn). TakesTurns a l (rs ++ ss) c) (sym e) (turns_append a b c ts us rs ss p q)

split_on : (ts us left all done rest : List Turn) → all ≡ (ts ++ us) ++ left → us ≡ done ++ rest → all ≡ (ts ++ done) ++ (rest ++ left)
split_on ts us left all done rest e f =
    e ∙ ap (λ (l : List Turn). (ts ++ l) ++ left) f ∙ ap (λ (l : List Turn). l ++ left) (sym (append_assoc ts done rest)) ∙ append_assoc (ts ++ done) rest left

-- turns, then some of further ones, and some that are left
pub some_turns_join : (ts us left all : List Turn) → all ≡ (ts ++ us) ++ left → Joins (TakesAllTurns ts) (TakesSomeTurns us) (TakesSomeTurns all)
some_turns_join ts us left all e a b c rs ss p q = record {
  done = ts ++ q.done;
  left = q.left ++ left;
  split = split_on ts us left all q.done q.left e q.split;
  taken = turns_append a b c ts q.done rs ss p q.taken;
}

-- one more frame, and those that are left
pub frames_more : (n : ℕ) (t : Turn) → replicate (n + 1) t ≡ replicate n t ++ t ∷ []
frames_more n t = sym (replicate-append-replicate n 1 t)

pub frames_rest : (i n : ℕ) (t : Turn) → i < n → replicate n t ≡ (replicate i t ++ t ∷ []) ++ replicate (n - (i + 1)) t
frames_rest i n t h =
    let e : n ≡ (i + 1) + (n - (i + 1)) = omega arith in
    ap (λ (k : ℕ). replicate k t) e ∙ sym (replicate-append-replicate (i + 1) (n - (i + 1)) t) ∙ ap (λ (l : List Turn). l ++ replicate (n - (i + 1)) t) (frames_more i t)

-- one more event, and those that are left
pub events_more : (es : List ScriptEvent) (i : ℕ) (d : ScriptEvent) → i < length es → all_turns (take (i + 1) es) ≡ all_turns (take i es) ++ turns_of (get_or es i d)
events_more es i d h =
    ap all_turns (take_more es i d h) ∙ flat_map-append turns_of (take i es) (get_or es i d ∷ []) ∙ ap (λ (l : List Turn). all_turns (take i es) ++ l) (append-nil (turns_of (get_or es i d)))

pub events_rest : (es : List ScriptEvent) (i : ℕ) (d : ScriptEvent) → i < length es → all_turns es ≡ (all_turns (take i es) ++ turns_of (get_or es i d)) ++ all_turns (drop (i + 1) es)
events_rest es i d h =
    ap all_turns (sym (take-append-drop (i + 1) es)) ∙ flat_map-append turns_of (take (i + 1) es) (drop (i + 1) es) ∙ ap (λ (l : List Turn). l ++ all_turns (drop (i + 1) es)) (events_more es i d h)
