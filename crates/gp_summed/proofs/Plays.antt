-- Plays whose entries are counted.
use Rattle.std.proofs.Common.{◌≡◌, ℕ, List, [], ◌∷◌, ◌++◌, map, sym, ap, ◌∙◌, subst}
use Rattle.std.proofs.lemmas.Grind.{flat_map-append}
use Rattle.std.proofs.lemmas.List.{append-nil, map-append}
use Rattle.gp_ploam.specs.declared.check.Mask.{Mask}
use Rattle.gp_trace.specs.Text.{line_of, trace_text}
use Rattle.gp_replay.specs.declared.turn.Turn.{Turn}
use Rattle.gp_replay.specs.Chassis.{PlayState}
use Rattle.gp_replay.specs.Play.{TakesTurns, turn_of}
use Rattle.gp_replay.proofs.RunLemmas.{no_turns, turns_append}
use Rattle.gp_verify.specs.declared.verdict.Verdict.{Verdict}
use Rattle.gp_verify.specs.declared.verdict.Verdict.TheVariants as verdict
use Rattle.gp_verify.specs.Verdicts.{Moves, MovesOn}
use Rattle.gp_summed.specs.Verifying.{IsPlayed, said_by}

-- before the first entry
pub not_begun : (mask : Mask) (start end : PlayState) (taken : List ℕ) → end ≡ start → taken ≡ [] → IsPlayed mask start end taken
not_begun mask start end taken is none =
    record { receipts = []; turns = subst (λ (p : PlayState). TakesTurns start [] [] p) (sym is) (no_turns start); text = none }

-- one entry more
goes_on : (mask : Mask) (start old new : PlayState) (taken said : List ℕ) → IsPlayed mask start old taken → MovesOn mask old new said → IsPlayed mask start new (taken ++ said)
goes_on mask start old new taken said p m =
    let more = m.receipt ∷ [] in
    record {
      receipts = p.receipts ++ more;
      turns = subst (λ (ts : List Turn). TakesTurns start ts (p.receipts ++ more) new) (sym (map-append turn_of p.receipts more))
          (turns_append start old new (map turn_of p.receipts) (turn_of m.receipt ∷ []) p.receipts more p.turns m.taken);
      text = ap (λ (l : List ℕ). l ++ said) p.text ∙ ap (λ (l : List ℕ). trace_text mask p.receipts ++ l) (m.line ∙ sym (append-nil (line_of mask m.receipt)))
          ∙ sym (flat_map-append (line_of mask) p.receipts more);
    }

-- no entry
stays : (mask : Mask) (start old new : PlayState) (taken : List ℕ) → IsPlayed mask start old taken → new ≡ old → IsPlayed mask start new (taken ++ [])
stays mask start old new taken p is =
    subst (λ (l : List ℕ). IsPlayed mask start new l) (sym (append-nil taken)) (subst (λ (s : PlayState). IsPlayed mask start s taken) (sym is) p)

-- behind a line, by what is said of it
moved : (why : Verdict) (mask : Mask) (text : List ℕ) (start old new : PlayState) (taken said : List ℕ) → IsPlayed mask start old taken
    → Moves why mask text old new said → IsPlayed mask start new (taken ++ said_by why said)
moved verdict.Follows mask text start old new taken said p m = goes_on mask start old new taken said p m.0
moved verdict.WrongNumber mask text start old new taken said p m = goes_on mask start old new taken said p m
moved verdict.NotAStep mask text start old new taken said p m = goes_on mask start old new taken said p m
moved verdict.NotALine mask text start old new taken said p m = stays mask start old new taken p m
moved verdict.NoPort mask text start old new taken said p m = stays mask start old new taken p m
moved verdict.TooLong mask text start old new taken said p m = stays mask start old new taken p m

pub moved_to : (why : Verdict) (mask : Mask) (text : List ℕ) (start old new : PlayState) (before after said : List ℕ) → IsPlayed mask start old before
    → Moves why mask text old new said → after ≡ before ++ said_by why said → IsPlayed mask start new after
moved_to why mask text start old new before after said p m is =
    subst (λ (l : List ℕ). IsPlayed mask start new l) (sym is) (moved why mask text start old new before said p m)

-- what follows is its own line
pub its_line : (why : Verdict) (mask : Mask) (text : List ℕ) (old new : PlayState) (said : List ℕ) → why ≡ verdict.Follows → Moves why mask text old new said → MovesOn mask old new said
its_line why mask text old new said is m = (subst (λ (v : Verdict). Moves v mask text old new said) is m).0
