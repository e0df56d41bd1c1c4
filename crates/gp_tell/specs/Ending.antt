-- What is handed on at a line feed (this profile's own rule).
-- Inside: no public contract cites this.
use Rattle.std.specs.Prelude.{◌≡◌, ℕ, Bool, true, false, List, [], ◌∷◌, Result, Ok, Err}
use Rattle.gp_stream.specs.Sink.{SinkState, Takes, TakesPrefix}
use Rattle.gp_explain.specs.Telling.{Manner, TellsOneLine}
use Rattle.gp_tell.specs.declared.fault.TellFault.{TellFault}
use Rattle.gp_tell.specs.declared.fault.TellFault.TheVariants.{Write, OutOfMemory}

-- what is told: of a line that was passed on, the line feed
abbrev pub Ends : Bool → List ℕ → Manner → List ℕ → Manner → Type 0
Ends true line old said new = (said ≡ 10 ∷ []) × (new ≡ old)
Ends false line old said new = TellsOneLine old line said new

-- it was handed on, or a prefix was written; without memory nothing changed
abbrev pub EndsLine : {W : Type 0} → Bool → List ℕ → Manner → Manner → SinkState W → SinkState W
    → Result (Unit {0}) TellFault → Type 0
EndsLine long line old new before after (Ok value) =
    (said : List ℕ) × Ends long line old said new × Takes before after said × (after.stopped ≡ false)
EndsLine long line old new before after (Err Write) =
    (said : List ℕ) × (next : Manner) × Ends long line old said next × TakesPrefix before after said
EndsLine long line old new before after (Err OutOfMemory) = (new ≡ old) × (after ≡ before)
