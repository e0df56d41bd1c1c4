-- The equalized delays of the ports, as they are given (this profile's own rule).
use Rattle.std.specs.Prelude.{ℕ, ◌==◌, Bool, List, [], ◌∷◌, length, Option, None, Some, Result, Ok, Err, if◌then◌else◌, replicate, slice_set}
use Rattle.std.specs.List.{after_first, before_first, position_or_len}
use Rattle.gp_machine.specs.Config.{max_ports}
use Rattle.gp_lines.specs.declared.fault.LineFault.{LineFault}
use Rattle.gp_lines.specs.Reading.{number_in}
use Rattle.gp_lines.specs.Spelling.{last_port}
use Rattle.gp_audit.specs.Texts.{Text}

abbrev pub ok_of : Result ℕ LineFault → Option ℕ
ok_of (Ok number) = Some number
ok_of (Err fault) = None

abbrev pub port_in : Text → Option ℕ
port_in text = ok_of (number_in 0 last_port text)

-- a delay, in bit times
abbrev pub delay_in : Text → Option ℕ
delay_in text = ok_of (number_in 0 4294967295 text)

abbrev pub is_equals : ℕ → Bool
is_equals octet = octet == 61

-- the next step, if there was one before
infixl 10 ◌>>=◌
abbrev pub ◌>>=◌ : {A B : Type 0} → Option A → (A → Option B) → Option B
Some x >>= f = f x
None >>= f = None

-- the same delay of all ports
abbrev pub delay_of_all : Text → Option (List ℕ)
delay_of_all text = do
  delay ← delay_in text
  Some (replicate max_ports delay)

-- the delays with another one of one port
abbrev pub delay_of_port : List ℕ → Text → Text → Option (List ℕ)
delay_of_port delays digits text = do
  port ← port_in digits
  delay ← delay_in text
  Some (slice_set delays port delay)

-- the delays after `T`, of all ports, or `PORT=T`, of one
unfoldable pub delays_set : List ℕ → Text → Option (List ℕ)
delays_set delays text =
    if position_or_len is_equals text == length text then delay_of_all text
    else delay_of_port delays (before_first is_equals text) (after_first is_equals text)

-- what follows, if the text told delays; else it is given back
abbrev pub told_or : Text → Option (List ℕ) → (List ℕ → Result (List ℕ) Text) → Result (List ℕ) Text
told_or text None next = Err text
told_or text (Some delays) next = next delays

-- the delays after texts, one after another, or the first that tells none
abbrev pub delays_after : List ℕ → List Text → Result (List ℕ) Text
delays_after delays [] = Ok delays
delays_after delays (text ∷ texts) = told_or text (delays_set delays text) (λ changed. delays_after changed texts)

-- the equalized delays of the ports, in bit times: 311,040 where none is given
abbrev pub equalized_delays : List Text → Result (List ℕ) Text
equalized_delays texts = delays_after (replicate max_ports 311040) texts
