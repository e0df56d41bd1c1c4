-- An observer of what a port sends, as far as it has heard it.
use Rattle.std.proofs.Common.{◌≡◌, ℕ, suc, Bool, true, false, not, List, ◌++◌, Some, ◌⊎◌, refl}
use Rattle.std.specs.Prelude.{replicate, nat_lt}
use Rattle.std.specs.FinMap.{len}
use Rattle.std.specs.FinSet.{contains}
use Rattle.gp_ploam.specs.declared.message.Down.{Down}
use Rattle.gp_ploam.specs.declared.message.Down.TheVariants.{NoMessage}
use Rattle.gp_machine.specs.State.{PortState}
use Rattle.gp_machine.specs.Messages.{three_times}
use Rattle.gp_observer.specs.Observer.{Observed, nothing_observed, observed_after_all}
use Rattle.gp_observer.specs.Knows.{IsKnown}
use Rattle.gp_observer.specs.Watch.{Watch, most_followed, numbers_below, passes_over, copy_heard, after_down}
use Rattle.gp_observer.specs.Rules.{Settings}
use Rattle.gp_observer.specs.Heard.{down_breaks, copy_breaks}
use Rattle.gp_observer.proofs.Low.{AreLow}
use Rattle.gp_observer.proofs.Keeping.{KeepsRules, AllKeepRules}
use Rattle.gp_observer.proofs.Agreeing.{Agrees, AreFollowed}
use Rattle.gp_observer.proofs.Asking.{HaveAsked}
use Rattle.gp_observer.proofs.Answering.{Unmoved, AreOwed, HasAnswered}
use Rattle.gp_observer.proofs.Causing.{IsRangingWindow}

-- ---- messages

-- it is not No_message
abbrev pub IsMessage : Down → Type 0
IsMessage NoMessage = ⊥
IsMessage m = Unit {0}

pub keeps_message : (s : Observed) (m : Down) → KeepsRules s m → IsMessage m
keeps_message s NoMessage h = absurd h
keeps_message s m h = tt

pub after_message : (w : Watch) (m : Down) → IsMessage m → after_down w (Some m) ≡ copy_heard w m
after_message w NoMessage h = absurd h
after_message w m h = refl

pub breaks_message : (settings : Settings) (w : Watch) (m : Down) → IsMessage m → down_breaks settings w (Some m) ≡ copy_breaks settings w m
breaks_message settings w NoMessage h = absurd h
breaks_message settings w m h = refl

-- ---- what is true of an observer

-- whose delay is owed answered, where it is known who it is
abbrev pub Answered : Settings → Watch → ℕ → ℕ → Type 0
Answered settings w n eqd = contains w.unknown n ≡ false → HasAnswered settings w.answers n eqd

-- the message was told, and its copies are counted
pub record IsTold (w : Watch) (left : ℕ) (copied : Down) : Type 0 where
  pub cut : w.cut ≡ false
  pub to_come : w.to_come ≡ left
  pub last : (k : ℕ) → left ≡ suc k → w.last ≡ copied

-- or all messages were passed over until now
pub record IsPassedOver (first : Bool) (w : Watch) (left : ℕ) (copied : Down) : Type 0 where
  pub late : first ≡ false
  pub cut : w.cut ≡ true
  pub to_come : w.to_come ≡ 0
  pub seen : w.seen ≡ nothing_observed
  pub unknown : w.unknown ≡ numbers_below 254
  pub passed : (k : ℕ) → left ≡ suc k → passes_over w copied ≡ true

-- the port has told it all but the copies of its last message that are still to come, and these messages
pub record Watching (settings : Settings) (first : Bool) (p : PortState) (w : Watch) (s : Observed) (ms : List Down) : Type 0 where
  pub known : IsKnown p.rows p.disabled (observed_after_all s ms)
  pub keep : AllKeepRules s ms
  pub agrees : Agrees w.unknown w.seen s
  -- heard from the first message on
  pub whole : first ≡ true → nat_lt (len w.asks) most_followed ≡ true → (w.seen ≡ s) × ((n : ℕ) → contains w.unknown n ≡ false)
  pub followed : AreFollowed w
  pub begun : w.midway ≡ not first
  pub asked : first ≡ true → HaveAsked w.asks ms
  pub answered : AreOwed (Answered settings w) s ms
  -- so many copies of this message are still owed before the others
  pub left : ℕ
  pub copied : Down
  pub copies : p.owed ≡ replicate left copied ++ three_times ms
  pub message : (k : ℕ) → left ≡ suc k → IsMessage copied
  pub phase : IsTold w left copied ⊎ IsPassedOver first w left copied
  pub numbers : AreLow s
  pub window : (n : ℕ) → IsRangingWindow p.window n → Unmoved s n ms
