-- Frames up to a grant, one after the other.
use Rattle.std.proofs.Common.{◌≡◌, ℕ, ◌+◌, ◌<◌, true, false, Bool, List, [], ◌∷◌, ◌++◌, Some, Result, Ok, Err, IsErrAnd, length, subst, refl, sym, ap, ◌∙◌, arith}
use Rattle.std.proofs.lemmas.Grind.{flat_map-append}
use Rattle.std.proofs.lemmas.List.{append-nil, length-append}
use Rattle.gp_ploam.specs.declared.check.Mask.{Mask}
use Rattle.gp_ranging.specs.declared.grant.Grant.{Grant}
use Rattle.gp_machine.specs.declared.entry.Receipt.{Receipt}
use Rattle.gp_script.specs.declared.script.ScriptEvent.TheVariants as events
use Rattle.gp_stream.specs.Sink.{SinkState}
use Rattle.gp_replay.specs.declared.fault.PlayFault.{PlayFault}
use Rattle.gp_replay.specs.declared.fault.PlayFault.TheVariants as faults
use Rattle.gp_replay.specs.Playing.{MakesGrant, Playing}
use Rattle.gp_replay.specs.Writing.{Happening, PlaysOn, Writes}
use Rattle.gp_replay.proofs.PlayLemmas.{Joins, Stands}
use Rattle.gp_lines.specs.declared.turn.Asked.TheVariants as asked
use Rattle.gp_drive.specs.declared.fault.TurnFault.TheVariants.{Never}
use Rattle.gp_drive.specs.Turns.{FramesPlayed, IsMade, IsNeverMade, PlaysTo, PlaysUntil, PlaysUntilPart, all_of}

-- so many frames, none of which makes the grant
pub record SomeFrames {S : Type 0} (playing : Playing S) (port : ℕ) (grant : Grant) (count : ℕ) (old : S) (receipts : List Receipt) (new : S) : Type 0 where
  pub frames : List (List Receipt)
  pub played : FramesPlayed playing port old frames new
  pub never : IsNeverMade grant frames
  pub many : length frames ≡ count
  pub receipts_are : receipts ≡ all_of frames

pub no_frames : {S : Type 0} (playing : Playing S) (port : ℕ) (grant : Grant) (a : S) → SomeFrames playing port grant 0 a [] a
no_frames playing port grant a = record { frames = []; played = refl; never = tt; many = refl; receipts_are = refl }

one_more : {S : Type 0} (playing : Playing S) (port : ℕ) (frames : List (List Receipt)) (last : List Receipt) (a b c : S) → FramesPlayed playing port a frames b
    → playing.whole (events.Frames port 1) b last c → FramesPlayed playing port a (frames ++ last ∷ []) c
one_more playing port [] last a b c h k = (c, subst (λ s. playing.whole (events.Frames port 1) s last c) h k, refl)
one_more playing port (f ∷ frames) last a b c h k = (h.0, h.1, one_more playing port frames last h.0 b c h.2 k)

never_more : (grant : Grant) (frames : List (List Receipt)) (last : List Receipt) → IsNeverMade grant frames → (IsMade grant last → ⊥) → IsNeverMade grant (frames ++ last ∷ [])
never_more grant [] last h k = (k, tt)
never_more grant (f ∷ frames) last h k = (h.0, never_more grant frames last h.1 k)

all_more : (frames : List (List Receipt)) (last rs ss : List Receipt) → rs ≡ all_of frames → ss ≡ last → rs ++ ss ≡ all_of (frames ++ last ∷ [])
all_more frames last rs ss e f =
    ap (λ (l : List Receipt). l ++ ss) e ∙ ap (λ (l : List Receipt). all_of frames ++ l) (f ∙ sym (append-nil last))
    ∙ sym (flat_map-append (λ (receipts : List Receipt). receipts) frames (last ∷ []))

not_true : {P : Type 0} → false ≡ true → P
not_true e = absurd (cc)

-- a frame more that doesn't make it
pub another : {S : Type 0} (playing : Playing S) (port : ℕ) (grant : Grant) (n : ℕ) (made : Bool) → made ≡ false
    → Joins (SomeFrames playing port grant n) (MakesGrant grant made (playing.whole (events.Frames port 1))) (SomeFrames playing port grant (n + 1))
another playing port grant n made is a b c rs ss h k = record {
  frames = h.frames ++ ss ∷ [];
  played = one_more playing port h.frames ss a b c h.played k.happened;
  never = never_more grant h.frames ss h.never (λ w. not_true (sym is ∙ k.told.1 w));
  many = length-append h.frames (ss ∷ []) ∙ ap (λ (m : ℕ). m + 1) h.many;
  receipts_are = all_more h.frames ss rs ss h.receipts_are refl;
}

-- the frame that makes it
pub found : {S : Type 0} (playing : Playing S) (port : ℕ) (grant : Grant) (n most : ℕ) (made : Bool) → made ≡ true → n < most
    → Joins (SomeFrames playing port grant n) (MakesGrant grant made (playing.whole (events.Frames port 1))) (PlaysUntil playing port grant most)
found playing port grant n most made is few a b c rs ss h k =
    let many = h.many in
    record {
      before = h.frames;
      last = ss;
      played = one_more playing port h.frames ss a b c h.played k.happened;
      never = h.never;
      made = k.told.0 is;
      fewer = omega (arith, many, few);
      receipts_are = all_more h.frames ss rs ss h.receipts_are refl;
    }

-- a frame in part
pub cut_off : {S : Type 0} (playing : Playing S) (port : ℕ) (grant : Grant) (n most : ℕ) → n < most
    → Joins (SomeFrames playing port grant n) (playing.part (events.Frames port 1)) (PlaysUntilPart playing port grant most)
cut_off playing port grant n most few a b c rs ss h k = record {
  frames = h.frames;
  mid = b;
  played = h.played;
  never = h.never;
  fewer = let many = h.many in omega (arith, many, few);
  last = ss;
  part = k;
  receipts_are = ap (λ (l : List Receipt). l ++ ss) h.receipts_are;
}

-- none of so many makes it
pub never_found : {S : Type 0} (playing : Playing S) (port : ℕ) (grant : Grant) (n most : ℕ) (a b : S) (rs : List Receipt) → n ≡ most → SomeFrames playing port grant n a rs b
    → PlaysTo playing (asked.Until port grant most) (Some Never) a rs b
never_found playing port grant n most a b rs is h =
    (refl, record { frames = h.frames; played = h.played; never = h.never; many = h.many ∙ is; receipts_are = h.receipts_are })

writes_as : {S W : Type 0} (mask : Mask) (T U : Happening S) (a b : S) (x y : SinkState W) → ((rs : List Receipt) → T a rs b → U a rs b) → Writes mask T a b x y → Writes mask U a b x y
writes_as mask T U a b x y up w = record { receipts = w.receipts; happened = up w.receipts w.happened; lines = w.lines }

-- one event was played, of which nothing is told
pub plays_one : {S W A B : Type 0} (mask : Mask) (T U P Q : Happening S) (a b : S) (x y : SinkState W) (v : A) (w : B) → ((rs : List Receipt) → T a rs b → U a rs b)
    → PlaysOn mask T P a b x y (Ok v) → PlaysOn mask U Q a b x y (Ok w)
plays_one mask T U P Q a b x y v w up p = record { ok = writes_as mask T U a b x y up p.ok; fault = tt; stopped = p.stopped; refused = p.refused; flushed = p.flushed }

same_fault : {S W A B : Type 0} (mask : Mask) (T U P : Happening S) (a b : S) (x y : SinkState W) (e : PlayFault) → PlaysOn {T = A} mask T P a b x y (Err e)
    → PlaysOn {T = B} mask U P a b x y (Err e)
same_fault mask T U P a b x y faults.OutOfMemory p = record { ok = tt; fault = p.fault; stopped = p.stopped; refused = p.refused; flushed = p.flushed }
same_fault mask T U P a b x y faults.Write p = record { ok = tt; fault = p.fault; stopped = p.stopped; refused = p.refused; flushed = p.flushed }

-- a fault came, which is answered
pub plays_none : {S W A B : Type 0} (mask : Mask) (T U P : Happening S) (a b : S) (x y : SinkState W) (e : PlayFault) (r : Result B PlayFault) → PlaysOn {T = A} mask T P a b x y (Err e)
    → IsErrAnd r (λ o. o ≡ e) → PlaysOn mask U P a b x y r
plays_none mask T U P a b x y e (Ok v) p told = absurd told
plays_none {B = B} mask T U P a b x y e (Err f) p told =
    subst (λ (o : PlayFault). PlaysOn {T = B} mask U P a b x y (Err o)) (sym told) (same_fault mask T U P a b x y e p)

-- what was played, told more exactly
pub plays_told : {S W A : Type 0} (mask : Mask) (T U P : Happening S) (a b : S) (x y : SinkState W) (v : A) → PlaysOn mask T P a b x y (Ok v) → Writes mask U a b x y
    → PlaysOn mask U P a b x y (Ok v)
plays_told mask T U P a b x y v p w = record { ok = w; fault = tt; stopped = p.stopped; refused = p.refused; flushed = p.flushed }

pub stands_as : {S W : Type 0} (mask : Mask) (T U : Happening S) (a b : S) (x y : SinkState W) → ((rs : List Receipt) → T a rs b → U a rs b) → Stands mask T a b x y → Stands mask U a b x y
stands_as mask T U a b x y up s = record { written = writes_as mask T U a b x y up s.written; stopped = s.stopped; refused = s.refused; flushed = s.flushed }
