-- What a frame and a burst do to a port that activates units.
use Rattle.std.proofs.Common.{◌≡◌, ℕ, suc, ◌-◌, ◌==◌, Bool, true, false, cond, List, [], ◌∷◌, Option, None, Some, drop, refl, ap, subst, ◌∙◌}
use Rattle.std.specs.FinMap.{get}
use Rattle.std.specs.FinSet.{contains}
use Rattle.gp_ploam.specs.declared.message.Serial.{Serial}
use Rattle.gp_ploam.specs.declared.message.Down.{Down}
use Rattle.gp_ploam.specs.declared.message.Down.TheVariants.{UpstreamOverhead, RangingTime}
use Rattle.gp_ploam.specs.declared.message.Up.{Up}
use Rattle.gp_ploam.specs.declared.message.Up.TheVariants.{SerialNumber}
use Rattle.gp_ploam.specs.Mask.{mask_value}
use Rattle.gp_ploam.specs.Serials.{is_among}
use Rattle.gp_ploam.proofs.Serials.{same_serial-itself}
use Rattle.gp_volley.specs.Copies.{all_copies, first_of}
use Rattle.gp_ranging.specs.declared.grant.Grant.{Grant}
use Rattle.gp_ranging.specs.declared.grant.Grant.TheVariants.{Search, Range}
use Rattle.gp_ranging.specs.Window.{WindowState}
use Rattle.gp_ranging.specs.Delay.{equalization_delay}
use Rattle.gp_common.specs.declared.common.Common.TheVariants.{Standby, Acquisition, Measuring}
use Rattle.gp_unit.specs.declared.row.Row.{Row}
use Rattle.gp_unit.specs.Rows.{row_measured}
use Rattle.gp_machine.specs.declared.config.PortConfig.{PortConfig}
use Rattle.gp_machine.specs.declared.entry.Entry.{Entry}
use Rattle.gp_machine.specs.declared.event.Event.{Event}
use Rattle.gp_machine.specs.declared.event.Event.TheVariants as event
use Rattle.gp_machine.specs.declared.reply.Reply.TheVariants.{Ranged}
use Rattle.gp_machine.specs.State.{PortState, Rows, IsLeastRanging, Ranges, has_free_onu, unit_with}
use Rattle.std.proofs.lemmas.Bool.{eq-eqb}
use Rattle.gp_machine.specs.Changes.{StepResult, ClosesWindow, CountsDown, SetsRow, Owes}
use Rattle.gp_machine.specs.Closes.{asked_unit, close_response, ticks}
use Rattle.gp_machine.specs.Burst.{windowed_response, message_response, directed_response}
use Rattle.gp_machine.specs.RangeWindow.{ranging_response}
use Rattle.gp_machine.specs.Responses.{Response, GivesOnu, MayPick, has_room, replies, step_result_with}
use Rattle.gp_machine.specs.Frame.{frame_response, state_begun}
use Rattle.gp_machine.specs.Burst.{burst_response}
use Rattle.gp_machine.specs.Step.{Hears, Step}
use Rattle.gp_machine.specs.Run.{IsStep, entry_outcome}
use Rattle.gp_machine.specs.OneStep.{HearsOneThing}
use Rattle.gp_success.proofs.ActivePorts.{port_at, cooled, window_of}

-- ---- any step

-- a frame, by the least ONU-ID of a ranging unit
pub record FrameStep (p : PortState) (e : Entry) (q : PortState) : Type 0 where
  pub ranging : Option ℕ
  pub next : Option ℕ
  pub picked : ℕ
  pub least : IsLeastRanging p.rows ranging
  pub outcome : entry_outcome e q ≡ step_result_with e.purse_in (state_begun p) (first_of p.owed) (frame_response p ranging next) picked

pub frame_step : (p : PortState) (e : Entry) (q : PortState) → e.event ≡ event.Frame → IsStep p e q → FrameStep p e q
frame_step p e q is step =
    let s = (subst (λ (x : Event). Step e.purse_in p x (entry_outcome e q)) is step).1 in
    record {
      ranging = s.said.0;
      next = s.said.1;
      picked = s.picked;
      least = s.said.2;
      outcome = s.is ∙ ap (λ (d : Response). step_result_with e.purse_in (state_begun p) (first_of p.owed) d s.picked) s.said.4;
    }

-- a burst that is read as this message
pub record BurstStep (p : PortState) (at : ℕ) (m : Up) (e : Entry) (q : PortState) : Type 0 where
  pub picked : ℕ
  pub may : MayPick p (burst_response e.purse_in p at (Some m)) picked
  pub outcome : entry_outcome e q ≡ step_result_with e.purse_in p None (burst_response e.purse_in p at (Some m)) picked

pub burst_step : HearsOneThing → (p : PortState) (at : ℕ) (bytes : List ℕ) (m : Up) (e : Entry) (q : PortState) → e.event ≡ event.Burst at bytes → Hears (mask_value p.config.mask) bytes (Some m) → IsStep p e q
    → BurstStep p at m e q
burst_step one p at bytes m e q is reads step =
    let s = (subst (λ (x : Event). Step e.purse_in p x (entry_outcome e q)) is step).1 in
    let said : s.response ≡ burst_response e.purse_in p at (Some m) =
    s.said.2 ∙ ap (λ (h : Option Up). burst_response e.purse_in p at h) (one (mask_value p.config.mask) bytes s.said.0 (Some m) s.said.1 reads) in
    record {
      picked = s.picked;
      may = subst (λ (d : Response). MayPick p d s.picked) said s.may;
      outcome = s.is ∙ ap (λ (d : Response). step_result_with e.purse_in p None d s.picked) said;
    }

-- ---- frames

-- what a frame makes of a port: the state, the licences, the copy that is sent, and the grant
pub record Makes (e : Entry) (q : PortState) (purse : ℕ) (sent : Option Down) (grant : Option Grant) (new : PortState) : Type 0 where
  pub state : q ≡ new
  pub purse_is : e.purse_out ≡ purse
  pub sent_is : e.answer.sent ≡ sent
  pub grant_is : e.answer.grant ≡ grant

pub makes : (e : Entry) (q : PortState) (o : StepResult) → entry_outcome e q ≡ o → Makes e q o.purse o.answer.sent o.answer.grant o.state
makes e q o is =
    record {
      state = ap (λ (x : StepResult). x.state) is;
      purse_is = ap (λ (x : StepResult). x.purse) is;
      sent_is = ap (λ (x : StepResult). x.answer.sent) is;
      grant_is = ap (λ (x : StepResult). x.answer.grant) is;
    }

-- the entry is a frame
module _ (c : PortConfig) (rows : Rows) (timer : ℕ) (cooling : List ℕ) (e : Entry) (q : PortState) (frame : e.event ≡ event.Frame) where
  -- a wanted search begins
  pub frame_begins : (later : Bool) → IsStep (port_at c rows Standby true timer None [] cooling) e q
      → (t : ℕ) × Makes e q e.purse_in None None (port_at c rows (Acquisition c.cycles) false t None (all_copies (UpstreamOverhead c.overhead)) (cooled cooling))
  frame_begins later step = let s = frame_step _ e q frame step in (_, makes e q _ s.outcome)

  -- with no window open and copies owed, one is sent
  pub acquiring_sends : (k : ℕ) (m : Down) (ms : List Down) → IsStep (port_at c rows (Acquisition k) false timer None (m ∷ ms) cooling) e q
      → Makes e q e.purse_in (Some m) None (port_at c rows (Acquisition k) false timer None ms (cooled cooling))
  acquiring_sends k m ms step = let s = frame_step _ e q frame step in makes e q _ s.outcome

  pub measuring_sends : (m : Down) (ms : List Down) → IsStep (port_at c rows Measuring false timer None (m ∷ ms) cooling) e q
      → Makes e q e.purse_in (Some m) None (port_at c rows Measuring false timer None ms (cooled cooling))
  measuring_sends m ms step = let s = frame_step _ e q frame step in makes e q _ s.outcome

  -- a search window opens
  pub search_opens : (k : ℕ) → IsStep (port_at c rows (Acquisition (suc k)) false timer None [] cooling) e q
      → Makes e q e.purse_in None (Some Search) (port_at c rows (Acquisition k) false timer (Some (window_of Search 3 false)) [] (cooled cooling))
  search_opens k step = let s = frame_step _ e q frame step in makes e q _ s.outcome

  -- a search window has a frame less, and copies go on
  pub search_goes_on : (k left : ℕ) (seen : Bool) (owed : List Down) → (left == 1) ≡ false → IsStep (port_at c rows (Acquisition k) false timer (Some (window_of Search left seen)) owed cooling) e q
      → Makes e q e.purse_in (first_of owed) None (port_at c rows (Acquisition k) false timer (Some (window_of Search (left - 1) seen)) (drop 1 owed) (cooled cooling))
  search_goes_on k left seen owed more step =
      let p = port_at c rows (Acquisition k) false timer (Some (window_of Search left seen)) owed cooling in
      let s = frame_step p e q frame step in
      makes e q _
      (s.outcome ∙ ap (λ (b : Bool). step_result_with e.purse_in (state_begun p) (first_of owed) (cond b (close_response seen Search None) (ticks None (CountsDown ∷ []))) s.picked) more)

  -- it closes
  pub search_closes : (k : ℕ) (seen : Bool) (owed : List Down) → IsStep (port_at c rows (Acquisition k) false timer (Some (window_of Search 1 seen)) owed cooling) e q
      → Makes e q e.purse_in (first_of owed) None (port_at c rows (Acquisition k) false timer None (drop 1 owed) (cooled cooling))
  search_closes k seen owed step = let s = frame_step _ e q frame step in makes e q _ s.outcome

  -- a ranging window has a frame less
  pub range_goes_on : (onu left : ℕ) (seen : Bool) → (left == 1) ≡ false → IsStep (port_at c rows Measuring false timer (Some (window_of (Range onu) left seen)) [] cooling) e q
      → Makes e q e.purse_in None None (port_at c rows Measuring false timer (Some (window_of (Range onu) (left - 1) seen)) [] (cooled cooling))
  range_goes_on onu left seen more step =
      let p = port_at c rows Measuring false timer (Some (window_of (Range onu) left seen)) [] cooling in
      let s = frame_step p e q frame step in
      makes e q _
      (s.outcome ∙ ap (λ (b : Bool). step_result_with e.purse_in (state_begun p) None (cond b (close_response seen (Range onu) (asked_unit p (Range onu))) (ticks None (CountsDown ∷ []))) s.picked) more)

  -- a ranging window opens, where a unit is ranging and no search window is left
  pub range_opens_first : (onu : ℕ) → Ranges rows onu → IsStep (port_at c rows (Acquisition 0) false timer None [] cooling) e q
      → (least : ℕ) × Ranges rows least × Makes e q e.purse_in None (Some (Range least)) (port_at c rows Measuring false timer (Some (window_of (Range least) 3 false)) [] (cooled cooling))
  range_opens_first onu some step = let s = frame_step _ e q frame step in by_least s.ranging s.next s.picked s.least s.outcome
    where
      by_least : (r next : Option ℕ) (picked : ℕ) → IsLeastRanging rows r
          → entry_outcome e q ≡ step_result_with e.purse_in (state_begun (port_at c rows (Acquisition 0) false timer None [] cooling)) None (frame_response (port_at c rows (Acquisition 0) false timer None [] cooling) r next) picked
          → (least : ℕ) × Ranges rows least × Makes e q e.purse_in None (Some (Range least)) (port_at c rows Measuring false timer (Some (window_of (Range least) 3 false)) [] (cooled cooling))
      by_least None next picked none is = absurd (none onu some)
      by_least (Some least) next picked is_least is = (least, is_least.0, makes e q _ is)

  pub range_opens : (onu : ℕ) → Ranges rows onu → IsStep (port_at c rows Measuring false timer None [] cooling) e q
      → (least : ℕ) × Ranges rows least × Makes e q e.purse_in None (Some (Range least)) (port_at c rows Measuring false timer (Some (window_of (Range least) 3 false)) [] (cooled cooling))
  range_opens onu some step = let s = frame_step _ e q frame step in by_least s.ranging s.next s.picked s.least s.outcome
    where
      by_least : (r next : Option ℕ) (picked : ℕ) → IsLeastRanging rows r
          → entry_outcome e q ≡ step_result_with e.purse_in (state_begun (port_at c rows Measuring false timer None [] cooling)) None (frame_response (port_at c rows Measuring false timer None [] cooling) r next) picked
          → (least : ℕ) × Ranges rows least × Makes e q e.purse_in None (Some (Range least)) (port_at c rows Measuring false timer (Some (window_of (Range least) 3 false)) [] (cooled cooling))
      by_least None next picked none is = absurd (none onu some)
      by_least (Some least) next picked is_least is = (least, is_least.0, makes e q _ is)

-- ---- bursts

-- the response to the first burst of an admitted unit in a search window
pub newcomer : (u : ℕ) (p : PortState) (at : ℕ) (w : WindowState) (s : Serial) (random : ℕ) → p.window ≡ Some w → w.grant ≡ Search → is_among s p.config.admitted ≡ true → contains p.disabled s ≡ false → get p.rows s ≡ None
    → has_free_onu p ≡ true → (u == 0) ≡ false → has_room p ≡ true → burst_response u p at (Some (SerialNumber 255 s random 0)) ≡ GivesOnu s
newcomer u p at w s random opened asks admitted enabled inactive some licensed roomy =
    ap (λ (o : Option WindowState). windowed_response u p at (Some (SerialNumber 255 s random 0)) o) opened
    ∙ ap (λ (g : Grant). message_response u p at g (SerialNumber 255 s random 0)) asks
    ∙ rw (admitted, enabled, inactive, some, licensed, roomy) refl

-- the response to the serial number of the ranging unit that is asked
pub measured : (u : ℕ) (p : PortState) (at : ℕ) (w : WindowState) (s : Serial) (row : Row) (random : ℕ) → p.window ≡ Some w → w.grant ≡ Range row.onu → unit_with p.rows row.onu ≡ Some (s, row)
    → equalization_delay p.config.teqd at ≡ Some (p.config.teqd - at) → has_room p ≡ true
    → burst_response u p at (Some (SerialNumber row.onu s random 0))
    ≡ replies (Ranged row.onu (p.config.teqd - at)) (ClosesWindow ∷ SetsRow s (row_measured row (p.config.teqd - at)) ∷ Owes (RangingTime row.onu (p.config.teqd - at)) ∷ [])
measured u p at w s row random opened asks found near roomy =
    ap (λ (o : Option WindowState). windowed_response u p at (Some (SerialNumber row.onu s random 0)) o) opened
    ∙ ap (λ (g : Grant). message_response u p at g (SerialNumber row.onu s random 0)) asks
    ∙ ap (λ (o : Option (Serial × Row)). directed_response (λ serial its heard. ranging_response p at serial its heard) row.onu (SerialNumber row.onu s random 0) o) found
    ∙ rw (eq-eqb row.onu row.onu refl, same_serial-itself s, near, roomy) refl
