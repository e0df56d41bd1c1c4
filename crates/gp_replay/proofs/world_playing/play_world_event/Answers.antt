use Rattle.gp_script.specs.declared.script.ScriptEvent.TheVariants as events
use Rattle.std.proofs.Common.{◌≡◌, Bool, true, false, rules, ap, ◌∙◌, subst, sym}
use Rattle.gp_script.specs.declared.script.ScriptEvent.{ScriptEvent}
use Rattle.gp_replay.specs.WorldPlay.{WorldTakes}
use Rattle.gp_replay.specs.WorldWriting.{Numbered, WorldTakesPart, lost_by}
use Rattle.gp_replay.specs.Writing.{PlaysOn}
use Rattle.gp_replay.proofs.WorldPlayLemmas.{step_plays}
use Rattle.gp_replay.proofs.world_playing.play_world_event.Goals as goal
use Rattle.gp_replay.proofs.world_playing.play_world_event.Goals.{in-Burst, in-Command, in-Light-default-true, in-Light-default-false}

pub returns-in-Frames-clause-plays : goal.returns-in-Frames-clause-plays
returns-in-Frames-clause-plays g c =
    let losses = lost_by c.args.losses.now in
    subst
    (λ (e : ScriptEvent). PlaysOn c.args.out.now.mask (Numbered (WorldTakes losses e)) (Numbered (WorldTakesPart losses e)) c.args.player.now c.play_frames.new.player c.args.out.now.sink.now
    c.play_frames.new.out.sink.now c.play_frames.result)
    (sym c.in-Frames.is) c.play_frames.ensures.plays

pub returns-clause-plays : goal.returns-clause-plays
returns-clause-plays g c = elim c.match-event.branch [
  | in-Burst w ↦ step_plays c.args.out.now.mask (lost_by c.args.losses.now) c.args.event.now c.match-event.step _ _ c.args.player.now c.play_step.new.player _ _ c.play_step.result w.in-Burst.is w.step-is (λ h. h) c.play_step.ensures.plays
  | in-Command w ↦ step_plays c.args.out.now.mask (lost_by c.args.losses.now) c.args.event.now c.match-event.step _ _ c.args.player.now c.play_step.new.player _ _ c.play_step.result w.in-Command.is w.step-is (λ h. h) c.play_step.ensures.plays
  | in-Light-default-true w ↦
      let on : w.in-Light-default-true.lit ≡ true = search rules in
      let is : c.args.event.now ≡ events.Light w.in-Light-default-true.unit true = w.in-Light-default-true.is ∙ ap (λ (lit : Bool). events.Light w.in-Light-default-true.unit lit) on in
      step_plays c.args.out.now.mask (lost_by c.args.losses.now) c.args.event.now c.match-event.step _ _ c.args.player.now c.play_step.new.player _ _ c.play_step.result is w.step-is (λ h. h) c.play_step.ensures.plays
  | in-Light-default-false w ↦
      let off : w.in-Light-default-false.lit ≡ false = search rules in
      let is : c.args.event.now ≡ events.Light w.in-Light-default-false.unit false = w.in-Light-default-false.is ∙ ap (λ (lit : Bool). events.Light w.in-Light-default-false.unit lit) off in
      step_plays c.args.out.now.mask (lost_by c.args.losses.now) c.args.event.now c.match-event.step _ _ c.args.player.now c.play_step.new.player _ _ c.play_step.result is w.step-is (λ h. h) c.play_step.ensures.plays
]
