use Rattle.std.proofs.Common.{◌≡◌, ◌↔◌, [], ◌∷◌, Some, IsTrue}
use Rattle.gp_script.specs.declared.script.ScriptEvent.TheVariants.{Frames}
use Rattle.gp_replay.proofs.PlayingLemmas.{chassis_keeps, makes_told, one_grants}
use Rattle.gp_replay.proofs.playing.PlayerEventPlayer.play_frame.Goals as goal

pub returns-clause-made : goal.returns-clause-made
returns-clause-made g c =
    let told = c.in_ok-made.ensures.made in
    let entry = told.receipt.entry in
    let made : IsTrue c.is_grant.result ↔ (entry.answer.grant ≡ Some c.args.grant) = rw told.grant_is at c.is_grant.ensures in
    makes_told c.args.out.now.mask c.args.grant (entry ∷ []) c.is_grant.result _ _ _ _ _ (one_grants c.args.grant entry _ made) told.written

pub returns-clause-keeps : goal.returns-clause-keeps
returns-clause-keeps g c =
    let written = c.in_ok-made.ensures.made.written in
    chassis_keeps (Frames c.args.port 1) c.args.self.now c.play_turn.new.player written.receipts c.in_ok-made.ensures.ports written.happened.0
