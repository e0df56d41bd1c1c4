use Rattle.std.proofs.Common.{◌≡◌, ◌∙◌, ◌∷◌, [], ap, IsTrue, rules}
use Rattle.gp_machine.specs.declared.config.PortConfig.{PortConfig}
use Rattle.gp_machine.specs.Config.{is_within_limits}
use Rattle.gp_script.specs.View.{script_view}
use Rattle.gp_replay.specs.WorldPlay.{opening_fibre}
use Rattle.gp_replay.proofs.WorldPlayLemmas.{the_port, world_within}
use Rattle.gp_replay.proofs.opening.open_fibre.Goals as goal

pub begin-requires-clause-limits : goal.begin-requires-clause-limits
begin-requires-clause-limits g c =
    let within : IsTrue (is_within_limits c.index.result.now) = search rules in
    rw c.as_slice.ensures.value (world_within (script_view c.args.script) c.index.result.now c.requires.playable within)

pub returns-clause-player : goal.returns-clause-player
returns-clause-player g c =
    let script = script_view c.args.script in
    let world : c.in_ok-player.player.play.world ≡ opening_fibre script c.index.result.now = rw c.as_slice.ensures.value at c.in_ok-player.ensures.world in
    let port : script.ports ≡ c.index.result.now ∷ [] = the_port c.args.script.ports.items c.index.result.now (c.requires.playable.one_fibre c.requires.units) ∙ ap (λ (p : PortConfig). p ∷ []) (search rules) in
    record { config = c.index.result.now; one_port = port; world = world; next = c.in_ok-player.ensures.next; losses = c.in_ok-player.ensures.losses }
