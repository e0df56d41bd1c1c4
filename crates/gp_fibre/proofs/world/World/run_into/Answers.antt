use Rattle.std.proofs.Common.{ℕ, List, ap, ◌∙◌, arith}
use Rattle.gp_fibre.specs.declared.losses.Losses.{Losses}
use Rattle.gp_fibre.proofs.Playing.{frames_more}
use Rattle.gp_fibre.proofs.world.World.run_into.Goals as goal

pub loop-preserved : goal.loop-preserved
loop-preserved g c =
    let so_far = c.loop.invariant in
    let now = c.in_default.ensures in
    let copies = ap (λ (l : Losses). l.copies) so_far.losses in
    let bursts = ap (λ (l : Losses). l.bursts) so_far.losses in
    record {
      ran = frames_more c.args.losses.now.copies c.args.losses.now.bursts c.loop.counter c.args.self.now c.loop.self c.run_frame.new.self
          c.loop.entries.items c.run_frame.new.entries.items so_far.ran (rw (copies, bursts) at now.runs);
      proper = now.proper;
      capacity = let before = so_far.capacity in let more = now.capacity in omega arith;
      losses = ap (λ (copies : List ℕ). let l : Losses = record { copies = copies; bursts = c.run_frame.new.lost_bursts } in l) now.lost_copies
          ∙ ap (λ (bursts : List ℕ). let l : Losses = record { copies = c.loop.losses.copies; bursts = bursts } in l) now.lost_bursts ∙ so_far.losses;
    }
