use Rattle.std.proofs.Common.{◌<◌, length, ◌∙◌, arith}
use Rattle.std.proofs.lemmas.Option.{slice_get-get_or}
use Rattle.gp_fibre.proofs.Parts.{puts_more}
use Rattle.gp_fibre.proofs.running.arrive_all.Goals as goal

pub loop-place-preserved : goal.loop-place-preserved
loop-place-preserved g c =
    let so_far = c.loop-place.invariant.0 in
    let same = c.loop-place.invariant.1 in
    let now = c.arrive.ensures in
    let low : c.loop-place.place < length c.args.flights.now = omega arith in
    let puts = rw same at now.puts in (
      record {
        puts = puts_more c.args.fibre.now.world c.loop-place.fibre.world c.arrive.new.fibre.world c.args.lost.now c.args.frame c.loop-place.place c.args.flights.now _
            c.args.entries.now.items c.loop-place.entries.items c.arrive.new.entries.items (slice_get-get_or c.args.flights.now c.loop-place.place _ low) so_far.puts puts;
        counts = record { total = now.counts.total ∙ so_far.counts.total; frames = now.counts.frames ∙ so_far.counts.frames };
        room = record {
          copies = let a = so_far.room.copies in let b = now.room.copies in omega arith;
          grants = let a = so_far.room.grants in let b = now.room.grants in omega arith;
          entries = let a = so_far.room.entries in let b = now.room.entries in omega arith;
          capacity = now.room.capacity ∙ so_far.room.capacity;
        };
        proper = now.proper;
      },
      now.lost ∙ same,
    )
