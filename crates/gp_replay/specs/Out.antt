-- Where the lines of a trace go, while it is lent on (this profile's own rule).
use Rattle.std.specs.Prelude.{◌≡◌}
use Rattle.gp_replay.specs.declared.trace_out.TraceOut.{TraceOut}

-- the mask stays, and the sink and the buffer are still those that were lent
abbrev pub KeepsOut : {W : Type 0} → TraceOut W → TraceOut W → Type 0
KeepsOut old new =
    (new.mask ≡ old.mask)
    × (new.sink.ghost_name ≡ old.sink.ghost_name)
    × (new.buffer.ghost_name ≡ old.buffer.ghost_name)
