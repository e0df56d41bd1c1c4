use Rattle.std.proofs.Common.{◌<◌, ℕ, arith, get_or}
use Rattle.gp_pools.proofs.Cool.{cool-tick, cooling-tick, of_frames, left_less, all_stay}
use Rattle.gp_pools.proofs.cooling.Cooling.tick.Goals as goal

pub invariant_of-self-then-self-eq1 : goal.invariant_of-self-then-self-eq1
invariant_of-self-then-self-eq1 c =
    let q = c.self.inside in
    let out = c.let_out-self-inside.ensures in
    let fits : (i : ℕ) → get_or q.leaves i 0 < 65536 = c.self.invariant.fits in
    cool-tick q.frames q.wait q.clock q.members c.let_out-self-inside.new.members q.leaves c.self.invariant fits (omega arith)
    (record { stays = out.stays; were = out.were; left = out.left }) c.let_out-self-inside.result out.later out.awaited
    (out.soon q.frames (λ n low has. let some = c.self.invariant.some n has in let less = left_less q.leaves q.clock n (fits n) (omega arith) some in let most = c.self.invariant.most n has in omega arith))

pub returns-then-self-eq1 : goal.returns-then-self-eq1
returns-then-self-eq1 c =
    let q = c.self.inside in
    let out = c.let_out-self-inside.ensures in
    let fits : (i : ℕ) → get_or q.leaves i 0 < 65536 = c.self.invariant.fits in
    rw (← c.self.view_is)
    (of_frames q.frames _ _ (cooling-tick q.frames q.wait q.clock q.members c.let_out-self-inside.new.members q.leaves c.self.invariant fits (omega arith) (record { stays = out.stays; were = out.were; left = out.left })))

pub returns-then-self-gt1 : goal.returns-then-self-gt1
returns-then-self-gt1 c =
    let q = c.self.inside in
    let fits : (i : ℕ) → get_or q.leaves i 0 < 65536 = c.self.invariant.fits in
    rw (← c.self.view_is)
    (of_frames q.frames _ _ (cooling-tick q.frames q.wait q.clock q.members q.members q.leaves c.self.invariant fits (omega arith)
    (all_stay q.frames q.wait q.clock q.members q.leaves c.self.invariant fits (omega arith) (λ n has. omega arith))))

pub returns-else-self-eq1 : goal.returns-else-self-eq1
returns-else-self-eq1 c =
    let q = c.self.inside in
    let fits : (i : ℕ) → get_or q.leaves i 0 < 65536 = c.self.invariant.fits in
    rw (← c.self.view_is)
    (of_frames q.frames _ _ (cooling-tick q.frames q.wait q.clock q.members q.members q.leaves c.self.invariant fits (omega arith)
    (all_stay q.frames q.wait q.clock q.members q.leaves c.self.invariant fits (omega arith) (λ n has. let some = c.self.invariant.awaited n has in absurd (omega arith)))))
