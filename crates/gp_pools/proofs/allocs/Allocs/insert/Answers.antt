use Rattle.gp_pools.proofs.Further.{get-remove_same, insert-remove, len-remove_room}
use Rattle.gp_pools.proofs.allocs.Allocs.insert.Goals as goal

pub add-requires-clause-room : goal.add-requires-clause-room
add-requires-clause-room c = rw c.remove.ensures.rest (len-remove_room c.args.self.now c.args.alloc c.remove.ensures.few c.requires.room)

pub add-requires-clause-new : goal.add-requires-clause-new
add-requires-clause-new c = rw c.remove.ensures.rest (get-remove_same c.args.self.now c.args.alloc)

pub returns : goal.returns
returns c = rw (c.add.ensures, c.remove.ensures.rest) (insert-remove c.args.self.now c.args.alloc c.args.leaving)
