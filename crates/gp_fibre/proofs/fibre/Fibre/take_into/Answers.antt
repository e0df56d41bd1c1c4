use Rattle.std.proofs.Common.{refl, ap, ◌∙◌, arith, ℕ}
use Rattle.gp_ploam.specs.declared.message.Down.TheVariants.{NoMessage}
use Rattle.gp_ploam.specs.Down.{IsProperDown}
use Rattle.gp_ranging.specs.declared.grant.Grant.TheVariants.{Search}
use Rattle.gp_fibre.specs.World.{Forgotten}
use Rattle.gp_fibre.proofs.Keeping.{holds_more, kept_more}
use Rattle.gp_fibre.proofs.fibre.Fibre.take_into.Goals as goal

pub invariant_of-self : goal.invariant_of-self
invariant_of-self g c =
    let i = c.self.inside in
    let was = c.self.invariant in
    let copies = was.2 in
    let grants = was.3 in (
      holds_more IsProperDown i.copies.items.items c.add.new.self.items.items _ c.add.ensures.items was.0 c.step_entry-rest.ensures.makes.proper,
      omega (arith, c.give.ensures.free, c.give.ensures.total, c.take_purse-purse.ensures.free, c.take_purse-purse.ensures.total, c.step_entry-rest.ensures.makes.licences, was.1),
      omega (arith, c.add.ensures.forgotten),
      omega (arith, c.add-2.ensures.forgotten),
      was.4,
    )

pub returns-clause-taken : goal.returns-clause-taken
returns-clause-taken g c =
    let i = c.self.inside in
    let told = c.step_entry-rest.ensures in
    let taken = c.take_purse-purse.ensures.free in
    let given = c.give.ensures.free in
    rw (← c.self.view_is)
    (record {
      event_is = told.event;
      purse = told.purse_in ∙ c.take_purse-purse.ensures.purse;
      step = told.step;
      free = omega arith;
      units = refl;
      copies = kept_more NoMessage i.copies.forgotten c.add.new.self.forgotten i.copies.items.items c.add.new.self.items.items _ c.add.ensures.forgotten c.add.ensures.items;
      grants = kept_more Search i.grants.forgotten c.add-2.new.self.forgotten i.grants.items.items c.add-2.new.self.items.items _ c.add-2.ensures.forgotten c.add-2.ensures.items;
      bursts = refl;
      forgotten =
          ap (λ (n : ℕ). let f : Forgotten = record { copies = n; grants = c.add-2.new.self.forgotten; bursts = i.bursts.forgotten } in f) c.add.ensures.forgotten
          ∙ ap (λ (n : ℕ). let f : Forgotten = record { copies = i.copies.forgotten; grants = n; bursts = i.bursts.forgotten } in f) c.add-2.ensures.forgotten;
    })
