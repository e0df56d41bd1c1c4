use Rattle.std.proofs.Common.{sym, ◌∙◌}
use Rattle.hear_notes.proofs.About.{all_serials_told}
use Rattle.hear_notes.proofs.sent.SentBook.sent.Goals as goal

pub returns-in-AllSerials-clause-tells : goal.returns-in-AllSerials-clause-tells
returns-in-AllSerials-clause-tells c = λ tallies agree.
    all_serials_told c.note_all_serials.new.self c.args.now c.args.message.now tallies (sym c.place_of.ensures ∙ c.in-AllSerials.is) (c.note_all_serials.ensures.tells tallies agree)
