use Rattle.std.proofs.Common.{◌≡◌, ◌∷◌, true, false, codes, refl, sym, ◌∙◌}
use Rattle.std.specs.Str.{bytes_eq}
use Rattle.gp_lines.specs.Parts.{parts_of}
use Rattle.gp_lines.proofs.TurnLemmas.{frames_cut, until_cut, say_cut, event_cut}
use Rattle.gp_lines.proofs.turn.behind_turn.Goals as goal

pub returns-then-is_word : goal.returns-then-is_word
returns-then-is_word c =
    let apart : parts_of c.args.text.now ≡ c.cut.result.0.now ∷ parts_of c.in-Some.rest.now = rw (c.cut.ensures, c.in-Some.is) refl in
    let frame : bytes_eq c.cut.result.0.now (codes "frame") ≡ true = sym c.is_word.ensures ∙ c.if-is_word.true in
    c.frames_turn.ensures ∙ sym (frames_cut c.args.mask c.args.port c.args.text.now c.cut.result.0.now c.in-Some.rest.now apart frame)

pub returns-then-is_word-2 : goal.returns-then-is_word-2
returns-then-is_word-2 c =
    let apart : parts_of c.args.text.now ≡ c.cut.result.0.now ∷ parts_of c.in-Some.rest.now = rw (c.cut.ensures, c.in-Some.is) refl in
    let frame : bytes_eq c.cut.result.0.now (codes "frame") ≡ false = sym c.is_word.ensures ∙ c.if-is_word.false in
    let until : bytes_eq c.cut.result.0.now (codes "until") ≡ true = sym c.is_word-else-is_word.ensures ∙ c.if-is_word-2.true in
    c.until_turn.ensures ∙ sym (until_cut c.args.mask c.args.port c.args.text.now c.cut.result.0.now c.in-Some.rest.now apart frame until)

pub returns-then-is_word-3 : goal.returns-then-is_word-3
returns-then-is_word-3 c =
    let apart : parts_of c.args.text.now ≡ c.cut.result.0.now ∷ parts_of c.in-Some.rest.now = rw (c.cut.ensures, c.in-Some.is) refl in
    let frame : bytes_eq c.cut.result.0.now (codes "frame") ≡ false = sym c.is_word.ensures ∙ c.if-is_word.false in
    let until : bytes_eq c.cut.result.0.now (codes "until") ≡ false = sym c.is_word-else-is_word.ensures ∙ c.if-is_word-2.false in
    let say : bytes_eq c.cut.result.0.now (codes "say") ≡ true = sym c.is_word-else-is_word-2.ensures ∙ c.if-is_word-3.true in
    c.say_turn.ensures ∙ sym (say_cut c.args.mask c.args.port c.args.text.now c.cut.result.0.now c.in-Some.rest.now apart frame until say)

pub returns-else-is_word-3 : goal.returns-else-is_word-3
returns-else-is_word-3 c =
    let apart : parts_of c.args.text.now ≡ c.cut.result.0.now ∷ parts_of c.in-Some.rest.now = rw (c.cut.ensures, c.in-Some.is) refl in
    let frame : bytes_eq c.cut.result.0.now (codes "frame") ≡ false = sym c.is_word.ensures ∙ c.if-is_word.false in
    let until : bytes_eq c.cut.result.0.now (codes "until") ≡ false = sym c.is_word-else-is_word.ensures ∙ c.if-is_word-2.false in
    let say : bytes_eq c.cut.result.0.now (codes "say") ≡ false = sym c.is_word-else-is_word-2.ensures ∙ c.if-is_word-3.false in
    c.event_turn-else-is_word-3.ensures ∙ sym (event_cut c.args.mask c.args.port c.args.text.now c.cut.result.0.now c.in-Some.rest.now apart frame until say)
