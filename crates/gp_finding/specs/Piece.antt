-- The pieces that texts are made of (this profile's own rule).
-- Inside: no public contract cites this.
use Rattle.std.specs.Prelude.{ℕ, List, [], ◌∷◌, ◌++◌, decimal}
use Rattle.hex.specs.Hex.{encode_lower}
use Rattle.gp_serial.specs.Spelling.{text_of_serial}
use Rattle.gp_finding.specs.declared.piece.Piece.{Piece}
use Rattle.gp_finding.specs.declared.piece.Piece.TheVariants as pieces

-- a piece of a text
abbrev pub piece_text : Piece → List ℕ
piece_text (pieces.Word word) = word.now
piece_text (pieces.Count count) = decimal count
piece_text (pieces.Delay delay) = decimal delay
piece_text (pieces.Alloc alloc) = decimal alloc
piece_text (pieces.Onu onu) = decimal onu
piece_text (pieces.Digits octet) = encode_lower (octet ∷ [])
piece_text (pieces.Serial serial) = text_of_serial serial

-- pieces behind a text, one after another
abbrev pub joined : List ℕ → List Piece → List ℕ
joined front [] = front
joined front (piece ∷ pieces) = joined (front ++ piece_text piece) pieces

-- pieces, one after another
abbrev pub pieces_text : List Piece → List ℕ
pieces_text [] = []
pieces_text (piece ∷ pieces) = joined (piece_text piece) pieces
