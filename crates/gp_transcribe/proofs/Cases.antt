-- Worked cases of what is written.
use Rattle.std.proofs.Common.{◌≡◌, true, false, [], ◌∷◌, None, Some, codes, refl}
use Rattle.std.specs.Fmt.{digits}
use Rattle.hex.specs.Hex.{encode_with}
use Rattle.gp_ranging.specs.declared.grant.Grant.TheVariants as grants
use Rattle.gp_log.specs.declared.said.Said.{Said}
use Rattle.gp_log.specs.declared.said.Said.TheVariants as said
use Rattle.gp_log.specs.Text.{entry_text}
use Rattle.gp_transcribe.specs.Entries.{frames_with, said_lines}

abbrev sent : Said
sent = said.Down (255 ∷ 3 ∷ 0 ∷ 65 ∷ 66 ∷ 67 ∷ 68 ∷ 0 ∷ 0 ∷ 0 ∷ 1 ∷ 0 ∷ 27 ∷ [])

abbrev heard : Said
heard = said.Up (255 ∷ 1 ∷ 65 ∷ 66 ∷ 67 ∷ 68 ∷ 0 ∷ 0 ∷ 0 ∷ 1 ∷ 0 ∷ 0 ∷ 44 ∷ []) (Some 100000)

-- a frame is counted, a burst is not
frames_counted : frames_with true 4 ≡ 5
frames_counted = refl

frames_kept : frames_with false 5 ≡ 5
frames_kept = refl

-- what was sent stands before what was granted
frame_written : said_lines 15 7 (Some sent) (Some (said.Grant (grants.Poll 3)))
    ≡ codes "15 7 down ff03004142434400000001001b\n15 7 grant poll 3\n"
unfolding entry_text encode_with digits
frame_written = refl

burst_written : said_lines 0 5 (Some heard) None ≡ codes "0 5 up ff01414243440000000100002c 100000\n"
unfolding entry_text encode_with digits
burst_written = refl

command_written : said_lines 0 5 None None ≡ []
command_written = refl
