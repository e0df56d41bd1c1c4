-- What stands before the events of a script (this profile's own rule).
use Rattle.std.specs.Prelude.{ℕ, zero, suc, ◌+◌, ◌*◌, ◌/◌, ◌%◌, ◌==◌, if◌then◌else◌, List, [], ◌++◌, codes, decimal, min}
use Rattle.gp_ploam.specs.declared.check.Mask.{Mask}
use Rattle.gp_ploam.specs.declared.check.Mask.TheVariants as masks
use Rattle.gp_serial.specs.Spelling.{text_of_serial}
use Rattle.gp_generate.specs.declared.chance.Draw.{Draw}
use Rattle.gp_generate.specs.declared.chance.Drawn.TheVariants.{Top, Ports, Units, Losses}
use Rattle.gp_generate.specs.declared.mistake.Mistake.{Mistake}
use Rattle.gp_generate.specs.declared.mistake.Mistake.TheVariants.{AdmittedTwice}
use Rattle.gp_generate.specs.declared.plan.Wish.{Wish}
use Rattle.gp_generate.specs.Cast.{serial_of}
use Rattle.gp_generate.specs.Chance.{drawn_for}
use Rattle.gp_generate.specs.Fields.{number_line, text_line}
use Rattle.gp_generate.specs.Mistakes.{mistake_by}
use Rattle.gp_generate.specs.Plan.{admitted, cast_units, cycles_of, mask_of}

-- ---- the top

abbrev pub licences : Wish → Draw → ℕ
licences plan draw = draw.which % (cast_units plan * plan.ports + 1) + 1

abbrev pub mask_number : Mask → ℕ
mask_number masks.Plain = 0
mask_number masks.Coset = 85

unfoldable pub option_text : List ℕ → ℕ → List ℕ
option_text name value = name ++ decimal value

-- by which words the script was asked for: its size, and what is in it
unfoldable pub tool_text : List ℕ
tool_text = codes "# oltctl generate"

unfoldable pub seed_text : ℕ → List ℕ
seed_text seed = tool_text ++ option_text (codes " --seed ") seed

unfoldable pub size_text : ℕ → ℕ → ℕ → List ℕ
size_text seed ports units =
    seed_text seed ++ option_text (codes " --ports ") ports ++ option_text (codes " --units ") units

unfoldable pub content_text : ℕ → ℕ → List ℕ
content_text events mistakes =
    option_text (codes " --events ") events ++ option_text (codes " --mistakes ") mistakes ++ codes "\n"

unfoldable pub asked_text : Wish → List ℕ
asked_text plan = size_text plan.seed plan.ports plan.units ++ content_text plan.events plan.mistakes

unfoldable pub top_text : Wish → Draw → List ℕ
top_text plan draw =
    asked_text plan ++ number_line (codes "licences") (licences plan draw)
    ++ number_line (codes "mask") (mask_number (mask_of plan)) ++ codes "\n"

abbrev pub top_draw : ℕ → Draw
top_draw seed = drawn_for seed Top 0

-- ---- the ports

abbrev pub comma_text : ℕ → List ℕ
comma_text place = if place == 0 then [] else codes ", "

abbrev pub admitted_text : ℕ → ℕ → List ℕ
admitted_text port unit = comma_text unit ++ codes "\"" ++ text_of_serial (serial_of port unit) ++ codes "\""

-- the units of a port that are admitted
abbrev pub all_admitted : ℕ → ℕ → List ℕ
all_admitted port zero = []
all_admitted port (suc units) = all_admitted port units ++ admitted_text port units

-- the first unit of the first port once more, for each mistake that is that
abbrev pub twice_if : Mistake → List ℕ
twice_if AdmittedTwice = codes ", \"ABCD00000000\""
twice_if _ = []

abbrev pub twice_text : List Mistake → ℕ → ℕ → List ℕ
twice_text all seed zero = []
twice_text all seed (suc mistakes) = twice_text all seed mistakes ++ twice_if (mistake_by all seed mistakes)

abbrev pub port_mistakes : List Mistake → Wish → ℕ → List ℕ
port_mistakes all plan port = if port == 0 then twice_text all plan.seed plan.mistakes else []

abbrev pub max_units : Wish → Draw → ℕ
max_units plan draw = min (draw.who % (cast_units plan + 1) + 1) 254

abbrev pub alloc_last : Draw → ℕ
alloc_last draw = if draw.what % 4 == 0 then 256 else 4095

abbrev pub search_period : Draw → ℕ
search_period draw = if draw.place % 4 == 0 then 200 else 0

unfoldable pub limits_text : Wish → ℕ → Draw → List ℕ
limits_text plan port draw =
    number_line (codes "max_units") (max_units plan draw) ++ number_line (codes "alloc_last") (alloc_last draw)
    ++ number_line (codes "cycles") (cycles_of plan port) ++ number_line (codes "search_period") (search_period draw)
    ++ number_line (codes "quarantine") (draw.place / 4 % 3 * 10)

unfoldable pub port_text : List Mistake → Wish → ℕ → Draw → List ℕ
port_text all plan port draw =
    codes "[[port]]\n" ++ limits_text plan port draw ++ codes "admit = [" ++ all_admitted port (admitted plan)
    ++ port_mistakes all plan port ++ codes "]\n\n"

-- so many ports, each by its own draw
abbrev pub ports_text : List Mistake → Wish → ℕ → List ℕ
ports_text all plan zero = []
ports_text all plan (suc port) = ports_text all plan port ++ port_text all plan port (drawn_for plan.seed Ports port)

-- ---- simulated units, and what is lost

abbrev pub delay_of : Draw → ℕ
delay_of draw = if draw.which % 8 == 0 then draw.who % 311000 + 311041 else draw.who % 300000

unfoldable pub unit_text : ℕ → Draw → List ℕ
unit_text unit draw =
    codes "[[unit]]\n" ++ text_line (codes "serial") (text_of_serial (serial_of 0 unit))
    ++ number_line (codes "delay") (delay_of draw) ++ number_line (codes "random") (draw.what % 4096) ++ codes "\n"

abbrev pub units_text : Wish → ℕ → List ℕ
units_text plan zero = []
units_text plan (suc unit) = units_text plan unit ++ unit_text unit (drawn_for plan.seed Units unit)

abbrev pub lost_name : Draw → List ℕ
lost_name draw = if draw.which % 2 == 0 then codes "copy" else codes "burst"

unfoldable pub loss_text : Wish → Draw → List ℕ
loss_text plan draw =
    codes "[[lose]]\n" ++ number_line (lost_name draw) (draw.who % (40 * cast_units plan)) ++ codes "\n"

abbrev pub losses_text : Wish → ℕ → List ℕ
losses_text plan zero = []
losses_text plan (suc unit) = losses_text plan unit ++ loss_text plan (drawn_for plan.seed Losses unit)

-- all that stands before the events
unfoldable pub head_text : List Mistake → Wish → List ℕ
head_text all plan =
    top_text plan (top_draw plan.seed) ++ ports_text all plan plan.ports ++ units_text plan plan.units
    ++ losses_text plan plan.units
