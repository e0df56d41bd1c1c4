-- What may happen anywhere (this profile's own rule): each function is given the tables `SAYINGS` and `ORDERS`.
use Rattle.std.specs.Prelude.{ℕ, ◌+◌, ◌%◌, ◌==◌, if◌then◌else◌, List, length, nat_lt, slice_index_or}
use Rattle.gp_generate.specs.declared.chance.Draw.{Draw}
use Rattle.gp_generate.specs.declared.plan.Wish.{Wish}
use Rattle.gp_generate.specs.declared.step.Order.{Order}
use Rattle.gp_generate.specs.declared.step.Order.TheVariants as order
use Rattle.gp_generate.specs.declared.step.Words.{Words}
use Rattle.gp_generate.specs.declared.step.Words.TheVariants as words
use Rattle.gp_generate.specs.declared.action.Action.{Action}
use Rattle.gp_generate.specs.declared.action.Action.TheVariants.{Frames, Say, Ask, Light}

abbrev pub any_order : List Order → Draw → Action
any_order orders draw = Ask (slice_index_or orders (draw.what % length orders) order.Search)

abbrev pub any_words : List Words → Draw → Action
any_words sayings draw = Say (slice_index_or sayings (draw.what % length sayings) (words.New 0))

-- so many frames, or fewer
abbrev pub any_frames : Draw → ℕ → Action
any_frames draw most = Frames (draw.what % most + 1)

-- at a port without simulated units: three times in eight frames, twice an order, three times a burst
abbrev pub wild_action : List Words → List Order → Draw → Action
wild_action sayings orders draw =
    if nat_lt (draw.which % 8) 3 then any_frames draw 12
    else if nat_lt (draw.which % 8) 5 then any_order orders draw
    else any_words sayings draw

-- in a world of them: six times in sixteen frames, twice a search, four times an order, three times light, once a burst
abbrev pub world_action : List Words → List Order → Draw → Action
world_action sayings orders draw =
    if nat_lt (draw.which % 16) 6 then any_frames draw 64
    else if nat_lt (draw.which % 16) 8 then Ask order.Search
    else if nat_lt (draw.which % 16) 12 then any_order orders draw
    else if nat_lt (draw.which % 16) 15 then Light (draw.what % 2 == 0)
    else any_words sayings draw

abbrev pub any_action : List Words → List Order → Wish → Draw → Action
any_action sayings orders plan draw =
    if plan.units == 0 then wild_action sayings orders draw else world_action sayings orders draw
