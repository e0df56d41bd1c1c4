-- The scenes that a script is made of (this profile's own rule).
use Rattle.std.specs.Prelude.{ℕ, ◌-◌, ◌/◌, ◌%◌, ◌==◌, ◌||◌, if◌then◌else◌, List, [], ◌∷◌, Option, None, length, nat_le, nat_lt, slice_get}
use Rattle.gp_generate.specs.declared.scene.Scene.{Scene}
use Rattle.gp_generate.specs.declared.scene.Scene.TheVariants as scene
use Rattle.gp_generate.specs.declared.step.Opening.{Opening}
use Rattle.gp_generate.specs.declared.step.Opening.TheVariants.{Anywhere, Window, Found, Operating}
use Rattle.gp_generate.specs.declared.step.Order.TheVariants as orders
use Rattle.gp_generate.specs.declared.step.Step.{Step}
use Rattle.gp_generate.specs.declared.step.Step.TheVariants.{Frames, Ranging, Say, Ask, Wild}
use Rattle.gp_generate.specs.declared.step.Words.TheVariants as words

-- where a scene begins
abbrev pub opening_of : Scene → Opening
opening_of scene.Anything = Anywhere
opening_of scene.Stray = Window
opening_of scene.Flood = Anywhere
opening_of scene.FloodedWindow = Window
opening_of scene.Silent = Operating
opening_of scene.Garbled = Operating
opening_of scene.Elsewhere = Operating
opening_of scene.Answers = Operating
opening_of scene.Unacknowledged = Operating
opening_of scene.ManyAllocs = Operating
opening_of scene.GivenBack = Operating
opening_of scene.Gasps = Operating
opening_of scene.Popup = Operating
opening_of scene.PopupAll = Operating
opening_of scene.Removed = Operating
opening_of scene.Disabled = Operating
opening_of scene.Early = Found
opening_of scene.TooFar = Found
opening_of scene.StillRanging = Found
opening_of scene.GaspsEarly = Found
opening_of scene.Other = Found
opening_of scene.SilentEarly = Found
opening_of scene.NoAnswer = Window
opening_of scene.Three = Window
opening_of scene.Random = Window
opening_of scene.Twice = Window
opening_of scene.Again = Window
opening_of scene.Anew = Operating
opening_of scene.SearchTwice = Anywhere
opening_of scene.Nobody = Operating

-- the steps of a turn; four frames go by from one poll window to the next, where nothing is said
abbrev pub turn_of : Scene → List Step
turn_of scene.Anything = Wild ∷ []
turn_of scene.Stray = Wild ∷ Frames 3 ∷ Say (words.New 0) ∷ Frames 30 ∷ Say words.Nothing ∷ []
turn_of scene.Flood = Ask orders.PopupAll ∷ []
turn_of scene.FloodedWindow = Ask orders.EnableAll ∷ Say (words.New 0) ∷ []
turn_of scene.Silent = Frames 4 ∷ []
turn_of scene.Garbled = Say words.Garbled ∷ Frames 4 ∷ []
turn_of scene.Elsewhere = Say words.Elsewhere ∷ Frames 4 ∷ []
turn_of scene.Answers = Say words.Nothing ∷ Frames 1 ∷ []
turn_of scene.Unacknowledged = Ask orders.Alloc ∷ Say words.Nothing ∷ Frames 4 ∷ []
turn_of scene.ManyAllocs = Ask orders.Alloc ∷ Frames 4 ∷ Say words.Ack ∷ Frames 1 ∷ []
turn_of scene.GivenBack =
    Ask orders.Alloc ∷ Frames 4 ∷ Say words.Ack ∷ Ask orders.Dealloc ∷ Ask orders.Show ∷ Frames 4 ∷ Say words.Ack
    ∷ Ask orders.Dealloc ∷ Frames 1 ∷ []
turn_of scene.Gasps = Say words.Gasp ∷ Frames 4 ∷ []
turn_of scene.Popup = Ask orders.Popup ∷ Frames 4 ∷ Say words.Nothing ∷ Frames 1 ∷ []
turn_of scene.PopupAll = Ask orders.PopupAll ∷ Frames 5 ∷ Say words.Own ∷ Frames 5 ∷ []
turn_of scene.Removed =
    Ask orders.Show ∷ Ask orders.Deactivate ∷ Ask orders.Show ∷ Ask orders.Deactivate ∷ Ask orders.Alloc ∷ []
turn_of scene.Disabled =
    Ask orders.Disable ∷ Ask orders.Search ∷ Frames 8 ∷ Say (words.New 0) ∷ Ask orders.Enable ∷ Ask orders.Disable ∷ []
turn_of scene.Early = Ask orders.Alloc ∷ Ask orders.Popup ∷ Ask orders.Dealloc ∷ Ask orders.Show ∷ []
turn_of scene.TooFar = Say words.Far ∷ Frames 4 ∷ []
turn_of scene.StillRanging = Say words.Nothing ∷ Frames 4 ∷ []
turn_of scene.GaspsEarly = Say words.Gasp ∷ Frames 4 ∷ []
turn_of scene.Other = Say words.Other ∷ Frames 4 ∷ []
turn_of scene.SilentEarly = Frames 4 ∷ []
turn_of scene.NoAnswer = Say words.Stranger ∷ Say words.Garbled ∷ Say words.Nothing ∷ Say words.Far ∷ []
turn_of scene.Three = Say (words.New 0) ∷ Say (words.New 1) ∷ Say (words.New 2) ∷ Frames 6 ∷ Say words.Own ∷ []
turn_of scene.Random = Say words.Code ∷ Ranging ∷ Say words.Own ∷ Frames 5 ∷ Ask orders.Show ∷ []
turn_of scene.Twice = Say (words.New 0) ∷ Say (words.New 0) ∷ []
turn_of scene.Again = Say (words.New 0) ∷ Frames 4 ∷ []
turn_of scene.Anew = Ask orders.Search ∷ Frames 8 ∷ Say (words.New 0) ∷ []
turn_of scene.SearchTwice = Ask orders.Search ∷ []
turn_of scene.Nobody = Ask orders.ShowStranger ∷ Ask orders.PopupOther ∷ Ask orders.Show ∷ Frames 3 ∷ []

-- how often a turn comes
abbrev pub turns_of : Scene → ℕ
turns_of scene.Anything = 12
turns_of scene.Stray = 1
turns_of scene.Flood = 66
turns_of scene.FloodedWindow = 64
turns_of scene.Silent = 6
turns_of scene.Garbled = 4
turns_of scene.Elsewhere = 4
turns_of scene.Answers = 6
turns_of scene.Unacknowledged = 4
turns_of scene.ManyAllocs = 10
turns_of scene.GivenBack = 2
turns_of scene.Gasps = 3
turns_of scene.Popup = 2
turns_of scene.PopupAll = 2
turns_of scene.Removed = 1
turns_of scene.Disabled = 2
turns_of scene.Early = 1
turns_of scene.TooFar = 3
turns_of scene.StillRanging = 3
turns_of scene.GaspsEarly = 3
turns_of scene.Other = 3
turns_of scene.SilentEarly = 3
turns_of scene.NoAnswer = 1
turns_of scene.Three = 1
turns_of scene.Random = 1
turns_of scene.Twice = 2
turns_of scene.Again = 4
turns_of scene.Anew = 2
turns_of scene.SearchTwice = 3
turns_of scene.Nobody = 1

-- the steps that lead to where a scene begins: to a search window, a unit that is found there, and one that is ranged
abbrev pub opening_steps : List Step
opening_steps =
    Ask orders.EnableAll ∷ Frames 100 ∷ Ask orders.Search ∷ Frames 5 ∷ Say (words.New 0) ∷ Ranging ∷ Say words.Own
    ∷ Frames 5 ∷ []

-- how many of them there are
abbrev pub opening_length : Opening → ℕ
opening_length Anywhere = 0
opening_length Window = 4
opening_length Found = 6
opening_length Operating = 8

-- the step at a place of so many turns, counted from 0
abbrev pub turned : List Step → ℕ → ℕ → Option Step
turned turn turns place =
    if (length turn == 0) || nat_le turns (place / length turn) then None else slice_get turn (place % length turn)

-- the step at a place of a scene: first those of its opening, and then the turns; a thousand at most
abbrev pub step_at : Scene → ℕ → Option Step
step_at scene place =
    if nat_le 1000 place then None
    else if nat_lt place (opening_length (opening_of scene)) then slice_get opening_steps place
    else turned (turn_of scene) (turns_of scene) (place - opening_length (opening_of scene))
