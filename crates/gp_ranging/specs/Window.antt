-- A window as contracts see it (this profile's own rule: three frames).
use Rattle.std.specs.Prelude.{ℕ, ◌-◌, ◌==◌, if◌then◌else◌, Bool, true, false, Option, None, Some}
use Rattle.gp_ranging.specs.declared.grant.Grant.{Grant}

-- for how many frames a window stays open
abbrev pub window_frames : ℕ
window_frames = 3

-- who was asked, for how many frames the window is still open, and whether anything was seen in it
pub record WindowState : Type 0 where
  pub grant : Grant
  pub left : ℕ
  pub seen : Bool

-- a window stays open for all its frames, and at first nothing was seen
abbrev pub fresh_window : Grant → WindowState
fresh_window grant = record { grant = grant; left = window_frames; seen = false }

-- the window once something was seen
abbrev pub marked_window : WindowState → WindowState
marked_window window = record window { seen = true }

-- the window after one frame more, or none: it ends with its last frame
abbrev pub window_after_frame : WindowState → Option WindowState
window_after_frame window = if window.left == 1 then None else Some (record window { left = window.left - 1 })
