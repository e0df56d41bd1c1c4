-- A volley kept as plain data (this profile's own rule). No statement of another crate cites it.
-- Inside: no public contract cites this.
use Rattle.gp_volley.specs.Volley.{VolleyState}
use Rattle.gp_volley.specs.declared.owed_image.VolleyImage.{VolleyImage}

-- the volley that an image has
abbrev pub volley_in : VolleyImage → VolleyState
volley_in image = record { message = image.message; left = image.left }
