-- One place for a further Alloc-ID of a unit (this profile's own rule).
-- Inside: no public contract cites this.
use Rattle.std.proofs.Common.{◌≡◌, ℕ, Bool, true, false, Option, None, Some, refl}
use Rattle.gp_pools.specs.declared.place.Content.{Content}
use Rattle.gp_pools.specs.declared.place.Content.TheVariants.{Nothing, Held, Leaving}

-- what stands in a place: nothing, or an Alloc-ID and whether it is leaving
abbrev pub alloc_in : Content → Option (ℕ × Bool)
alloc_in Nothing = None
alloc_in (Held alloc) = Some (alloc, false)
alloc_in (Leaving alloc) = Some (alloc, true)

-- the place in which that stands
abbrev pub content_of : Option (ℕ × Bool) → Content
content_of None = Nothing
content_of (Some (alloc, false)) = Held alloc
content_of (Some (alloc, true)) = Leaving alloc

-- the law by which a place may be copied and compared
pub same_content : (content : Content) → content_of (alloc_in content) ≡ content
same_content Nothing = refl
same_content (Held alloc) = refl
same_content (Leaving alloc) = refl
