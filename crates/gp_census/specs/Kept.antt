-- How what is counted is stored: as its parts (this profile's own rule).
-- Inside: no public contract cites this.
use Rattle.std.specs.Prelude.{refl}
use Rattle.std.specs.Coded.{Coded, code_by, coded×}
use Rattle.std.specs.FinMap as map
use Rattle.gp_ploam.specs.Serials.{coded_serial}
use Rattle.gp_census.specs.declared.sighting.PortCounts.{PortCounts}
use Rattle.gp_census.specs.contracts.sighting.Sighting as sighting
use Rattle.gp_census.specs.contracts.sighting.PortCounts as counts
use Rattle.gp_census.specs.Census.{Census, Sightings}

abbrev pub census_code : Coded Census
census_code =
    code_by (Sightings × PortCounts) (coded× (map.code coded_serial sighting.the_row.coded) counts.the_row.coded)
    (λ c. (c.units, c.port)) (λ p. record { units = p.0; port = p.1 }) (λ _. refl)
