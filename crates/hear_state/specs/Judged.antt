-- What is judged by, to the definitions (this profile's own rule).
use Rattle.hear_rules.specs.Rules as rules
use Rattle.hear_state.specs.declared.settings.Settings.{Settings}

abbrev pub settings_of : Settings → rules.Settings
settings_of settings =
    record {
      teqd = settings.teqd;
      tolerance = settings.tolerance;
      drift = settings.drift;
      grace = settings.grace;
    }
