-- The settings that a render accepts. 01, number 6: "rate, waveform's duty or an ADSR setting outside the domain"; 02,
-- R-7: "6 covers the new settings". One test for all of them. Either keying is accepted (02, R-9). Definitions only.
use Rattle.std.specs.Prelude.{Bool, ◌&&◌}
use Rattle.domain.specs.Domain.{is_rate}
use Rattle.envelope.specs.Limits.{is_adsr}
use Rattle.waveform.specs.Waveform.{is_waveform}
use Rattle.tremolo.specs.Tremolo.{is_lfo}
use Rattle.state.specs.declared.Settings.{Settings}

abbrev pub settings_ok : Settings → Bool
settings_ok g = is_rate g.rate && is_waveform g.waveform && is_adsr g.adsr && is_lfo g.lfo
