-- What is drawn by chance: the words of PCG32 (O'Neill, 2014), four for each table, from a stream for each kind of
-- table (this profile's own rule).
use Rattle.std.specs.Prelude.{ℕ, zero, suc}
use Rattle.rand_pcg.specs.Lcg.{Lcg, started, increment_of}
use Rattle.rand_pcg.specs.Pcg.{multiplier_64, pcg32}
use Rattle.gp_generate.specs.declared.chance.Draw.{Draw}
use Rattle.gp_generate.specs.declared.chance.Drawn.{Drawn}
use Rattle.gp_generate.specs.declared.chance.Drawn.TheVariants.{Top, Ports, Units, Losses, Events}

abbrev pub stream_of : Drawn → ℕ
stream_of Top = 0
stream_of Ports = 1
stream_of Units = 2
stream_of Losses = 3
stream_of Events = 4

-- the generator behind a word
unfoldable pub behind_word : Lcg → Lcg
behind_word chance = (pcg32 chance).1

unfoldable pub word_of : Lcg → ℕ
word_of chance = (pcg32 chance).0

-- four words
unfoldable pub draw_of : Lcg → Draw
draw_of chance = record {
  which = word_of chance;
  who = word_of (behind_word chance);
  what = word_of (behind_word (behind_word chance));
  place = word_of (behind_word (behind_word (behind_word chance)));
}

-- the generator behind them
unfoldable pub behind : Lcg → Lcg
behind chance = behind_word (behind_word (behind_word (behind_word chance)))

-- the generator of a kind of table behind so many draws
unfoldable pub chance_behind : ℕ → Drawn → ℕ → Lcg
chance_behind seed drawn zero = started 64 multiplier_64 seed (increment_of 64 (stream_of drawn))
chance_behind seed drawn (suc count) = behind (chance_behind seed drawn count)

-- what is drawn for a table, counted from 0 among those of its kind
unfoldable pub drawn_for : ℕ → Drawn → ℕ → Draw
drawn_for seed drawn number = draw_of (chance_behind seed drawn number)
