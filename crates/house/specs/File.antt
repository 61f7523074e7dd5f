-- The house file: where its three sections stand, when it is well formed, and what it says. Definitions only.
-- docs/METHOD.md, 'Repeats and the house file'.
use Rattle.std.specs.Prelude.{ℕ, zero, suc, ◌+◌, ◌*◌, ◌/◌, ◌&&◌, cond, Option, None, Some, List, [], ◌∷◌, length, leb, eqb, Float}
use Rattle.laws.specs.Choice.{unless}
use Rattle.laws.specs.Floats.{f64}
use Rattle.bits.specs.Bytes.{u32_at, u64_at}
use Rattle.records.specs.declared.FitConfig.{FitConfig}
use Rattle.records.specs.Settings.{defaults_of}
use Rattle.house.specs.declared.Layout.{Layout}
use Rattle.house.specs.declared.Quote.{Quote}

-- a well-formed file with c settings records and n observations
abbrev pub File : ℕ → ℕ → Option Layout
File c n = Some record { settings = c; count = n }

-- settings count c is 0 or 1, expiry count e is 1, observation count n is at most 256, and the file is as long as they say
abbrev pub house_with : ℕ → ℕ → ℕ → ℕ → Option Layout
house_with c e n len = unless (leb c 1 && (eqb e 1 && (leb n 256 && eqb len (20 + 88 * c + 32 * n)))) None (File c n)

-- the settings count stands first, the expiry count after the settings, the observation count after tau; what is past the end reads as 0
unfoldable pub house_of : List ℕ → Option Layout
house_of s = house_with (u32_at s 0) (u32_at s (4 + 88 * u32_at s 0)) (u32_at s (16 + 88 * u32_at s 0)) (length s)

-- the float whose bits stand at a place
unfoldable pub f64_at : List ℕ → ℕ → Float
f64_at s at = f64 (u64_at s at)

-- tau stands after the expiry count: at 8, or at 96 where there are settings
abbrev pub tau_place : ℕ → ℕ
tau_place settings = cond (eqb settings 0) 8 96

unfoldable pub tau_of : List ℕ → ℕ → Float
tau_of s settings = f64_at s (tau_place settings)

-- eleven words as settings, in the order of `FitConfig`: whole numbers, and the bits of floats
abbrev pub settings_by : (ℕ → ℕ) → FitConfig
settings_by word =
    record {
      grid = word 0;
      refinements = word 1;
      max_recentres = word 2;
      sigma_lo = f64 (word 3);
      sigma_hi = f64 (word 4);
      a_min = f64 (word 5);
      min_observations = word 6;
      max_rmse_vol = f64 (word 7);
      pivot_tolerance = f64 (word 8);
      feasibility_tolerance = f64 (word 9);
      max_weight_ratio = f64 (word 10);
    }

-- the words stand after the settings count, eight bytes each
unfoldable pub settings_at : List ℕ → FitConfig
settings_at s = settings_by (λ i. u64_at s (4 + 8 * i))

-- no settings in the file: the defaults
unfoldable pub config_of : List ℕ → ℕ → FitConfig
config_of s settings = cond (eqb settings 0) defaults_of (settings_at s)

-- the record that starts at a place
unfoldable pub quote_at : List ℕ → ℕ → Quote
quote_at s at =
    record { number = u64_at s at; k = u64_at s (at + 8); w = u64_at s (at + 16); weight = u64_at s (at + 24) }

-- the record that some bytes begin with
abbrev pub quote_of : List ℕ → Quote
quote_of bytes = quote_at bytes 0

-- n records, the first at a place
unfoldable pub quotes : List ℕ → ℕ → ℕ → List Quote
quotes s at zero = []
quotes s at (suc n) = quote_at s at ∷ quotes s (at + 32) n

-- a file's records: n behind v settings
abbrev pub records_at : List ℕ → ℕ → ℕ → List Quote
records_at s v n = quotes s (20 + 88 * v) n

-- records alone: as many as there are 32 bytes for
abbrev pub records_of : List ℕ → List Quote
records_of s = quotes s 0 (length s / 32)
