-- Settings as bytes. Assumes nothing.
use Rattle.std.specs.Prelude.{◌≡◌, ℕ, ◌-◌, ◌*◌, ◌/◌, ◌%◌, Bool, true, cond, ◌&&◌, ltb, leb, List, ◌∷◌, ◌++◌, length, take, drop, Some, None, Ok, Err, Option, Result, ◌==◌, ◌≢◌, nat_le, nat_lt}
use Rattle.fixed_bytes.specs.Numbers.{big_endian}
use Rattle.words.specs.declared.fault.Fault.{Fault}
use Rattle.words.specs.declared.fault.Fault.TheVariants.{BadLength, SettingsUnknownSide, SettingsTooManySides, SettingsTooManyCiphers, SettingsCipherTwice, SettingsOtherKey}
use Rattle.words.specs.Choice.{proper}
use Rattle.words.specs.Registry.{kind_settings}
use Rattle.formats.specs.Encoding.{listed_bytes}
use Rattle.formats.specs.Reading.{and_then, must, number, kind, listing}
use Rattle.formats.specs.Whole.{Bytes, Sized}

-- a side's number, its preferences, the public halves of all sides one after another, and its identity key
pub record Settings : Type 0 where
  pub own : ℕ
  pub preferences : List ℕ
  pub halves : List ℕ
  pub key : List ℕ

abbrev pub settings_bytes : Settings → List ℕ
settings_bytes s = kind_settings ∷ (big_endian 2 s.own ++ (listed_bytes s.preferences ++ (s.halves ++ s.key)))

abbrev pub most_sides : ℕ
most_sides = 4096

-- how many sides the halves and a key in so many bytes are of
abbrev pub sides_in : ℕ → ℕ
sides_in n = n / 32 - 1

-- whether so many bytes are the halves of some sides, one at least, and a key
abbrev pub keys_fit : ℕ → Bool
keys_fit n = n % 32 == 0 && nat_le 64 n

-- the halves and the own key, for the side with a number
abbrev pub settings_keys : ℕ → List ℕ → Result (List ℕ × List ℕ) Fault
settings_keys own bs =
    must (keys_fit (length bs)) BadLength (
    must (nat_le (sides_in (length bs)) most_sides) SettingsTooManySides (
    must (nat_lt own (sides_in (length bs))) SettingsUnknownSide (
    Ok (take (length bs - 32) bs, drop (length bs - 32) bs))))

-- the own number, and what follows it
abbrev pub own_number : List ℕ → Result (ℕ × List ℕ) Fault
own_number bs =
    kind kind_settings bs (λ bs.
    number 2 bs (λ own bs.
    must (nat_lt own most_sides) SettingsUnknownSide (
    Ok (own, bs))))

abbrev pub read_settings : List ℕ → Result Settings Fault
read_settings bs =
    and_then (own_number bs) (λ n.
    and_then (listing SettingsTooManyCiphers SettingsCipherTwice n.1) (λ p.
    and_then (settings_keys n.0 p.1) (λ k.
    Ok (record { own = n.0; preferences = p.0; halves = k.0; key = k.1 }))))

pub record WholeSettings (s : Settings) : Type 0 where
  pub own_there : ltb s.own (length s.halves / 32) ≡ true
  pub sides_few : leb (length s.halves / 32) most_sides ≡ true
  pub sides_even : length s.halves % 32 ≡ 0
  pub preferences_proper : proper s.preferences ≡ true
  pub preferences_bytes : Bytes s.preferences
  pub halves_bytes : Bytes s.halves
  pub key_sized : Sized 32 s.key

-- the half of a side
abbrev pub half_at : List ℕ → ℕ → Option (List ℕ)
half_at halves n = cond (nat_lt (length (drop (32 * n) halves)) 32) None (Some (take 32 (drop (32 * n) halves)))

-- whether a half is the one that stands in the list at the own number, or a fault
abbrev pub Fits : Settings → List ℕ → Result (Unit {0}) Fault → Type 0
Fits s half (Ok _) = half_at s.halves s.own ≡ Some half
Fits s half (Err f) = (f ≡ SettingsOtherKey) × (half_at s.halves s.own ≢ Some half)
