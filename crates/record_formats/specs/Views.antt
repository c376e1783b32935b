-- The code's records and settings as those over bytes. Assumes nothing.
use Rattle.std.specs.Prelude.{ℕ, List, drop, Option}
use Rattle.std.specs.Borrow.{Bor}
use Rattle.std.specs.Option.{option_map}
use Rattle.fixed_bytes.specs.declared.fixed.PublicKey.{PublicKey}
use Rattle.record_formats.specs.declared.packet.Packet.{Packet}
use Rattle.record_formats.specs.declared.settings.Settings.{Settings}
use Rattle.record_formats.specs.Records as records
use Rattle.record_formats.specs.Settings as settings

abbrev pub as_record : Packet → records.Record (List ℕ)
as_record r = record { session = r.session; number = r.number; closed = r.closed.now }

-- preferences stand behind their count
abbrev pub as_settings : Settings → settings.Settings
as_settings s = record { own = s.own; preferences = drop 1 s.listed.now; halves = s.halves.now; key = s.key.now }

abbrev pub two_parts : Bor (List ℕ) × Bor (List ℕ) → List ℕ × List ℕ
two_parts p = (p.0.now, p.1.now)

abbrev pub numbered : ℕ × Bor (List ℕ) → ℕ × List ℕ
numbered p = (p.0, p.1.now)

abbrev pub half_of : Option PublicKey → Option (List ℕ)
half_of h = option_map (λ k. k.0.bytes) h
