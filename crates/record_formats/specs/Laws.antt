-- What holds of records and settings as bytes. Assumes nothing.
use Rattle.std.specs.Prelude.{◌≡◌, ℕ, ◌<◌, List, ◌++◌, length, take, Ok}
use Rattle.words.specs.Numbers.{malformed}
use Rattle.protocol.specs.Got.{No}
use Rattle.formats.specs.Decoding.{got}
use Rattle.formats.specs.Laws.{OnlyMalformed}
use Rattle.formats.specs.Whole.{Bytes}
use Rattle.record_formats.specs.Records.{Record, record_bytes, read_record, WholeRecord}
use Rattle.record_formats.specs.Settings.{Settings, settings_bytes, read_settings, WholeSettings}

-- A whole record that is written is read back, what is read was written so and is whole, whatever is refused is malformed, and so is every cut and every longer form.
pub record RecordsAreReadOneWay : Type 0 where
  pub written_is_read : (r : Record (List ℕ)) → WholeRecord r → read_record (record_bytes r) ≡ Ok r
  pub read_was_written : (bs : List ℕ) (r : Record (List ℕ)) → Bytes bs → read_record bs ≡ Ok r → bs ≡ record_bytes r
  pub read_is_whole : (bs : List ℕ) (r : Record (List ℕ)) → Bytes bs → read_record bs ≡ Ok r → WholeRecord r
  pub apart : (r s : Record (List ℕ)) → WholeRecord r → WholeRecord s → record_bytes r ≡ record_bytes s → r ≡ s
  pub refused_as_malformed : (bs : List ℕ) → OnlyMalformed (read_record bs)
  pub cut : (r : Record (List ℕ)) (n : ℕ) → WholeRecord r → n < length (record_bytes r) → got (read_record (take n (record_bytes r))) ≡ No malformed
  pub longer : (r : Record (List ℕ)) (more : List ℕ) → WholeRecord r → Bytes more → 0 < length more → got (read_record (record_bytes r ++ more)) ≡ No malformed

-- Whole settings that are written are read back, and nothing is taken but what is written so.
pub record SettingsAreReadOneWay : Type 0 where
  pub written_is_read : (s : Settings) → WholeSettings s → read_settings (settings_bytes s) ≡ Ok s
  pub read_was_written : (bs : List ℕ) (s : Settings) → Bytes bs → read_settings bs ≡ Ok s → bs ≡ settings_bytes s
  pub read_is_whole : (bs : List ℕ) (s : Settings) → Bytes bs → read_settings bs ≡ Ok s → WholeSettings s
  pub apart : (s t : Settings) → WholeSettings s → WholeSettings t → settings_bytes s ≡ settings_bytes t → s ≡ t
