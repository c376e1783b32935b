-- Kinds are told apart by their first byte, and ends by what is locked in them. Assumes nothing.
use Rattle.std.proofs.Common.{◌≡◌, ℕ, List, [], ◌∷◌, drop, Ok, sym, ap, ◌∙◌, arith}
use Rattle.words.specs.declared.fault.Fault.TheVariants.{UnknownKind}
use Rattle.aead.proofs.Closed.{closed_apart}
use Rattle.primitives.specs.Derived.{lock_key}
use Rattle.formats.specs.Decoding.{read_word}
use Rattle.formats.proofs.Stages.{err_ok, by_then, by_kind}
use Rattle.record_formats.specs.Records.{Record, read_record}
use Rattle.record_formats.specs.Settings.{Settings, read_settings}
use Rattle.word_laws.specs.Laws.{KindsAreApart, LockedEndsAreApart}

-- the first byte of what is read as a record, and of what is read as settings
record_first : (bs : List ℕ) (r : Record (List ℕ)) → read_record bs ≡ Ok r → (rest : List ℕ) × (bs ≡ 4 ∷ rest)
record_first bs r e = let p = by_kind 4 bs _ r e in (p.0, p.1)

settings_first : (bs : List ℕ) (s : Settings) → read_settings bs ≡ Ok s → (rest : List ℕ) × (bs ≡ 8 ∷ rest)
settings_first bs s e = let n = by_then _ _ s e in let p = by_kind 8 bs _ n.0 n.1 in (p.0, p.1)

pub kinds_are_apart : KindsAreApart
kinds_are_apart = record {
  word_or_record = λ bs w r e f. let p = record_first bs r f in err_ok UnknownKind w (sym (ap read_word p.1) ∙ e);
  word_or_settings = λ bs w s e f. let p = settings_first bs s f in err_ok UnknownKind w (sym (ap read_word p.1) ∙ e);
  record_or_settings = λ bs r s e f. let p = record_first bs r e in let q = settings_first bs s f in let same : ◌≡◌ {A = List ℕ} (4 ∷ p.0) (8 ∷ q.0) = sym p.1 ∙ q.1 in let z : ◌≡◌ {A = ℕ} 4 8 = cc in absurd (omega (arith, z));
}

pub locked_ends_are_apart : LockedEndsAreApart
locked_ends_are_apart secret a b e = closed_apart (lock_key secret) 0 [] a b (ap (drop 3) e)
