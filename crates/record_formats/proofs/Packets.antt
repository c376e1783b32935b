-- Records: what is read was written so, what is written is read back, and nothing cut or longer is taken. Assumes nothing.
use Rattle.std.proofs.Common.{◌≡◌, ℕ, ◌+◌, ◌-◌, ◌<◌, ◌≤◌, eqb, leb, List, [], ◌∷◌, ◌++◌, length, take, drop, Ok, Result, sym, refl, ap, ◌∙◌, subst, ap₂, append_assoc, arith, lit<, length-append}
use Rattle.std.proofs.ByRecursion.{All-append, All-take, All-drop}
use Rattle.std.proofs.lemmas.List.{append-nil, take-append-drop, length-take-le, length-drop, nil_from_length, drop_at, drop-drop}
use Rattle.std.proofs.lemmas.Bool.{eqb-true, eq-eqb, and_parts, and_from, leb-true, le-leb}
use Rattle.fixed_bytes.specs.Numbers.{big_endian, value}
use Rattle.fixed_bytes.proofs.Numbers.{value_back}
use Rattle.words.specs.declared.fault.Fault.{Fault}
use Rattle.words.specs.declared.fault.Fault.TheVariants.{BadLength}
use Rattle.words.specs.Registry.{kind_record}
use Rattle.formats.specs.Encoding.{tag_length}
use Rattle.formats.specs.Laws.{OnlyMalformed}
use Rattle.formats.specs.Reading.{must, part, number}
use Rattle.formats.specs.Whole.{Bytes}
use Rattle.formats.proofs.Stages.{ok_same, must_true, part_at, by_must, by_part, by_kind}
use Rattle.formats.proofs.Digits.{number_is, number_fits, digits}
use Rattle.formats.proofs.Malformed.{taken, at_must, at_part, at_kind, at_number}
use Rattle.formats.proofs.Words.{got_malformed}
use Rattle.record_formats.specs.Records.{Record, record_bytes, sendable, read_record, WholeRecord}
use Rattle.record_formats.specs.Laws.{RecordsAreReadOneWay}

-- a record from its length on, from its number on, and from its session on
abbrev from_length : List ℕ → ℕ → ℕ → List ℕ → Result (Record (List ℕ)) Fault
from_length s n len bs = must (sendable len) BadLength (must (eqb (len + tag_length) (length bs)) BadLength (Ok (record { session = s; number = n; closed = bs })))

abbrev behind_number : List ℕ → ℕ → List ℕ → Result (Record (List ℕ)) Fault
behind_number s n bs = number 2 bs (from_length s n)

abbrev behind_session : List ℕ → List ℕ → Result (Record (List ℕ)) Fault
behind_session s bs = number 8 bs (behind_number s)

abbrev behind_kind : List ℕ → Result (Record (List ℕ)) Fault
behind_kind bs = part 4 bs behind_session

pub record RecordRead (bs : List ℕ) (r : Record (List ℕ)) : Type 0 where
  pub is : bs ≡ record_bytes r
  pub whole : WholeRecord r

record_read : (bs : List ℕ) (r : Record (List ℕ)) → Bytes bs → read_record bs ≡ Ok r → RecordRead bs r
record_read bs r all e =
    let p = by_kind kind_record bs behind_kind r e in
    let left0 = p.0 in
    let all0 = (subst Bytes p.1 all).1 in
    let q = by_part 4 left0 behind_session r p.2 in
    let s = take 4 left0 in
    let left1 = drop 4 left0 in
    let all1 = All-drop (λ b. b < 256) 4 left0 all0 in
    let t = by_part 8 left1 (λ p rest. behind_number s (value p) rest) r q.1 in
    let n = value (take 8 left1) in
    let left2 = drop 8 left1 in
    let all2 = All-drop (λ b. b < 256) 8 left1 all1 in
    let u = by_part 2 left2 (λ p rest. from_length s n (value p) rest) r t.1 in
    let len = value (take 2 left2) in
    let closed = drop 2 left2 in
    let v = by_must (sendable len) BadLength (must (eqb (len + tag_length) (length closed)) BadLength (Ok (record { session = s; number = n; closed = closed }))) r u.1 in
    let w = by_must (eqb (len + tag_length) (length closed)) BadLength (Ok (record { session = s; number = n; closed = closed })) r v.1 in
    let same = ok_same (record { session = s; number = n; closed = closed }) r w.1 in
    let sum = eqb-true (len + tag_length) (length closed) w.0 in
    let range = and_parts (leb 1 len) (leb len 1024) v.0 in
    let is-len : len ≡ length closed - tag_length = omega arith in
    subst (RecordRead bs) same (record {
      is = p.1 ∙ ap (λ l. kind_record ∷ l) (sym (take-append-drop 4 left0) ∙ ap (λ l. s ++ l) (number_is 8 left1 t.0 all1 ∙ ap (λ l. big_endian 8 n ++ l) (number_is 2 left2 u.0 all2 ∙ ap (λ m. big_endian 2 m ++ closed) is-len)));
      whole = record {
        session_sized = record { long = length-take-le 4 left0 q.0; bytes = All-take (λ b. b < 256) 4 left0 all0 };
        number_fits = number_fits 8 left1 t.0 all1;
        closed_fits = and_from (leb 17 (length closed)) (leb (length closed) 1040) (le-leb 17 _ (omega (arith, leb-true 1 len range.0))) (le-leb _ 1040 (omega (arith, leb-true len 1024 range.1)));
        closed_bytes = All-drop (λ b. b < 256) 2 left2 all2;
      };
    })

-- how long the content of a whole record is
contents : (r : Record (List ℕ)) → WholeRecord r → (17 ≤ length r.closed) × (length r.closed ≤ 1040)
contents r w = let p = and_parts (leb 17 (length r.closed)) (leb (length r.closed) 1040) w.closed_fits in (leb-true 17 _ p.0, leb-true _ 1040 p.1)

record_back : (r : Record (List ℕ)) → WholeRecord r → read_record (record_bytes r) ≡ Ok r
record_back r w =
    let c = contents r w in
    let len = length r.closed - tag_length in
    let back = value_back 2 len (omega (arith, c.1)) in
    part_at 4 r.session (big_endian 8 r.number ++ (big_endian 2 len ++ r.closed)) behind_session w.session_sized.long
    ∙ part_at 8 (big_endian 8 r.number) (big_endian 2 len ++ r.closed) (λ p rest. behind_number r.session (value p) rest) refl
    ∙ part_at 2 (big_endian 2 len) r.closed (λ p rest. from_length r.session (value (big_endian 8 r.number)) (value p) rest) refl
    ∙ ap₂ (λ n m. from_length r.session n m r.closed) (value_back 8 r.number w.number_fits) back
    ∙ must_true (sendable len) BadLength _ (and_from (leb 1 len) (leb len 1024) (le-leb 1 len (omega (arith, c.0))) (le-leb len 1024 (omega (arith, c.1))))
    ∙ must_true (eqb (len + tag_length) (length r.closed)) BadLength _ (eq-eqb _ _ (omega (arith, c.0)))

all_malformed : (bs : List ℕ) → OnlyMalformed (read_record bs)
all_malformed bs =
    at_kind kind_record bs behind_kind (λ bs.
    at_part 4 bs behind_session (λ s bs.
    at_number 8 bs (behind_number s) (λ n bs.
    at_number 2 bs (from_length s n) (λ len bs.
    at_must (sendable len) BadLength (must (eqb (len + tag_length) (length bs)) BadLength (Ok (record { session = s; number = n; closed = bs }))) refl
    (at_must (eqb (len + tag_length) (length bs)) BadLength (Ok (record { session = s; number = n; closed = bs })) refl (taken (record { session = s; number = n; closed = bs })))))))

-- a record consists of bytes
record_all : (r : Record (List ℕ)) → WholeRecord r → Bytes (record_bytes r)
record_all r w =
    let len = length r.closed - tag_length in (
      lit< tt,
      All-append (λ b. b < 256) r.session (big_endian 8 r.number ++ (big_endian 2 len ++ r.closed)) w.session_sized.bytes
          (All-append (λ b. b < 256) (big_endian 8 r.number) (big_endian 2 len ++ r.closed) (digits 8 r.number)
          (All-append (λ b. b < 256) (big_endian 2 len) r.closed (digits 2 len) w.closed_bytes)),
    )

-- it says how long it is behind its number
told : List ℕ → ℕ
told bs = 31 + value (take 2 (drop 13 bs))

record_told : (r : Record (List ℕ)) (more : List ℕ) → WholeRecord r → told (record_bytes r ++ more) ≡ length (record_bytes r)
unfolding told
record_told r more w =
    let c = contents r w in
    let len = length r.closed - tag_length in
    let tail = big_endian 8 r.number ++ (big_endian 2 len ++ (r.closed ++ more)) in
    let at : drop 13 (record_bytes r ++ more) ≡ big_endian 2 len ++ (r.closed ++ more) =
    ap (drop 12) (append_assoc r.session (big_endian 8 r.number ++ (big_endian 2 len ++ r.closed)) more)
    ∙ sym (drop-drop 8 4 (r.session ++ tail))
    ∙ ap (drop 8) (drop_at r.session tail 4 w.session_sized.long) in
    let long = length-append r.session (big_endian 8 r.number ++ (big_endian 2 len ++ r.closed)) in
    ap (λ l. 31 + value (take 2 l)) at ∙ ap (λ n. 31 + n) (value_back 2 len (omega (arith, c.1))) ∙ omega (arith, long, w.session_sized.long, c.0)

no_front : (r s : Record (List ℕ)) (more : List ℕ) → WholeRecord r → WholeRecord s → record_bytes r ++ more ≡ record_bytes s → more ≡ []
no_front r s more R S e =
    let same : length (record_bytes r) ≡ length (record_bytes s) = sym (record_told r more R) ∙ ap told (e ∙ sym (append-nil (record_bytes s))) ∙ record_told s [] S in
    nil_from_length more (omega (arith, ap length e, length-append (record_bytes r) more))

pub one_way : RecordsAreReadOneWay
one_way = record {
  written_is_read = record_back;
  read_was_written = λ bs r all e. (record_read bs r all e).is;
  read_is_whole = λ bs r all e. (record_read bs r all e).whole;
  apart = λ r s R S e. ok_same r s (sym (record_back r R) ∙ ap read_record e ∙ record_back s S);
  refused_as_malformed = all_malformed;
  cut = λ r n R short. got_malformed (read_record (take n (record_bytes r))) (all_malformed (take n (record_bytes r))) (λ s e.
      let S = record_read (take n (record_bytes r)) s (All-take (λ b. b < 256) n (record_bytes r) (record_all r R)) e in
      let none = no_front s r (drop n (record_bytes r)) S.whole R (ap (λ l. l ++ drop n (record_bytes r)) (sym S.is) ∙ take-append-drop n (record_bytes r)) in
      omega (arith, ap length none, length-drop n (record_bytes r)));
  longer = λ r more R all some. got_malformed (read_record (record_bytes r ++ more)) (all_malformed (record_bytes r ++ more)) (λ s e.
      let S = record_read (record_bytes r ++ more) s (All-append (λ b. b < 256) (record_bytes r) more (record_all r R) all) e in
      let none = no_front r s more R S.whole S.is in
      omega (arith, ap length none));
}
