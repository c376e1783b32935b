-- Settings: what is read was written so, and what is written is read back. Assumes nothing.
use Rattle.std.proofs.Common.{◌≡◌, ℕ, zero, suc, ◌+◌, ◌-◌, ◌*◌, ◌/◌, ◌%◌, ◌<◌, ◌≤◌, true, cond, eqb, ltb, leb, List, [], ◌∷◌, ◌++◌, length, get_or, take, drop, Some, None, Ok, Err, Result, sym, refl, ap, ◌∙◌, subst, ap₂, arith, length-append}
use Rattle.std.proofs.ByRecursion.{All-drop}
use Rattle.std.proofs.lemmas.List.{drop-drop, length-drop, length-take-le, take-append-drop, drop_at, take_at}
use Rattle.std.specs.Simd.{first_chunks}
use Rattle.std.proofs.lemmas.Bool.{le-ltb, lt-ltb, ltb-true, leb-true, le-leb, eqb-true, eq-eqb, and_parts, and_from}
use Rattle.fixed_bytes.specs.Numbers.{big_endian, value}
use Rattle.fixed_bytes.proofs.Numbers.{value_back}
use Rattle.words.specs.declared.fault.Fault.{Fault}
use Rattle.words.specs.declared.fault.Fault.TheVariants.{BadLength, SettingsUnknownSide, SettingsTooManySides, SettingsTooManyCiphers, SettingsCipherTwice}
use Rattle.words.specs.Registry.{kind_settings}
use Rattle.formats.specs.Reading.{alone, and_then, must, number, listing}
use Rattle.formats.specs.Whole.{Bytes}
use Rattle.formats.proofs.Stages.{ok_same, must_true, part_at, then_ok, by_then, by_must, by_part, by_kind}
use Rattle.formats.proofs.Ciphers.{listing_is, listing_front, listing_then, listing_back}
use Rattle.formats.proofs.Digits.{number_is}
use Rattle.formats.proofs.Hellos.{both_bytes}
use Rattle.record_formats.specs.Settings.{Settings, settings_bytes, most_sides, sides_in, keys_fit, settings_keys, own_number, read_settings, WholeSettings, half_at}
use Rattle.record_formats.specs.Laws.{SettingsAreReadOneWay}

-- halves one after another, as pieces of 32 bytes
halves_in : (k : ℕ) (xs : List ℕ) → length (first_chunks 32 k xs) ≡ k
halves_in zero xs = refl
halves_in (suc k) xs = ap suc (halves_in k (drop 32 xs))

piece_at : (k i : ℕ) (xs : List ℕ) → i < k → get_or (first_chunks 32 k xs) i [] ≡ take 32 (drop (32 * i) xs)
piece_at zero i xs h = absurd (omega (arith, h))
piece_at (suc k) zero xs h = refl
piece_at (suc k) (suc i) xs h =
    let on : 32 + 32 * i ≡ 32 * suc i = omega arith in
    piece_at k i (drop 32 xs) (omega (arith, h)) ∙ ap (take 32) (drop-drop (32 * i) 32 xs ∙ ap (λ m. drop m xs) on)

-- the piece of a side is its half
pub half_there : (halves : List ℕ) (pieces : List (List ℕ)) (n m : ℕ) (half : List ℕ) → pieces ≡ first_chunks 32 (length halves / 32) halves → n ≡ m → n < length pieces → half ≡ get_or pieces n [] → Some half ≡ half_at halves m
half_there halves pieces n m half e same h is =
    let many : length pieces ≡ length halves / 32 = ap length e ∙ halves_in (length halves / 32) halves in
    let room = length-drop (32 * m) halves in
    let enough : 32 ≤ length (drop (32 * m) halves) = omega (arith, many, same, h, room) in
    let piece = is ∙ ap (λ ps. get_or ps n []) e ∙ piece_at (length halves / 32) n halves (omega (arith, many, h)) ∙ ap (λ k. take 32 (drop (32 * k) halves)) same in
    ap Some piece ∙ sym (ap (λ t. cond t None (Some (take 32 (drop (32 * m) halves)))) (le-ltb (length (drop (32 * m) halves)) 32 enough))

-- the code's way through settings: the own number, the ciphers, and what is left for the keys
module _ (bs rest : List ℕ) (own : ℕ) (cs : List ℕ) (n : ℕ) (numbered : Ok (own, rest) ≡ own_number bs) (preferred : Ok cs ≡ alone (listing SettingsTooManyCiphers SettingsCipherTwice rest)) (counted : n ≡ length cs) where
  module _ (listed behind : List ℕ) (front : listed ≡ take (1 + n) rest) (back : behind ≡ drop (1 + n) rest) where
    pub ciphers_are : drop 1 listed ≡ cs
    ciphers_are = ap (drop 1) (front ∙ listing_front SettingsTooManyCiphers SettingsCipherTwice rest cs n preferred counted)

    made : List ℕ × List ℕ → Result Settings Fault
    made k = Ok (record { own = own; preferences = cs; halves = k.0; key = k.1 })

    behind_list : read_settings bs ≡ and_then (settings_keys own behind) made
    unfolding made
    behind_list =
        then_ok (own_number bs) _ (own, rest) (sym numbered)
        ∙ then_ok (listing SettingsTooManyCiphers SettingsCipherTwice rest) _ (cs, behind) (listing_then SettingsTooManyCiphers SettingsCipherTwice rest cs n preferred counted behind back)

    pub keys_faulty : (f : Fault) → Err f ≡ settings_keys own behind → Err f ≡ read_settings bs
    keys_faulty f e = sym (behind_list ∙ ap (λ r. and_then r made) (sym e))

    pub keys_found : (halves key : List ℕ) → Ok (halves, key) ≡ settings_keys own behind → Ok (record { own = own; preferences = drop 1 listed; halves = halves; key = key }) ≡ read_settings bs
    unfolding made
    keys_found halves key e = ap (λ l. Ok (record { own = own; preferences = l; halves = halves; key = key })) ciphers_are ∙ sym (behind_list ∙ ap (λ r. and_then r made) (sym e))

-- the own number: where it stands, and what follows
own_read : (bs : List ℕ) (own : ℕ) (rest : List ℕ) → Bytes bs → own_number bs ≡ Ok (own, rest) → (bs ≡ kind_settings ∷ (big_endian 2 own ++ rest)) × Bytes rest
own_read bs own rest all e =
    let p = by_kind kind_settings bs (λ bs. number 2 bs (λ own bs. must (ltb own most_sides) SettingsUnknownSide (Ok (own, bs)))) (own, rest) e in
    let r = p.0 in
    let tail = (subst Bytes p.1 all).1 in
    let q = by_part 2 r (λ x bs. must (ltb (value x) most_sides) SettingsUnknownSide (Ok (value x, bs))) (own, rest) p.2 in
    let s = by_must (ltb (value (take 2 r)) most_sides) SettingsUnknownSide (Ok (value (take 2 r), drop 2 r)) (own, rest) q.1 in
    let t = ok_same (value (take 2 r), drop 2 r) (own, rest) s.1 in (
      p.1 ∙ ap (λ l. kind_settings ∷ l) (number_is 2 r q.0 tail ∙ ap₂ (λ n l. big_endian 2 n ++ l) (ap (λ x. x.0) t) (ap (λ x. x.1) t)),
      subst Bytes (ap (λ x. x.1) t) (All-drop (λ b. b < 256) 2 r tail),
    )

own_back : (own : ℕ) (rest : List ℕ) → own < most_sides → own_number (kind_settings ∷ (big_endian 2 own ++ rest)) ≡ Ok (own, rest)
own_back own rest h =
    part_at 2 (big_endian 2 own) rest (λ x bs. must (ltb (value x) most_sides) SettingsUnknownSide (Ok (value x, bs))) refl
    ∙ ap (λ n. must (ltb n most_sides) SettingsUnknownSide (Ok (n, rest))) (value_back 2 own (omega arith))
    ∙ must_true (ltb own most_sides) SettingsUnknownSide (Ok (own, rest)) (lt-ltb own most_sides h)

-- the halves and the key
pub record KeysRead (own : ℕ) (bs halves key : List ℕ) : Type 0 where
  pub is : bs ≡ halves ++ key
  pub key_long : length key ≡ 32
  pub there : ltb own (length halves / 32) ≡ true
  pub few : leb (length halves / 32) most_sides ≡ true
  pub even : length halves % 32 ≡ 0

keys_read : (own : ℕ) (bs halves key : List ℕ) → settings_keys own bs ≡ Ok (halves, key) → KeysRead own bs halves key
keys_read own bs halves key e =
    let n = length bs in
    let p = by_must (keys_fit n) BadLength (must (leb (sides_in n) most_sides) SettingsTooManySides (must (ltb own (sides_in n)) SettingsUnknownSide (Ok (take (n - 32) bs, drop (n - 32) bs)))) (halves, key) e in
    let q = by_must (leb (sides_in n) most_sides) SettingsTooManySides (must (ltb own (sides_in n)) SettingsUnknownSide (Ok (take (n - 32) bs, drop (n - 32) bs))) (halves, key) p.1 in
    let r = by_must (ltb own (sides_in n)) SettingsUnknownSide (Ok (take (n - 32) bs, drop (n - 32) bs)) (halves, key) q.1 in
    let s = ok_same (take (n - 32) bs, drop (n - 32) bs) (halves, key) r.1 in
    let is-halves = ap (λ x. x.0) s in
    let is_key = ap (λ x. x.1) s in
    let fit = and_parts (eqb (n % 32) 0) (leb 64 n) p.0 in
    let whole = eqb-true (n % 32) 0 fit.0 in
    let some = leb-true 64 n fit.1 in
    let long : length halves ≡ n - 32 = ap length (sym is-halves) ∙ length-take-le (n - 32) bs (omega arith) in
    let count : sides_in n ≡ length halves / 32 = omega (arith, long, whole, some) in
    record {
      is = sym (take-append-drop (n - 32) bs) ∙ ap₂ ◌++◌ is-halves is_key;
      key_long = ap length (sym is_key) ∙ length-drop (n - 32) bs ∙ omega (arith, some);
      there = ap (ltb own) (sym count) ∙ r.0;
      few = ap (λ m. leb m most_sides) (sym count) ∙ q.0;
      even = omega (arith, long, whole, some);
    }

keys_back : (own : ℕ) (halves key : List ℕ) → length key ≡ 32 → length halves % 32 ≡ 0 → own < length halves / 32 → length halves / 32 ≤ most_sides → settings_keys own (halves ++ key) ≡ Ok (halves, key)
keys_back own halves key long even there few =
    let n = length (halves ++ key) in
    let total : n ≡ length halves + 32 = length-append halves key ∙ ap (λ m. length halves + m) long in
    let count : sides_in n ≡ length halves / 32 = omega arith in
    let before : length halves ≡ n - 32 = omega arith in
    must_true (keys_fit n) BadLength _ (and_from (eqb (n % 32) 0) (leb 64 n) (eq-eqb (n % 32) 0 (omega arith)) (le-leb 64 n (omega arith)))
    ∙ must_true (leb (sides_in n) most_sides) SettingsTooManySides _ (le-leb (sides_in n) most_sides (omega arith))
    ∙ must_true (ltb own (sides_in n)) SettingsUnknownSide _ (lt-ltb own (sides_in n) (omega arith))
    ∙ ap₂ (λ h k. Ok (h, k)) (take_at halves key (n - 32) before) (drop_at halves key (n - 32) before)

pub record SettingsRead (bs : List ℕ) (s : Settings) : Type 0 where
  pub is : bs ≡ settings_bytes s
  pub whole : WholeSettings s

settings_read : (bs : List ℕ) (s : Settings) → Bytes bs → read_settings bs ≡ Ok s → SettingsRead bs s
settings_read bs s all e =
    let p = by_then (own_number bs) _ s e in
    let own = p.0.0 in
    let rest = p.0.1 in
    let q = by_then (listing SettingsTooManyCiphers SettingsCipherTwice rest) _ s p.2 in
    let cs = q.0.0 in
    let behind = q.0.1 in
    let r = by_then (settings_keys own behind) _ s q.2 in
    let halves = r.0.0 in
    let key = r.0.1 in
    let same = ok_same (record { own = own; preferences = cs; halves = halves; key = key }) s r.2 in
    let O = own_read bs own rest all p.1 in
    let L = listing_is SettingsTooManyCiphers SettingsCipherTwice rest cs behind q.1 in
    let K = keys_read own behind halves key r.1 in
    let All-list = both_bytes cs behind (subst Bytes L.is O.1).1 in
    let all-keys = both_bytes halves key (subst Bytes K.is All-list.1) in
    subst (SettingsRead bs) same (record {
      is = O.0 ∙ ap (λ l. kind_settings ∷ (big_endian 2 own ++ l)) (L.is ∙ ap (λ l. length cs ∷ (cs ++ l)) K.is);
      whole = record {
        own_there = K.there;
        sides_few = K.few;
        sides_even = K.even;
        preferences_proper = L.fine;
        preferences_bytes = All-list.0;
        halves_bytes = all-keys.0;
        key_sized = record { long = K.key_long; bytes = all-keys.1 };
      };
    })

settings_back : (s : Settings) → WholeSettings s → read_settings (settings_bytes s) ≡ Ok s
settings_back s w =
    let there = ltb-true s.own (length s.halves / 32) w.own_there in
    let few = leb-true (length s.halves / 32) most_sides w.sides_few in
    let behind = s.halves ++ s.key in
    let rest = length s.preferences ∷ (s.preferences ++ behind) in
    then_ok (own_number (settings_bytes s)) _ (s.own, rest) (own_back s.own rest (omega (arith, there, few)))
    ∙ then_ok (listing SettingsTooManyCiphers SettingsCipherTwice rest) _ (s.preferences, behind) (listing_back SettingsTooManyCiphers SettingsCipherTwice s.preferences behind w.preferences_proper)
    ∙ then_ok (settings_keys s.own behind) _ (s.halves, s.key) (keys_back s.own s.halves s.key w.key_sized.long w.sides_even there few)

pub one_way : SettingsAreReadOneWay
one_way = record {
  written_is_read = settings_back;
  read_was_written = λ bs s all e. (settings_read bs s all e).is;
  read_is_whole = λ bs s all e. (settings_read bs s all e).whole;
  apart = λ s t S T e. ok_same s t (sym (settings_back s S) ∙ ap read_settings e ∙ settings_back t T);
}
